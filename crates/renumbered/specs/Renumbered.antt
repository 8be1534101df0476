-- Document 02, S-9: one lagoon, numbered by two offices. The mesh, the field and the call of the second office, and what a step on
-- them is to give. A renumbering is a permutation of the counted cells or faces: lists/specs/Renumbering.antt.
use Rattle.std.specs.Prelude.{ℕ, ◌-◌, ◌≡◌, Bool, not, cond, ◌&&◌, List, length, get_or, ℤ, pos}
use Rattle.lists.specs.Renumbering.{Renumbering, carried_along}
use Rattle.signed.specs.Sign.{turn}
use Rattle.model.specs.Mesh.{Mesh, mesh_of, volume, first, second, share, reach, at_rim, rim}
use Rattle.model.specs.Causes.{Call, call_of, release, fine, granted, mesh_verdict}
use Rattle.model.specs.Calls.{mass_in, Scheme, step_answer, next_table, moved_table}
use Rattle.model.specs.Alike.{unplaced}

-- what a table of amounts has at face f
abbrev pub amount_in : List ℤ → ℕ → ℤ
amount_in xs f = get_or xs f (pos 0)

-- the tables that a second call is to fill: of any length, the same as in the first
pub record SameRoom (k : Call) (nexts : List ℕ) (moveds : List ℤ) (work : List ℕ) : Type 0 where
  pub nexts_same : length nexts ≡ length k.nexts
  pub moveds_same : length moveds ≡ length k.moveds
  pub work_same : length work ≡ length k.work

module _ (M : Mesh) (cell : Renumbering M.cells) (face : Renumbering M.faces) (turns : ℕ → Bool) where
  -- of the faces to be turned round, by their old numbers, those that are no rim faces
  abbrev pub is_turned : ℕ → Bool
  is_turned f = turns f && not (at_rim M f)

  -- Tables carried along, in all their length: numbers per cell, numbers per face, and amounts per face, negated where it is turned.
  abbrev pub by_cell : (ℕ → ℕ) → List ℕ → List ℕ
  by_cell entry xs = carried_along M.cells cell entry 0 xs

  abbrev pub by_face : (ℕ → ℕ) → List ℕ → List ℕ
  by_face entry xs = carried_along M.faces face entry 0 xs

  abbrev pub amount_by_face : (ℕ → ℤ) → List ℤ → List ℤ
  amount_by_face amount xs = carried_along M.faces face (λ f. turn (is_turned f) (amount f)) (pos 0) xs

  -- The ends of face f are cells by their new numbers, and the mark of the rim stays. Turned, they change places and s becomes 256 − s.
  abbrev pub new_first : ℕ → ℕ
  new_first f = cell.new (cond (is_turned f) (second M f) (first M f))

  abbrev pub new_second : ℕ → ℕ
  new_second f = cond (at_rim M f) rim (cell.new (cond (is_turned f) (first M f) (second M f)))

  abbrev pub new_share : ℕ → ℕ
  new_share f = cond (is_turned f) (256 - share M f) (share M f)

  abbrev pub renumbered_mesh : Mesh
  renumbered_mesh = mesh_of M.cells M.faces (by_cell (volume M) M.volumes) (by_face new_first M.firsts) (by_face new_second M.seconds)
      (by_face new_share M.shares) (by_face (reach M) M.reaches)

  abbrev pub renumbered_field : List ℕ → List ℕ
  renumbered_field field = by_cell (mass_in field) field

  -- U, outside values and releases of a call, which is lent tables of its own to be filled
  abbrev pub renumbered_call : Call → (nexts : List ℕ) (moveds : List ℤ) (work : List ℕ) → Call
  renumbered_call k nexts moveds work = call_of (amount_by_face (amount_in k.fluxes) k.fluxes) (by_face (λ f. get_or k.outsides f 0) k.outsides)
      nexts moveds work (by_cell (release k) k.releases)

  module _ (s : Scheme) (field : List ℕ) (k : Call) (nexts : List ℕ) (moveds : List ℤ) (work : List ℕ) where
    abbrev field' : List ℕ
    field' = renumbered_field field

    abbrev k' : Call
    k' = renumbered_call k nexts moveds work

    -- What the second office's step gives: the first's answer, where a refusal may have another place, and its masses and moved masses, carried along.
    pub record CarriedAlong : Type 0 where
      pub answer : unplaced (step_answer s renumbered_mesh k' field') ≡ unplaced (step_answer s M k field)
      pub next_masses : next_table s renumbered_mesh k' field' ≡ granted (s.finds M field k) (by_cell (mass_in (next_table s M k field)) nexts) nexts
      pub moved_masses : moved_table s renumbered_mesh k' field'
          ≡ granted (s.finds M field k) (amount_by_face (amount_in (moved_table s M k field)) moveds) moveds

  pub record Renumbers (s : Scheme) : Type 0 where
    pub mesh_accepted : mesh_verdict renumbered_mesh ≡ fine
    pub carries : (field : List ℕ) (k : Call) (nexts : List ℕ) (moveds : List ℤ) (work : List ℕ) → SameRoom k nexts moveds work
        → CarriedAlong s field k nexts moveds work

-- S-9 of a scheme s: for every accepted mesh, every renumbering of its cells and faces, whichever interior faces are turned, every field and call.
-- U may be any whole number here; a call of the code can only be lent a negated U that fits its entry.
abbrev pub S9 : Scheme → Type 0
S9 s = (M : Mesh) → mesh_verdict M ≡ fine → (cell : Renumbering M.cells) (face : Renumbering M.faces) (turns : ℕ → Bool)
    → Renumbers M cell face turns s
