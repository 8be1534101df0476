-- S-9, for the corrected step and the plain one: the renumbered mesh and call are alike the old ones.
use Prim.Native.Nat.{ℕ, ◌<◌}
use mathlib.Core.Path.{◌≡◌, refl, sym, ap, ◌∙◌}
use mathlib.Core.Bool.{Bool, true, false, not, cond, ◌&&◌, true≢false}
use mathlib.Core.List.{List}
use native.Mathlib.Omega.{arith}
use borrow.Author.Tests.{ne_eqb}
use lib.ListN.{get_or}
use lib.IntN.{ℤ, pos}
use Rattle.lists.specs.Renumbering.{Renumbering}
use Rattle.lists.specs.Table.{table, over}
use Rattle.lists.proofs.Tests.{Same, other, same?}
use Rattle.lists.proofs.Tables.{get_d_over}
use Rattle.lists.proofs.Renumbered.{length-carried, get_or-carried, over-carried}
use Rattle.signed.specs.Sign.{turn}
use Rattle.model.specs.Mesh.{Mesh, volume, first, second, reach, at_rim, rim, updated}
use Rattle.model.specs.Step.{mass}
use Rattle.model.specs.Causes.{fine, granted, Call, release, input_of, mesh_tables, mesh_verdict, field_table, step_tables}
use Rattle.model.specs.Calls.{mass_in, Scheme, corrected, plain, next_table, moved_table}
use Rattle.model.specs.Alike.{Facing, straight, turned, AlikeMesh}
use Rattle.renumbered.specs.Renumbered.{amount_in, is_turned, by_cell, amount_by_face, new_first, new_second, new_share, renumbered_mesh, renumbered_field, renumbered_call, SameRoom, CarriedAlong, S9}
use Rattle.renumbered.proofs.Schemes.{Numberless, corrected-numberless, plain-numberless}
use Rattle.renumbered.proofs.TwoSteps.{lent, Meshes, Calls, mesh-passes, calls-lent, answer-same, moves-same, masses-same, granted-same}

-- what a step leaves, and what an accepted one leaves in the counted entries
pub next_is : (s : Scheme) (M : Mesh) (k : Call) (field : List ℕ)
    → next_table s M k field ≡ granted (s.finds M field k) (over (table M.cells (updated M (mass (input_of M field k)) (s.moves M field k))) k.nexts)
    k.nexts
unfolding next_table
next_is s M k field = refl

pub moved_is : (s : Scheme) (M : Mesh) (k : Call) (field : List ℕ)
    → moved_table s M k field ≡ granted (s.finds M field k) (over (table M.faces (s.moves M field k)) k.moveds) k.moveds
unfolding moved_table
moved_is s M k field = refl

module _ (s : Scheme) (M : Mesh) (field : List ℕ) (k : Call) (e : s.finds M field k ≡ fine) where
  next_at : (c : ℕ) → c < M.cells → mass_in (next_table s M k field) c ≡ updated M (mass (input_of M field k)) (s.moves M field k) c
  unfolding next_table
  next_at c h = rw e (get_d_over M.cells (updated M (mass (input_of M field k)) (s.moves M field k)) k.nexts 0 c h)

  pub moved_at : (f : ℕ) → f < M.faces → amount_in (moved_table s M k field) f ≡ s.moves M field k f
  unfolding moved_table
  moved_at f l = rw e (get_d_over M.faces (s.moves M field k) k.moveds (pos 0) f l)

module _ (M : Mesh) (mesh_fine : mesh_verdict M ≡ fine) (cell : Renumbering M.cells) (face : Renumbering M.faces) (turns : ℕ → Bool) where
  abbrev M' : Mesh
  M' = renumbered_mesh M cell face turns

  abbrev t : ℕ → Bool
  t = is_turned M cell face turns

  faces-alike : (f : ℕ) → f < M.faces → Facing M M' cell.new f (face.new f) (t f)
  faces-alike f l = go (turns f) (at_rim M f) (same? (second M f) rim)
      (get_or-carried M.faces face (new_first M cell face turns) 0 M.firsts (lent M mesh_fine).firsts_long f l)
      (get_or-carried M.faces face (new_second M cell face turns) 0 M.seconds (lent M mesh_fine).seconds_long f l)
    where
      go : (b r : Bool) → Same (second M f) rim r → first M' (face.new f) ≡ cell.new (cond (b && not r) (second M f) (first M f))
          → second M' (face.new f) ≡ cond (at_rim M f) rim (cell.new (cond (b && not r) (first M f) (second M f)))
          → Facing M M' cell.new f (face.new f) (b && not r)
      go false r s p q = straight p q
      go true true s p q = straight p q
      go true false (other d) p q = turned d p (q ∙ rw (ne_eqb (second M f) rim d))

  pub alike : AlikeMesh M M' cell face t
  alike = record {
    ends_alike = record { cells_same = refl; faces_same = refl; facing = faces-alike };
    volume_same = get_or-carried M.cells cell (volume M) 0 M.volumes (lent M mesh_fine).volumes_long;
    share_same = get_or-carried M.faces face (new_share M cell face turns) 0 M.shares (lent M mesh_fine).shares_long;
    reach_same = get_or-carried M.faces face (reach M) 0 M.reaches (lent M mesh_fine).reaches_long;
  }

  tables_same : mesh_tables M' ≡ mesh_tables M
  unfolding mesh_tables
  tables_same = simp length-carried

  meshes : Meshes false M M' cell face t
  meshes = record {
    mesh_fine = mesh_fine;
    cells_kept = λ e. absurd (true≢false (sym e));
    faces_kept = λ e. absurd (true≢false (sym e));
    alike = alike;
    tables_same = tables_same;
  }

  module _ (s : Scheme) (blind : Numberless s) (field : List ℕ) (k : Call) (nexts : List ℕ) (moveds : List ℤ) (work : List ℕ)
      (room : SameRoom k nexts moveds work) where
    abbrev field' : List ℕ
    field' = renumbered_field M cell face turns field

    abbrev k' : Call
    k' = renumbered_call M cell face turns k nexts moveds work

    field_same : field_table M' field' ≡ field_table M field
    unfolding field_table
    field_same = simp length-carried

    call_same : step_tables M' field' k' ≡ step_tables M field k
    unfolding step_tables
    call_same = simp (length-carried, room.nexts_same, room.moveds_same, room.work_same)

    pub both : Calls false M M' cell face t field field' k k'
    both = record {
      meshes = meshes;
      field_same = field_same;
      call_same = call_same;
      long_alike = λ masses_long c. record {
        mesh_alike = alike;
        mass_same = get_or-carried M.cells cell (mass_in field) 0 field masses_long;
        release_same = get_or-carried M.cells cell (release k) 0 k.releases c.releases_long;
        flux_same = get_or-carried M.faces face (λ f. turn (t f) (amount_in k.fluxes f)) (pos 0) k.fluxes c.fluxes_long;
        outside_same = get_or-carried M.faces face (λ f. get_or k.outsides f 0) 0 k.outsides c.outsides_long;
      };
    }

    next-carried : s.finds M field k ≡ fine → over (table M.cells (updated M' (mass (input_of M' field' k')) (s.moves M' field' k'))) nexts
        ≡ by_cell M cell face turns (mass_in (next_table s M k field)) nexts
    next-carried e = over-carried M.cells cell (mass_in (next_table s M k field)) 0 nexts (updated M' (mass (input_of M' field' k')) (s.moves M' field' k'))
        (λ c h. masses-same both s blind e c h ∙ sym (next_at s M field k e c h)) (omega (arith, room.nexts_same, (calls-lent both s blind e).1.nexts_long))

    moved-carried : s.finds M field k ≡ fine
        → over (table M.faces (s.moves M' field' k')) moveds ≡ amount_by_face M cell face turns (amount_in (moved_table s M k field)) moveds
    moved-carried e = over-carried M.faces face (λ f. turn (t f) (amount_in (moved_table s M k field) f)) (pos 0) moveds (s.moves M' field' k')
        (λ f l. moves-same both s blind e f l ∙ ap (turn (t f)) (sym (moved_at s M field k e f l)))
        (omega (arith, room.moveds_same, (calls-lent both s blind e).1.moveds_long))

    carries : CarriedAlong M cell face turns s field k nexts moveds work
    carries = record { answer = answer-same both s blind; next_masses = next_masses; moved_masses = moved_masses }
      where
        next_masses : next_table s M' k' field' ≡ granted (s.finds M field k) (by_cell M cell face turns (mass_in (next_table s M k field)) nexts) nexts
        next_masses = next_is s M' k' field' ∙ granted-same both s blind _ _ nexts next-carried

        moved_masses : moved_table s M' k' field'
            ≡ granted (s.finds M field k) (amount_by_face M cell face turns (amount_in (moved_table s M k field)) moveds) moveds
        moved_masses = moved_is s M' k' field' ∙ granted-same both s blind _ _ moveds moved-carried

pub s9 : (s : Scheme) → Numberless s → S9 s
s9 s blind M mesh_fine cell face turns =
    record { mesh_accepted = mesh-passes (meshes M mesh_fine cell face turns); carries = carries M mesh_fine cell face turns s blind }

pub s9-corrected : S9 corrected
s9-corrected = s9 corrected corrected-numberless

pub s9-plain : S9 plain
s9-plain = s9 plain plain-numberless
