-- Document 02, S-9: one interior face turned round, and nothing else.
use Rattle.std.specs.Prelude.{ℕ, ◌-◌, ◌<◌, ◌≡◌, ◌≢◌, List, set, neg_ℤ}
use Rattle.model.specs.Mesh.{Mesh, mesh_of, first, second, share, rim}
use Rattle.model.specs.Causes.{Call, call_of, fine, granted, mesh_verdict}
use Rattle.model.specs.Calls.{Scheme, step_answer, next_table, moved_table}
use Rattle.renumbered.specs.Renumbered.{amount_in}

module _ (M : Mesh) (g : ℕ) where
  -- its ends exchanged, s taken from the other side (it is at most 255 by cause 5), U negated
  abbrev pub turned_mesh : Mesh
  turned_mesh = mesh_of M.cells M.faces M.volumes (set M.firsts g (second M g)) (set M.seconds g (first M g))
      (set M.shares g (256 - share M g)) M.reaches

  abbrev pub turned_call : Call → Call
  turned_call k = call_of (set k.fluxes g (neg_ℤ (amount_in k.fluxes g))) k.outsides k.nexts k.moveds k.work k.releases

  -- That moved mass is negated, and no cell changes. Every cell and face keeps its number, and so a refusal its place.
  pub record TurnsRound (s : Scheme) (field : List ℕ) (k : Call) : Type 0 where
    pub answer : step_answer s turned_mesh (turned_call k) field ≡ step_answer s M k field
    pub next_masses : next_table s turned_mesh (turned_call k) field ≡ next_table s M k field
    pub moved_masses : moved_table s turned_mesh (turned_call k) field
        ≡ granted (s.finds M field k) (set (moved_table s M k field) g (neg_ℤ (amount_in (moved_table s M k field) g))) k.moveds

abbrev pub S9Turned : Scheme → Type 0
S9Turned s = (M : Mesh) → mesh_verdict M ≡ fine → (g : ℕ) → g < M.faces → second M g ≢ rim
    → (mesh_verdict (turned_mesh M g) ≡ fine) × ((field : List ℕ) (k : Call) → TurnsRound M g s field k)
