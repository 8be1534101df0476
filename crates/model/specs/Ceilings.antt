-- Document 02, S-10, its last sentence: what is within the old ceilings gets the old answers.
use Rattle.std.specs.Prelude.{ℕ, ◌≤◌, ◌<◌, ◌≡◌, List, get_or, pos}
use Rattle.signed.specs.Sign.{size}
use Rattle.model.specs.Mesh.{Mesh, volume, second, reach, rim, ceiling, old_ceiling}
use Rattle.model.specs.Causes.{in_turn, Call, mesh_values, causes_within}
use Rattle.model.specs.Calls.{Scheme, corrected, plain, step_answer, next_table, moved_table, work_table}

-- V and K within 4,095, as far as they are counted; and |U| over the rim
pub record MeshSmall (M : Mesh) : Type 0 where
  pub small_volumes : (c : ℕ) → c < M.cells → volume M c ≤ old_ceiling
  pub small_reaches : (f : ℕ) → f < M.faces → reach M f ≤ old_ceiling

pub record StepSmall (M : Mesh) (k : Call) : Type 0 where
  pub small_mesh : MeshSmall M
  pub small_fluxes : (f : ℕ) → f < M.faces → second M f ≡ rim → size (get_or k.fluxes f (pos 0)) ≤ old_ceiling

-- a step as it was judged before: all causes in their order, with 4,095 as the ceiling of 3, 5 and 8
abbrev pub judged_before : Scheme → Scheme
judged_before s = record { finds = λ M field k. in_turn (causes_within old_ceiling M field k); moves = s.moves }

pub record OldAnswers (s : Scheme) (M : Mesh) (k : Call) (field : List ℕ) : Type 0 where
  pub old_answer : step_answer s M k field ≡ step_answer (judged_before s) M k field
  pub old_next : next_table s M k field ≡ next_table (judged_before s) M k field
  pub old_moved : moved_table s M k field ≡ moved_table (judged_before s) M k field
  pub old_work : work_table s M k field ≡ work_table (judged_before s) M k field

-- every call that is lent a mesh judges its values by the same definition
abbrev pub OldMeshes : Type 0
OldMeshes = (M : Mesh) → MeshSmall M → mesh_values ceiling M ≡ mesh_values old_ceiling M

abbrev pub OldSteps : Type 0
OldSteps = (M : Mesh) (k : Call) (field : List ℕ) → StepSmall M k → OldAnswers corrected M k field × OldAnswers plain M k field
