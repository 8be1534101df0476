-- Document 02, S-11: a step of the engine, corrected or plain, handed in as a claim, is accepted: of `lagoon_table_step` or `lagoon_table_plain_step`
-- and `lagoon_table_judge`, as a host in C calls them.
use Rattle.std.specs.Prelude.{ℕ, ◌≤◌, ◌<◌, ◌≡◌, List, ℤ, pos, length, get_or}
use Rattle.model.specs.Mesh.{Mesh}
use Rattle.model.specs.Alike.{AgreeCall}
use Rattle.model.specs.Accepted.{MeshLent, ClaimLent}
use Rattle.model.specs.Causes.{Call}
use Rattle.model.specs.Claims.{claimed}
use Rattle.model.specs.Calls.{mass_in, Scheme, crossing_of}
use Rattle.host_answer.specs.Found.{filled}
use Rattle.host_answer.specs.Steps.{crossed, StepFromC, JudgeFromC}

-- A step on k, and then a judging on k': of the same mesh, field and water, in tables of its own that are long enough, and lent as moved what the
-- step has left there.
pub record Handed (M M' : Mesh) (field field' : List ℕ) (k k' : Call) (moved : List ℤ) : Type 0 where
  pub same_step : AgreeCall M M' field field' k k'
  pub mesh_lent : MeshLent M'
  pub masses_long : M'.cells ≤ length field'
  pub claim_lent : ClaimLent M' k'
  pub as_moved : (f : ℕ) → f < M.faces → claimed k' f ≡ get_or moved f (pos 0)

-- The judging answers 0, tells the crossing of the step, and leaves the same next masses.
pub record Confirmed (M : Mesh) (field : List ℕ) (k : Call) (next found : List ℕ) (r : ℕ) (next' found' : List ℕ) : Type 0 where
  pub accepted_too : r ≡ 0
  pub same_told : found' ≡ filled (crossed (crossing_of M field k)) found
  pub same_next : (c : ℕ) → c < M.cells → mass_in next' c ≡ mass_in next c

-- of a step that answered 0 and told its crossing in any entries
abbrev pub OwnFromC : Scheme → Type 0
OwnFromC s = (M M' : Mesh) (field field' : List ℕ) (k k' : Call) (told next : List ℕ) (moved : List ℤ) (work told' : List ℕ)
    → StepFromC s M field k told 0 next moved work told' → Handed M M' field field' k k' moved
    → (found : List ℕ) (r : ℕ) (next' found' : List ℕ) → JudgeFromC M' field' k' found r next' found'
    → Confirmed M field k next found r next' found'
