-- Document 02, S-11: a step of the engine, corrected or plain, handed in as a claim, is accepted.
use Rattle.std.specs.Prelude.{ℕ, ◌≤◌, ◌<◌, ◌≡◌, List, length, get_or, pos}
use Rattle.model.specs.Mesh.{Mesh}
use Rattle.model.specs.Alike.{AgreeCall}
use Rattle.model.specs.Accepted.{MeshLent, ClaimLent}
use Rattle.model.specs.Causes.{fine, Call}
use Rattle.model.specs.Claims.{claimed, claim_verdict}
use Rattle.model.specs.Calls.{mass_in, Scheme, corrected, plain, judged, step_answer, next_table, moved_table}

-- A step, and a judging that is lent the same mesh, field and water in tables of its own, all long enough; and as moved what the step has
-- left there.
module _ (s : Scheme) (M M' : Mesh) (field field' : List ℕ) (k k' : Call) where
  pub record HandedIn : Type 0 where
    pub same_step : AgreeCall M M' field field' k k'
    pub mesh_lent : MeshLent M'
    pub masses_long : M'.cells ≤ length field'
    pub claim_lent : ClaimLent M' k'
    pub as_moved : (f : ℕ) → f < M.faces → claimed k' f ≡ get_or (moved_table s M k field) f (pos 0)

  -- It is accepted, answers what the step has answered, and leaves the same next masses.
  pub record Confirmed : Type 0 where
    pub claim_fine : claim_verdict M' field' k' ≡ fine
    pub same_answer : step_answer judged M' k' field' ≡ step_answer s M k field
    pub same_next : (c : ℕ) → c < M.cells → mass_in (next_table judged M' k' field') c ≡ mass_in (next_table s M k field) c

-- of every accepted step of a scheme
abbrev pub OwnAccepted : Scheme → Type 0
OwnAccepted s = (M M' : Mesh) (field field' : List ℕ) (k k' : Call) → s.finds M field k ≡ fine → HandedIn s M M' field field' k k'
    → Confirmed s M M' field field' k k'

pub record OwnSteps : Type 0 where
  pub corrected_accepted : OwnAccepted corrected
  pub plain_accepted : OwnAccepted plain
