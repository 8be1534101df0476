-- Document 02, S-9, on records: the host's call of each office.
use Rattle.std.specs.Prelude.{ℕ, ◌/◌, ◌≡◌, Bool, cond, List, eqb, length, take}
use Rattle.lists.specs.Renumbering.{Renumbering}
use Rattle.lists.specs.Table.{over}
use Rattle.record_layouts.specs.Layouts.{field_kind, field_length}
use Rattle.record_heads.specs.Heads.{width_in, cells_in, faces_in}
use Rattle.lagoon.specs.Host.{HostPromise}
use Rattle.host_answer.specs.Number.{cause_step}
use Rattle.renumbered_calls.specs.Anew.{mesh_anew, field_anew, step_anew, Reads, HeldAnew}

module _ (mesh : List ℕ) (cell : Renumbering (cells_in mesh)) (face : Renumbering (faces_in mesh)) (turns : ℕ → Bool) where
  -- Two calls, with numbers r and r'. The second's records hold the first's lagoon, numbered anew. Their causes are the same; where the first
  -- is accepted, so that its bytes hold a next field record afterwards, the second's hold that record numbered anew, over what was lent.
  pub record HostsAgree (field step lent' after after' : List ℕ) (r r' : ℕ) : Type 0 where
    pub anew_held : HeldAnew mesh cell face turns field step
    pub cause_same : r' / cause_step ≡ r / cause_step
    pub next_field : after' ≡ cond (eqb r 0)
        (over (field_anew mesh cell face turns (take (field_length (field_kind (width_in mesh)) (cells_in mesh)) after)) lent') lent'

abbrev pub TwoHosts : Type 0
TwoHosts = (mesh : List ℕ) (cell : Renumbering (cells_in mesh)) (face : Renumbering (faces_in mesh)) (turns : ℕ → Bool) (field step : List ℕ)
    → Reads mesh field step → (lent lent' after after' : List ℕ) (r r' : ℕ) → length lent' ≡ length lent
    → HostPromise mesh field step lent r after
    → HostPromise (mesh_anew mesh cell face turns) (field_anew mesh cell face turns field) (step_anew mesh cell face turns step) lent' r' after'
    → HostsAgree mesh cell face turns field step lent' after after' r r'
