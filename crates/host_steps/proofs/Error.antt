-- What a call from C comes to is the plain step underneath, and S-8's error is of whatever comes to that.
use Prim.Native.Nat.{ℕ}
use mathlib.Core.Path.{◌≡◌, ◌∙◌}
use mathlib.Core.List.{List, [], ◌∷◌}
use Rattle.model.specs.Mesh.{Mesh}
use Rattle.model.specs.Causes.{accepted}
use Rattle.model.specs.Calls.{Left, field_after, plain, lent_masses, step_on_tables, EachStep}
use Rattle.plain.proofs.Error.{error-of}
use Rattle.host_answer.proofs.Tables.{verdict-small}
use Rattle.promises.specs.Steps.{TableMade, table_left}
use Rattle.promises.proofs.FromC.{comes}
use Rattle.host_steps.specs.Error.{KeptOn, ErrorFromC}

as_plain : (M : Mesh) (field : List ℕ) (calls : List TableMade) → KeptOn M field calls
    → EachStep (table_left M)
    (λ m before. (l : Left) → table_left M m before ≡ accepted l → step_on_tables plain M m.tables (lent_masses M m.past before) ≡ accepted l) field calls
as_plain M field [] k = tt
as_plain M field (m ∷ ms) k = (
  (λ l e. comes plain M field m (verdict-small M (lent_masses M m.past field) m.tables) k.0.answer k.0.next_masses ∙ e),
  as_plain M (field_after (table_left M m field) field) ms k.1,
)

pub error-from-c : ErrorFromC
error-from-c M field calls kept = error-of M (λ m. m.past) (λ m. m.tables) (table_left M) field calls (as_plain M field calls kept)
