-- The contract of a plain `step`, call after call, gives S-8's error.
use Prim.Native.Nat.{ℕ}
use mathlib.Core.Path.{◌≡◌, ◌∙◌}
use mathlib.Core.List.{List, [], ◌∷◌}
use Rattle.model.specs.Mesh.{Mesh}
use Rattle.model.specs.Causes.{accepted}
use Rattle.model.specs.Calls.{Left, field_after, plain, lent_masses, step_on_tables, EachStep}
use Rattle.plain.proofs.Error.{error-of}
use Rattle.transport.proofs.Promises.{promised-comes}
use Rattle.transport.specs.Made.{Made}
use Rattle.plain.specs.Made.{came_to, KeptOn, ErrorOfCalls}

as_plain : (M : Mesh) (field : List ℕ) (calls : List Made) → KeptOn M field calls
    → EachStep came_to (λ m before. (l : Left) → came_to m before ≡ accepted l → step_on_tables plain M m.tables (lent_masses M m.past before) ≡ accepted l)
    field calls
as_plain M field [] k = tt
as_plain M field (m ∷ ms) k = (
  (λ l e. promised-comes plain M (lent_masses M m.past field) m.tables m.answer m.next m.moved m.work k.0 ∙ e),
  as_plain M (field_after (came_to m field) field) ms k.1,
)

pub error-of-calls : ErrorOfCalls
error-of-calls M field calls kept = error-of M (λ m. m.past) (λ m. m.tables) came_to field calls (as_plain M field calls kept)
