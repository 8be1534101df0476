-- Document 02, S-8: the error, of calls of `lagoon_table_plain_step` as a host in C made them.
use Rattle.std.specs.Prelude.{ℕ, List}
use Rattle.model.specs.Mesh.{Mesh}
use Rattle.model.specs.Calls.{EachStep}
use Rattle.plain.specs.Error.{ErrorBelow}
use Rattle.transport.specs.declared.Way.TheVariants.{Plain}
use Rattle.promises.specs.Steps.{TableMade, by_table_step, table_left, StepContract}

-- each call was made on the field that the one before it had come to, and kept its contract
abbrev pub KeptOn : Mesh → List ℕ → List TableMade → Type 0
KeptOn M = EachStep (table_left M) (λ m field. StepContract M (by_table_step Plain m) field)

abbrev pub ErrorFromC : Type 0
ErrorFromC = (M : Mesh) (field : List ℕ) (calls : List TableMade) → KeptOn M field calls → ErrorBelow M (λ m. m.tables) (table_left M) field calls
