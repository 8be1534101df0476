-- What the inner functions come to. Nothing here is promised to a caller.
use Rattle.std.specs.Prelude.{ℕ, List, ℤ, Result}
use Rattle.model.specs.Mesh.{Mesh}
use Rattle.model.specs.Causes.{verdict}
use Rattle.taking.specs.Taking.{own_tables, Stepping}
use Rattle.model.specs.declared.Refusal.{Refusal}
use Rattle.model.specs.declared.Printed.{Printed}

-- a step through water that has been read
abbrev pub SteppedIn : Mesh → List ℕ → List ℤ → List ℕ → List ℕ → (Result Printed Refusal) → List ℕ → Type 0
SteppedIn M masses fluxes outsides releases =
    Stepping M masses (verdict M masses (own_tables fluxes outsides releases)) (own_tables fluxes outsides releases)
