-- Document 01, "A list of steps": a call of `step`, plain or corrected, as it was made.
use Rattle.std.specs.Prelude.{List, ℕ, ℤ, Result}
use Rattle.model.specs.Causes.{Call}
use Rattle.model.specs.declared.Refusal.{Refusal}
use Rattle.transport.specs.declared.Crossed.{Crossed}

-- what stood in its table of masses past the field, the other tables lent to it, its answer, and its next masses, moved and work afterwards
pub record Made : Type 0 where
  pub past : List ℕ
  pub tables : Call
  pub answer : Result Crossed Refusal
  pub next : List ℕ
  pub moved : List ℤ
  pub work : List ℕ
