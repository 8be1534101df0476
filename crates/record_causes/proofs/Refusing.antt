-- What the tests of a writing ask: a ceiling within that of the calls, and two tests after one that is fine.
use Prim.Native.Nat.{◌≤◌}
use mathlib.Core.Path.{◌≡◌}
use native.Mathlib.Omega.{arith}
use Rattle.model.specs.Mesh.{ceiling}
use Rattle.model.specs.Causes.{Verdict, fine, ◌and_then◌}
use Rattle.model.proofs.Verdicts.{past}
use Rattle.record_layouts.specs.declared.Width.{Width}
use Rattle.record_layouts.specs.declared.Width.TheVariants.{Narrow, Wide}
use Rattle.record_causes.specs.Verdicts.{most_of}

-- the ceiling of a width is within that of the calls
pub most-within : (w : Width) → most_of w ≤ ceiling
most-within Narrow = omega arith
most-within Wide = omega arith

-- two tests after one that is fine
pub past_first : {u : Verdict} (v w : Verdict) → u ≡ fine → (u and_then v and_then w) ≡ (v and_then w)
past_first v w e = rw (past v e)
