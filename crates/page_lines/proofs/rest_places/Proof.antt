-- The largest volume decides between the two widths of a rest, and both are few places.
use native.Mathlib.Omega.{arith}
use borrow.Author.Rules.{rules}
use borrow.Author.Tests.{le-leb, lt-leb}
use Rattle.model.specs.Mesh.{old_ceiling}
use Rattle.page_lines.specs.Lines.{rest_places}
use Rattle.page_lines.proofs.rest_places.Statement.{statement}
use Rattle.page_lines.proofs.rest_places.Tie as tie

-- the test on the largest volume is found, so no name here holds what it compares
pub rest_places_spec : {M : Type 1} → statement M
unfolding rest_places
rest_places_spec =
    tie.close
    (tie.spec (search rules) (λ c. (rw (← c.before.largest.ensures, le-leb c.before.largest.result old_ceiling (omega arith)), omega arith))
    (λ c. (rw (← c.before.largest.ensures, lt-leb c.before.largest.result old_ceiling (omega arith)), omega arith)))
