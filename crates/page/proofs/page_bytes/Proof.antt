-- Whole lines and the mass line; a page has at most sixty of them, so the length is small.
use mathlib.Core.Path.{sym}
use native.Mathlib.Omega.{arith}
use borrow.Author.Rules.{rules}
use Rattle.page.proofs.Laws.{page-begins, cells-most, bytes-needed, no_bytes, bytes_small}
use Rattle.page.proofs.page_bytes.Statement.{statement}
use Rattle.page.proofs.page_bytes.Tie as tie

cells-on-requires : tie.Need-cells_on-requires
cells-on-requires c κs = let start = c.before.before.args in omega (arith, page-begins start.cells start.page (omega arith))

add-result : tie.Need-overflow_add-result
add-result c = let start = c.before.before.before.args in omega (arith, cells-most start.cells start.page)

mul-result : tie.Need-overflow_mul-result
mul-result c =
    let start = c.before.before.before.before.args in
    omega (arith, bytes_small c.before.cells_on.result c.mass_places.result (omega (arith, cells-most start.cells start.page)) (omega arith))

returns : tie.Need-returns-then-page-pages
returns c =
    let start = c.before.before.before.before.args in
    rw (c.before.cells_on.ensures, c.mass_places.ensures) (sym (bytes-needed start.places start.cells start.page (omega arith)))

returns-2 : tie.Need-returns
returns-2 c = let start = c.before.before.args in sym (no_bytes start.places start.cells start.page (omega arith))

pub page_bytes_spec : {M : Type 1} → statement M
page_bytes_spec =
    tie.close
    (tie.spec (λ c κs. search rules) cells-on-requires add-result (λ c κs. search rules) (λ c. search rules) mul-result returns returns-2)
