-- An entry of work after another has been written: entries are told apart by their number, and by the cell within one number.
use Prim.Native.Nat.{ℕ, ◌+◌, ◌*◌, ◌<◌}
use mathlib.Core.Path.{◌≡◌}
use mathlib.Core.Bool.{Bool, true, false, cond, ◌&&◌}
use mathlib.Core.List.{List}
use native.Mathlib.Omega.{arith}
use borrow.Author.Tests.{eq-eqb, leb-true, ne_eqb}
use lib.Dec.{eqb, leb}
use lib.ListN.{length, set}
use lib.Seq.{get_or-set_other}
use Rattle.lists.proofs.Tests.{Same, same, other, same?}
use Rattle.lists.proofs.Tables.{get_d_set}
use Rattle.step_cell.specs.Work.{of_cell, of_face}

pub same-slot : (a i c j : ℕ) → leb i 3 ≡ true → leb j 3 ≡ true → eqb (4 * a + i) (4 * c + j) ≡ (eqb i j && eqb a c)
same-slot a i c j s t = go (eqb i j) (same? i j) (eqb a c) (same? a c)
  where
    go : (x : Bool) → Same i j x → (y : Bool) → Same a c y → eqb (4 * a + i) (4 * c + j) ≡ (x && y)
    go true (same p) true (same q) = eq-eqb (4 * a + i) (4 * c + j) (omega arith)
    go true (same p) false (other d) = ne_eqb (4 * a + i) (4 * c + j) (λ (e : 4 * a + i ≡ 4 * c + j). d (omega arith))
    go false (other d) y q = ne_eqb (4 * a + i) (4 * c + j) (λ (e : 4 * a + i ≡ 4 * c + j). d (omega (arith, leb-true i 3 s, leb-true j 3 t)))

pub slot-set : (w : List ℕ) (a i v c j : ℕ) → leb i 3 ≡ true → leb j 3 ≡ true → 4 * a + 3 < length w → of_cell (set w (4 * a + i) v) c j
    ≡ cond (eqb i j && eqb a c) v (of_cell w c j)
slot-set w a i v c j s t h = rw (← same-slot a i c j s t) (get_d_set w (4 * a + i) (4 * c + j) v 0 (omega (arith, leb-true i 3 s)))

-- cells and faces do not touch each other's entries
pub slot-face : (w : List ℕ) (a i v cells f : ℕ) → leb i 3 ≡ true → a < cells → of_face (set w (4 * a + i) v) cells f ≡ of_face w cells f
slot-face w a i v cells f s h = get_or-set_other w (4 * a + i) (4 * cells + f) v 0 (λ (e : 4 * cells + f ≡ 4 * a + i). omega (arith, leb-true i 3 s))

pub face-slot : (w : List ℕ) (cells f v c j : ℕ) → leb j 3 ≡ true → c < cells → of_cell (set w (4 * cells + f) v) c j ≡ of_cell w c j
face-slot w cells f v c j t h = get_or-set_other w (4 * cells + f) (4 * c + j) v 0 (λ (e : 4 * c + j ≡ 4 * cells + f). omega (arith, leb-true j 3 t))
