-- What is held moves to the front of its buffer, byte by byte: a byte is written at or before the place that is read next, so that none is lost.
use Prim.Native.Nat.{ℕ, ◌+◌, ◌-◌, ◌≤◌, ◌<◌}
use mathlib.Core.Path.{◌≡◌, refl, sym, ap, ◌∙◌}
use mathlib.Core.Bool.{Bool, true, false}
use mathlib.Core.List.{List}
use native.Mathlib.Omega.{arith}
use lib.Dec.{eqb}
use lib.ListN.{length, get_or, set, take, drop, length-set, length-drop}
use lib.Seq.{ext_get_or, get_or-set_same, get_or-set_other, get_or-take, get_or-drop, length-take-le}
use Rattle.lists.proofs.Tests.{Same, same, other, same?}
use Rattle.run_intake.specs.Intake.{held}

-- those before i stand in front, the others where they stood
pub record Moving (before : List ℕ) (from : ℕ) (buffer : List ℕ) (i : ℕ) : Type 0 where
  pub long : length buffer ≡ length before
  pub moved : (k : ℕ) → k < i - from → get_or buffer k 0 ≡ get_or before (from + k) 0
  pub left : (k : ℕ) → i ≤ k → get_or buffer k 0 ≡ get_or before k 0

pub none-moved : (before : List ℕ) (from : ℕ) → Moving before from before from
none-moved before from = record { long = refl; moved = λ k h. absurd (omega arith); left = λ k h. refl }

pub one-moved : (before : List ℕ) (from : ℕ) (buffer : List ℕ) (i : ℕ) → from ≤ i → i < length buffer → Moving before from buffer i
    → Moving before from (set buffer (i - from) (get_or buffer i 0)) (i + 1)
one-moved before from buffer i h l m = record {
  long = length-set buffer (i - from) (get_or buffer i 0) ∙ m.long;
  moved = λ k b. go k (eqb k (i - from)) (same? k (i - from)) b;
  left = λ k b. get_or-set_other buffer (i - from) k (get_or buffer i 0) 0 (λ e. absurd (omega (arith, e))) ∙ m.left k (omega arith);
}
  where
    go : (k : ℕ) (t : Bool) → Same k (i - from) t → k < i + 1 - from → get_or (set buffer (i - from) (get_or buffer i 0)) k 0 ≡ get_or before (from + k) 0
    go k true (same e) b =
        let q : i ≡ from + k = omega (arith, e) in
        rw e (get_or-set_same buffer (i - from) (get_or buffer i 0) 0 (omega arith)) ∙ m.left i (omega arith) ∙ ap (λ (n : ℕ). get_or before n 0) q
    go k false (other n) b = get_or-set_other buffer (i - from) k (get_or buffer i 0) 0 n ∙ m.moved k (omega (arith, n))

pub all_moved : (before : List ℕ) (from to : ℕ) (buffer : List ℕ) (i : ℕ) → from ≤ to → to ≤ length before → i ≡ to → Moving before from buffer i
    → take (to - from) buffer ≡ held before from to
all_moved before from to buffer i h l e m =
    let here : length (take (to - from) buffer) ≡ to - from = length-take-le (to - from) buffer (omega (arith, m.long)) in
    let there : length (held before from to) ≡ to - from = length-take-le (to - from) (drop from before) (rw length-drop (omega arith)) in
    ext_get_or 0 _ _ (here ∙ sym there) (λ k b.
    let q : k < to - from = rw here at b in
    get_or-take (to - from) buffer k 0 q ∙ m.moved k (omega (arith, e)) ∙ sym (get_or-take (to - from) (drop from before) k 0 q ∙ get_or-drop from before k 0))
