-- A line put after those held, where there is room for it: it ends after all of its bytes, and those held stand before it.
use Prim.Native.Nat.{ℕ, ◌+◌, ◌≤◌}
use mathlib.Core.Path.{◌≡◌, ◌∙◌}
use mathlib.Core.List.{List, ◌++◌}
use native.Mathlib.Omega.{arith}
use lib.ListN.{length, take, length-append, length-take}
use Rattle.text.specs.Lines.{longer, Puts}
use Rattle.text.proofs.Lines.{all_there}

pub added : (lent : List ℕ) {at n r : ℕ} {more lent' : List ℕ} → Puts lent at more r lent' → n ≡ length more → at + n ≤ length lent
    → (r ≡ at + n) × (take r lent' ≡ take at lent ++ more)
unfolding longer
added lent {at} {n} {r} {more} p e h =
    let long : length (longer lent at more) ≡ at + n = simp (length-take, length-append) (omega (arith, e, h)) in
    (p.ends ∙ long, all_there lent p (omega (arith, e, h)))
