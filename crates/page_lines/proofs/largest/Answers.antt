-- One volume more: the larger of it and of those before.
use Rattle.std.proofs.Common.{◌≡◌, ℕ, ◌<◌, List, length, take, refl, sym, ◌∙◌, get_or, length-take, arith}
use Rattle.std.proofs.lemmas.List.{get_or-take}
use Rattle.lists.specs.Fold.{greatest}
use Rattle.lists.proofs.Sums.{greatest-more}
use Rattle.page_lines.proofs.largest.Goals as goal

-- an entry of the front of a list is one of the list
front-entry : (n : ℕ) (xs : List ℕ) (i : ℕ) → i < length (take n xs) → get_or (take n xs) i 0 ≡ get_or xs i 0
front-entry n xs i below = get_or-take n xs i 0 (omega (arith, length-take n xs))

pub loop-volume-init : goal.loop-volume-init
unfolding greatest
loop-volume-init c = refl

pub loop-volume-preserved : goal.loop-volume-preserved
loop-volume-preserved c =
    let below = c.loop-volume-test.true in
    let more = sym (greatest-more c.loop-volume.volume-index 0 (λ k. get_or c.args.volumes.now k 0)) in
    c.larger-most.ensures ∙ rw (c.loop-volume.invariant, front-entry) more
