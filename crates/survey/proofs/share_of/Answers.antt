-- The loop stops where (k + 1) / 256 is above the ratio.
use Rattle.std.proofs.Common.{◌≡◌, sym, ◌∙◌, arith}
use Rattle.survey.proofs.Shares.{share-is}
use Rattle.survey.proofs.share_of.Goals as goal

pub returns-then-not-is_not_above : goal.returns-then-not-is_not_above
returns-then-not-is_not_above c =
    share-is _ _ (omega arith) c.loop-k.invariant (sym c.is_not_above.ensures ∙ c.if-not-is_not_above.true)

pub returns : goal.returns
returns c =
    let e : c.loop-k.k ≡ 255 = omega arith in
    share-is _ 255 (omega arith) (rw e at c.loop-k.invariant) c.requires.1
