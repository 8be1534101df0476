-- A scan's first state, its refusal and its turn.
use Rattle.std.proofs.Common.{refl}
use Rattle.model.proofs.Verdicts.{scan-start, scan-pass, scan-hit}
use Rattle.public_marks.proofs.Judged.{bad-mark, good-mark}
use Rattle.public_marks.proofs.marks_good.Goals as goal

pub loop-c-init : goal.loop-c-init
loop-c-init c = scan-start _ _

pub returns-then-mark_at-gt-WITHHELD : goal.returns-then-mark_at-gt-WITHHELD
returns-then-mark_at-gt-WITHHELD c =
    scan-hit _ _ _ _ c.loop-c-test.true c.loop-c.invariant (bad-mark c.args.marks.now c.loop-c.c c.mark_at.ensures c.if-mark_at-gt-WITHHELD.true) refl

pub loop-c-preserved : goal.loop-c-preserved
loop-c-preserved c = scan-pass _ _ _ c.loop-c.invariant (good-mark c.args.marks.now c.loop-c.c c.mark_at.ensures c.if-mark_at-gt-WITHHELD.false) refl
