-- The cell's least and greatest stand in work as they stood at the start (`filling-turn`).
use Rattle.std.proofs.Common.{◌+◌, ◌*◌, ◌∙◌, arith}
use Rattle.step_cell.specs.Work.{allowances_of}
use Rattle.step_cell.proofs.Filling.{filling-turn}
use Rattle.step_limiter.proofs.allowances.Goals as goal

pub loop-c-preserved : goal.loop-c-preserved
unfolding allowances_of
loop-c-preserved c =
    let l = c.loop-c in
    filling-turn c.args.work.now _ _ _ (λ c. 0) l.c l.work _ (omega arith) l.invariant
    (c.allowance_at.ensures ∙ rw (l.invariant.kept (4 * l.c + 1) (omega arith), l.invariant.kept (4 * l.c + 2) (omega arith)))
