-- One entry more is written, with one that is as it was.
use Rattle.std.proofs.Common.{ℕ, ◌+◌, List, get_or, ap, ◌∙◌, arith}
use Rattle.lists.proofs.Tables.{over-start, over-step, over_done}
use Rattle.store_entries.specs.Moved.{moved_down}
use Rattle.store_entries.proofs.Written.{over-past}
use Rattle.store_entries.proofs.move_down.Goals as goal

pub loop-i-init : goal.loop-i-init
loop-i-init c = over-start _ _

pub loop-i-preserved : goal.loop-i-preserved
loop-i-preserved c =
    let l = c.loop-i in
    let here = ap (λ (p : List ℕ). get_or p (c.args.n + l.i) 0) l.invariant
    ∙ over-past l.i (λ k. get_or c.args.part.now (c.args.n + k) 0) c.args.part.now 0 (c.args.n + l.i) (omega arith) (omega arith) in
    over-step _ _ _ (omega arith) l.invariant (c.further.ensures ∙ here)

pub returns : goal.returns
unfolding moved_down
returns c = over_done _ _ _ (omega arith) (omega arith) c.loop-i.invariant
