-- One entry more is copied; at the end they are all that are passed.
use Rattle.std.proofs.Common.{◌≡◌, ℕ, List, length, refl, ap, ◌∙◌, arith}
use Rattle.lists.specs.Table.{over}
use Rattle.lists.proofs.Tables.{over-start, over-step, table-get_or}
use Rattle.store_entries.proofs.copy.Goals as goal

pub loop-i-init : goal.loop-i-init
loop-i-init c = over-start _ _

pub loop-i-preserved : goal.loop-i-preserved
loop-i-preserved c = over-step _ _ _ (omega arith) c.loop-i.invariant refl

pub returns : goal.returns
returns c =
    let from = c.args.from.now in
    let e : length from ≡ c.loop-i.i = omega arith in
    rw (← e) at c.loop-i.invariant ∙ ap (λ (t : List ℕ). over t c.args.to.now) (table-get_or 0 from)
