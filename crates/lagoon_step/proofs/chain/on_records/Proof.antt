-- `on_records`: where the records are not gone straight through, the bytes are as they were, and the next way is tried.
use borrow.Author.Rules.{rules}
use Rattle.lagoon.proofs.Stages.{straight-done, straight-left}
use Rattle.lagoon_step.proofs.chain.on_records.Statement.{statement}
use Rattle.lagoon_step.proofs.chain.on_records.Tie as tie

abbrev to_start : tie.Else-step → tie.Start
to_start c = c.before.before.before.before.before.before.before.before.before

abbrev to_step : tie.After-in_order-arg-1 → tie.After-step
to_step c = c.before.before.before.before.before.before.before.before.before

returns : tie.Need-returns-then-step
returns c = let a = c.before.before.before.before.before.before.before.before.before.args in straight-done a.mesh.now a.field.now
    a.step.now c.before.before.before.step.ensures c.if-step.true

returns-2 : tie.Need-returns-then-step-2
returns-2 c =
    let a = (to_start c.before.before.before.before.before).args in
    straight-left a.mesh.now a.field.now a.step.now c.before.before.before.before.before.before.before.before.step.ensures
    c.before.before.before.before.before.if-step.false
    (straight-done a.mesh.now a.field.now a.step.now c.before.before.before.step-2.ensures c.if-step-2.true)

returns-3 : tie.Need-returns
returns-3 c =
    let a = (to_start c.before.before.before.before.before.before.before.before.before).args in
    straight-left a.mesh.now a.field.now a.step.now (to_step c.before.before.before).step.ensures
    c.before.before.before.before.before.before.before.before.before.if-step.false
    (straight-left a.mesh.now a.field.now a.step.now c.before.before.before.before.before.before.before.step-2.ensures
    c.before.before.before.before.if-step-2.false c.before.before.in_order.ensures)

pub on_records_spec : {M : Type 1} → statement M
on_records_spec =
    tie.close
    (tie.spec
    (search rules)
    (search rules)
    returns
    (search rules)
    (search rules)
    returns-2
    (search rules)
    (search rules)
    returns-3)
