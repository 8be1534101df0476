-- A row more: what it reads stands at the place come to, and a marked row moves the place by a width.
use Rattle.std.proofs.Common.{sym, ap, ◌∙◌, ◌+◌, ◌*◌}
use Rattle.lists.proofs.Turns.{turn_in}
use Rattle.lists.proofs.Tables.{over-start, over-step}
use Rattle.record_sections.specs.Sections.{marked}
use Rattle.record_sections.proofs.Columns.{those-none, those-next, those-room, those-most, first-at}
use Rattle.record_sections.proofs.Turns.{more-small}
use Rattle.record_sections.proofs.read_marked.Goals as goal

pub loop-i-init : goal.loop-i-init
loop-i-init c =
    let none = those-none (marked c.args.mark c.args.marks.now) in
    (sym (ap (λ k. c.args.first + k * c.args.width) none ∙ first-at c.args.first c.args.width), over-start _ _)

pub field_if-requires : goal.field_if-requires
field_if-requires c =
    let marks = marked c.args.mark c.args.marks.now in
    let room = those-room marks c.args.first c.args.width c.loop-i.i c.args.n c.loop-i-test.true c.requires.4 in
    let most = those-most marks c.args.first c.args.width c.loop-i.i c.args.n c.loop-i.auto.i-end c.requires.4 in
    (rw c.loop-i.invariant.0 room, rw c.loop-i.invariant.0 (more-small c.args.width most c.requires.0), c.requires.1)

pub after-at-requires : goal.after-at-requires
after-at-requires c =
    let most = those-most (marked c.args.mark c.args.marks.now) c.args.first c.args.width c.loop-i.i c.args.n c.loop-i.auto.i-end c.requires.4 in
    rw c.loop-i.invariant.0 (more-small c.args.width most c.requires.0)

pub loop-i-preserved : goal.loop-i-preserved
loop-i-preserved c = (
  c.after-at.ensures ∙ rw c.loop-i.invariant.0 (those-next (marked c.args.mark c.args.marks.now) c.args.first c.args.width c.loop-i.i),
  over-step _ _ _ (turn_in c.loop-i-test.true c.requires.2) c.loop-i.invariant.1 (c.field_if.ensures ∙ rw c.loop-i.invariant.0),
)
