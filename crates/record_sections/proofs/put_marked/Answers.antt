-- A row more: what is put stands at the place come to, and a marked row moves the place by a width.
use Rattle.std.proofs.Common.{refl, sym, ap, ◌∙◌, ◌+◌, ◌*◌, le_refl}
use Rattle.record_sections.specs.Sections.{marked}
use Rattle.record_sections.proofs.Columns.{column-start, column-if, those-none, those-next, those-apart, those-room, those-most, first-at}
use Rattle.record_sections.proofs.Turns.{more-small}
use Rattle.record_sections.proofs.put_marked.Goals as goal

pub loop-i-init : goal.loop-i-init
loop-i-init c =
    let none = those-none (marked c.args.mark c.args.marks.now) in
    (sym (ap (λ k. c.args.first + k * c.args.width) none ∙ first-at c.args.first c.args.width), column-start _ _ _ _ _)

pub put_if-requires : goal.put_if-requires
put_if-requires c =
    let marks = marked c.args.mark c.args.marks.now in
    let l = c.loop-i in
    let room = those-room marks c.args.first c.args.width l.i c.args.n c.loop-i-test.true c.requires.fact.3 in
    let most = those-most marks c.args.first c.args.width l.i c.args.n l.auto.i-end (le_refl _) in (
      rw (l.invariant.0, l.invariant.1.same_length) room,
      rw l.invariant.0 (more-small c.args.width most c.requires.fact.4),
      c.requires.fact.0,
      c.requires.by_index l.i c.loop-i-test.true,
    )

pub after-at-requires : goal.after-at-requires
after-at-requires c =
    let l = c.loop-i in
    let most = those-most (marked c.args.mark c.args.marks.now) c.args.first c.args.width l.i c.args.n l.auto.i-end (le_refl _) in
    rw l.invariant.0 (more-small c.args.width most c.requires.fact.4)

pub loop-i-preserved : goal.loop-i-preserved
loop-i-preserved c =
    let marks = marked c.args.mark c.args.marks.now in
    let l = c.loop-i in (
      c.after-at.ensures ∙ rw l.invariant.0 (those-next marks c.args.first c.args.width l.i),
      column-if l.invariant.1 refl l.invariant.0 c.put_if.ensures refl
          (λ i m t. those-apart marks c.args.first c.args.width i l.i m t),
    )
