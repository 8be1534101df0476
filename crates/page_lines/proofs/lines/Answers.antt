-- No line is put before the first turn, and each puts the line of its own cell.
use Rattle.std.proofs.Common.{refl}
use Rattle.text.specs.Lines.{pieces}
use Rattle.text.proofs.Lines.{puts_none}
use Rattle.public_marks.specs.Marks.{is_open}
use Rattle.page_lines.specs.Lines.{line_of}
use Rattle.page_lines.proofs.Laws.{line-more}
use Rattle.page_lines.proofs.lines.Goals as goal

pub loop-i-init : goal.loop-i-init
unfolding pieces
loop-i-init c = (refl, puts_none c.args.lent.now)

pub loop-i-preserved : goal.loop-i-preserved
unfolding line_of
loop-i-preserved c =
    let l = c.loop-i in
    line-more c.args.lent.now c.args.volumes.now c.args.masses.now (is_open c.args.marks.now) c.args.places c.args.first l.i _ c.is_open.ensures
    l.invariant.0 l.invariant.1 c.line_if-at.ensures
