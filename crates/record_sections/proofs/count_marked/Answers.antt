-- A row more is the count with it; the count is at most the rows.
use Rattle.std.proofs.Common.{sym, ◌∙◌, arith}
use Rattle.std.proofs.Math.Nat.{mul-one}
use Rattle.record_sections.specs.Sections.{marked}
use Rattle.record_sections.proofs.Columns.{those-none, those-more, those-le}
use Rattle.record_sections.proofs.count_marked.Goals as goal

pub loop-i-init : goal.loop-i-init
loop-i-init c = sym (those-none _)

pub after-count-requires : goal.after-count-requires
after-count-requires c = omega (arith, c.loop-i.invariant, those-le (marked c.args.mark c.args.marks.now) c.loop-i.i)

pub loop-i-preserved : goal.loop-i-preserved
loop-i-preserved c = c.after-count.ensures ∙ rw (c.loop-i.invariant, mul-one _) (sym (those-more (marked c.args.mark c.args.marks.now) c.loop-i.i))
