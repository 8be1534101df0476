-- Each turn puts the line of one entry more.
use Rattle.std.proofs.Common.{◌≡◌, refl, ◌∙◌, arith}
use Rattle.board.specs.Board.{unused}
use Rattle.run_board.specs.BoardLines.{board_lines}
use Rattle.run_board.proofs.Entries.{one_more}
use Rattle.run_board.proofs.put.Goals as goal

pub loop-i-init : goal.loop-i-init
unfolding board_lines
loop-i-init c = record { short = omega arith; put = refl }

pub put_entry-at-requires : goal.put_entry-at-requires
put_entry-at-requires c = omega (arith, c.loop-i.invariant.short)

pub loop-i-preserved : goal.loop-i-preserved
loop-i-preserved c =
    let e = c.put_entry-at.ensures in record {
      short = omega (arith, e.0, c.loop-i.invariant.short);
      put = e.1 ∙ one_more _ c.loop-i.i unused _ (omega arith) c.loop-i.invariant.put;
    }

pub returns : goal.returns
returns c =
    let e : c.loop-i.i ≡ c.args.answer.used = omega arith in
    (omega (arith, c.loop-i.invariant.short), rw e at c.loop-i.invariant.put)
