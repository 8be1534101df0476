use Rattle.std.proofs.Common.{refl}
use Rattle.text.proofs.Lines.{both}
use Rattle.run_lines.specs.Lines.{board_line}
use Rattle.run_lines.proofs.Held.{board-held}
use Rattle.run_lines.proofs.board_line.Goals as goal

pub returns : goal.returns
unfolding board_line
returns c =
    let args = c.args in
    board-held refl args.cell args.q args.rest (both _ c.mark-a.ensures
    (both _ c.word-b.ensures (both _ c.word-c.ensures c.word-used.ensures)))
