-- Five numbers and a letter, each put after the last; the longest line fits the bytes (`step_held`).
use Rattle.std.proofs.Common.{refl}
use Rattle.text.proofs.Lines.{both}
use Rattle.run_lines.specs.Lines.{step_line}
use Rattle.run_lines.proofs.Held.{step_held}
use Rattle.run_lines.proofs.step_line.Goals as goal

pub returns : goal.returns
unfolding step_line
returns c =
    let args = c.args in
    step_held refl args.step args.entered args.gone args.total args.released
    (both _ c.word-a.ensures (both _ c.word-b.ensures
    (both _ c.word-c.ensures (both _ c.word-d.ensures c.word-used.ensures))))
