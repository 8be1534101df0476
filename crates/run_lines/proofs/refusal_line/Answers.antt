use Rattle.std.proofs.Common.{refl}
use Rattle.text.proofs.Lines.{both}
use Rattle.run_lines.specs.Lines.{refusal_line}
use Rattle.run_lines.proofs.Held.{refusal-held}
use Rattle.run_lines.proofs.refusal_line.Goals as goal

pub returns : goal.returns
unfolding refusal_line
returns c =
    let args = c.args in
    refusal-held refl args.letter args.number args.place (both _ c.mark-a.ensures (both _ c.word-b.ensures c.word-used.ensures))
