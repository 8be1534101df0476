use Rattle.std.proofs.Common.{refl}
use Rattle.text.proofs.Lines.{both}
use Rattle.run_lines.specs.Lines.{refused_step_line, refusal_line}
use Rattle.run_lines.proofs.Held.{refused-step-held}
use Rattle.run_lines.proofs.refused_step_line.Goals as goal

pub returns : goal.returns
unfolding refused_step_line refusal_line
returns c =
    let args = c.args in
    refused-step-held refl args.step args.number args.place
    (both _ c.word-a.ensures (both _ c.mark-b.ensures (both _ c.word-c.ensures c.word-used.ensures)))
