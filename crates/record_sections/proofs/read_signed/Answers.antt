-- One entry more is written.
use Rattle.std.proofs.Common.{◌∙◌, ◌+◌, ◌*◌}
use Rattle.lists.proofs.Turns.{turn_in}
use Rattle.lists.proofs.Tables.{over-step}
use Rattle.record_sections.proofs.Codes.{code_is}
use Rattle.record_sections.proofs.read_signed.Goals as goal

pub loop-i-preserved : goal.loop-i-preserved
loop-i-preserved c =
    c.put_code.ensures
    ∙ over-step _ _ _ (turn_in c.loop-i-test.true c.requires.fact.2) c.loop-i.invariant
    (code_is c.args.bytes.now (c.args.first + c.loop-i.i * (1 + c.args.width)) c.args.width c.read_bits-code.ensures)
