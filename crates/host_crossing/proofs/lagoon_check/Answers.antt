-- The number of what the step is refused for, which fits; else that of what is fine.
use Rattle.std.proofs.Common.{sym, ap, ◌∙◌}
use Rattle.model.specs.StepTaken.{taken_said}
use Rattle.host_answer.specs.Number.{number_of}
use Rattle.host_answer.proofs.Answers.{refusal-of}
use Rattle.host_record_promises.proofs.Crossings.{found-fits, tested-refused, tested-fine}
use Rattle.host_crossing.proofs.lagoon_check.Goals as goal

pub number_of-requires : goal.number_of-requires
number_of-requires c =
    refusal-of (sym c.crossed-a.ensures ∙ ap taken_said c.in-Err.is) (found-fits c.args.mesh.now c.args.field.now c.args.step.now)

pub returns-in-Err : goal.returns-in-Err
returns-in-Err c =
    c.number_of.ensures ∙ sym (ap number_of (tested-refused c.args.mesh.now c.args.field.now c.args.step.now c.crossed-a.ensures c.in-Err.is))

pub returns-in-Ok : goal.returns-in-Ok
returns-in-Ok c = sym (ap number_of (tested-fine c.args.mesh.now c.args.field.now c.args.step.now c.crossed-a.ensures c.in-Ok.is))
