-- The number of what the step is refused for, which fits.
use Rattle.std.proofs.Common.{sym, ap, ◌∙◌}
use Rattle.model.specs.StepTaken.{taken_said}
use Rattle.host_answer.proofs.Answers.{refusal-of}
use Rattle.host_record_promises.proofs.Crossings.{found-fits}
use Rattle.host_crossing.proofs.lagoon_crossing.Goals as goal

pub number_of-requires : goal.number_of-requires
number_of-requires c =
    refusal-of (sym c.crossed-a.ensures ∙ ap taken_said c.in-Err.is) (found-fits c.args.mesh.now c.args.field.now c.args.step.now)
