-- The mesh that is taken is accepted, so that its values are not judged again at each step.
use Rattle.run.proofs.Kept.{kept-values}
use Rattle.run.proofs.main.Goals as goal

pub run_on-requires-clause-reaches_value : goal.run_on-requires-clause-reaches_value
run_on-requires-clause-reaches_value c = kept-values _ c.take_mesh-answer.ensures c.in-Ok.is
