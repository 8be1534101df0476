-- `stepped`: the counted part of the next masses is what the step left there; copied, it is the field whose total is printed.
use Rattle.std.proofs.lemmas.Result.{err_from_is_err_and}
use Rattle.model.proofs.Parts.{part-long}
use Rattle.taking.proofs.StepLaws.{step-refused, nexts-part, copy-asks, sum-asks, step-done}
use Rattle.taking_records.proofs.step.stepped.Goals as goal

pub returns-in_err-crossing : goal.returns-in_err-crossing
returns-in_err-crossing c =
    let p = err_from_is_err_and c.from_residual.result c.from_residual.ensures.1 in
    rw (p.1, p.2) (step-refused c.step_in.ensures c.requires.next_len.0 c.requires.next_len.1 c.requires.next_len.2 c.in_err-crossing.was)

pub slice_bounds-copy-end : goal.slice_bounds-copy-end
slice_bounds-copy-end c = (nexts-part c.step_in.ensures c.in_ok-crossing.was).fits

pub slice_bounds-copy-end-2 : goal.slice_bounds-copy-end-2
slice_bounds-copy-end-2 c = part-long (nexts-part c.step_in.ensures c.in_ok-crossing.was)

pub copy-requires : goal.copy-requires
copy-requires c = copy-asks c.step_in.ensures c.in_ok-crossing.was

pub sum_of-requires : goal.sum_of-requires
sum_of-requires c = sum-asks c.step_in.ensures c.in_ok-crossing.was c.copy.ensures

pub returns : goal.returns
returns c = step-done c.step_in.ensures c.requires.next_len.0 c.requires.next_len.1 c.requires.next_len.2 c.in_ok-crossing.was c.copy.ensures c.sum_of.ensures
