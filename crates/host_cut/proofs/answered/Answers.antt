-- The six numbers are put in their order.
use Rattle.std.proofs.Common.{ap, [], ◌∷◌}
use Rattle.host_answer.proofs.Answers.{answered-found}
use Rattle.host_answer.proofs.Fills.{filled_on}
use Rattle.host_cut_promises.specs.Cut.{lengths_found}
use Rattle.host_cut_promises.specs.Inner.{cut_said}
use Rattle.host_cut.proofs.answered.Goals as goal

pub returns-in-Ok : goal.returns-in-Ok
returns-in-Ok c = answered-found lengths_found _ (ap cut_said c.in-Ok.is)
    (rw (c.put-in-Ok.ensures, c.put.ensures, c.fill4.ensures, filled_on (_ ∷ _ ∷ _ ∷ _ ∷ []) _ _) (filled_on (_ ∷ _ ∷ _ ∷ _ ∷ _ ∷ []) _ _))
