-- Refused, nothing is charged; else bands are in order, so that each part of the sum fits and cents and remainder are its quotient and rest.
use Rattle.std.proofs.Common.{arith, sym}
use Rattle.std.proofs.lemmas.Result.{err_from_is_err_and}
use Rattle.model.proofs.Verdicts.{out}
use Rattle.charge.proofs.Laws.{charge-passed, billed}
use Rattle.charge.proofs.charge.Goals as goal

pub returns-in_err-judge : goal.returns-in_err-judge
returns-in_err-judge c = let p = err_from_is_err_and c.from_residual.result c.from_residual.ensures.1 in
    rw (p.1, p.2) (sym (out _ (sym c.in_err-judge.ensures)))

pub charged-requires-clause-bands_in_bounds : goal.charged-requires-clause-bands_in_bounds
charged-requires-clause-bands_in_bounds c = let p = charge-passed _ _ _ _ _ (sym c.in_ok-judge.ensures) in (p.ends_long, p.prices_long, p.total_most)

pub charged-requires-clause-bands_value : goal.charged-requires-clause-bands_value
charged-requires-clause-bands_value c = let p = charge-passed _ _ _ _ _ (sym c.in_ok-judge.ensures) in p.bands_fine

pub overflow_add-sum : goal.overflow_add-sum
overflow_add-sum c = let p = charge-passed _ _ _ _ _ (sym c.in_ok-judge.ensures) in omega (arith, c.charged.ensures.1, p.remainder_small)

pub returns : goal.returns
returns c = billed _ _ _ _ _ (sym c.in_ok-judge.ensures) c.charged.ensures.0
