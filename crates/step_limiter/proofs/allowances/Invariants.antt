-- Each turn fills a cell's entries with what its bounds allow to enter and to leave; the cells not yet come to keep theirs.
use Rattle.step_limiter.specs.Limiter.{Allowances}
use Rattle.step_limiter.proofs.allowances.Given as goal

abbrev pub invariant-loop-c : goal.invariant-loop-c
invariant-loop-c l = Allowances l.volumes l.next l.initial.work l.c l.work
