-- Each turn cuts a face's correction to what its two cells allow, and moves it: next and moved stay those of the faces passed.
use Rattle.step_smoothing.specs.Corrections.{ends_of}
use Rattle.step_limiter.specs.Limiter.{Limited}
use Rattle.step_limiter.proofs.limit.Given as goal

abbrev pub invariant-loop-f : goal.invariant-loop-f
invariant-loop-f l = Limited (ends_of l.cells l.faces l.firsts l.seconds) l.work l.initial.next l.initial.moved l.f l.next l.moved
