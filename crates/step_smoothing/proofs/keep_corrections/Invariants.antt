-- Each turn leaves a face's correction as the smoothing has it; the faces not yet come to keep theirs.
use Rattle.step_smoothing.specs.Corrections.{ends_of}
use Rattle.step_smoothing.specs.Smoothing.{KeptTo}
use Rattle.step_smoothing.proofs.keep_corrections.Given as goal

abbrev pub invariant-loop-f : goal.invariant-loop-f
invariant-loop-f l = KeptTo (ends_of l.cells l.faces l.firsts l.seconds) l.initial.work l.f l.work
