-- A turn takes the passes' state from f faces to f + 1.
use Rattle.step_carrying.specs.Carrying.{step_through, CarriedFrom}
use Rattle.step_carrying.proofs.carry.Given as goal

abbrev pub invariant-loop-f : goal.invariant-loop-f
invariant-loop-f l =
    CarriedFrom (step_through l.cells l.faces l.firsts l.seconds l.shares l.reaches l.fluxes l.outsides) 0 0 0 l.initial.next l.initial.moved l.initial.work
    l.f l.so_far.entered l.so_far.gone l.next l.moved l.work
