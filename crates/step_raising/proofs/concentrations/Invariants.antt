-- Each turn writes one cell's four entries and its next mass; the cells before it keep theirs, and those after it stay as lent.
use Rattle.model.specs.Step.{raised}
use Rattle.step_raising.specs.Raising.{Concentrations}
use Rattle.step_raising.proofs.concentrations.Given as goal

abbrev pub invariant-loop-c : goal.invariant-loop-c
invariant-loop-c l = Concentrations l.volumes (raised l.cells l.masses l.releases) l.initial.work l.c l.next l.work
