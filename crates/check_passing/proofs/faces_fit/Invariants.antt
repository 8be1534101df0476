-- Each turn tests one face and counts its flux: the faces passed are fine, and the sums are theirs.
use Rattle.check_passing.specs.Passing.{FacesFine, SumsAre}
use Rattle.check_passing.proofs.faces_fit.Given as goal

abbrev pub invariant-loop-f : goal.invariant-loop-f
invariant-loop-f l = record {
  fine : FacesFine l.cells l.f l.firsts l.seconds l.shares l.reaches l.fluxes l.outsides;
  sums : SumsAre l.cells l.f l.firsts l.seconds l.fluxes l.sums;
}
