-- The scan for 8: fine up to the face it has come to.
use Rattle.std.proofs.Common.{◌≡◌, get_or, pos}
use Rattle.signed.specs.Sign.{size}
use Rattle.model.specs.Causes.{fine, each, flux_fit}
use Rattle.check_water.proofs.fluxes_good.Given as goal

abbrev pub invariant-loop-f : goal.invariant-loop-f
invariant-loop-f l = each 8 l.f (λ k. flux_fit l.most (get_or l.seconds k 0) (get_or l.reaches k 0) (size (get_or l.fluxes k (pos 0)))) ≡ fine
