-- Each face that is passed meets 7 and 8 both.
use Rattle.std.proofs.Common.{◌≡◌, get_or, pos}
use Rattle.signed.specs.Sign.{is_negative, size}
use Rattle.model.specs.Causes.{fine, each, outside_fit, flux_fit}
use Rattle.check_water.proofs.faces_fit.Given as goal

abbrev pub invariant-loop-f : goal.invariant-loop-f
invariant-loop-f l =
    (each 7 l.f (λ k. outside_fit (get_or l.seconds k 0) (is_negative (get_or l.fluxes k (pos 0))) (get_or l.outsides k 0)) ≡ fine)
    × (each 8 l.f (λ k. flux_fit l.most (get_or l.seconds k 0) (get_or l.reaches k 0) (size (get_or l.fluxes k (pos 0)))) ≡ fine)
