-- The scan for 7: fine up to the face it has come to.
use Rattle.std.proofs.Common.{◌≡◌, get_or, pos}
use Rattle.signed.specs.Sign.{is_negative}
use Rattle.model.specs.Causes.{fine, each, outside_fit}
use Rattle.check_water.proofs.outsides_good.Given as goal

abbrev pub invariant-loop-f : goal.invariant-loop-f
invariant-loop-f l = each 7 l.f
    (λ k. outside_fit (get_or l.seconds k 0) (is_negative (get_or l.fluxes k (pos 0))) (get_or l.outsides k 0)) ≡ fine
