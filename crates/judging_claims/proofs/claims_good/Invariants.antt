-- The scan for 21: fine up to the face it has come to.
use Rattle.std.proofs.Common.{◌≡◌}
use Rattle.model.specs.Causes.{fine, each}
use Rattle.judging_claims.specs.Tests.{claim_at}
use Rattle.judging_claims.proofs.claims_good.Given as goal

abbrev pub invariant-loop-f : goal.invariant-loop-f
invariant-loop-f l = each 21 l.f (claim_at l.seconds l.fluxes l.carried l.claim) ≡ fine
