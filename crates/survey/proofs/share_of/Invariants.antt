-- At each turn k / 256 is not above the ratio.
use Rattle.std.proofs.Common.{◌≡◌, true}
use Rattle.survey.specs.Survey.{not_above}
use Rattle.survey.proofs.share_of.Given as goal

abbrev pub invariant-loop-k : goal.invariant-loop-k
invariant-loop-k l = not_above l.k l.ratio ≡ true
