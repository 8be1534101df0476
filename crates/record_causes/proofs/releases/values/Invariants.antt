-- A scan for the first cell whose release its field does not hold: those before it do.
use Rattle.std.proofs.Common.{◌≡◌, get_or}
use Rattle.model.specs.Causes.{fine, each}
use Rattle.record_layouts.specs.Layouts.{kind_number}
use Rattle.record_causes.specs.Verdicts.{release_fits}
use Rattle.record_causes.proofs.releases.values.Given as goal

abbrev pub invariant-loop-c : goal.invariant-loop-c
invariant-loop-c l = each 18 l.c (λ k. release_fits (kind_number l.width l.kind) (get_or l.releases k 0)) ≡ fine
