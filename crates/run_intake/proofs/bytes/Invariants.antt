-- The buffer keeps its length, and what has come ends within what is asked for.
use Rattle.std.proofs.Common.{◌-◌, ◌≤◌, ◌≡◌, length, take}
use Rattle.run_intake.proofs.bytes.Given as goal

abbrev pub invariant-loop-at : goal.invariant-loop-at
invariant-loop-at l =
    (length l.buffer ≡ length l.initial.buffer) × (l.from ≤ l.at) × (l.at ≤ l.to) × (take l.from l.buffer ≡ take l.from l.initial.buffer)

abbrev pub decreases-loop-at : goal.decreases-loop-at
decreases-loop-at l = l.to - l.at
