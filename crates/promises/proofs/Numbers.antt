-- The number that a call from C answers, taken apart: what was found is said by it, since every cause and every place is small.
use Prim.Native.Nat.{ℕ, ◌+◌, ◌*◌, ◌/◌, ◌%◌, ◌≤◌, ◌<◌}
use mathlib.Core.Path.{◌≡◌}
use native.Mathlib.Omega.{arith}
use borrow.Author.Tests.{ne_eqb}
use Rattle.model.specs.Causes.{accepted, refused, Verdict, ◌and_then◌}
use Rattle.host_answer.specs.Number.{cause_step, number_of}
use Rattle.host_answer.proofs.Small.{Small, small-fine}
use Rattle.promises.specs.Steps.{host_said}

-- the verdict that a number was made from
number-apart : (n cause place : ℕ) → n ≡ cause_step * cause + place → 1 ≤ cause → place < cause_step → host_said n ≡ refused cause place
number-apart n cause place e some less =
    let c : n / cause_step ≡ cause = omega (arith, e, less) in
    let p : n % cause_step ≡ place = omega (arith, e, less) in
    rw (ne_eqb n 0 (omega (arith, e, some)), c, p)

pub said_of : (v : Verdict) (n : ℕ) → n ≡ number_of v → Small v → host_said n ≡ v
said_of (accepted t) n e s = rw e
said_of (refused i j) n e s = number-apart n i j e s.parts.0 s.parts.2

-- the same of a call that gives something where nothing is found
pub said-giving : {A : Type 0} (v : Verdict) (x : A) (n : ℕ) → n ≡ number_of (v and_then accepted x) → Small v → host_said n ≡ v
unfolding ◌and_then◌
said-giving (accepted t) x n e s = rw e
said-giving (refused i j) x n e s = number-apart n i j e s.parts.0 s.parts.2

-- what is found is small where what is given after it is
pub small-before : {A : Type 0} (u : Verdict) (x : A) → Small (u and_then accepted x) → Small u
unfolding ◌and_then◌
small-before (accepted t) x s = small-fine t
small-before (refused i j) x s = record { parts = s.parts }
