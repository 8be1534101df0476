-- A refusal by a cause of the papers and a place below 2 ^ 32: its number fits into 64 bits, and a host can take it apart. What a call finds
-- is put together of needs, scans and parts one after another, and so is the law that its refusals are of this kind.
use Prim.Native.Nat.{ℕ, zero, suc, ◌^◌, ◌≤◌, ◌<◌}
use mathlib.Core.Path.{◌≡◌, refl}
use mathlib.Core.Bool.{Bool, true, false}
use mathlib.Core.List.{List, [], ◌∷◌}
use native.Mathlib.Omega.{arith}
use Rattle.model.specs.Causes.{Outcome, accepted, refused, Verdict, fine, ◌and_then◌, first_of, in_turn, need, each}
use Rattle.model.proofs.Verdicts.{both-fine}
use Rattle.host_answer.specs.Number.{cause_step, refusal_number, number_of}

-- the most causes that the papers number
abbrev pub most_cause : ℕ
most_cause = 27

abbrev pub Parts : ℕ → ℕ → Type 0
Parts cause place = (1 ≤ cause) × (cause ≤ most_cause) × (place < cause_step)

abbrev pub SmallParts : {A : Type 0} → Outcome A → Type 0
SmallParts (accepted _) = Unit {0}
SmallParts (refused cause place) = Parts cause place

pub record Small {A : Type 0} (v : Outcome A) : Type 0 where
  pub parts : SmallParts v

pub small-fine : {A : Type 0} (x : A) → Small (accepted x)
small-fine x = record { parts = tt }

-- the second part where the first is fine
pub small-then : {A : Type 0} (v : Verdict) (w : Outcome A) → Small v → (v ≡ fine → Small w) → Small (v and_then w)
unfolding ◌and_then◌
small-then (accepted t) w s f = f refl
small-then (refused k i) w s f = record { parts = s.parts }

pub small-and : {A : Type 0} {v : Verdict} {w : Outcome A} → Small v → Small w → Small (v and_then w)
small-and {v = v} {w = w} s t = small-then v w s (λ e. t)

pub small-need : (k i : ℕ) (b : Bool) → Parts k i → Small (need k i b)
unfolding need
small-need k i true h = record { parts = tt }
small-need k i false h = record { parts = h }

pub small-each : (k n : ℕ) (good : ℕ → Bool) → Parts k n → Small (each k n good)
unfolding each
small-each k zero good h = record { parts = tt }
small-each k (suc n) good h = small-and (small-each k n good (omega (arith, h))) (small-need k n (good n) (omega (arith, h)))

-- all of a list
abbrev pub AllSmall : List Verdict → Type 0
AllSmall [] = Unit {0}
AllSmall (v ∷ vs) = Small v × AllSmall vs

small-first : (v : Verdict) (vs : List Verdict) → Small v → (v ≡ fine → AllSmall vs) → Small (first_of v vs)
small-first v [] s f = s
small-first v (w ∷ ws) s f = small-first (v and_then w) ws (small-then v w s (λ e. (f e).0)) (λ e. (f (both-fine v w e).0).1)

-- those after the first where it is fine
abbrev pub SmallAfter : List Verdict → Type 0
SmallAfter [] = Unit {0}
SmallAfter (v ∷ vs) = Small v × (v ≡ fine → AllSmall vs)

pub small-after : (vs : List Verdict) → SmallAfter vs → Small (in_turn vs)
small-after [] a = record { parts = tt }
small-after (v ∷ vs) a = small-first v vs a.0 a.1

pub small-turn : (vs : List Verdict) → AllSmall vs → Small (in_turn vs)
small-turn [] a = record { parts = tt }
small-turn (v ∷ vs) a = small-first v vs a.0 (λ e. a.1)

-- what a call gives after what it finds
pub small-giving : {A : Type 0} {v : Verdict} (x : A) → Small v → Small (v and_then accepted x)
small-giving x s = small-and s (small-fine x)

-- its number fits
pub small-number : {A : Type 0} (v : Outcome A) → Small v → number_of v < 2 ^ 64
small-number (accepted t) s = omega arith
small-number (refused k i) s = omega (arith, s.parts)

pub refusal-fits : {A : Type 0} {v : Outcome A} {k i : ℕ} → Small v → refused k i ≡ v → refusal_number k i < 2 ^ 64
refusal-fits {A = A} {k = k} {i = i} s e = small-number {A = A} (refused k i) (rw e s)

-- and it is of one cause and one place
pub taken-apart : {A : Type 0} {v : Outcome A} {k i : ℕ} → Small v → refused k i ≡ v → Parts k i
taken-apart {A = A} {k = k} {i = i} s e = let t : Small {A = A} (refused k i) = rw e s in t.parts

-- no two have the same number, so that a host can take it apart
pub one-refusal : (cause place : ℕ) {k i : ℕ} → place < cause_step → i < cause_step → refusal_number cause place ≡ refusal_number k i → (cause ≡ k) × (place ≡ i)
one-refusal cause place h l e = (omega (arith, e), omega (arith, e))
