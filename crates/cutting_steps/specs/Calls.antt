-- Document 02, S-12, of the code: a call that cuts a lagoon, the plain step on the whole, and the plain step on each part, lent the counts and the
-- tables that the cutting left, each as its promise says.
use Rattle.std.specs.Prelude.{ℕ, ◌≡◌, List, ℤ, pos, get_or, Result}
use Rattle.signed.specs.Sign.{turn}
use Rattle.model.specs.Causes.{accepted}
use Rattle.model.specs.Calls.{mass_in, Crossing, plain}
use Rattle.transport.specs.Promise.{step_said, StepPromise}
use Rattle.cutting_parts.specs.Cut.{Tables, Lagoon, lagoon_of, whole_mesh, step_on, is_turned, by_cell, by_face}
use Rattle.cutting_parts.specs.Refusals.{Sizes}
use Rattle.cutting_parts.specs.Parts.{plain_crossing, LentAtCounts}
use Rattle.cutting.specs.Promise.{cut_said, CutPromise}
use Rattle.model.specs.declared.Refusal.{Refusal}
use Rattle.cutting.specs.declared.Counts.{Counts}
use Rattle.transport.specs.declared.Crossed.{Crossed}

-- a call of the cutting, and what it leaves in the tables of each part
pub record CutCalled (L : Lagoon) (labels : List ℕ) (lent₀ lent₁ : Tables) : Type 0 where
  pub answer : Result Counts Refusal
  pub tables₀ : Tables
  pub tables₁ : Tables
  pub promised : CutPromise L labels lent₀ lent₁ answer tables₀ tables₁

-- a call of the plain step on a lagoon, and what it leaves in its tables
pub record Stepped (L : Lagoon) (nexts : List ℕ) (moveds : List ℤ) (work : List ℕ) : Type 0 where
  pub answer : Result Crossed Refusal
  pub next : List ℕ
  pub moved : List ℤ
  pub worked : List ℕ
  pub promised : StepPromise plain (whole_mesh L) L.tables.masses (step_on L nexts moveds work) answer next moved worked

-- The step on part p of L, beside the whole's that left `next` and `moved`: accepted, with the whole's masses at the old numbers, a turned face's negated.
pub record StepAgrees (L : Lagoon) (labels : List ℕ) (p : ℕ) (next : List ℕ) (moved : List ℤ) (part : Lagoon)
    (nexts : List ℕ) (moveds : List ℤ) (work : List ℕ) (b : Stepped part nexts moveds work) : Type 0 where
  pub part_accepted : step_said b.answer ≡ accepted (plain_crossing part nexts moveds work)
  pub next_masses : b.next ≡ by_cell L labels p (mass_in next) nexts
  pub moved_masses : b.moved ≡ by_face L labels p (λ f. turn (is_turned L labels p f) (get_or moved f (pos 0))) moveds

module _ (L : Lagoon) (labels : List ℕ) (next : List ℕ) (moved : List ℤ) where
  abbrev pub EachStepAgrees : ℕ → Lagoon → Type 0
  EachStepAgrees p part = (nexts : List ℕ) (moveds : List ℤ) (work : List ℕ) → LentAtCounts part nexts moveds work
      → (b : Stepped part nexts moveds work) → StepAgrees L labels p next moved part nexts moveds work b

-- S-12: a cutting that gives the sizes s, a plain step on the whole that is accepted, and any plain steps on the parts
abbrev pub S12Calls : Type 0
S12Calls = (L : Lagoon) (labels : List ℕ) (lent₀ lent₁ : Tables) (d : CutCalled L labels lent₀ lent₁) (s : Sizes) → cut_said d.answer ≡ accepted s
    → (nexts : List ℕ) (moveds : List ℤ) (work : List ℕ) (a : Stepped L nexts moveds work) (x : Crossing) → step_said a.answer ≡ accepted x
    → EachStepAgrees L labels a.next a.moved 0 (lagoon_of s.cells₀ s.faces₀ d.tables₀)
    × EachStepAgrees L labels a.next a.moved 1 (lagoon_of s.cells₁ s.faces₁ d.tables₁)
