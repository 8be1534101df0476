-- Document 02, S-12, as a host in C does it: `lagoon_table_cut`, `lagoon_table_plain_step` on the whole, and on each part, lent the counts that the
-- host found and the tables that the cutting left.
use Rattle.std.specs.Prelude.{ℕ, ◌≤◌, ◌≡◌, List, ℤ, pos, length, get_or}
use Rattle.signed.specs.Sign.{turn}
use Rattle.model.specs.Calls.{mass_in, plain}
use Rattle.cutting_parts.specs.Cut.{Tables, Lagoon, lagoon_of, whole_mesh, step_on, is_turned, by_cell, by_face}
use Rattle.cutting_parts.specs.Parts.{plain_crossing, LentAtCounts}
use Rattle.host_answer.specs.Found.{filled}
use Rattle.host_answer.specs.Steps.{crossed, StepFromC}
use Rattle.host_parts.specs.Parts.{CutFromC}

-- A call of the cutting: the entries lent for what is found, before and after, with room for the four counts; its number; and what it leaves in
-- the tables of each part.
pub record CutCalled (L : Lagoon) (labels : List ℕ) (lent₀ lent₁ : Tables) : Type 0 where
  pub found : List ℕ
  pub number : ℕ
  pub tables₀ : Tables
  pub tables₁ : Tables
  pub found_after : List ℕ
  pub room : 4 ≤ length found
  pub promised : CutFromC L labels lent₀ lent₁ found number tables₀ tables₁ found_after

-- the parts, by the counts that the host has found
abbrev pub part₀ : (L : Lagoon) (labels : List ℕ) (lent₀ lent₁ : Tables) → CutCalled L labels lent₀ lent₁ → Lagoon
part₀ L labels lent₀ lent₁ d = lagoon_of (get_or d.found_after 0 0) (get_or d.found_after 1 0) d.tables₀

abbrev pub part₁ : (L : Lagoon) (labels : List ℕ) (lent₀ lent₁ : Tables) → CutCalled L labels lent₀ lent₁ → Lagoon
part₁ L labels lent₀ lent₁ d = lagoon_of (get_or d.found_after 2 0) (get_or d.found_after 3 0) d.tables₁

-- a call of the plain step on a lagoon, and what it leaves in its tables
pub record Stepped (L : Lagoon) (nexts : List ℕ) (moveds : List ℤ) (work : List ℕ) : Type 0 where
  pub found : List ℕ
  pub number : ℕ
  pub next : List ℕ
  pub moved : List ℤ
  pub worked : List ℕ
  pub found_after : List ℕ
  pub promised : StepFromC plain (whole_mesh L) L.tables.masses (step_on L nexts moveds work) found number next moved worked found_after

-- The step on part p of L, beside the whole's that left `next` and `moved`: it answers 0 and tells the part's crossing, with the whole's masses at the
-- old numbers, a turned face's negated.
pub record StepAgrees (L : Lagoon) (labels : List ℕ) (p : ℕ) (next : List ℕ) (moved : List ℤ) (part : Lagoon)
    (nexts : List ℕ) (moveds : List ℤ) (work : List ℕ) (b : Stepped part nexts moveds work) : Type 0 where
  pub part_accepted : b.number ≡ 0
  pub part_told : b.found_after ≡ filled (crossed (plain_crossing part nexts moveds work)) b.found
  pub next_masses : b.next ≡ by_cell L labels p (mass_in next) nexts
  pub moved_masses : b.moved ≡ by_face L labels p (λ f. turn (is_turned L labels p f) (get_or moved f (pos 0))) moveds

module _ (L : Lagoon) (labels : List ℕ) (next : List ℕ) (moved : List ℤ) where
  abbrev pub EachStepAgrees : ℕ → Lagoon → Type 0
  EachStepAgrees p part = (nexts : List ℕ) (moveds : List ℤ) (work : List ℕ) → LentAtCounts part nexts moveds work
      → (b : Stepped part nexts moveds work) → StepAgrees L labels p next moved part nexts moveds work b

-- S-12: a cutting and a plain step on the whole that both answer 0, and any plain steps on the parts
abbrev pub S12FromC : Type 0
S12FromC = (L : Lagoon) (labels : List ℕ) (lent₀ lent₁ : Tables) (d : CutCalled L labels lent₀ lent₁) → d.number ≡ 0
    → (nexts : List ℕ) (moveds : List ℤ) (work : List ℕ) (a : Stepped L nexts moveds work) → a.number ≡ 0
    → EachStepAgrees L labels a.next a.moved 0 (part₀ L labels lent₀ lent₁ d)
    × EachStepAgrees L labels a.next a.moved 1 (part₁ L labels lent₀ lent₁ d)
