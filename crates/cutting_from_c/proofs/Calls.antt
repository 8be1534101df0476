-- Each call does what its promise says, and S-12 says of the definitions what is claimed of the calls from C.
use Prim.Native.Nat.{ℕ, ◌≤◌}
use mathlib.Core.Path.{◌≡◌, refl, sym, ap, ◌∙◌}
use mathlib.Core.List.{List, [], ◌∷◌}
use native.Mathlib.Omega.{arith}
use lib.IntN.{ℤ}
use lib.ListN.{length, get_or}
use Rattle.model.specs.Causes.{Outcome, accepted, fine, ◌and_then◌, verdict}
use Rattle.model.specs.Calls.{Crossing, step_answer}
use Rattle.model.proofs.Verdicts.{past}
use Rattle.cutting_parts.specs.Cut.{Tables, Lagoon, whole_mesh, step_on, part_of}
use Rattle.cutting_parts.specs.Refusals.{Sizes, sizes_of, cut_verdict, cut_answer}
use Rattle.cutting_parts.specs.Parts.{plain_answer, plain_crossing, plain_next, plain_moved, PartSteps}
use Rattle.cutting_parts.proofs.Parts.{s12}
use Rattle.host_answer.specs.Number.{number_of}
use Rattle.host_answer.specs.Found.{filled, found_by}
use Rattle.host_answer.specs.Steps.{crossed}
use Rattle.host_answer.proofs.Tables.{verdict-small}
use Rattle.host_parts.specs.Parts.{counted}
use Rattle.host_parts.proofs.Small.{cut-answer-small}
use Rattle.promises.proofs.Numbers.{said-giving, small-before}
use Rattle.cutting_from_c.specs.Calls.{CutCalled, part₀, part₁, Stepped, EachStepAgrees, S12FromC}

-- the four counts, where there is room for them
pub record AllFour (n : Sizes) (xs : List ℕ) : Type 0 where
  pub cells₀_there : get_or xs 0 0 ≡ n.cells₀
  pub faces₀_there : get_or xs 1 0 ≡ n.faces₀
  pub cells₁_there : get_or xs 2 0 ≡ n.cells₁
  pub faces₁_there : get_or xs 3 0 ≡ n.faces₁

four-there : (n : Sizes) (found : List ℕ) → 4 ≤ length found → AllFour n (filled (counted n) found)
unfolding filled
four-there n [] h = absurd (omega arith)
four-there n (a ∷ []) h = absurd (omega arith)
four-there n (a ∷ b ∷ []) h = absurd (omega arith)
four-there n (a ∷ b ∷ c ∷ []) h = absurd (omega arith)
four-there n (a ∷ b ∷ c ∷ d ∷ found) h = record { cells₀_there = refl; faces₀_there = refl; cells₁_there = refl; faces₁_there = refl }

module _ (L : Lagoon) (labels : List ℕ) (nexts : List ℕ) (moveds : List ℤ) (work : List ℕ) (a : Stepped L nexts moveds work) where
  -- a step that answers 0 is accepted
  whole-accepted : a.number ≡ 0 → plain_answer L nexts moveds work ≡ accepted (plain_crossing L nexts moveds work)
  unfolding step_answer
  whole-accepted zero = past _ (sym (said-giving (verdict (whole_mesh L) L.tables.masses (step_on L nexts moveds work))
      (plain_crossing L nexts moveds work) 0 (sym zero ∙ a.promised.answer.number)
      (verdict-small (whole_mesh L) L.tables.masses (step_on L nexts moveds work))))

  -- a step on what is the part, by whatever name
  agrees : (p : ℕ) (lent : Tables) (part : Lagoon) → part ≡ part_of L labels p lent
      → PartSteps L labels (plain_next L nexts moveds work) (plain_moved L nexts moveds work) p lent → EachStepAgrees L labels a.next a.moved p part
  agrees p lent part e law = rw e (λ nexts' moveds' work' room b.
      let c = law nexts' moveds' work' room in
      record {
        part_accepted = b.promised.answer.number ∙ ap number_of c.part_accepted;
        part_told = b.promised.answer.found-after ∙ ap (λ (o : Outcome Crossing). found_by crossed o b.found) c.part_accepted;
        next_masses = b.promised.next_masses ∙ rw a.promised.next_masses c.next_masses;
        moved_masses = b.promised.moved_masses ∙ rw a.promised.moved_masses c.moved_masses;
      })

module _ (L : Lagoon) (labels : List ℕ) (lent₀ lent₁ : Tables) (d : CutCalled L labels lent₀ lent₁) (zero : d.number ≡ 0) where
  cut-fine : cut_verdict L labels lent₀ lent₁ ≡ fine
  unfolding cut_answer
  cut-fine = sym (said-giving (cut_verdict L labels lent₀ lent₁) (sizes_of L labels) 0 (sym zero ∙ d.promised.answer.number)
      (small-before (cut_verdict L labels lent₀ lent₁) (sizes_of L labels) (cut-answer-small L labels lent₀ lent₁)))

  told : AllFour (sizes_of L labels) d.found_after
  unfolding cut_answer ◌and_then◌
  told =
      let f : d.found_after ≡ filled (counted (sizes_of L labels)) d.found = d.promised.answer.found-after ∙ rw cut-fine in
      rw f (four-there (sizes_of L labels) d.found d.room)

  left-0 : part₀ L labels lent₀ lent₁ d ≡ part_of L labels 0 lent₀
  left-0 = rw (told.cells₀_there, told.faces₀_there, d.promised.part_0, cut-fine)

  left-1 : part₁ L labels lent₀ lent₁ d ≡ part_of L labels 1 lent₁
  left-1 = rw (told.cells₁_there, told.faces₁_there, d.promised.part_1, cut-fine)

pub s12-from-c : S12FromC
s12-from-c L labels lent₀ lent₁ d cut-zero nexts moveds work a step-zero =
    let law = s12 L labels lent₀ lent₁ (cut-fine L labels lent₀ lent₁ d cut-zero) nexts moveds work (plain_crossing L nexts moveds work)
    (whole-accepted L labels nexts moveds work a step-zero) in (
      agrees L labels nexts moveds work a 0 lent₀ _ (left-0 L labels lent₀ lent₁ d cut-zero) law.0,
      agrees L labels nexts moveds work a 1 lent₁ _ (left-1 L labels lent₀ lent₁ d cut-zero) law.1,
    )
