-- Each call does what its promise says, and S-12 says of the definitions what is claimed of the calls.
use Prim.Native.Nat.{ℕ}
use mathlib.Core.Path.{◌≡◌, sym, ◌∙◌}
use mathlib.Core.List.{List}
use lib.IntN.{ℤ}
use Rattle.model.specs.Causes.{accepted, fine}
use Rattle.model.proofs.Verdicts.{accepted-of}
use Rattle.cutting_parts.specs.Cut.{Tables, Lagoon, lagoon_of, part_of}
use Rattle.cutting_parts.specs.Refusals.{Sizes, sizes_of, cut_verdict, cut_answer}
use Rattle.cutting_parts.specs.Parts.{plain_next, plain_moved, PartSteps}
use Rattle.cutting_parts.proofs.Parts.{s12}
use Rattle.cutting.specs.Promise.{cut_said}
use Rattle.cutting_steps.specs.Calls.{CutCalled, Stepped, EachStepAgrees, S12Calls}

module _ (L : Lagoon) (labels : List ℕ) (nexts : List ℕ) (moveds : List ℤ) (work : List ℕ) (a : Stepped L nexts moveds work) where
  -- a step on what is the part, by whatever name
  agrees : (p : ℕ) (lent : Tables) (part : Lagoon) → part ≡ part_of L labels p lent
      → PartSteps L labels (plain_next L nexts moveds work) (plain_moved L nexts moveds work) p lent → EachStepAgrees L labels a.next a.moved p part
  agrees p lent part e law = rw e (λ nexts' moveds' work' room b.
      let c = law nexts' moveds' work' room in
      record {
        part_accepted = b.promised.answer ∙ c.part_accepted;
        next_masses = b.promised.next_masses ∙ rw a.promised.next_masses c.next_masses;
        moved_masses = b.promised.moved_masses ∙ rw a.promised.moved_masses c.moved_masses;
      })

module _ (L : Lagoon) (labels : List ℕ) (lent₀ lent₁ : Tables) (d : CutCalled L labels lent₀ lent₁) (s : Sizes) (given : cut_said d.answer ≡ accepted s) where
  found : (cut_verdict L labels lent₀ lent₁ ≡ fine) × (s ≡ sizes_of L labels)
  unfolding cut_answer
  found = accepted-of (cut_verdict L labels lent₀ lent₁) (sizes_of L labels) s (sym given ∙ d.promised.answer)

  left-0 : lagoon_of s.cells₀ s.faces₀ d.tables₀ ≡ part_of L labels 0 lent₀
  left-0 = rw (found.1, d.promised.part_0, found.0)

  left-1 : lagoon_of s.cells₁ s.faces₁ d.tables₁ ≡ part_of L labels 1 lent₁
  left-1 = rw (found.1, d.promised.part_1, found.0)

pub s12-calls : S12Calls
s12-calls L labels lent₀ lent₁ d s given nexts moveds work a x accepted-whole =
    let law = s12 L labels lent₀ lent₁ (found L labels lent₀ lent₁ d s given).0 nexts moveds work x (sym a.promised.answer ∙ accepted-whole) in (
      agrees L labels nexts moveds work a 0 lent₀ _ (left-0 L labels lent₀ lent₁ d s given) law.0,
      agrees L labels nexts moveds work a 1 lent₁ _ (left-1 L labels lent₀ lent₁ d s given) law.1,
    )
