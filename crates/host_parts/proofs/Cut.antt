-- What the call on tables keeps, a host in C is answered.
use Prim.Native.Nat.{ℕ, ◌^◌, ◌<◌}
use mathlib.Core.List.{List}
use Rattle.cutting.specs.Promise.{cut_said, CutPromise}
use Rattle.cutting_parts.specs.Cut.{Tables, Lagoon}
use Rattle.host_answer.specs.Number.{number_of}
use Rattle.host_answer.specs.Found.{Answered}
use Rattle.host_answer.proofs.Answers.{fits-as, answered-as}
use Rattle.host_parts.specs.Parts.{counted, CutFromC}
use Rattle.host_parts.proofs.Small.{cut-answer-small}
use Rattle.std.specs.Prelude.{Result}
use Rattle.model.specs.declared.Refusal.{Refusal}
use Rattle.cutting.specs.declared.Counts.{Counts}

module _ (L : Lagoon) (labels : List ℕ) (lent₀ lent₁ : Tables) (a : Result Counts Refusal) (after₀ after₁ : Tables)
    (kept : CutPromise L labels lent₀ lent₁ a after₀ after₁) where
  pub number_fits : number_of (cut_said a) < 2 ^ 64
  number_fits = fits-as kept.answer (cut-answer-small L labels lent₀ lent₁)

  pub from-c : (found : List ℕ) (r : ℕ) (found' : List ℕ) → Answered counted (cut_said a) found r found'
      → CutFromC L labels lent₀ lent₁ found r after₀ after₁ found'
  from-c found r found' x = record { answer = answered-as counted found kept.answer x; part_0 = kept.part_0; part_1 = kept.part_1 }
