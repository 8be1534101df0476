-- How a call's answer becomes its number and what it finds: the same for every kind of answer.
use Prim.Native.Nat.{ℕ, ◌^◌, ◌<◌}
use mathlib.Core.Path.{◌≡◌, sym, ap, ◌∙◌}
use mathlib.Core.List.{List}
use Rattle.model.specs.Causes.{Outcome, accepted, refused}
use Rattle.host_answer.specs.Number.{refusal_number, number_of}
use Rattle.host_answer.specs.Found.{filled, found_by, Answered}
use Rattle.host_answer.proofs.Small.{Small, small-number}

-- the number of an outcome fits, and so does that of the refusal that it is
pub refusal-of : {A : Type 0} {o : Outcome A} {k i : ℕ} → o ≡ refused k i → number_of o < 2 ^ 64 → refusal_number k i < 2 ^ 64
refusal-of e h = rw e at h

pub answered-refused : {A : Type 0} (numbers : A → List ℕ) {o : Outcome A} {k i : ℕ} (found : List ℕ) {r : ℕ} → o ≡ refused k i → r ≡ refusal_number k i
    → Answered numbers o found r found
answered-refused numbers found e n = record { number = n ∙ sym (ap number_of e); found-after = sym (ap (λ o. found_by numbers o found) e) }

pub answered-found : {A : Type 0} (numbers : A → List ℕ) {o : Outcome A} {x : A} (found : List ℕ) {found' : List ℕ} → o ≡ accepted x
    → found' ≡ filled (numbers x) found
    → Answered numbers o found 0 found'
answered-found numbers found e n = record { number = sym (ap number_of e); found-after = n ∙ sym (ap (λ o. found_by numbers o found) e) }

-- an outcome that is one of small places
pub fits-as : {A : Type 0} {o p : Outcome A} → o ≡ p → Small p → number_of o < 2 ^ 64
fits-as {p = p} e s = rw e (small-number p s)

-- what the call underneath says is what it comes to
pub answered-as : {A : Type 0} (numbers : A → List ℕ) {o p : Outcome A} (found : List ℕ) {r : ℕ} {found' : List ℕ} → o ≡ p
    → Answered numbers o found r found' → Answered numbers p found r found'
answered-as numbers found e a = record { number = a.number ∙ ap number_of e; found-after = a.found-after ∙ ap (λ o. found_by numbers o found) e }
