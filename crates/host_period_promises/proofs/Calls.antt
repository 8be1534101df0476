-- What each of these calls answers in C, from what the call on tables promises: the tables are those, and its answer is a number.
use Prim.Native.Nat.{ℕ}
use mathlib.Core.Path.{◌≡◌, ap, ◌∙◌}
use mathlib.Core.List.{List}
use lib.IntN.{ℤ}
use Rattle.model.specs.Causes.{Outcome, accepted, ◌and_then◌}
use Rattle.model.specs.Answers.{said}
use Rattle.charge_totals.specs.Totals.{AddPromise}
use Rattle.charge.specs.Answers.{Bill, charge_verdict, bill_of}
use Rattle.store.specs.Calls.{KeepPromise, DropPromise, ReturnPromise}
use Rattle.host_answer.specs.Number.{number_of}
use Rattle.host_answer.specs.Found.{Answered}
use Rattle.host_answer.proofs.Answers.{answered-as}
use Rattle.host_period_promises.specs.Period.{billed, AddFromC, ChargeFromC}
use Rattle.host_period_promises.specs.Kept.{KeepFromC, DropFromC, ReturnFromC}
use Rattle.std.specs.Prelude.{Result}
use Rattle.model.specs.declared.Refusal.{Refusal}

pub charge-from-c : (ends prices : List ℕ) (total bands remainder : ℕ) {o : Outcome Bill} {found : List ℕ} {r : ℕ} {found' : List ℕ}
    → o ≡ (charge_verdict ends prices total bands remainder and_then accepted (bill_of ends prices total bands remainder)) → Answered billed o found r found'
    → ChargeFromC ends prices total bands remainder found r found'
charge-from-c ends prices total bands remainder {found = found} h x = answered-as billed found h x

-- the answers that are a number alone
module _ {a : Result (Unit {0}) Refusal} {r : ℕ} (n : r ≡ number_of (said a)) where
  pub add-from-c : {seconds : List ℕ} {moved : List ℤ} {totals totals' : List ℕ} {faces : ℕ} → AddPromise seconds moved totals faces a totals'
      → AddFromC seconds moved totals faces r totals'
  add-from-c h = record { number = n ∙ ap number_of h.answer; totals-after = h.totals-after }

  pub keep-from-c : {cells : ℕ} {volumes masses store : List ℕ} {name : ℕ} {store' : List ℕ} → KeepPromise cells volumes masses store name a store'
      → KeepFromC cells volumes masses store name r store'
  keep-from-c h = record { number = n ∙ ap number_of h.answer; store_is = h.store_is }

  pub drop-from-c : {cells : ℕ} {store : List ℕ} {name : ℕ} {store' : List ℕ} → DropPromise cells store name a store' → DropFromC cells store name r store'
  drop-from-c h = record { number = n ∙ ap number_of h.answer; store_is = h.store_is }

  pub return-from-c : {cells : ℕ} {volumes masses store : List ℕ} {name : ℕ} {masses' : List ℕ} → ReturnPromise cells volumes masses store name a masses'
      → ReturnFromC cells volumes masses store name r masses'
  return-from-c h = record { number = n ∙ ap number_of h.answer; masses_are = h.masses_are }
