-- The total of records: a refusal of the records is the answer; of records that pass, the field's total.
use Prim.Native.Nat.{ℕ}
use mathlib.Core.Path.{◌≡◌, sym, ap, ◌∙◌}
use mathlib.Core.List.{List}
use Rattle.model.specs.Causes.{accepted, ◌and_then◌}
use Rattle.model.specs.Answers.{number}
use Rattle.model.specs.declared.Refusal.{Refusal}
use Rattle.model.proofs.Verdicts.{past, out}
use Rattle.host_answer.specs.Number.{refusal_number}
use Rattle.host_answer.specs.Found.{filled, alone, Answered}
use Rattle.host_answer.proofs.Answers.{answered-refused, answered-found}
use Rattle.host_tested.specs.Tested.{field_tested}
use Rattle.host_taking.specs.Taken.{taken_in, field_taken_said}
use Rattle.host_taking.specs.declared.FieldCounts.{FieldCounts}
use Rattle.host_taking.proofs.Held.{untaken, tested-fine, total-is}
use Rattle.host_record_promises.specs.Cells.{total_found}
use Rattle.std.specs.Prelude.{Result, Ok, Err}

module _ (mesh field : List ℕ) {a : Result FieldCounts Refusal} (t : field_taken_said a ≡ (field_tested mesh field and_then accepted (taken_in mesh field))) (found : List ℕ) where
  pub total-untaken : {q : Refusal} → a ≡ Err q → {r : ℕ} → r ≡ refusal_number (number q.cause) q.place
      → Answered alone (total_found mesh field) found r found
  total-untaken d n = answered-refused alone found (out _ (untaken mesh field t d)) n

  pub total-taken : {n : FieldCounts} → a ≡ Ok n → {found' : List ℕ} → found' ≡ filled (alone n.total) found
      → Answered alone (total_found mesh field) found 0 found'
  total-taken d e = answered-found alone found (past _ (tested-fine mesh field t d) ∙ ap accepted (sym (total-is mesh field t d))) e
