-- Document 02, S-4: lists of step calls and of calls on a store, as they were made, from Rattle or from C. Demand 3 about every such list, whose
-- budget starts anew at each return; and that a kept field comes back.
use Rattle.std.specs.Prelude.{ℕ, ◌+◌, ◌<◌, ◌≡◌, ◌≢◌, List, [], ◌∷◌, ◌++◌, take, replicate, Result}
use Rattle.lists.specs.Table.{table, over}
use Rattle.model.specs.Mesh.{Mesh}
use Rattle.model.specs.Causes.{Outcome, accepted, Verdict, fine, granted, ◌and_then◌, mesh_verdict, field_verdict}
use Rattle.model.specs.Answers.{said}
use Rattle.model.specs.Calls.{mass_in, lent_masses, Deed, given_back, store_only, stepping, last_field, EachCall, Ledger}
use Rattle.store_kept.specs.Store.{count, used, fields_in, held_under, without}
use Rattle.store.specs.Calls.{KeepPromise, DropPromise, ReturnPromise}
use Rattle.host_answer.specs.Number.{cause_step}
use Rattle.host_period_promises.specs.Kept.{KeepFromC, DropFromC, ReturnFromC}
use Rattle.promises.specs.Steps.{StepCall, host_said, came_to, StepContract, StepOwed}
use Rattle.model.specs.declared.Refusal.{Refusal}

-- What a call on a store answered: an answer, or from C (`lagoon_keep`, `lagoon_drop`, `lagoon_give_back`) a number; and what either says.
pub data StoreAnswer : Type 0 where
  an_answer : Result (Unit {0}) Refusal → StoreAnswer
  a_number : ℕ → StoreAnswer

abbrev pub store_said : StoreAnswer → Verdict
store_said (an_answer a) = said a
store_said (a_number n) = host_said n

-- A call on a store as it was made: what stood in the table of masses past the field (a drop is lent none), the store lent to it, of any values
-- and of any length, and the name; its answer; and the table that it writes, afterwards: the store, or of a return the masses.
pub record StoreMade : Type 0 where
  pub past : List ℕ
  pub store : List ℕ
  pub name : ℕ
  pub answer : StoreAnswer
  pub written : List ℕ

pub data ListCall : Type 0 where
  aStep : StepCall → ListCall
  by_keep : StoreMade → ListCall
  by_drop : StoreMade → ListCall
  by_return : StoreMade → ListCall

module _ (M : Mesh) where
  -- what a call did, by its answer
  abbrev pub did : ListCall → List ℕ → Outcome Deed
  did (aStep call) field = stepping (came_to M call field)
  did (by_keep m) field = store_said m.answer and_then accepted store_only
  did (by_drop m) field = store_said m.answer and_then accepted store_only
  did (by_return m) field = store_said m.answer and_then accepted (given_back m.written)

  -- The call was lent the mesh's cells and volumes and, as masses, the field, and kept its contract.
  -- A name from C has 32 bits, so that the number tells it.
  abbrev pub KeepMade : StoreMade → List ℕ → StoreAnswer → Type 0
  KeepMade m lent (an_answer a) = KeepPromise M.cells M.volumes lent m.store m.name a m.written
  KeepMade m lent (a_number n) = (m.name < cause_step) × KeepFromC M.cells M.volumes lent m.store m.name n m.written

  abbrev pub DropMade : StoreMade → StoreAnswer → Type 0
  DropMade m (an_answer a) = DropPromise M.cells m.store m.name a m.written
  DropMade m (a_number n) = (m.name < cause_step) × DropFromC M.cells m.store m.name n m.written

  abbrev pub ReturnMade : StoreMade → List ℕ → StoreAnswer → Type 0
  ReturnMade m lent (an_answer a) = ReturnPromise M.cells M.volumes lent m.store m.name a m.written
  ReturnMade m lent (a_number n) = (m.name < cause_step) × ReturnFromC M.cells M.volumes lent m.store m.name n m.written

  abbrev pub CallContract : ListCall → List ℕ → Type 0
  CallContract (aStep call) field = StepContract M call field
  CallContract (by_keep m) field = KeepMade m (lent_masses M m.past field) m.answer
  CallContract (by_drop m) field = DropMade m m.answer
  CallContract (by_return m) field = ReturnMade m (lent_masses M m.past field) m.answer

  -- The calls ran one after another, each on the field as the last left it.
  abbrev pub CallsMade : List ℕ → List ListCall → Type 0
  CallsMade = EachCall M did CallContract

  -- What is owed of a call, accepted or refused. A keep adds the field to those of the store, a drop takes the first of the name from them, and
  -- after a return the field is what was kept; a refused one leaves the table as it was.
  abbrev pub CallOwed : ListCall → List ℕ → Outcome Deed → Type 0
  CallOwed (aStep call) field o = StepOwed M call field (came_to M call field)
  CallOwed (by_keep m) field o = granted o
      (fields_in M.cells m.written ≡ fields_in M.cells m.store ++ (record { name = m.name; masses = table M.cells (mass_in field) } ∷ []))
      (m.written ≡ m.store)
  CallOwed (by_drop m) field o = granted o (fields_in M.cells m.written ≡ without m.name (fields_in M.cells m.store)) (m.written ≡ m.store)
  CallOwed (by_return m) field o = granted o (m.written ≡ held_under m.name (fields_in M.cells m.store) ++ m.past)
      (m.written ≡ lent_masses M m.past field)

-- DEMAND 3 with calls on stores: from any accepted mesh and first field, after any list of steps, keeps, drops and returns, whichever of them
-- were refused and whatever the store held at each call.
abbrev pub Demand3Stores : Type 0
Demand3Stores = (M : Mesh) → mesh_verdict M ≡ fine → (field : List ℕ) → field_verdict M field ≡ fine → (calls : List ListCall) → CallsMade M field calls
    → Ledger M (did M) (CallOwed M) field calls

-- WHERE NOBODY ELSE HAS WRITTEN THE STORE. The store after a call, and after a list of them.
abbrev pub store_after : List ℕ → ListCall → List ℕ
store_after store (aStep call) = store
store_after store (by_keep m) = m.written
store_after store (by_drop m) = m.written
store_after store (by_return m) = store

unfoldable pub store_after_all : List ℕ → List ListCall → List ℕ
store_after_all store [] = store
store_after_all store (call ∷ calls) = store_after_all (store_after store call) calls

-- each call on a store was lent it as the last left it, and none was an accepted drop of the name
abbrev pub OnStore : ℕ → List ℕ → ListCall → Type 0
OnStore name store (aStep call) = Unit {0}
OnStore name store (by_keep m) = m.store ≡ store
OnStore name store (by_drop m) = (m.store ≡ store) × (store_said m.answer ≡ fine → m.name ≢ name)
OnStore name store (by_return m) = m.store ≡ store

abbrev pub OneStore : ℕ → List ℕ → List ListCall → Type 0
OneStore name store [] = Unit {0}
OneStore name store (call ∷ calls) = OnStore name store call × OneStore name (store_after store call) calls

-- A field comes back exactly as kept: after an accepted keep and any such list of calls, a return of the name is accepted, and leaves the
-- masses that were kept.
abbrev pub FieldReturns : Type 0
FieldReturns = (M : Mesh) (field : List ℕ) (keep : StoreMade) → CallContract M (by_keep keep) field → store_said keep.answer ≡ fine
    → (calls : List ListCall) → CallsMade M field calls → OneStore keep.name keep.written calls
    → (back : StoreMade) → CallContract M (by_return back) (last_field M (did M) field calls)
    → back.store ≡ store_after_all keep.written calls → back.name ≡ keep.name
    → (store_said back.answer ≡ fine) × (back.written ≡ table M.cells (mass_in field) ++ back.past)

-- Dropping frees what keeping took: a drop of the name, next on the store, is accepted and leaves the store as it was before the keep, but for
-- the freed entries, which are 0.
abbrev pub KeepThenDrop : Type 0
KeepThenDrop = (M : Mesh) (field : List ℕ) (keep : StoreMade) → CallContract M (by_keep keep) field → store_said keep.answer ≡ fine
    → (drop : StoreMade) (later : List ℕ) → CallContract M (by_drop drop) later → drop.store ≡ keep.written → drop.name ≡ keep.name
    → (store_said drop.answer ≡ fine)
    × (drop.written ≡ over (take (used M.cells (count keep.store)) keep.store ++ replicate (M.cells + 1) 0) keep.store)
