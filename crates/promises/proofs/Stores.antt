-- DEMAND 3 with calls on stores, proved for every list of calls as they were made. Its parts are defined in specs/Stores.antt and, for calls
-- of any kind, in model/specs/Calls.antt (`Ledger`).
--
-- In plain words: among the step calls of Steps.antt there may stand keeps, drops and returns, from Rattle or from C, each lent a store of any
-- values and any length.
-- The budget then starts anew from the masses given back at each accepted return, and counts the steps since; keeps and drops count nothing
-- and leave the field as it was. Each accepted keep adds the field to those of the store, each drop takes the first of its name from them,
-- and after each return the field is the one kept; a refused call leaves the store or the masses as they were. Where nobody else writes the
-- store, a field comes back exactly as kept (`field-returns`), and dropping frees what keeping took (`keep-then-drop`).
use Prim.Native.Nat.{ℕ, ◌≤◌}
use mathlib.Core.Path.{◌≡◌, refl, sym, ◌∙◌}
use mathlib.Core.List.{List, [], ◌∷◌, ◌++◌}
use native.Mathlib.Omega.{arith}
use lib.ListN.{length, take, length-append, get_or-append}
use lib.Seq.{take_at}
use Rattle.lists.specs.Table.{table}
use Rattle.lists.proofs.Tables.{length-table}
use Rattle.model.specs.Mesh.{Mesh}
use Rattle.model.specs.Causes.{Outcome, accepted, refused, fine, cells_only, mesh_verdict, salt_good, field_values, field_verdict}
use Rattle.model.specs.Calls.{mass_in, Left, lent_masses, Deed, stepped, given_back, store_only, stepping, field_by, last_field}
use Rattle.model.proofs.Verdicts.{both-fine, refused-of}
use Rattle.model.proofs.Accepted.{field_fit, field_accepted}
use Rattle.model.proofs.Lists.{Owes, ledger-law}
use Rattle.store_kept.specs.Store.{fields_in, held_under}
use Rattle.store.specs.Calls.{keep_verdict, keep_store, drop_verdict, drop_store, return_verdict, return_masses}
use Rattle.store.specs.Lists.{keeping, dropping}
use Rattle.store_entries.proofs.Written.{over-front}
use Rattle.store.proofs.Effects.{keep-effect, drop-effect, held-length, held-salt, may-drop, keep-then-drop as dropped-again}
use Rattle.store.proofs.Back.{Holding, after_one, holding, return-fine, return-gives}
use Rattle.promises.specs.Steps.{StepCall, came_to, StepOwed}
use Rattle.host_period_promises.proofs.Small.{keep-small, drop-small, return-small}
use Rattle.promises.specs.Stores.{StoreAnswer, an_answer, a_number, store_said, StoreMade, KeepMade, DropMade, ReturnMade, ListCall, aStep, by_keep, by_drop, by_return, did, CallContract, CallsMade, CallOwed, Demand3Stores, store_after, store_after_all, OnStore, OneStore, FieldReturns, KeepThenDrop}
use Rattle.promises.proofs.Numbers.{said_of}
use Rattle.promises.proofs.Steps.{owes}

-- What a call said, whichever way it answered, is what was found; and what it then left.
module _ (M : Mesh) (m : StoreMade) where
  keep-said : (lent : List ℕ) (a : StoreAnswer) → KeepMade M m lent a
      → (store_said a ≡ keep_verdict M.cells M.volumes lent m.store m.name)
      × (m.written ≡ keep_store M.cells M.volumes lent m.store m.name)
  keep-said lent (an_answer a) p = (p.answer, p.store_is)
  keep-said lent (a_number n) p =
      (said_of _ n p.1.number (keep-small M.cells m.store m.name p.0 M.volumes lent), p.1.store_is)

  drop-said : (a : StoreAnswer) → DropMade M m a
      → (store_said a ≡ drop_verdict M.cells m.store m.name) × (m.written ≡ drop_store M.cells m.store m.name)
  drop-said (an_answer a) p = (p.answer, p.store_is)
  drop-said (a_number n) p = (said_of _ n p.1.number (drop-small M.cells m.store m.name p.0), p.1.store_is)

  return-said : (lent : List ℕ) (a : StoreAnswer) → ReturnMade M m lent a
      → (store_said a ≡ return_verdict M.cells M.volumes lent m.store m.name)
      × (m.written ≡ return_masses M.cells M.volumes lent m.store m.name)
  return-said lent (an_answer a) p = (p.answer, p.masses_are)
  return-said lent (a_number n) p =
      (said_of _ n p.1.number (return-small M.cells m.store m.name p.0 M.volumes lent), p.1.masses_are)

-- An accepted call on a store.
module _ (M : Mesh) (field : List ℕ) (m : StoreMade) where
  abbrev lent : List ℕ
  lent = lent_masses M m.past field

  front : take M.cells lent ≡ table M.cells (mass_in field)
  front = take_at (table M.cells (mass_in field)) m.past M.cells (length-table M.cells (mass_in field))

  module _ (e : return_verdict M.cells M.volumes lent m.store m.name ≡ fine) where
    abbrev held : List ℕ
    held = held_under m.name (fields_in M.cells m.store)

    back_is : return_masses M.cells M.volumes lent m.store m.name ≡ held ++ m.past
    unfolding return_masses
    back_is =
        let n = held-length M.cells M.volumes lent m.store m.name e in
        rw e (over-front held (table M.cells (mass_in field)) m.past (n ∙ sym (length-table M.cells (mass_in field))))

    back-accepted : field_verdict M (held ++ m.past) ≡ fine
    unfolding field_values salt_good
    back-accepted =
        let n = held-length M.cells M.volumes lent m.store m.name e in
        field_accepted M (held ++ m.past) (omega (arith, length-append held m.past, n))
        (λ c h. rw (get_or-append held m.past 0 c (omega (arith, n)))
        (field_fit (cells_only M.cells M.volumes) held (held-salt M.cells M.volumes lent m.store m.name e) c h))

  -- what each owes, by what it was found to be
  keep-owes : CallContract M (by_keep m) field → (o : Outcome Deed) → did M (by_keep m) field ≡ o → Owes M (CallOwed M (by_keep m) field o) field o
  unfolding keep_store
  keep-owes p (accepted store_only) e =
      let q = keep-said M m lent m.answer p in
      let k = sym q.0 ∙ (both-fine _ _ e).0 in
      rw q.1 (keep-effect M.cells M.volumes lent m.store m.name k ∙ rw front)
  keep-owes p (accepted (stepped l)) e = let d = (both-fine _ _ e).1 in let z : ◌≡◌ {A = ℕ} 0 1 = cc in absurd (omega arith)
  keep-owes p (accepted (given_back back)) e = let d = (both-fine _ _ e).1 in let z : ◌≡◌ {A = ℕ} 0 1 = cc in absurd (omega arith)
  keep-owes p (refused i j) e =
      let q = keep-said M m lent m.answer p in
      q.1 ∙ rw (sym q.0 ∙ refused-of (store_said m.answer) store_only i j (sym e))

  drop-owes : CallContract M (by_drop m) field → (o : Outcome Deed) → did M (by_drop m) field ≡ o → Owes M (CallOwed M (by_drop m) field o) field o
  unfolding drop_store
  drop-owes p (accepted store_only) e =
      let q = drop-said M m m.answer p in
      rw q.1 (drop-effect M.cells m.store m.name (sym q.0 ∙ (both-fine _ _ e).0))
  drop-owes p (accepted (stepped l)) e = let d = (both-fine _ _ e).1 in let z : ◌≡◌ {A = ℕ} 0 1 = cc in absurd (omega arith)
  drop-owes p (accepted (given_back back)) e = let d = (both-fine _ _ e).1 in let z : ◌≡◌ {A = ℕ} 0 1 = cc in absurd (omega arith)
  drop-owes p (refused i j) e =
      let q = drop-said M m m.answer p in
      q.1 ∙ rw (sym q.0 ∙ refused-of (store_said m.answer) store_only i j (sym e))

  return-owes : CallContract M (by_return m) field → (o : Outcome Deed) → did M (by_return m) field ≡ o → Owes M (CallOwed M (by_return m) field o) field o
  unfolding return_masses
  return-owes p (accepted (given_back back)) e =
      let b = both-fine _ _ e in
      let q = return-said M m lent m.answer p in
      let k = sym q.0 ∙ b.0 in
      let w : m.written ≡ held k ++ m.past = q.1 ∙ back_is k in
      let same : back ≡ m.written = let d = b.1 in cc in
      (w, rw (same ∙ w) (back-accepted k))
  return-owes p (accepted (stepped l)) e = let d = (both-fine _ _ e).1 in let z : ◌≡◌ {A = ℕ} 0 1 = cc in absurd (omega arith)
  return-owes p (accepted store_only) e = let d = (both-fine _ _ e).1 in let z : ◌≡◌ {A = ℕ} 0 1 = cc in absurd (omega arith)
  return-owes p (refused i j) e =
      let q = return-said M m lent m.answer p in
      q.1 ∙ rw (sym q.0 ∙ refused-of (store_said m.answer) (given_back m.written) i j (sym e))

-- Every list of calls.
module _ (M : Mesh) (mesh_fine : mesh_verdict M ≡ fine) where
  step-owes : (call : StepCall) (field : List ℕ) → ((o : Outcome Left) → came_to M call field ≡ o → Owes M (StepOwed M call field o) field (stepping o))
      → (o : Outcome Left) → came_to M call field ≡ o → (d : Outcome Deed) → stepping o ≡ d → Owes M (StepOwed M call field (came_to M call field)) field d
  step-owes call field f (accepted l) e d q = rw (← q, e) (f (accepted l) e)
  step-owes call field f (refused i j) e d q = rw (← q, e) (f (refused i j) e)

  call-owes : (call : ListCall) (field : List ℕ) → CallContract M call field → field_verdict M field ≡ fine → (o : Outcome Deed) → did M call field ≡ o
      → Owes M (CallOwed M call field o) field o
  call-owes (aStep call) field p g o e = step-owes call field (owes M mesh_fine call field p g) (came_to M call field) refl o e
  call-owes (by_keep m) field p g o e = keep-owes M field m p o e
  call-owes (by_drop m) field p g o e = drop-owes M field m p o e
  call-owes (by_return m) field p g o e = return-owes M field m p o e

pub demand-3-stores : Demand3Stores
demand-3-stores M mesh_fine field field_fine calls made = ledger-law M (did M) (CallContract M) (CallOwed M) (call-owes M mesh_fine) field field_fine calls made

-- Where nobody else writes the store: what is kept stays held by it, and comes back.
module _ (M : Mesh) (name : ℕ) (masses : List ℕ) (long : ℕ) where
  abbrev Held : List ℕ → Type 0
  Held = Holding M.cells name masses long

  still-held : (call : ListCall) (field store : List ℕ) → CallContract M call field → OnStore name store call → Held store → Held (store_after store call)
  still-held (aStep call) field store p n h = h
  still-held (by_keep m) field store p n h =
      rw ((keep-said M m (lent_masses M m.past field) m.answer p).1, n)
      (after_one M.cells name masses long (keeping M.volumes (lent_masses M m.past field) m.name) store tt h)
  still-held (by_drop m) field store p n h =
      let q = drop-said M m m.answer p in
      rw (q.1, n.0) (after_one M.cells name masses long (dropping m.name) store (λ d. n.1 (q.0 ∙ rw n.0 d)) h)
  still-held (by_return m) field store p n h = h

  all_held : (calls : List ListCall) (field store : List ℕ) → CallsMade M field calls → OneStore name store calls → Held store
      → Held (store_after_all store calls)
  unfolding store_after_all
  all_held [] field store p n h = h
  all_held (call ∷ calls) field store p n h =
      all_held calls (field_by (did M call field) field) (store_after store call) p.1 n.1 (still-held call field store p.0 n.0 h)

pub field-returns : FieldReturns
field-returns M field keep kept-so done calls made one back given_so same_Store same_name =
    let lent-then = lent_masses M keep.past field in
    let kept = keep-said M keep lent-then keep.answer kept-so in
    let k = sym kept.0 ∙ done in
    let later = store_after_all keep.written calls in
    let last = last_field M (did M) field calls in
    let filled = lent_masses M back.past last in
    let given = return-said M back filled back.answer given_so in
    let first : Holding M.cells keep.name (take M.cells lent-then) (length keep.store) keep.written
    = rw kept.1 (holding M.cells M.volumes lent-then keep.store keep.name k) in
    let h = all_held M keep.name (take M.cells lent-then) (length keep.store) calls field keep.written made one first in
    let l : M.cells ≤ length filled = omega (arith, length-append (table M.cells (mass_in last)) back.past, length-table M.cells (mass_in last)) in
    let gives : return_masses M.cells M.volumes filled later keep.name ≡ table M.cells (mass_in field) ++ back.past
    = return-gives M.cells M.volumes lent-then keep.store keep.name k later filled l h
    ∙ rw (front M field keep) (over-front (table M.cells (mass_in field)) (table M.cells (mass_in last)) back.past
    (length-table M.cells (mass_in field) ∙ sym (length-table M.cells (mass_in last)))) in (
      given.0 ∙ rw (same_Store, same_name) (return-fine M.cells M.volumes lent-then keep.store keep.name k later filled l h),
      given.1 ∙ rw (same_Store, same_name) gives,
    )

pub keep-then-drop : KeepThenDrop
keep-then-drop M field keep kept-so done drop later dropped-so same_Store same_name =
    let lent-then = lent_masses M keep.past field in
    let kept = keep-said M keep lent-then keep.answer kept-so in
    let dropped = drop-said M drop drop.answer dropped-so in
    let k = sym kept.0 ∙ done in (
      dropped.0 ∙ rw (same_Store, same_name, kept.1) (may-drop M.cells M.volumes lent-then keep.store keep.name k),
      dropped.1 ∙ rw (same_Store, same_name, kept.1) (dropped-again M.cells M.volumes lent-then keep.store keep.name k),
    )
