-- What an entry gains, and what an adding that is accepted or refused comes to.
use Prim.Native.Nat.{ℕ, ◌+◌, ◌-◌, ◌≤◌, ◌<◌}
use mathlib.Core.Path.{◌≡◌, sym, ap, ◌∙◌}
use mathlib.Core.Bool.{Bool, true, false}
use mathlib.Core.Logic.{◌≢◌}
use mathlib.Core.List.{List}
use native.Mathlib.Nat.{le_refl}
use native.Mathlib.Omega.{arith}
use borrow.Author.Tests.{eq-eqb, ne_eqb, leb-true, le-leb, lt-leb}
use lib.Dec.{leb}
use lib.IntN.{ℤ}
use lib.ListN.{length, get_or}
use Rattle.lists.specs.Table.{table, over}
use Rattle.lists.proofs.Tables.{get_d_past}
use Rattle.lists.proofs.Tests.{Fits, fits, exceeds, fits?}
use Rattle.signed.specs.Sign.{is_negative, size}
use Rattle.signed.proofs.Laws.{forward-is}
use Rattle.model.specs.Mesh.{rim}
use Rattle.model.specs.Causes.{Verdict, fine, ◌and_then◌, in_turn, each}
use Rattle.model.specs.Answers.{told}
use Rattle.model.specs.declared.Refusal.{Refusal}
use Rattle.model.proofs.Verdicts.{past, out, all-fine, long-fine, each-fine}
use Rattle.charge_totals.specs.Totals.{max_total, lent_causes, gain_of, gain_fit, gain_at, gain_good, add_verdict, added_totals, AddPromise}
use Rattle.std.specs.Prelude.{Ok, Err}

-- WHAT A FACE GAINS: nothing inside, nothing of an inward mass, else the size
pub inside-gains : (second : ℕ) (z : ℤ) → second ≢ rim → 0 ≡ gain_of second z
unfolding gain_of
inside-gains second z h = rw (ne_eqb second rim h)

pub inward-gains : (second : ℕ) (z : ℤ) → second ≡ rim → is_negative z ≡ true → 0 ≡ gain_of second z
unfolding gain_of
inward-gains second z h n = rw (eq-eqb second rim h, forward-is z, n)

pub outward-gains : (second : ℕ) (z : ℤ) → second ≡ rim → is_negative z ≡ false → size z ≡ gain_of second z
unfolding gain_of
outward-gains second z h n = rw (eq-eqb second rim h, forward-is z, n)

-- WHETHER IT FITS
pub nothing-fits : (entry gain : ℕ) → gain ≡ 0 → true ≡ gain_fit entry gain
unfolding gain_fit
nothing-fits entry gain e = rw (eq-eqb gain 0 e)

pub past-ceiling : (entry gain : ℕ) → gain ≢ 0 → max_total < entry → false ≡ gain_fit entry gain
unfolding gain_fit
past-ceiling entry gain n h = rw (ne_eqb gain 0 n) (sym (lt-leb (entry + gain) max_total (omega arith)))

pub room-left : (entry gain : ℕ) → gain ≢ 0 → entry ≤ max_total → leb gain (max_total - entry) ≡ gain_fit entry gain
unfolding gain_fit
room-left entry gain n h = rw (ne_eqb gain 0 n) (go (leb gain (max_total - entry)) (fits? gain (max_total - entry)))
  where
    go : (b : Bool) → Fits gain (max_total - entry) b → b ≡ leb (entry + gain) max_total
    go true (fits m) = sym (le-leb (entry + gain) max_total (omega arith))
    go false (exceeds m) = sym (lt-leb (entry + gain) max_total (omega arith))

pub gain-small : (entry gain : ℕ) → gain_fit entry gain ≡ true → gain ≢ 0 → entry + gain ≤ max_total
unfolding gain_fit
gain-small entry gain e n = leb-true (entry + gain) max_total (rw (ne_eqb gain 0 n) at e)

-- the tables are long enough where causes 1 and 2 find nothing
pub lent-long : {lent : Verdict} {faces seconds moved totals : ℕ} → lent ≡ in_turn (lent_causes faces seconds moved totals) → lent ≡ fine
    → (faces ≤ seconds) × (faces ≤ moved) × (faces ≤ totals)
lent-long {faces = faces} {seconds = seconds} {moved = moved} {totals = totals} is e =
    let a = all-fine (lent_causes faces seconds moved totals) (sym is ∙ e) in
    (long-fine _ _ _ a.1.0, long-fine _ _ _ a.1.1.0, long-fine _ _ _ a.1.1.1.0)

module _ (seconds : List ℕ) (moved : List ℤ) (totals : List ℕ) (faces : ℕ) where
  -- A TURN: the entry to be raised is still as it was lent, so that what it gains fits
  pub turn-fits : each 26 faces (gain_good seconds moved totals) ≡ fine → (f : ℕ) → f < faces → (now : List ℕ)
      → now ≡ over (table f (λ k. get_or totals k 0 + gain_at seconds moved k)) totals
      → {gain : ℕ} → gain ≡ gain_at seconds moved f → gain_fit (get_or now f 0) gain ≡ true
  unfolding gain_good
  turn-fits e f h now q g = rw (g, q, get_d_past f (λ k. get_or totals k 0 + gain_at seconds moved k) totals 0 f (le_refl f))
      (each-fine 26 faces (gain_good seconds moved totals) e f h)

  pub turn-raised : (f : ℕ) (now : List ℕ) → now ≡ over (table f (λ k. get_or totals k 0 + gain_at seconds moved k)) totals
      → {gain v : ℕ} → gain ≡ gain_at seconds moved f → v ≡ get_or now f 0 + gain → v ≡ get_or totals f 0 + gain_at seconds moved f
  turn-raised f now q g e = e ∙ rw (g, q, get_d_past f (λ k. get_or totals k 0 + gain_at seconds moved k) totals 0 f (le_refl f))

  pub all-raised : (f : ℕ) (now : List ℕ) → f ≤ faces → faces ≤ f → now ≡ over (table f (λ k. get_or totals k 0 + gain_at seconds moved k)) totals
      → now ≡ added_totals seconds moved totals faces
  unfolding added_totals
  all-raised f now h l q = let e : f ≡ faces = omega arith in q ∙ ap (λ (n : ℕ). over (table n (λ k. get_or totals k 0 + gain_at seconds moved k)) totals) e

  -- WHAT AN ADDING COMES TO: refused for what is lent, refused for a gain, accepted
  module _ (lent : Verdict) (is : lent ≡ in_turn (lent_causes faces (length seconds) (length moved) (length totals))) where
    in_order : add_verdict seconds moved totals faces ≡ (lent and_then each 26 faces (gain_good seconds moved totals))
    unfolding add_verdict
    in_order = rw is

    refused-adding : (r : Refusal) → add_verdict seconds moved totals faces ≡ told r → AddPromise seconds moved totals faces (Err r) totals
    refused-adding r e = record { answer = sym e; totals-after = rw e }

    pub not-lent : (r : Refusal) → lent ≡ told r → AddPromise seconds moved totals faces (Err r) totals
    not-lent r e = refused-adding r (in_order ∙ out _ e)

    module _ (ok : lent ≡ fine) where
      pub too_much : (r : Refusal) → each 26 faces (gain_good seconds moved totals) ≡ told r → AddPromise seconds moved totals faces (Err r) totals
      too_much r e = refused-adding r (in_order ∙ past _ ok ∙ e)

      pub added : each 26 faces (gain_good seconds moved totals) ≡ fine → (totals' : List ℕ) → totals' ≡ added_totals seconds moved totals faces
          → AddPromise seconds moved totals faces (Ok tt) totals'
      added e totals' q = let v = in_order ∙ past _ ok ∙ e in record { answer = sym v; totals-after = rw v q }
