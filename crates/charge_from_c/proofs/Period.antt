-- The accepted steps of a list from C are steps of the engine's own calls, with the same tables and the same addings; a refused one changes
-- nothing. So the totals of the period are those of S-13.
use Prim.Native.Nat.{ℕ, ◌+◌}
use mathlib.Core.Path.{◌≡◌, refl, sym, ap, ◌∙◌}
use mathlib.Core.List.{List, [], ◌∷◌}
use native.Mathlib.Omega.{arith}
use lib.IntN.{ℤ, pos}
use lib.ListN.{get_or}
use Rattle.signed.specs.Sign.{forward}
use Rattle.model.specs.Mesh.{Mesh}
use Rattle.model.specs.Causes.{accepted, refused, Verdict, fine, ◌and_then◌, granted, Call}
use Rattle.model.specs.Calls.{crossing_of, field_after, gone_by, Scheme, judged, step_answer, total_out}
use Rattle.model.proofs.Verdicts.{past}
use Rattle.transport.specs.Promise.{scheme_of}
use Rattle.charge_totals.specs.Totals.{add_verdict, AddPromise}
use Rattle.charge_billed.specs.Period.{Source, by_step, by_judge}
use Rattle.charge_billed.specs.Period as call
use Rattle.charge_billed.proofs.Period.{over-a-period}
use Rattle.host_answer.specs.Found.{Answered}
use Rattle.host_answer.specs.Steps.{crossed}
use Rattle.host_answer.proofs.Small.{Small}
use Rattle.host_answer.proofs.Tables.{verdict-small, claim-small}
use Rattle.host_period_promises.specs.Period.{AddFromC}
use Rattle.host_period_promises.proofs.Small.{add_small}
use Rattle.promises.specs.Steps.{host_said}
use Rattle.promises.proofs.Numbers.{said_of, said-giving}
use Rattle.charge_from_c.specs.Period.{Made, totals_after, came_to, Promised, KeptOn, last_totals, moved_out, OverAPeriod}
use Rattle.std.specs.Prelude.{Ok}

-- an accepted step as a call of the engine
abbrev as_call : Mesh → Made → call.Made
as_call M m =
    let x = crossing_of M m.masses m.tables in
    record {
      source = m.source;
      masses = m.masses;
      tables = m.tables;
      answer = Ok (record { entered = x.entered; gone = x.gone; released = x.released });
      next = m.next;
      moved = m.moved;
      work = m.work;
      added = m.added;
    }

module _ (s : Scheme) (M : Mesh) (masses : List ℕ) (k : Call) (small : Small (s.finds M masses k)) where
  answers : {found : List ℕ} {r : ℕ} {found' : List ℕ} → Answered crossed (step_answer s M k masses) found r found' → host_said r ≡ fine
      → accepted (crossing_of M masses k) ≡ step_answer s M k masses
  unfolding step_answer
  answers {r = r} a ok = sym (past _ (sym (said-giving (s.finds M masses k) (crossing_of M masses k) r a.number small) ∙ ok))

promised-as : (M : Mesh) (m : Made) (source : Source) → Promised M m source → host_said m.number ≡ fine → call.Promised M (as_call M m) source
promised-as M m (by_step way) p ok = record {
  answer = answers (scheme_of way) M m.masses m.tables (verdict-small M m.masses m.tables) p.answer ok;
  next_masses = p.next_masses;
  moved_masses = p.moved_masses;
  work_after = p.work_after;
}
promised-as M m by_judge p ok = (
  record {
    answer = answers judged M m.masses m.tables (claim-small M m.masses m.tables) p.0.answer ok;
    next_masses = p.0.next_masses;
  },
  p.1,
)

-- an adding that answered 0 is done
added-as : (seconds : List ℕ) (moved : List ℤ) (totals : List ℕ) (faces : ℕ) (added : List ℕ) → AddFromC seconds moved totals faces 0 added
    → AddPromise seconds moved totals faces (Ok tt) added
added-as seconds moved totals faces added p = record {
  answer = said_of (add_verdict seconds moved totals faces) 0 p.number (add_small seconds moved totals faces);
  totals-after = p.totals-after;
}

-- a call among those that are kept, where nothing is found
abbrev keep_if : Verdict → call.Made → List call.Made → List call.Made
keep_if (accepted t) m ms = m ∷ ms
keep_if (refused i j) m ms = ms

unfoldable accepted_ones : Mesh → List Made → List call.Made
accepted_ones M [] = []
accepted_ones M (m ∷ ms) = keep_if (host_said m.number) (as_call M m) (accepted_ones M ms)

-- each kept its contract, on the same totals
module _ (M : Mesh) (m : Made) (totals : List ℕ) (rest : List call.Made) where
  kept-one : (v : Verdict) → (v ≡ fine → call.Promised M (as_call M m) m.source)
      → granted v (AddFromC M.seconds m.moved totals M.faces 0 m.added) (Unit {0})
      → call.KeptOn M (granted v m.added totals) rest → call.KeptOn M totals (keep_if v (as_call M m) rest)
  kept-one (accepted t) promised add later = (promised refl, added-as M.seconds m.moved totals M.faces m.added add, later)
  kept-one (refused i j) promised add later = later

  last_one : (v : Verdict) → call.last_totals (granted v m.added totals) rest ≡ call.last_totals totals (keep_if v (as_call M m) rest)
  unfolding call.last_totals
  last_one (accepted t) = refl
  last_one (refused i j) = refl

  out_one : (f : ℕ) (v : Verdict)
      → granted v (forward (get_or m.moved f (pos 0))) 0 + call.moved_out rest f ≡ call.moved_out (keep_if v (as_call M m) rest) f
  unfolding call.moved_out
  out_one f (accepted t) = refl
  out_one f (refused i j) = omega arith

  all_one : (n : ℕ) → ((field : List ℕ) → n ≡ total_out call.came_to field rest) → (field : List ℕ) (v : Verdict)
      → gone_by (v and_then accepted (record { field = m.next; crossing = crossing_of M m.masses m.tables })) + n
      ≡ total_out call.came_to field (keep_if v (as_call M m) rest)
  unfolding total_out ◌and_then◌
  all_one n later field (accepted t) = ap (λ (i : ℕ). (crossing_of M m.masses m.tables).gone + i) (later m.next)
  all_one n later field (refused i j) = omega (arith, later field)

kept : (M : Mesh) (totals : List ℕ) (calls : List Made) → KeptOn M totals calls → call.KeptOn M totals (accepted_ones M calls)
unfolding accepted_ones
kept M totals [] k = tt
kept M totals (m ∷ ms) k = kept-one M m totals (accepted_ones M ms) (host_said m.number) (promised-as M m m.source k.0) k.1
    (kept M (totals_after m totals) ms k.2)

last-same : (M : Mesh) (totals : List ℕ) (calls : List Made) → last_totals totals calls ≡ call.last_totals totals (accepted_ones M calls)
unfolding accepted_ones last_totals call.last_totals
last-same M totals [] = refl
last-same M totals (m ∷ ms) = last-same M (totals_after m totals) ms ∙ last_one M m totals (accepted_ones M ms) (host_said m.number)

out-same : (M : Mesh) (calls : List Made) (f : ℕ) → moved_out calls f ≡ call.moved_out (accepted_ones M calls) f
unfolding accepted_ones moved_out call.moved_out
out-same M [] f = refl
out-same M (m ∷ ms) f =
    omega (arith, out-same M ms f, out_one M m [] (accepted_ones M ms) f (host_said m.number))

all_same : (M : Mesh) (calls : List Made) (field field' : List ℕ) → total_out (came_to M) field calls ≡ total_out call.came_to field' (accepted_ones M calls)
unfolding accepted_ones total_out
all_same M [] field field' = refl
all_same M (m ∷ ms) field field' =
    all_one M m [] (accepted_ones M ms) _ (λ g. all_same M ms (field_after (came_to M m field) field) g) field' (host_said m.number)

pub over-a-period-from-c : OverAPeriod
over-a-period-from-c M totals calls empty k =
    let p = over-a-period M totals (accepted_ones M calls) empty (kept M totals calls k) in
    rw (last-same M totals calls) (record {
      rim_entry = λ f h r. p.rim_entry f h r ∙ sym (out-same M calls f);
      interior_entry = p.interior_entry;
      all_out = λ field. p.all_out field ∙ sym (all_same M calls field field);
    })
