-- From the contracts of `step`, `judge` and `add` to the totals of a period.
use Prim.Native.Nat.{ℕ, ◌+◌, ◌<◌}
use mathlib.Core.Path.{◌≡◌, refl, sym, ap, ◌∙◌}
use mathlib.Core.Bool.{Bool, true, false, cond}
use mathlib.Core.List.{List, [], ◌∷◌}
use native.Mathlib.Omega.{arith}
use lib.IntN.{ℤ, pos}
use lib.ListN.{get_or}
use Rattle.lists.specs.Fold.{sum}
use Rattle.lists.proofs.Sums.{sum-cong, sum-add, sum_zeros}
use Rattle.lists.proofs.Tables.{get_d_over}
use Rattle.lists.proofs.Tests.{cond_same}
use Rattle.signed.specs.Sign.{forward}
use Rattle.model.specs.Mesh.{Mesh, at_rim}
use Rattle.model.specs.Step.{out_mass}
use Rattle.model.specs.Causes.{fine, granted, Call, input_of}
use Rattle.model.specs.Calls.{Crossing, crossing_of, field_after, gone_by, Scheme, judged, step_answer, moved_table, total_out}
use Rattle.model.proofs.Verdicts.{accepted-of}
use Rattle.model.proofs.Budget.{outward}
use Rattle.model.proofs.Next.{outward-is}
use Rattle.model.proofs.Lists.{Keeping}
use Rattle.model.proofs.Claims.{judged-keeping}
use Rattle.transport.specs.Promise.{scheme_of, step_said, left_by, StepPromise}
use Rattle.transport.specs.declared.Crossed as crossed
use Rattle.transport.proofs.Promises.{way-keeping}
use Rattle.charge_totals.specs.Totals.{gain_of, gain_at, added_totals, AddPromise}
use Rattle.charge_billed.specs.Period.{Source, by_step, by_judge, Made, Promised, came_to, totals_after, KeptOn, last_totals, moved_out, OverAPeriod}
use Rattle.std.specs.Prelude.{Result, Ok, Err}
use Rattle.model.specs.declared.Refusal.{Refusal}
use Rattle.transport.specs.declared.Crossed.{Crossed}

-- AN ACCEPTED STEP, by any scheme that keeps what amounts owe: over the rim goes its out-mass
module _ (s : Scheme) (keeping : Keeping s) (M : Mesh) (masses : List ℕ) (k : Call) (b : crossed.Crossed) (moved : List ℤ)
    (answer : step_said (Ok b) ≡ step_answer s M k masses)
    (moved_at : s.finds M masses k ≡ fine → (f : ℕ) → f < M.faces → get_or moved f (pos 0) ≡ s.moves M masses k f) where
  told : (s.finds M masses k ≡ fine) × (record { entered = b.entered; gone = b.gone; released = b.released } ≡ crossing_of M masses k)
  unfolding step_answer
  told = accepted-of (s.finds M masses k) (crossing_of M masses k) _ answer

  gone_is : b.gone ≡ out_mass (input_of M masses k)
  gone_is = ap (λ (x : Crossing). x.gone) told.1

  pub out-is : sum M.faces (λ f. cond (at_rim M f) (forward (get_or moved f (pos 0))) 0) ≡ b.gone
  unfolding outward
  out-is =
      sum-cong M.faces (λ f. cond (at_rim M f) (forward (get_or moved f (pos 0))) 0) (λ f. cond (at_rim M f) (forward (s.moves M masses k f)) 0)
      (λ f h. rw (moved_at told.0 f h))
      ∙ outward-is (input_of M masses k) (s.moves M masses k) (keeping.keeps M masses k told.0) ∙ sym gone_is

-- moved as a step leaves it
left_at : (s : Scheme) (M : Mesh) (masses : List ℕ) (k : Call) (a : Result Crossed Refusal) (next : List ℕ) (moved : List ℤ) (work : List ℕ)
    → StepPromise s M masses k a next moved work
    → s.finds M masses k ≡ fine → (f : ℕ) → f < M.faces → get_or moved f (pos 0) ≡ s.moves M masses k f
unfolding moved_table
left_at s M masses k a next moved work p e f h = rw (p.moved_masses, e) (get_d_over M.faces (s.moves M masses k) k.moveds (pos 0) f h)

nothing-out : (M : Mesh) → sum M.faces (λ f. cond (at_rim M f) 0 0) ≡ 0
nothing-out M = sum-cong M.faces (λ f. cond (at_rim M f) 0 0) (λ f. 0) (λ f h. cond_same {A = ℕ} (at_rim M f) 0) ∙ sum_zeros M.faces

-- a step, refused or not
one_out : (s : Scheme) (keeping : Keeping s) (M : Mesh) (masses : List ℕ) (k : Call) (a : Result Crossed Refusal) (next : List ℕ) (moved : List ℤ)
    → step_said a ≡ step_answer s M k masses
    → (s.finds M masses k ≡ fine → (f : ℕ) → f < M.faces → get_or moved f (pos 0) ≡ s.moves M masses k f)
    → sum M.faces (λ f. cond (at_rim M f) (granted (step_said a) (forward (get_or moved f (pos 0))) 0) 0) ≡ gone_by (left_by (step_said a) next)
one_out s keeping M masses k (Ok b) next moved e at = out-is s keeping M masses k b moved e at
one_out s keeping M masses k (Err r) next moved e at = nothing-out M

by-step : (s : Scheme) → Keeping s → (M : Mesh) (m : Made) → StepPromise s M m.masses m.tables m.answer m.next m.moved m.work
    → sum M.faces (λ f. cond (at_rim M f) (granted (step_said m.answer) (forward (get_or m.moved f (pos 0))) 0) 0)
    ≡ gone_by (left_by (step_said m.answer) m.next)
by-step s keeping M m p = one_out s keeping M m.masses m.tables m.answer m.next m.moved p.answer
    (left_at s M m.masses m.tables m.answer m.next m.moved m.work p)

by-source : (M : Mesh) (m : Made) (source : Source) → Promised M m source
    → sum M.faces (λ f. cond (at_rim M f) (granted (step_said m.answer) (forward (get_or m.moved f (pos 0))) 0) 0)
    ≡ gone_by (left_by (step_said m.answer) m.next)
by-source M m (by_step way) p = by-step (scheme_of way) (way-keeping way) M m p
by-source M m by_judge p =
    one_out judged judged-keeping M m.masses m.tables m.answer m.next m.moved p.0.answer
    (λ e f h. ap (λ (xs : List ℤ). get_or xs f (pos 0)) p.1)

-- an entry after it
one_entry : (M : Mesh) (m : Made) (totals : List ℕ) (a : Result Crossed Refusal)
    → granted (step_said a) (AddPromise M.seconds m.moved totals M.faces (Ok tt) m.added) (Unit {0})
    → (f : ℕ) → f < M.faces
    → get_or (granted (step_said a) m.added totals) f 0 ≡ get_or totals f 0 + cond (at_rim M f) (granted (step_said a) (forward (get_or m.moved f (pos 0))) 0) 0
unfolding added_totals gain_at gain_of
one_entry M m totals (Ok b) p f h =
    rw (p.totals-after, ← p.answer) (get_d_over M.faces (λ f. get_or totals f 0 + gain_at M.seconds m.moved f) totals 0 f h)
one_entry M m totals (Err r) p f h = omega (arith, cond_same {A = ℕ} (at_rim M f) 0)

both-added : (b : Bool) (x y : ℕ) → cond b (x + y) 0 ≡ cond b x 0 + cond b y 0
both-added true x y = refl
both-added false x y = refl

-- ALL STEPS
entries : (M : Mesh) (totals : List ℕ) (calls : List Made) → KeptOn M totals calls → (f : ℕ) → f < M.faces
    → get_or (last_totals totals calls) f 0 ≡ get_or totals f 0 + cond (at_rim M f) (moved_out calls f) 0
unfolding last_totals moved_out
entries M totals [] kept f h = omega (arith, cond_same {A = ℕ} (at_rim M f) 0)
entries M totals (m ∷ ms) kept f h = omega (
  arith,
  one_entry M m totals m.answer kept.1 f h,
  entries M (totals_after m totals) ms kept.2 f h,
  both-added (at_rim M f) (granted (step_said m.answer) (forward (get_or m.moved f (pos 0))) 0) (moved_out ms f),
)

all_moved : (M : Mesh) (totals : List ℕ) (calls : List Made) → KeptOn M totals calls → (field : List ℕ)
    → sum M.faces (λ f. cond (at_rim M f) (moved_out calls f) 0) ≡ total_out came_to field calls
unfolding moved_out total_out
all_moved M totals [] kept field = nothing-out M
all_moved M totals (m ∷ ms) kept field =
    let out : ℕ → ℕ = λ f. granted (step_said m.answer) (forward (get_or m.moved f (pos 0))) 0 in
    omega (
      arith,
      sum-cong M.faces (λ f. cond (at_rim M f) (out f + moved_out ms f) 0) (λ f. cond (at_rim M f) (out f) 0 + cond (at_rim M f) (moved_out ms f) 0)
          (λ f h. both-added (at_rim M f) (out f) (moved_out ms f)),
      sum-add M.faces (λ f. cond (at_rim M f) (out f) 0) (λ f. cond (at_rim M f) (moved_out ms f) 0),
      by-source M m m.source kept.0,
      all_moved M (totals_after m totals) ms kept.2 (field_after (came_to m field) field),
    )

rim-part : (b : Bool) (x y : ℕ) → x ≡ cond b y 0 → cond b x 0 ≡ cond b y 0
rim-part true x y e = e
rim-part false x y e = refl

pub over-a-period : OverAPeriod
over-a-period M totals calls empty kept =
    let entry : (f : ℕ) → f < M.faces → get_or (last_totals totals calls) f 0 ≡ cond (at_rim M f) (moved_out calls f) 0 =
    λ f h. omega (arith, entries M totals calls kept f h, empty f h) in
    record {
      rim_entry = λ f h r. entry f h ∙ rw r;
      interior_entry = λ f h r. entry f h ∙ rw r;
      all_out = λ field.
          sum-cong M.faces (λ f. cond (at_rim M f) (get_or (last_totals totals calls) f 0) 0) (λ f. cond (at_rim M f) (moved_out calls f) 0)
          (λ f h. rim-part (at_rim M f) (get_or (last_totals totals calls) f 0) (moved_out calls f) (entry f h))
          ∙ all_moved M totals calls kept field;
    }
