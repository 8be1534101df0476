-- What is held after bytes were asked for, once and again; and that the record among it is taken that its own head asks for.
use Prim.Native.Nat.{ℕ, ◌+◌, ◌-◌, ◌≤◌, ◌<◌, min}
use mathlib.Core.Path.{◌≡◌, refl, sym, ap, ◌∙◌}
use mathlib.Core.Bool.{Bool, true, false, true≢false}
use mathlib.Core.List.{List}
use native.Mathlib.Omega.{arith}
use lib.Dec.{leb}
use lib.ListN.{length, take, drop, length-take, length-drop}
use lib.Seq.{take_all, take-take, length-take-le}
use Rattle.lists.proofs.Tests.{Fits, fits, exceeds, fits?}
use Rattle.model.specs.Causes.{Outcome}
use Rattle.run_intake.specs.Intake.{still_needed, record_asks, record_at, held, HeldAhead, held_anew, SomeTaken, RecordTaken}
use Rattle.run_intake.specs.declared.Held.{Held}

-- of what is held the first bytes are those of the buffer
held-front : (n : ℕ) (buffer : List ℕ) (from to : ℕ) → n ≤ to - from → take n (held buffer from to) ≡ take n (drop from buffer)
held-front n buffer from to h = take-take n (to - from) (drop from buffer) h

-- nothing was read
pub kept_same : (buffer : List ℕ) (from end to unwritten left : ℕ) (failed : Bool) → from ≤ end → end ≤ to → to ≤ length buffer → left ≡ unwritten
    → HeldAhead buffer from to unwritten buffer (record { from = from; end = end; to = to; unwritten = left; failed = failed })
kept_same buffer from end to unwritten left failed h l m e = record {
  begins = h;
  ends = l;
  within = m;
  front = held-front (to - from) buffer from to (omega arith);
  fewer = omega (arith, e);
  none_dropped = λ b. e;
  lines_first = λ b. absurd (omega (arith, b));
}

-- what was held moved to the front, and more after it
pub kept_more : (before moved after : List ℕ) (from to wanted come unwritten : ℕ) (failed : Bool) → come ≤ length after → to - from ≤ come
    → take (to - from) moved ≡ held before from to → take (to - from) after ≡ take (to - from) moved
    → HeldAhead before from to unwritten after (held_anew wanted come failed)
kept_more before moved after from to wanted come unwritten failed l k e f = record {
  begins = omega arith;
  ends = omega arith;
  within = l;
  front = held-front (to - from) after 0 come (omega arith) ∙ f ∙ e;
  fewer = omega arith;
  none_dropped = λ b. absurd (omega (arith, b));
  lines_first = λ b. refl;
}

held-long : (buffer : List ℕ) (from to : ℕ) → to ≤ length buffer → length (held buffer from to) ≡ to - from
held-long buffer from to h = length-take-le (to - from) (drop from buffer) (rw length-drop (omega arith))

-- no fewer are held
pub grown : {before after : List ℕ} {from to unwritten : ℕ} {r : Held} → to ≤ length before → HeldAhead before from to unwritten after r
    → to - from ≤ r.to - r.from
grown {before} {after} {from} {to} {unwritten} {r} h k =
    let same = ap length k.front in
    let cut = length-take (to - from) (held after r.from r.to) in
    omega (arith, same, cut, held-long before from to h, held-long after r.from r.to k.within)

-- asked once and again
module _ {first second third : List ℕ} {from to unwritten : ℕ} {r s : Held} (h : to ≤ length first)
    (k : HeldAhead first from to unwritten second r) (l : HeldAhead second r.from r.to r.unwritten third s) where
  lines-written : (b : Bool) → Fits (r.to - r.from) (to - from) b → to - from < s.to - s.from → s.unwritten ≡ 0
  lines-written true (fits m) n = l.lines_first (omega (arith, m, n))
  lines-written false (exceeds m) n = let none = k.lines_first (omega (arith, m)) in omega (arith, none, l.fewer)

  pub kept-twice : HeldAhead first from to unwritten third s
  kept-twice = record {
    begins = l.begins;
    ends = l.ends;
    within = l.within;
    front = sym (take-take (to - from) (r.to - r.from) (held third s.from s.to) (grown h k)) ∙ ap (take (to - from)) l.front ∙ k.front;
    fewer = omega (arith, k.fewer, l.fewer);
    none_dropped = λ b. let again = l.none_dropped b in again ∙ k.none_dropped (omega (arith, b, again));
    lines_first = lines-written (leb (r.to - r.from) (to - from)) (fits? (r.to - r.from) (to - from));
  }

-- what is cut twice is as long as the shorter
cut : (n m : ℕ) (xs : List ℕ) → take n (take m xs) ≡ take (min n m) xs
cut n m xs = go (leb n m) (fits? n m)
  where
    go : (b : Bool) → Fits n m b → take n (take m xs) ≡ take (min n m) xs
    go true (fits h) = let q : n ≡ min n m = omega arith in take-take n m xs h ∙ ap (λ (k : ℕ). take k xs) q
    go false (exceeds h) =
        let q : m ≡ min n m = omega arith in
        take_all n (take m xs) (omega (arith, length-take m xs)) ∙ ap (λ (k : ℕ). take k xs) q

module _ (head : ℕ) (needs : List ℕ → Outcome ℕ) (quiet : (bs : List ℕ) (got : ℕ) → length bs < head → still_needed (needs bs) got ≡ 0) where
  -- what is shorter than a head is all there is of the record
  short-record : (xs : List ℕ) → length xs < head → record_at head needs xs ≡ xs
  unfolding record_at
  short-record xs h = rw (take_all head xs (omega arith), quiet xs (length xs) h) (take_all (length xs + 0) xs (omega arith))

  -- the head failed
  module _ {first second : List ℕ} {from to unwritten : ℕ} {r : Held} (failed : r.failed ≡ true)
      (k : HeldAhead first from to unwritten second r) (t : SomeTaken head first from to unwritten second r) where
    pub head-failed : RecordTaken head needs first from to unwritten second r
    head-failed =
        let few = t.short failed in
        let all : r.end ≡ r.to = omega (arith, t.taken, few, k.begins) in
        record {
          taken = rw all (sym (short-record (held second r.from r.to) (rw (held-long second r.from r.to k.within) few)));
          whole = λ b m. absurd (true≢false (sym failed ∙ ap (λ (x : Held). x.failed) (t.enough b).1));
        }

  -- asked for the head, and then for what that asks for
  module _ {first second third : List ℕ} {from to unwritten more : ℕ} {r s : Held} {said : Outcome ℕ} (h : to ≤ length first)
      (k : HeldAhead first from to unwritten second r) (t : SomeTaken head first from to unwritten second r)
      (e : said ≡ needs (held second r.from r.end)) (m : more ≡ still_needed said (r.end - r.from))
      (l : HeldAhead second r.from r.to r.unwritten third s)
      (u : SomeTaken (r.end - r.from + more) second r.from r.to r.unwritten third s) where
    come : ℕ
    come = r.end - r.from

    head-long : length (held second r.from r.end) ≡ r.end - r.from
    head-long = held-long second r.from r.end (omega (arith, k.ends, k.within))

    -- the head is still in front
    head-there : (b : Bool) → Fits head (r.to - r.from) b → take head (held third s.from s.to) ≡ held second r.from r.end
    head-there true (fits b) =
        let q : head ≡ r.end - r.from = omega (arith, t.taken, k.begins, b) in
        sym (take-take head (r.to - r.from) (held third s.from s.to) b) ∙ ap (take head) l.front
        ∙ held-front head second r.from r.to b
        ∙ ap (λ (n : ℕ). take n (drop r.from second)) q
    head-there false (exceeds b) =
        let all : r.end ≡ r.to = omega (arith, t.taken, k.begins, b) in
        let none : more ≡ 0 = m ∙ ap (λ (o : Outcome ℕ). still_needed o (r.end - r.from)) e
        ∙ quiet (held second r.from r.end) (r.end - r.from) (rw head-long (omega (arith, all, b))) in
        let same = u.enough (omega (arith, none, all)) in
        rw (same.0, same.1, ← all) (take_all head (held second r.from r.end) (rw head-long (omega (arith, all, b))))

    first_taken : held third s.from s.end ≡ record_at head needs (held third s.from s.to)
    unfolding record_at
    first_taken =
        let q : s.end - s.from ≡ min (r.end - r.from + more) (s.to - s.from) = omega (arith, u.taken, l.begins, l.ends) in
        rw (head-there (leb head (r.to - r.from)) (fits? head (r.to - r.from)), head-long, ← e, ← m)
        (ap (λ (n : ℕ). take n (drop s.from third)) q ∙ sym (cut (r.end - r.from + more) (s.to - s.from) (drop s.from third)))

    -- as many bytes as the record asks for, where its head was held
    asks : head ≤ to - from → record_asks head needs (held first from to) ≡ r.end - r.from + more
    asks b =
        let same = t.enough b in
        let q : head ≡ r.end - r.from = rw same.1 (omega arith) in
        let there : take head (held first from to) ≡ held second r.from r.end =
        rw (same.0, same.1) (held-front head first from to b ∙ ap (λ (n : ℕ). take n (drop from first)) (rw same.1 at q)) in
        rw (there, head-long, ← e, ← m)

    pub record-taken : RecordTaken head needs first from to unwritten third s
    record-taken = record {
      taken = first_taken;
      whole = λ b n.
          let held-so = t.enough b in
          let all = asks b in
          let same = u.enough (rw (← all, held-so.1) n) in
          (same.0 ∙ held-so.0, rw all (same.1 ∙ rw held-so.1));
    }
