-- The fourth pass, face by face: a correction that smooths becomes 0, the others are counted.
use Prim.Native.Nat.{ℕ, ◌+◌, ◌*◌, ◌/◌, ◌%◌, ◌^◌, ◌≤◌, ◌<◌}
use mathlib.Core.Path.{◌≡◌, refl, sym, ap, ◌∙◌}
use mathlib.Core.Logic.{◌≢◌}
use mathlib.Core.Bool.{Bool, true, false, cond, ◌&&◌}
use mathlib.Core.List.{List}
use native.Mathlib.Omega.{arith}
use borrow.Author.Count.{below_none, below_more}
use borrow.Author.Tests.{eq-eqb, ne_eqb, lt-ltb, le-ltb}
use lib.Dec.{eqb, leb}
use lib.IntN.{ℤ, pos}
use lib.ListN.{length, set, length-set}
use lib.Seq.{get_or-set_same, get_or-set_other}
use Rattle.signed.specs.Sign.{with_sign}
use Rattle.signed.proofs.Laws.{negative-with_sign, with_sign-zero}
use Rattle.lists.specs.Fold.{sum}
use Rattle.lists.proofs.Tests.{Same, same, other, same?, own, cond_same}
use Rattle.lists.proofs.Sums.{sum-zero, sum_more, sum-term, sum_mono}
use Rattle.model.specs.Accepted.{max_carried}
use Rattle.model.specs.Mesh.{Mesh, first, second, entering, leaving, incoming, outgoing}
use Rattle.model.specs.Step.{receiver, giver, smooths, kept_by}
use Rattle.model.proofs.Limit.{kept_either, kept-zero}
use Rattle.model.proofs.Sizes.{outgoing-most}
use Rattle.step_face.specs.Correction.{over_sign, decoded}
use Rattle.step_face.specs.Exchange.{brings, takes}
use Rattle.step_face.proofs.Transfers.{more-at, brings-is, takes-is}
use Rattle.step_cell.specs.Work.{of_cell, of_face, over_q, low_in}
use Rattle.step_cell.proofs.OverQ.{lower}
use Rattle.step_cell.proofs.Places.{cell_in, face_in, slot-in}
use Rattle.step_cell.proofs.Slots.{same-slot, slot-set, slot-face, face-slot}
use Rattle.step_smoothing.specs.Corrections.{enters, leaves, corrections, CorrectionsIn}
use Rattle.step_smoothing.specs.Smoothing.{Uncounted, more, counted, kept_at, KeepAsks, kept_in, KeptTo}
use Rattle.step_smoothing.proofs.CorrectionLaws.{code, inside, enters-in, leaves_in}

-- P of cell r and N of cell g with a correction of size n
module _ (w : List ℕ) (r g n : ℕ) where
  counted-at : 4 * r + 3 < length w → 4 * g + 3 < length w → (c j : ℕ) → leb j 3 ≡ true
      → of_cell (counted w r g n) c j ≡ of_cell w c j + cond (eqb 0 j && eqb r c) (over_q * n) 0 + cond (eqb 3 j && eqb g c) n 0
  counted-at in-r in_g c j t =
      more-at (more w (4 * r + 0) (over_q * n)) (4 * g + 3) n (4 * c + j) (simp length-set in_g)
      ∙ rw (more-at w (4 * r + 0) (over_q * n) (4 * c + j) (slot-in r 0 (length w) refl in-r), same-slot r 0 c j refl t, same-slot g 3 c j refl t)

  counted-face : (cells f : ℕ) → r < cells → g < cells → of_face (counted w r g n) cells f ≡ of_face w cells f
  counted-face cells f in-r in_g = slot-face (more w (4 * r + 0) (over_q * n)) g 3 _ cells f refl in_g ∙ slot-face w r 0 _ cells f refl in-r

-- the code's two steps: the second entry has its room after the first has more
pub giver-has-room : (w w' : List ℕ) (r g m n : ℕ) → 4 * r + 3 < length w → 4 * g + 3 < length w → w' ≡ more w (4 * r + 0) m → of_cell w g 3 + n < 2 ^ 64
    → (4 * g + 3 < length w') × (of_cell w' g 3 + n < 2 ^ 64)
giver-has-room w w' r g m n in-r in_g e h = rw (e, length-set, slot-set w r 0 (of_cell w r 0 + m) g 3 refl refl in-r) (in_g, h)

-- the code's three ways, from the giver's low-order q a and the receiver's b
module _ (w : List ℕ) (i l k code : ℕ) where
  pub none-there : code / over_sign ≡ 0 → w ≡ kept_at w i l k code
  unfolding kept_at
  none-there e = rw (eq-eqb (code / over_sign) 0 e)

  module _ (d : code / over_sign ≢ 0) (a b : ℕ) (from : a ≡ low_in w (leaves code l k)) (to : b ≡ low_in w (enters code l k)) where
    pub drops : b < a → set w i 0 ≡ kept_at w i l k code
    unfolding kept_at smooths
    drops h = rw (ne_eqb (code / over_sign) 0 d, ← from, ← to, lt-ltb b a h)

    pub keeps : a ≤ b → counted w (enters code l k) (leaves code l k) (code / over_sign) ≡ kept_at w i l k code
    unfolding kept_at smooths
    keeps h = rw (ne_eqb (code / over_sign) 0 d, ← from, ← to, le-ltb b a h)

positive : (n : ℕ) → n ≢ 0 → 0 < n
positive n d = omega arith

many : (b : Bool) (n : ℕ) → cond b (over_q * n) 0 ≡ over_q * cond b n 0
many true n = refl
many false n = refl

pub keep-start : (M : Mesh) (w : List ℕ) → KeptTo M w 0 w
keep-start M w = record {
  same_length = refl;
  p_at = λ c h. omega (arith, sum-zero (entering M (kept_in M w) c));
  loss_at = λ c h. refl;
  gain_at = λ c h. refl;
  n_at = λ c h. omega (arith, sum-zero (leaving M (kept_in M w) c));
  kept-at = below_none _;
  rest_at = λ g h. refl;
}

module _ (M : Mesh) (w : List ℕ) (asks : CorrectionsIn M w) (begun : Uncounted M w) (f : ℕ) (h : f < M.faces) (work : List ℕ) (s : KeptTo M w f work) where
  abbrev x : ℕ → ℤ
  x = corrections M.cells w

  abbrev kept : ℕ → ℤ
  kept = kept_in M w

  abbrev k : ℕ
  k = code M w asks f h

  abbrev n : ℕ
  n = k / over_sign

  abbrev back : Bool
  back = eqb (k % 2) 1

  abbrev to : ℕ
  to = enters k (first M f) (second M f)

  abbrev from : ℕ
  from = leaves k (first M f) (second M f)

  long : length work ≡ 4 * M.cells + M.faces
  long = s.same_length ∙ asks.work_long

  slots-in : {c : ℕ} → c < M.cells → 4 * c + 3 < length work
  slots-in {c} l = cell_in c M.cells M.faces (length work) l long

  in_work : 4 * M.cells + f < length work
  in_work = face_in f M.cells M.faces (length work) h long

  -- what is kept of any face enters and leaves no more than its correction
  less-enters : (c g : ℕ) → entering M kept c g ≤ entering M x c g
  unfolding entering
  less-enters c g = kept_either (λ z. brings (first M g) (second M g) z c ≤ brings (first M g) (second M g) (x g) c) M (λ c. of_cell w c 0) x g (omega arith)
      (omega (arith, cond_same {A = ℕ} (eqb (second M g) c) 0, cond_same {A = ℕ} (eqb (first M g) c) 0))

  less-leaves : (c g : ℕ) → leaving M kept c g ≤ leaving M x c g
  unfolding leaving
  less-leaves c g = kept_either (λ z. takes (first M g) (second M g) z c ≤ takes (first M g) (second M g) (x g) c) M (λ c. of_cell w c 0) x g (omega arith)
      (omega (arith, cond_same {A = ℕ} (eqb (second M g) c) 0, cond_same {A = ℕ} (eqb (first M g) c) 0))

  whole-enters : (c : ℕ) → entering M x c f ≡ cond (eqb to c) n 0
  unfolding entering
  whole-enters c = brings-is back (first M f) (second M f) n c

  whole-leaves : (c : ℕ) → leaving M x c f ≡ cond (eqb from c) n 0
  unfolding leaving
  whole-leaves c = takes-is back (first M f) (second M f) n c

  p_room : n ≢ 0 → of_cell work to 0 + over_q * n < 2 ^ 64
  unfolding incoming
  p_room d =
      let l = enters-in M w asks f h d in
      omega (
        arith,
        s.p_at to l,
        begun.q_below to l,
        whole-enters to,
        own to n,
        sum_mono f (entering M kept to) (entering M x to) (λ g m. less-enters to g),
        sum-term f M.faces (entering M x to) h,
        begun.p_most to l,
      )

  n_room : n ≢ 0 → of_cell work from 3 + n < 2 ^ 64
  unfolding outgoing
  n_room d =
      let l = leaves_in M w asks f h d in
      omega (
        arith,
        s.n_at from l,
        begun.n_none from l,
        whole-leaves from,
        own from n,
        sum_mono f (leaving M kept from) (leaving M x from) (λ g m. less-leaves from g),
        sum-term f M.faces (leaving M x from) h,
        outgoing-most M x max_carried asks.few_faces asks.size_most from,
      )

  pub keep-asks : KeepAsks (4 * M.cells + f) (first M f) (second M f) k work
  keep-asks = record {
    in_work = in_work;
    small = omega (arith, asks.few_cells, asks.few_faces);
    inside = λ d.
        let i = inside M w asks f h d in
        (slots-in i.0, slots-in i.1, omega (arith, asks.few_cells), omega (arith, asks.few_cells));
    p_room = p_room;
    n_room = n_room;
  }

  -- low-order q stands in work below P as it stood in w
  low-there : {c : ℕ} → c < M.cells → low_in work c ≡ of_cell w c 0
  low-there {c} l = lower (of_cell w c 0) (sum f (entering M kept c)) (of_cell work c 0) (begun.q_below c l) (s.p_at c l)

  smooths-there : n ≢ 0 → smooths (low_in work from) (low_in work to) ≡ smooths (of_cell w (giver M x f) 0) (of_cell w (receiver M x f) 0)
  unfolding receiver giver
  smooths-there d = rw (low-there (leaves_in M w asks f h d), low-there (enters-in M w asks f h d), negative-with_sign back n (positive n d))

  -- what is kept of the face, in each of the three ways
  kept-none : n ≡ 0 → kept f ≡ pos 0
  kept-none e = kept-zero M (λ c. of_cell w c 0) x f (ap (with_sign back) e ∙ with_sign-zero back)

  kept-smooth : smooths (of_cell w (giver M x f) 0) (of_cell w (receiver M x f) 0) ≡ true → kept f ≡ pos 0
  unfolding kept_by
  kept-smooth e = rw e

  kept_whole : smooths (of_cell w (giver M x f) 0) (of_cell w (receiver M x f) 0) ≡ false → kept f ≡ with_sign back n
  unfolding kept_by
  kept_whole e = rw e

  enters_none : kept f ≡ pos 0 → (c : ℕ) → entering M kept c f ≡ 0
  unfolding entering
  enters_none e c = rw e (omega (arith, cond_same {A = ℕ} (eqb (second M f) c) 0, cond_same {A = ℕ} (eqb (first M f) c) 0))

  leaves_none : kept f ≡ pos 0 → (c : ℕ) → leaving M kept c f ≡ 0
  unfolding leaving
  leaves_none e c = rw e (omega (arith, cond_same {A = ℕ} (eqb (second M f) c) 0, cond_same {A = ℕ} (eqb (first M f) c) 0))

  enters-whole : kept f ≡ with_sign back n → (c : ℕ) → entering M kept c f ≡ cond (eqb to c) n 0
  unfolding entering
  enters-whole e c = rw e (brings-is back (first M f) (second M f) n c)

  leaves-whole : kept f ≡ with_sign back n → (c : ℕ) → leaving M kept c f ≡ cond (eqb from c) n 0
  unfolding leaving
  leaves-whole e c = rw e (takes-is back (first M f) (second M f) n c)

  still-turn : kept f ≡ pos 0 → n ≡ 0 → KeptTo M w (f + 1) work
  still-turn e z = record {
    same_length = s.same_length;
    p_at = λ c l. omega (arith, s.p_at c l, sum_more f (entering M kept c), enters_none e c);
    loss_at = s.loss_at;
    gain_at = s.gain_at;
    n_at = λ c l. omega (arith, s.n_at c l, sum_more f (leaving M kept c), leaves_none e c);
    kept-at = below_more (λ g. corrections M.cells work g ≡ kept g) f s.kept-at
        (ap decoded (s.rest_at f (omega arith)) ∙ ap (with_sign back) z ∙ with_sign-zero back ∙ sym e);
    rest_at = λ g m. s.rest_at g (omega arith);
  }

  smooth-turn : kept f ≡ pos 0 → KeptTo M w (f + 1) (set work (4 * M.cells + f) 0)
  smooth-turn e =
      let elsewhere : (g : ℕ) → g ≢ f → of_face (set work (4 * M.cells + f) 0) M.cells g ≡ of_face work M.cells g =
      λ g d. get_or-set_other work (4 * M.cells + f) (4 * M.cells + g) 0 0 (λ (q : 4 * M.cells + g ≡ 4 * M.cells + f). d (omega arith)) in
      record {
        same_length = length-set work (4 * M.cells + f) 0 ∙ s.same_length;
        p_at = λ c l. face-slot work M.cells f 0 c 0 refl l ∙ omega (arith, s.p_at c l, sum_more f (entering M kept c), enters_none e c);
        loss_at = λ c l. face-slot work M.cells f 0 c 1 refl l ∙ s.loss_at c l;
        gain_at = λ c l. face-slot work M.cells f 0 c 2 refl l ∙ s.gain_at c l;
        n_at = λ c l. face-slot work M.cells f 0 c 3 refl l ∙ omega (arith, s.n_at c l, sum_more f (leaving M kept c), leaves_none e c);
        kept-at = below_more (λ g. corrections M.cells (set work (4 * M.cells + f) 0) g ≡ kept g) f
            (λ g m. ap decoded (elsewhere g (λ (q : g ≡ f). omega arith)) ∙ s.kept-at g m)
            (ap decoded (get_or-set_same work (4 * M.cells + f) 0 0 in_work) ∙ sym e);
        rest_at = λ g m. elsewhere g (λ (q : g ≡ f). omega arith) ∙ s.rest_at g (omega arith);
      }

  kept-turn : kept f ≡ with_sign back n → n ≢ 0 → KeptTo M w (f + 1) (counted work to from n)
  kept-turn e d =
      let in-to = enters-in M w asks f h d in
      let in-from = leaves_in M w asks f h d in
      let at = counted-at work to from n (slots-in in-to) (slots-in in-from) in
      let elsewhere : (g : ℕ) → of_face (counted work to from n) M.cells g ≡ of_face work M.cells g =
      λ g. counted-face work to from n M.cells g in-to in-from in
      record {
        same_length = simp length-set s.same_length;
        p_at = λ c l. omega (arith, at c 0 refl, many (eqb to c) n, s.p_at c l, sum_more f (entering M kept c), enters-whole e c);
        loss_at = λ c l. omega (arith, at c 1 refl, s.loss_at c l);
        gain_at = λ c l. omega (arith, at c 2 refl, s.gain_at c l);
        n_at = λ c l. omega (arith, at c 3 refl, s.n_at c l, sum_more f (leaving M kept c), leaves-whole e c);
        kept-at = below_more (λ g. corrections M.cells (counted work to from n) g ≡ kept g) f
            (λ g m. ap decoded (elsewhere g) ∙ s.kept-at g m)
            (ap decoded (elsewhere f ∙ s.rest_at f (omega arith)) ∙ sym e);
        rest_at = λ g m. elsewhere g ∙ s.rest_at g (omega arith);
      }

  pub keep-turn : (work' : List ℕ) → work' ≡ kept_at work (4 * M.cells + f) (first M f) (second M f) k → KeptTo M w (f + 1) work'
  unfolding kept_at
  keep-turn work' e = rw e (go (eqb n 0) (same? n 0) (smooths (low_in work from) (low_in work to)) refl)
    where
      go : (b : Bool) → Same n 0 b → (t : Bool) → smooths (low_in work from) (low_in work to) ≡ t
          → KeptTo M w (f + 1) (cond b work (cond t (set work (4 * M.cells + f) 0) (counted work to from n)))
      go true (same z) t q = still-turn (kept-none z) z
      go false (other d) true q = smooth-turn (kept-smooth (sym (smooths-there d) ∙ q))
      go false (other d) false q = kept-turn (kept_whole (sym (smooths-there d) ∙ q)) d
