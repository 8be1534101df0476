-- The second pass, face by face: carried masses, bounds and corrections.
use Prim.Native.Nat.{ℕ, ◌+◌, ◌*◌, ◌^◌, ◌≤◌, ◌<◌, min, max}
use mathlib.Core.Path.{◌≡◌, refl, sym, ap, ◌∙◌}
use mathlib.Core.Logic.{◌≢◌}
use mathlib.Core.Bool.{Bool, true, false, cond, ◌||◌, true≢false}
use mathlib.Core.List.{List}
use native.Mathlib.Nat.{zero-mul, add-zero}
use native.Mathlib.Omega.{arith}
use borrow.Author.Count.{below_none, below_more}
use borrow.Author.Tests.{eq-eqb, ne_eqb}
use lib.Dec.{eqb}
use lib.IntN.{ℤ, pos, negsuc}
use lib.ListN.{length, get_or, set, length-set}
use lib.Seq.{get_or-set_same, get_or-set_other}
use Rattle.signed.specs.Sign.{size, is_zero, is_negative, forward, backward, with_sign}
use Rattle.signed.proofs.Laws.{scale, with_sign-of, is_zero-size, size-with_sign, forward-is, backward-is}
use Rattle.lists.specs.Fold.{least, greatest}
use Rattle.lists.proofs.Tests.{Same, other, same?}
use Rattle.lists.proofs.Sums.{sum-zero, sum_more, sum-term, least_start, greatest-start, least_more, greatest-more}
use Rattle.model.specs.Accepted.{Ready, max_carried}
use Rattle.model.specs.Mesh.{Mesh, rim, at_rim, first, second, share, reach, incoming, outgoing, max_concentration}
use Rattle.model.specs.Step.{StepInput, rounded_input, flux, outside, mass, concentration, beyond, upwind, downwind, upwind_share, carried, correction, adjacent, in_mass, out_mass}
use Rattle.model.proofs.Low.{low-affords}
use Rattle.model.proofs.Accepted.{flux-few, flux-reach}
use Rattle.model.proofs.Sizes.{mass-most, beyond_most, carried-size, incoming-most, in_mass-most, out_mass-most}
use Rattle.step_face.specs.Correction.{decoded, correction_of}
use Rattle.step_face.specs.Exchange.{EndsIn}
use Rattle.step_face.proofs.Corrections.{correction_none, correction-by-flux}
use Rattle.step_face.proofs.Flows.{flow-start, flow-afford, flow-room, flow-turn}
use Rattle.step_cell.specs.Work.{of_cell, of_face, widened_across}
use Rattle.step_cell.proofs.Places.{cell_in, face_in}
use Rattle.step_cell.proofs.Slots.{face-slot}
use Rattle.step_cell.proofs.BoundLaws.{length-across, across-q, across-face, across-lo, across-hi, across-adjacent}
use Rattle.step_raising.specs.Raising.{Concentrations}
use Rattle.step_carrying_face.specs.OneFace.{carried_by, FaceAsks, FaceDone}
use Rattle.step_carrying.specs.Carrying.{CarriedTo, in_mass_to, out_mass_to}

-- from the first pass
pub carried-to-start : (M : Mesh) (masses : List ℕ) (fluxes : List ℤ) (outsides next work w : List ℕ) (moved : List ℤ)
    → length next ≡ M.cells → length moved ≡ M.faces → length work ≡ 4 * M.cells + M.faces
    → Concentrations M.volumes masses w M.cells next work → CarriedTo (rounded_input M masses fluxes outsides) 0 0 0 next moved work
unfolding least greatest
carried-to-start M masses fluxes outsides next work w moved n m l o = record {
  entered_is = sym (sum-zero _);
  gone_is = sym (sum-zero _);
  flowing = flow-start M (carried (rounded_input M masses fluxes outsides)) (λ c. get_or masses c 0) next n o.next_at;
  moved_long = m;
  moved_at = below_none _;
  work_long = l;
  q_at = λ c h. o.filling.at c h 0 refl;
  lo_at = λ c h. o.filling.at c h 1 refl;
  hi_at = λ c h. o.filling.at c h 2 refl;
  code_at = below_none _;
}

module _ (S : StepInput) (r : Ready S) where
  open S use {mesh as M}

  pub ends-in : (f : ℕ) → f < M.faces → EndsIn M.cells (first M f) (second M f)
  ends-in f h = record { few = r.counts_fit.few_cells; first-in = r.fit.first-in f h; second_in = r.fit.second_in f h; apart = r.fit.apart f h }

  cell-not-mark : (c : ℕ) → c < M.cells → c ≢ rim
  cell-not-mark c l = omega (arith, r.counts_fit.few_cells)

  affordable : (c : ℕ) → c < M.cells → outgoing M (carried S) c ≤ mass S c
  affordable c l = low-affords S r.sound c l

  bounded : (c : ℕ) → c < M.cells → mass S c + incoming M (carried S) c < 2 ^ 63
  bounded c l = omega (arith, mass-most S r c l, incoming-most M (carried S) max_carried r.counts_fit.few_faces (carried-size S r) c)

  abbrev between-cells : ℕ → ℤ
  between-cells f = correction_of (flux S f) (concentration S (first M f)) (beyond S f) (share M f) (reach M f)

  correction-there : (f : ℕ) → correction S f ≡ cond (eqb (second M f) rim || is_zero (flux S f)) (pos 0) (between-cells f)
  unfolding correction correction_of upwind downwind upwind_share
  correction-there f = refl

  -- it is at most the flux times the greatest concentration
  pub correction-within : (f : ℕ) → f < M.faces → size (correction S f) ≤ size (flux S f) * max_concentration
  correction-within f h = rw (correction-there f) (go (eqb (second M f) rim) (same? (second M f) rim) (is_zero (flux S f)))
    where
      go : (b : Bool) → Same (second M f) rim b → (z : Bool) → size (cond (b || z) (pos 0) (between-cells f)) ≤ size (flux S f) * max_concentration
      go true s z = omega arith
      go false s true = omega arith
      go false (other d) false = correction-by-flux (flux S f) (concentration S (first M f)) (beyond S f) (share M f) (reach M f)
          (flux-reach S r f h d) (r.salt_most (first M f) (r.fit.first-in f h)) (beyond_most S r f h) (r.fit.share_most f h)

-- a correction inside the mesh is that between the concentrations of its two cells
inside : (z : ℤ) (a b s k : ℕ) → correction_of z a b s k ≡ cond (is_zero z) (pos 0) (correction_of z a b s k)
inside z a b s k = go (is_zero z) refl
  where
    go : (y : Bool) → is_zero z ≡ y → correction_of z a b s k ≡ cond y (pos 0) (correction_of z a b s k)
    go true e = correction_none z a b s k (is_zero-size z e)
    go false e = refl

-- water that runs back is some
pub runs-back : (z : ℤ) (p : Bool) (u : ℕ) → p ≡ is_negative z → u ≡ size z → p ≡ true → u ≢ 0
runs-back (pos n) p u e d h = absurd (true≢false (sym h ∙ e))
runs-back (negsuc n) p u e d h = λ (q : u ≡ 0). omega arith

-- what crosses the rim at one face
one_in : (b p : Bool) (u o q n : ℕ) → cond b (cond p (u * cond p (cond b o q) n) 0) 0 ≡ cond b (cond p u 0 * o) 0
one_in true true u o q n = refl
one_in true false u o q n = sym (zero-mul o)
one_in false p u o q n = refl

one_out : (b p : Bool) (u o q n : ℕ) → cond b (cond p 0 (u * cond p (cond b o q) n)) 0 ≡ cond b (cond p 0 u * n) 0
one_out true true u o q n = sym (zero-mul n)
one_out true false u o q n = refl
one_out false p u o q n = refl

module _ (S : StepInput) (r : Ready S) (f : ℕ) (h : f < S.mesh.faces) (entered gone : ℕ) (next work : List ℕ) (moved : List ℤ)
    (s : CarriedTo S f entered gone next moved work) where
  open S use {mesh as M}

  -- the concentrations that pass 2 reads in work, and what the face carries by them
  abbrev pub near : ℕ
  near = of_cell work (first M f) 0

  abbrev pub far : ℕ
  far = cond (eqb (second M f) rim) (outside S f) (of_cell work (second M f) 0)

  abbrev pub negative : Bool
  negative = is_negative (flux S f)

  abbrev pub through : ℤ
  through = with_sign negative (size (flux S f) * cond negative far near)

  pub in-first : 4 * first M f + 3 < length work
  in-first = cell_in (first M f) M.cells M.faces (length work) (r.fit.first-in f h) s.work_long

  pub in-second : second M f ≢ rim → 4 * second M f + 3 < length work
  in-second d = cell_in (second M f) M.cells M.faces (length work) (r.fit.second_in f h d) s.work_long

  near-is : near ≡ concentration S (first M f)
  near-is = s.q_at (first M f) (r.fit.first-in f h)

  far-is : far ≡ beyond S f
  unfolding beyond
  far-is = go (eqb (second M f) rim) (same? (second M f) rim)
    where
      go : (b : Bool) → Same (second M f) rim b → cond b (outside S f) (of_cell work (second M f) 0) ≡ cond b (outside S f) (concentration S (second M f))
      go true o = refl
      go false (other d) = s.q_at (second M f) (r.fit.second_in f h d)

  through-is : through ≡ carried S f
  unfolding carried upwind
  through-is = rw (near-is, far-is) (sym (scale (flux S f) _))

  asks-there : FaceAsks f (first M f) (second M f) (size (flux S f)) (share M f) (reach M f) near far M.cells through next moved work
  asks-there = record {
    ends = ends-in S r f h;
    next_long = s.flowing.long;
    in_moved = rw s.moved_long h;
    in_work = face_in f M.cells M.faces (length work) h s.work_long;
    first_most = rw near-is (r.salt_most (first M f) (r.fit.first-in f h));
    beyond_most = rw far-is (beyond_most S r f h);
    size_most = flux-few S r f h;
    within_reach = flux-reach S r f h;
    share_most = r.fit.share_most f h;
    reach_some = r.fit.reach_some f h;
    reach_most = r.fit.reach_most f h;
    afford = rw through-is (flow-afford M (carried S) (mass S) f h next s.flowing (affordable S r));
    room = rw through-is (flow-room M (carried S) (mass S) f h next s.flowing (2 ^ 63) (bounded S r));
  }

  -- the same of values that the code has read
  pub face-asks : (p : Bool) (u a b : ℕ) → p ≡ negative → u ≡ size (flux S f) → a ≡ near → b ≡ far
      → FaceAsks f (first M f) (second M f) u (share M f) (reach M f) a b M.cells (with_sign p (u * cond p b a)) next moved work
  face-asks p u a b d e i j = rw (d, e, i, j) asks-there

  pub inside-asks : (z : ℤ) (a b : ℕ) → z ≡ flux S f → a ≡ near → b ≡ far
      → FaceAsks f (first M f) (second M f) (size z) (share M f) (reach M f) a b M.cells (carried_by z a b) next moved work
  inside-asks z a b d i j = rw (d, i, j, scale (flux S f) (cond negative far near)) asks-there

  -- the face's correction, of the concentrations that the code has read
  correction-is : cond (eqb (second M f) rim) (pos 0) (correction_of (flux S f) near far (share M f) (reach M f)) ≡ correction S f
  correction-is = rw (correction-there S r f, near-is, far-is) (go (eqb (second M f) rim))
    where
      go : (b : Bool) → cond b (pos 0) (between-cells S r f) ≡ cond (b || is_zero (flux S f)) (pos 0) (between-cells S r f)
      go true = refl
      go false = inside (flux S f) (concentration S (first M f)) (beyond S f) (share M f) (reach M f)

  -- work after the cells have met
  widened : List ℕ
  widened = widened_across work (first M f) (second M f) (flux S f) near far

  widened-long : length widened ≡ length work
  unfolding widened
  widened-long = length-across work (first M f) (second M f) near far (flux S f)

  widened-q : (c : ℕ) → c < M.cells → of_cell widened c 0 ≡ concentration S c
  unfolding widened
  widened-q c l = across-q work (first M f) (second M f) (flux S f) near far c in-first in-second ∙ s.q_at c l

  widened-face : (g : ℕ) → of_face widened M.cells g ≡ of_face work M.cells g
  unfolding widened
  widened-face g = across-face work (first M f) (second M f) near far (flux S f) M.cells g (r.fit.first-in f h) (r.fit.second_in f h)

  widened-lo : (c : ℕ) → c < M.cells → of_cell widened c 1 ≡ least (f + 1) (concentration S c) (adjacent S c)
  unfolding widened adjacent beyond
  widened-lo c l =
      across-lo work (first M f) (second M f) (flux S f) near far c in-first in-second
      ∙ rw (s.lo_at c l, near-is, far-is, least_more f (concentration S c) (adjacent S c))
      (across-adjacent min (least f (concentration S c) (adjacent S c)) (flux S f) (first M f) (second M f) c (outside S f) (concentration S)
      (omega (arith, least_start f (concentration S c) (adjacent S c))) (r.fit.apart f h) (cell-not-mark S r c l))

  widened-hi : (c : ℕ) → c < M.cells → of_cell widened c 2 ≡ greatest (f + 1) (concentration S c) (adjacent S c)
  unfolding widened adjacent beyond
  widened-hi c l =
      across-hi work (first M f) (second M f) (flux S f) near far c in-first in-second
      ∙ rw (s.hi_at c l, near-is, far-is, greatest-more f (concentration S c) (adjacent S c))
      (across-adjacent max (greatest f (concentration S c) (adjacent S c)) (flux S f) (first M f) (second M f) c (outside S f) (concentration S)
      (omega (arith, greatest-start f (concentration S c) (adjacent S c))) (r.fit.apart f h) (cell-not-mark S r c l))

  -- what the face adds to the in-mass and to the out-mass, with what it carries
  abbrev adds-in : ℕ → ℕ
  adds-in amount = cond (eqb (second M f) rim) (cond negative amount 0) 0

  abbrev adds-out : ℕ → ℕ
  adds-out amount = cond (eqb (second M f) rim) (cond negative 0 amount) 0

  entered-more : (amount : ℕ) → amount ≡ size through → entered + adds-in amount ≡ in_mass_to S (f + 1)
  entered-more amount e =
      let piece : adds-in amount ≡ cond (eqb (second M f) rim) (backward (flux S f) * outside S f) 0 =
      rw (e, size-with_sign, backward-is (flux S f)) (one_in (eqb (second M f) rim) negative (size (flux S f)) (outside S f) (of_cell work (second M f) 0) near)
      in
      omega (arith, s.entered_is, sum_more f (λ g. cond (at_rim M g) (backward (flux S g) * outside S g) 0))

  gone-more : (amount : ℕ) → amount ≡ size through → gone + adds-out amount ≡ out_mass_to S (f + 1)
  gone-more amount e =
      let piece : adds-out amount ≡ cond (eqb (second M f) rim) (forward (flux S f) * concentration S (first M f)) 0 =
      rw (e, size-with_sign, forward-is (flux S f), ← near-is)
      (one_out (eqb (second M f) rim) negative (size (flux S f)) (outside S f) (of_cell work (second M f) 0) near) in
      omega (arith, s.gone_is, sum_more f (λ g. cond (at_rim M g) (forward (flux S g) * concentration S (first M g)) 0))

  -- the sums stay within the words
  in-mass-fits : (i : ℕ) → i ≡ in_mass_to S (f + 1) → i < 2 ^ 64
  unfolding in_mass
  in-mass-fits i e = omega (
    arith,
    sum_more f (λ g. cond (at_rim M g) (backward (flux S g) * outside S g) 0),
    sum-term f M.faces (λ g. cond (at_rim M g) (backward (flux S g) * outside S g) 0) h,
    in_mass-most S r,
  )

  out-mass-fits : (o : ℕ) → o ≡ out_mass_to S (f + 1) → o < 2 ^ 64
  unfolding out_mass
  out-mass-fits o e = omega (
    arith,
    sum_more f (λ g. cond (at_rim M g) (forward (flux S g) * concentration S (first M g)) 0),
    sum-term f M.faces (λ g. cond (at_rim M g) (forward (flux S g) * concentration S (first M g)) 0) h,
    out_mass-most S r,
  )

  -- what the face has done, of the values that the code has read
  module _ (p : Bool) (u a b amount : ℕ) (p_is : p ≡ negative) (u-is : u ≡ size (flux S f)) (a-is : a ≡ near) (b-is : b ≡ far) (next' work' : List ℕ)
      (moved' : List ℤ)
      (d : FaceDone f (first M f) (second M f) (share M f) (reach M f) a b M.cells amount (with_sign p u) (with_sign p (u * cond p b a)) next next' moved
      moved' work work') where
    there : FaceDone f (first M f) (second M f) (share M f) (reach M f) near far M.cells amount (with_sign negative (size (flux S f))) through next next'
        moved moved' work work'
    there = rw (p_is, u-is, a-is, b-is) at d

    in_is : (i : ℕ) → i ≡ cond (eqb (second M f) rim) (cond p amount 0) 0 → entered + i ≡ in_mass_to S (f + 1)
    in_is i e = rw (e, p_is) (entered-more amount there.amount)

    out-is : (o : ℕ) → o ≡ cond (eqb (second M f) rim) (cond p 0 amount) 0 → gone + o ≡ out_mass_to S (f + 1)
    out-is o e = rw (e, p_is) (gone-more amount there.amount)

    entered-fits : (i : ℕ) → i ≡ cond (eqb (second M f) rim) (cond p amount 0) 0 → entered + i < 2 ^ 64
    entered-fits i e = in-mass-fits (entered + i) (in_is i e)

    gone-fits : (o : ℕ) → o ≡ cond (eqb (second M f) rim) (cond p 0 amount) 0 → gone + o < 2 ^ 64
    gone-fits o e = out-mass-fits (gone + o) (out-is o e)

    -- the number in which the face's correction is kept
    abbrev code : ℕ
    code = there.code

    code-says : decoded code ≡ correction S f
    code-says =
        let e : decoded code ≡ cond (eqb (second M f) rim) (pos 0) (correction_of (flux S f) near far (share M f) (reach M f)) =
        rw (with_sign-of (flux S f)) at there.code_is in
        e ∙ correction-is

    worked : work' ≡ set widened (4 * M.cells + f) code
    unfolding widened
    worked = rw (with_sign-of (flux S f)) at there.worked

    -- the turn of the second pass
    face-turn : (i o : ℕ) → i ≡ cond (eqb (second M f) rim) (cond p amount 0) 0 → o ≡ cond (eqb (second M f) rim) (cond p 0 amount) 0
        → CarriedTo S (f + 1) (entered + i) (gone + o) next' moved' work'
    face-turn i o e g = record {
      entered_is = in_is i e;
      gone_is = out-is o g;
      flowing = flow-turn M (carried S) (mass S) f h next s.flowing next' (rw through-is at there.flowed);
      moved_long = rw there.carries (length-set moved f _ ∙ s.moved_long);
      moved_at = rw (there.carries, through-is) (below_more (λ g. get_or (set moved f (carried S f)) g (pos 0) ≡ carried S g) f
          (λ g l. get_or-set_other moved f g (carried S f) (pos 0) (λ (e : g ≡ f). omega arith) ∙ s.moved_at g l)
          (get_or-set_same moved f (carried S f) (pos 0) (rw s.moved_long h)));
      work_long = rw worked (length-set widened (4 * M.cells + f) code ∙ widened-long ∙ s.work_long);
      q_at = λ c l. rw worked (face-slot widened M.cells f code c 0 refl l ∙ widened-q c l);
      lo_at = λ c l. rw worked (face-slot widened M.cells f code c 1 refl l ∙ widened-lo c l);
      hi_at = λ c l. rw worked (face-slot widened M.cells f code c 2 refl l ∙ widened-hi c l);
      code_at = rw worked (below_more (λ g. decoded (of_face (set widened (4 * M.cells + f) code) M.cells g) ≡ correction S g) f
          (λ g l. ap decoded (get_or-set_other widened (4 * M.cells + f) (4 * M.cells + g) code 0
          (λ (e : 4 * M.cells + g ≡ 4 * M.cells + f). omega arith) ∙ widened-face g) ∙ s.code_at g l)
          (ap decoded (get_or-set_same widened (4 * M.cells + f) code 0
          (rw widened-long (face_in f M.cells M.faces (length work) h s.work_long))) ∙ code-says));
    }

    -- at the rim, and inside
    pub rim-entered-fits : second M f ≡ rim → (i : ℕ) → i ≡ cond p amount 0 → entered + i < 2 ^ 64
    rim-entered-fits e i q = entered-fits i (rw (eq-eqb (second M f) rim e) q)

    pub rim-gone-fits : second M f ≡ rim → (o : ℕ) → o ≡ cond p 0 amount → gone + o < 2 ^ 64
    rim-gone-fits e o q = gone-fits o (rw (eq-eqb (second M f) rim e) q)

    pub rim-turn : second M f ≡ rim → (i o : ℕ) → i ≡ cond p amount 0 → o ≡ cond p 0 amount → CarriedTo S (f + 1) (entered + i) (gone + o) next' moved' work'
    rim-turn e i o q g = face-turn i o (rw (eq-eqb (second M f) rim e) q) (rw (eq-eqb (second M f) rim e) g)

    pub inside-turn : second M f ≢ rim → CarriedTo S (f + 1) entered gone next' moved' work'
    inside-turn d = rw (add-zero entered, add-zero gone) at (face-turn 0 0 (rw (ne_eqb (second M f) rim d)) (rw (ne_eqb (second M f) rim d)))

  -- inside, of the flux that the code has read
  pub inside-done : (z : ℤ) (a b amount : ℕ) → z ≡ flux S f → (next' work' : List ℕ) (moved' : List ℤ)
      → FaceDone f (first M f) (second M f) (share M f) (reach M f) a b M.cells amount z (carried_by z a b) next next' moved moved' work work'
      → FaceDone f (first M f) (second M f) (share M f) (reach M f) a b M.cells amount (with_sign negative (size (flux S f)))
      (with_sign negative (size (flux S f) * cond negative b a)) next next' moved moved' work work'
  inside-done z a b amount e next' work' moved' d = rw (with_sign-of (flux S f), ← scale (flux S f) (cond negative b a)) (rw e at d)
