-- One face tested and counted, and what the sums say at the end.
use Prim.Native.Nat.{ℕ, ◌+◌, ◌*◌, ◌^◌, ◌≤◌, ◌<◌}
use mathlib.Core.Path.{◌≡◌, refl, sym, ◌∙◌}
use mathlib.Core.Logic.{◌≢◌}
use mathlib.Core.Bool.{Bool, true, false, cond, ◌&&◌, ◌||◌}
use mathlib.Core.List.{List}
use native.Mathlib.Omega.{arith}
use borrow.Author.Count.{below_more}
use borrow.Author.Tests.{lt-ltb, le-ltb, le-leb, eq-eqb, ne_eqb, ltb-true, leb-true, eqb-true}
use lib.Dec.{eqb, leb, ltb}
use lib.IntN.{ℤ, pos}
use lib.ListN.{length, get_or, set, length-set}
use Rattle.lists.proofs.Tests.{Same, same, same?, cond_same, both_true}
use Rattle.lists.proofs.Sums.{sum-zero, sum_more}
use Rattle.lists.proofs.Tables.{get_d_set}
use Rattle.signed.specs.Sign.{is_negative, size}
use Rattle.signed.proofs.Laws.{forward-is, backward-is}
use Rattle.model.specs.Mesh.{rim, max_cells, max_faces, max_share, max_concentration, max_rim_flux, ceiling, entering, leaving, incoming, outgoing}
use Rattle.model.specs.Causes.{faces_only, between, ends_fit, spacing_fit, flux_fit}
use Rattle.model.proofs.Sizes.{incoming-most, outgoing-most}
use Rattle.model.proofs.Verdicts.{fine-each}
use Rattle.check_flows.specs.Flows.{inflow, outflow}
use Rattle.check_passing.specs.Passing.{half, ShapeFine, WaterFine, FacesFine, EndsIn, RoomLeft, counts, Counted, counted_below, SumsAre, SumFits, FacesPass}

-- a face at the rim, and one inside
pub rim-shape : (cells first share reach : ℕ) → cells ≤ max_cells → first < cells → share ≡ 0 → reach ≡ 0 → ShapeFine cells first rim share reach
rim-shape cells first share reach few h s k =
    let d : first ≢ rim = λ (e : first ≡ rim). omega arith in
    (rw (lt-ltb first cells h, le-ltb rim cells few, ne_eqb first rim d), rw (eq-eqb share 0 s, eq-eqb reach 0 k))

pub inside-shape : (cells first second share reach : ℕ) → second ≢ rim → first < cells → second < cells → first ≢ second
    → between 1 max_share share ≡ true → between 1 ceiling reach ≡ true → ShapeFine cells first second share reach
inside-shape cells first second share reach i h k d s r =
    (rw (lt-ltb first cells h, lt-ltb second cells k, ne_eqb first second d), rw (ne_eqb second rim i, s, r))

pub rim-water : (inward : Bool) (amount outside : ℕ) → amount ≤ ceiling → leb outside (cond inward max_concentration 0) ≡ true
    → WaterFine rim 0 inward amount outside
rim-water inward amount outside u o = (o, le-leb amount ceiling u)

pub inside-water : (second reach : ℕ) (inward : Bool) (amount outside : ℕ) → second ≢ rim → amount ≤ reach → eqb outside 0 ≡ true
    → WaterFine second reach inward amount outside
inside-water second reach inward amount outside i u o = (
  rw (ne_eqb second rim i) (le-leb outside 0 (omega (arith, eqb-true outside 0 o))),
  rw (ne_eqb second rim i) (le-leb amount reach u),
)

-- what a fine face says of its numbers
pub amount-most : (second share reach amount : ℕ) → spacing_fit ceiling second share reach ≡ true → flux_fit ceiling second reach amount ≡ true → amount ≤ ceiling
amount-most second share reach amount = go (eqb second rim)
  where
    go : (b : Bool) → cond b (eqb share 0 && eqb reach 0) (between 1 max_share share && between 1 ceiling reach) ≡ true → leb amount (cond b ceiling reach)
        ≡ true → amount ≤ ceiling
    go true s u = leb-true amount ceiling u
    go false s u =
        let r = both_true (leb 1 reach) (leb reach ceiling) (both_true (between 1 max_share share) (between 1 ceiling reach) s).1 in
        omega (arith, leb-true amount reach u, leb-true reach ceiling r.1)

pub ends-in : (cells first second : ℕ) → ends_fit cells first second ≡ true → EndsIn cells first second
ends-in cells first second e =
    let p = both_true (ltb first cells) (ltb second cells || eqb second rim) (both_true (ltb first cells && (ltb second cells || eqb second rim)) _ e).0 in
    (ltb-true first cells p.0, go (ltb second cells) refl p.1)
  where
    go : (b : Bool) → ltb second cells ≡ b → (b || eqb second rim) ≡ true → second ≢ rim → second < cells
    go true q d i = ltb-true second cells q
    go false q d i = absurd (i (eqb-true second rim d))

-- one entry more made 0
pub cleared_more : (xs : List ℕ) (i : ℕ) → i < length xs → ((k : ℕ) → k < i → get_or xs k 0 ≡ 0) → (k : ℕ) → k < i + 1 → get_or (set xs i 0) k 0 ≡ 0
cleared_more xs i h e = below_more (λ k. get_or (set xs i 0) k 0 ≡ 0) i
    (λ k l. get_d_set xs i k 0 0 h ∙ rw (ne_eqb i k (λ (q : i ≡ k). omega arith)) (e k l)) (get_d_set xs i i 0 0 h ∙ rw (eq-eqb i i refl))

-- one entry raised
abbrev pub plus : List ℕ → ℕ → ℕ → List ℕ
plus xs i n = set xs i (get_or xs i 0 + n)

plus-at : (xs : List ℕ) (i n c : ℕ) → i < length xs → get_or (plus xs i n) c 0 ≡ get_or xs c 0 + cond (eqb i c) n 0
plus-at xs i n c h = get_d_set xs i c (get_or xs i 0 + n) 0 h ∙ go (eqb i c) (same? i c)
  where
    go : (b : Bool) → Same i c b → cond b (get_or xs i 0 + n) (get_or xs c 0) ≡ get_or xs c 0 + cond b n 0
    go true (same e) = rw e
    go false o = omega arith

pub either_end : (b : Bool) (l k n : ℕ) → l < n → k < n → cond b l k < n
either_end true l k n h m = h
either_end false l k n h m = m

cond-most : (b : Bool) (n : ℕ) → cond b n 0 ≤ n
cond-most true n = omega arith
cond-most false n = omega arith

scaled : (b : Bool) (s : ℕ) → cond b (half * s) 0 ≡ half * cond b s 0
scaled true s = refl
scaled false s = refl

-- a flux counted at the ends of its face: what the raises ask for, and what they come to
module _ (cells first : ℕ) (xs : List ℕ) (long : cells ≤ length xs) (left : RoomLeft cells xs) (inward : Bool) (s : ℕ) (small : s ≤ ceiling)
    (h : first < cells) where
  pub over-asks : (first < length xs) × (get_or xs first 0 + cond inward s (half * s) < 2 ^ 64)
  over-asks = (omega (arith, h, long), go inward)
    where
      go : (b : Bool) → get_or xs first 0 + cond b s (half * s) < 2 ^ 64
      go true = omega (arith, left first h, small)
      go false = omega (arith, left first h, small)

  pub over-counted : cells ≤ max_cells → (ys : List ℕ) → ys ≡ plus xs first (cond inward s (half * s)) → Counted cells xs ys inward first rim s
  over-counted few ys q c l = rw q (plus-at xs first (cond inward s (half * s)) c (omega (arith, h, long)) ∙ go inward)
    where
      apart : rim ≢ c
      apart e = omega (arith, e, l, few)

      go : (b : Bool) → get_or xs c 0 + cond (eqb first c) (cond b s (half * s)) 0 ≡ get_or xs c 0 + counts b first rim s c
      go true = rw (ne_eqb rim c apart) (omega arith)
      go false = rw (ne_eqb rim c apart) (omega (arith, scaled (eqb first c) s))

  module _ (second : ℕ) (k : second < cells) where
    abbrev r : ℕ
    r = cond inward first second

    abbrev t : ℕ
    t = cond inward second first

    r-in : r < cells
    r-in = either_end inward first second cells h k

    t-in : t < cells
    t-in = either_end inward second first cells k h

    pub reached-asks : (r < length xs) × (get_or xs r 0 + s < 2 ^ 64)
    reached-asks = (omega (arith, r-in, long), omega (arith, left r r-in, small))

    pub left-asks : (ys : List ℕ) → ys ≡ plus xs r s → (t < length ys) × (get_or ys t 0 + half * s < 2 ^ 64)
    left-asks ys q = rw q (
      simp length-set (omega (arith, t-in, long)),
      omega (arith, plus-at xs r s t (omega (arith, r-in, long)), cond-most (eqb r t) s, left t t-in, small),
    )

    pub inside-counted : (ys zs : List ℕ) → ys ≡ plus xs r s → zs ≡ plus ys t (half * s) → Counted cells xs zs inward first second s
    inside-counted ys zs q p c l =
        let in_ys : t < length ys = rw q (simp length-set (omega (arith, t-in, long))) in
        let one : get_or ys c 0 ≡ get_or xs c 0 + cond (eqb r c) s 0 = rw q (plus-at xs r s c (omega (arith, r-in, long))) in
        rw p (plus-at ys t (half * s) c in_ys ∙ omega (arith, one, scaled (eqb t c) s))

-- of a face's flux the receiver gets all, and the giver loses all
arrives : (b : Bool) (l k s c : ℕ) → cond (eqb (cond b l k) c) s 0 ≡ cond (eqb k c) (cond b 0 s) 0 + cond (eqb l c) (cond b s 0) 0
arrives true l k s c = omega (arith, cond_same {A = ℕ} (eqb k c) 0)
arrives false l k s c = omega (arith, cond_same {A = ℕ} (eqb l c) 0)

module _ (firsts seconds : List ℕ) (fluxes : List ℤ) where
  abbrev x : ℕ → ℤ
  x f = get_or fluxes f (pos 0)

  -- the sums of the first n faces are small
  below-small : (n : ℕ) → n ≤ max_faces → ((f : ℕ) → f < n → size (x f) ≤ ceiling) → (c : ℕ)
      → counted_below n firsts seconds fluxes c + (half + 1) * ceiling < 2 ^ 64
  unfolding counted_below incoming outgoing
  below-small n few small c = omega (
    arith,
    incoming-most (faces_only n firsts seconds) x max_rim_flux few small c,
    outgoing-most (faces_only n firsts seconds) x max_rim_flux few small c,
  )

  below_none : (c : ℕ) → counted_below 0 firsts seconds fluxes c ≡ 0
  unfolding counted_below
  below_none c = omega (arith, sum-zero (entering (faces_only 0 firsts seconds) x c), sum-zero (leaving (faces_only 0 firsts seconds) x c))

  pub sums-start : (cells : ℕ) (xs : List ℕ) → ((c : ℕ) → c < cells → get_or xs c 0 ≡ 0) → SumsAre cells 0 firsts seconds fluxes xs
  sums-start cells xs e c l = e c l ∙ sym (below_none c)

  -- so that there is room for one more face
  pub room-left : (cells f : ℕ) (sums : List ℕ) → f ≤ max_faces → ((g : ℕ) → g < f → size (x g) ≤ ceiling) → SumsAre cells f firsts seconds fluxes sums
      → RoomLeft cells sums
  room-left cells f sums few small e c l = omega (arith, e c l, below-small f few small c)

  pub amounts-small : (cells f : ℕ) (shares reaches outsides : List ℕ) → FacesFine cells f firsts seconds shares reaches fluxes outsides
      → (g : ℕ) → g < f → size (x g) ≤ ceiling
  amounts-small cells f shares reaches outsides h g d =
      amount-most (get_or seconds g 0) (get_or shares g 0) (get_or reaches g 0) (size (x g)) (h g d).0.1 (h g d).1.1

  -- one more face
  pub one_more : (f : ℕ) (b : Bool) (s c : ℕ) → b ≡ is_negative (x f) → s ≡ size (x f)
      → counted_below (f + 1) firsts seconds fluxes c
      ≡ counted_below f firsts seconds fluxes c + cond (eqb (cond b (get_or firsts f 0) (get_or seconds f 0)) c) s 0 + half * cond
      (eqb (cond b (get_or seconds f 0) (get_or firsts f 0)) c) s 0
  unfolding counted_below entering leaving
  one_more f b s c n z = rw (
    n,
    z,
    arrives (is_negative (x f)) (get_or firsts f 0) (get_or seconds f 0) (size (x f)) c,
    arrives (is_negative (x f)) (get_or seconds f 0) (get_or firsts f 0) (size (x f)) c,
    ← forward-is (x f),
    ← backward-is (x f),
  )
      (omega (arith, sum_more f (entering (faces_only f firsts seconds) x c), sum_more f (leaving (faces_only f firsts seconds) x c)))

  pub counted-turn : (cells f : ℕ) (b : Bool) (s : ℕ) (xs ys : List ℕ) → b ≡ is_negative (x f) → s ≡ size (x f) → SumsAre cells f firsts seconds fluxes xs
      → Counted cells xs ys b (get_or firsts f 0) (get_or seconds f 0) s → SumsAre cells (f + 1) firsts seconds fluxes ys
  counted-turn cells f b s xs ys n z e q c l = omega (arith, q c l, e c l, one_more f b s c n z)

  -- the sums at the end
  sum-says : (faces : ℕ) (v c : ℕ) → faces ≤ max_faces → ((f : ℕ) → f < faces → size (x f) ≤ ceiling) → SumFits v (counted_below faces firsts seconds fluxes c)
      → (inflow faces firsts seconds fluxes c ≡ outflow faces firsts seconds fluxes c) × (outflow faces firsts seconds fluxes c ≤ v)
  unfolding counted_below incoming outgoing
  sum-says faces v c few small h = (
    omega (arith, incoming-most (faces_only faces firsts seconds) x max_rim_flux few small c, h.0),
    omega (arith, incoming-most (faces_only faces firsts seconds) x max_rim_flux few small c, h.1),
  )

  pub faces-pass : (cells faces : ℕ) (volumes shares reaches outsides sums : List ℕ) → faces ≤ max_faces
      → FacesFine cells faces firsts seconds shares reaches fluxes outsides
      → SumsAre cells faces firsts seconds fluxes sums → ((c : ℕ) → c < cells → SumFits (get_or volumes c 0) (get_or sums c 0))
      → FacesPass cells faces volumes firsts seconds shares reaches fluxes outsides
  faces-pass cells faces volumes shares reaches outsides sums few h e d =
      let small = amounts-small cells faces shares reaches outsides h in
      let says : (c : ℕ) → c < cells → (inflow faces firsts seconds fluxes c ≡ outflow faces firsts seconds fluxes c)
      × (outflow faces firsts seconds fluxes c ≤ get_or volumes c 0) =
      λ c l. sum-says faces (get_or volumes c 0) c few small (rw (e c l) at (d c l)) in (
        fine-each 4 faces _ (λ f l. (h f l).0.0),
        fine-each 5 faces _ (λ f l. (h f l).0.1),
        fine-each 7 faces _ (λ f l. (h f l).1.0),
        fine-each 8 faces _ (λ f l. (h f l).1.1),
        fine-each 9 cells _ (λ c l. eq-eqb _ _ (says c l).0),
        fine-each 10 cells _ (λ c l. le-leb _ _ (says c l).1),
      )
