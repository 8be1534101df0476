-- Two meshes that are alike: what passes through their faces, what is kept of it, and what the limiter leaves. Both ends of a face go together, so that
-- a turn is one rewrite; an amount of 0 is split off first.
use Prim.Native.Nat.{ℕ, ◌<◌, min}
use mathlib.Core.Path.{◌≡◌, refl, sym, ap, ◌∙◌}
use mathlib.Core.Logic.{◌≢◌}
use mathlib.Core.Bool.{Bool, true, false, cond}
use native.Mathlib.Omega.{arith}
use borrow.Author.Tests.{ne_eqb}
use lib.Dec.{eqb}
use lib.IntN.{ℤ, pos}
use Rattle.lists.proofs.Tests.{Same, same, other, same?, cond_same}
use Rattle.signed.specs.Sign.{is_negative, is_zero, size, with_sign, turn}
use Rattle.signed.proofs.Laws.{is_zero-size, size-zero}
use Rattle.model.specs.Mesh.{Mesh, first, second, at_rim, rim, entering, incoming, outgoing, updated}
use Rattle.model.specs.Step.{portion, receiver, giver, smooths, kept_by, limited_by}
use Rattle.model.specs.Accepted.{Joined}
use Rattle.model.proofs.Turned.{opposite, outgoing-turned}
use Rattle.model.proofs.Limit.{portion-zero}
use Rattle.lists.specs.Renumbering.{Renumbering}
use Rattle.model.specs.Alike.{Facing, straight, turned, AlikeEnds}
use Rattle.lists.proofs.Renumbered.{sum-renumbered, renumbered-eqb}
use Rattle.signed.proofs.Turns.{size-turn, is_zero-turn, turn-opposite, turn-zero, turn-passes, turn-negative, turn-with_sign}

-- a correction z from l to k, kept or not
abbrev keep : (ℕ → ℕ) → ℤ → ℕ → ℕ → ℤ
keep q z l k = cond (smooths (q (cond (is_negative z) k l)) (q (cond (is_negative z) l k))) (pos 0) z

keep-nothing : (q : ℕ → ℕ) (z : ℤ) (l k : ℕ) → is_zero z ≡ true → keep q z l k ≡ pos 0
keep-nothing q z l k e = let n = size-zero z (is_zero-size z e) in rw n (cond_same (smooths (q l) (q k)) (pos 0))

keep-turned : (n : ℕ) (new : ℕ → ℕ) (q q' : ℕ → ℕ) → ((c : ℕ) → c < n → q' (new c) ≡ q c) → (t : Bool) (z : ℤ) (l k : ℕ) → is_zero z ≡ false → l < n → k < n
    → keep q' (turn t z) (cond t (new k) (new l)) (cond t (new l) (new k)) ≡ turn t (keep q z l k)
keep-turned n new q q' g t z l k s hl hk = rw (turn-negative t z (new l) (new k) s, turn-negative t z (new k) (new l) s) (go (is_negative z))
  where
    either : (b : Bool) → cond b (pos 0) (turn t z) ≡ turn t (cond b (pos 0) z)
    either true = sym (turn-zero t)
    either false = refl

    go : (b : Bool)
        → cond (smooths (q' (cond b (new k) (new l))) (q' (cond b (new l) (new k)))) (pos 0) (turn t z)
        ≡ turn t (cond (smooths (q (cond b k l)) (q (cond b l k))) (pos 0) z)
    go true = rw (g k hk, g l hl) (either (smooths (q k) (q l)))
    go false = rw (g l hl, g k hk) (either (smooths (q l) (q k)))

-- a correction z from l to k, limited
abbrev limit : (ℕ → ℕ) → (ℕ → ℕ) → (ℕ → ℕ) → (ℕ → ℕ) → ℤ → ℕ → ℕ → ℤ
limit G P L N z l k = with_sign (is_negative z)
    (min (portion (size z) (G (cond (is_negative z) l k)) (P (cond (is_negative z) l k)))
    (portion (size z) (L (cond (is_negative z) k l)) (N (cond (is_negative z) k l))))

limit-nothing : (G P L N : ℕ → ℕ) (z : ℤ) (l k : ℕ) → is_zero z ≡ true → limit G P L N z l k ≡ pos 0
limit-nothing G P L N z l k e = let n = size-zero z (is_zero-size z e) in rw (n, portion-zero (G k) (P k), portion-zero (L l) (N l))

limit-turned : (n : ℕ) (new : ℕ → ℕ) (G P L N G' P' L' N' : ℕ → ℕ)
    → ((c : ℕ) → c < n → G' (new c) ≡ G c) → ((c : ℕ) → c < n → P' (new c) ≡ P c) → ((c : ℕ) → c < n → L' (new c) ≡ L c) → ((c : ℕ) → c < n → N' (new c) ≡ N c)
    → (t : Bool) (z : ℤ) (l k : ℕ) → is_zero z ≡ false → l < n → k < n
    → limit G' P' L' N' (turn t z) (cond t (new k) (new l)) (cond t (new l) (new k)) ≡ turn t (limit G P L N z l k)
limit-turned n new G P L N G' P' L' N' g p e o t z l k s hl hk =
    rw (turn-negative t z (new l) (new k) s, turn-negative t z (new k) (new l) s, size-turn t z)
    (turn-with_sign t z _ s ∙ ap (λ (w : ℕ). turn t (with_sign (is_negative z) w)) (go (is_negative z)))
  where
    go : (b : Bool)
        → min (portion (size z) (G' (cond b (new l) (new k))) (P' (cond b (new l) (new k))))
        (portion (size z) (L' (cond b (new k) (new l))) (N' (cond b (new k) (new l))))
        ≡ min (portion (size z) (G (cond b l k)) (P (cond b l k))) (portion (size z) (L (cond b k l)) (N (cond b k l)))
    go true = rw (g l hl, p l hl, e k hk, o k hk)
    go false = rw (g k hk, p k hk, e l hl, o l hl)

module _ (M M' : Mesh) (j : Joined M) (cell : Renumbering M.cells) (face : Renumbering M.faces) (turns : ℕ → Bool)
    (a : AlikeEnds M M' cell face turns) where
  -- no cell is the rim
  not-rim : (c : ℕ) → c < M.cells → eqb rim c ≡ false
  not-rim c h = ne_eqb rim c (λ e. absurd (omega (arith, j.few)))

  -- the second of a face not turned
  second-tests : (k : ℕ) → (k ≢ rim → k < M.cells) → (c : ℕ) → c < M.cells → eqb (cond (eqb k rim) rim (cell.new k)) (cell.new c) ≡ eqb k c
  second-tests k at-k c h = go (eqb k rim) (same? k rim)
    where
      go : (b : Bool) → Same k rim b → eqb (cond b rim (cell.new k)) (cell.new c) ≡ eqb k c
      go true (same e) = not-rim (cell.new c) (cell.new_in c h) ∙ sym (rw e (not-rim c h))
      go false (other d) = renumbered-eqb M.cells cell k c (at-k d) h

  -- which end of a face a cell is
  pub first-is : (f c : ℕ) → f < M.faces → c < M.cells → eqb (first M' (face.new f)) (cell.new c) ≡ cond (turns f) (eqb (second M f) c) (eqb (first M f) c)
  first-is f c l h = go (turns f) (a.facing f l)
    where
      go : (t : Bool) → Facing M M' cell.new f (face.new f) t → eqb (first M' (face.new f)) (cell.new c) ≡ cond t (eqb (second M f) c) (eqb (first M f) c)
      go false (straight p q) = rw p (renumbered-eqb M.cells cell (first M f) c (j.first-in f l) h)
      go true (turned d p q) = rw p (renumbered-eqb M.cells cell (second M f) c (j.second_in f l d) h)

  pub second_is : (f c : ℕ) → f < M.faces → c < M.cells → eqb (second M' (face.new f)) (cell.new c)
      ≡ cond (turns f) (eqb (first M f) c) (eqb (second M f) c)
  second_is f c l h = go (turns f) (a.facing f l)
    where
      go : (t : Bool) → Facing M M' cell.new f (face.new f) t → eqb (second M' (face.new f)) (cell.new c)
          ≡ cond t (eqb (first M f) c) (eqb (second M f) c)
      go false (straight p q) = rw q (second-tests (second M f) (j.second_in f l) c h)
      go true (turned d p q) = rw q (renumbered-eqb M.cells cell (first M f) c (j.first-in f l) h)

  -- the rim is where it was
  pub rim-same : (f : ℕ) → f < M.faces → at_rim M' (face.new f) ≡ at_rim M f
  rim-same f l = go (turns f) (a.facing f l)
    where
      inside : (k : ℕ) → k < M.cells → eqb (cell.new k) rim ≡ false
      inside k h = ne_eqb (cell.new k) rim (λ e. absurd (omega (arith, j.few, cell.new_in k h)))

      at-second : (b : Bool) → Same (second M f) rim b → eqb (cond b rim (cell.new (second M f))) rim ≡ b
      at-second true s = refl
      at-second false (other d) = inside (second M f) (j.second_in f l d)

      go : (t : Bool) → Facing M M' cell.new f (face.new f) t → at_rim M' (face.new f) ≡ at_rim M f
      go false (straight p q) = rw q (at-second (at_rim M f) (same? (second M f) rim))
      go true (turned d p q) = rw (q, ne_eqb (second M f) rim d) (inside (first M f) (j.first-in f l))

  -- both ends of an interior face
  ends_alike : (f : ℕ) → second M f ≢ rim → (t : Bool) → Facing M M' cell.new f (face.new f) t
      → (first M' (face.new f) ≡ cond t (cell.new (second M f)) (cell.new (first M f)))
      × (second M' (face.new f) ≡ cond t (cell.new (first M f)) (cell.new (second M f)))
  ends_alike f d false (straight p q) = (p, q ∙ rw (ne_eqb (second M f) rim d))
  ends_alike f d true (turned _ p q) = (p, q)

  -- amounts carried along
  module _ (x x' : ℕ → ℤ) (along : (f : ℕ) → f < M.faces → x' (face.new f) ≡ turn (turns f) (x f)) where
    pub incoming-alike : (c : ℕ) → c < M.cells → incoming M' x' (cell.new c) ≡ incoming M x c
    unfolding incoming entering
    incoming-alike c h = rw a.faces_same
        (sum-renumbered M.faces face (entering M' x' (cell.new c)) (entering M x c)
        (λ f l. rw (first-is f c l h, second_is f c l h, along f l) (turn-passes (turns f) (eqb (second M f) c) (eqb (first M f) c) (x f))))

  -- and in the same way what leaves: of amounts carried along the opposite ones are too
  module _ (x x' : ℕ → ℤ) (along : (f : ℕ) → f < M.faces → x' (face.new f) ≡ turn (turns f) (x f)) where
    pub outgoing-alike : (c : ℕ) → c < M.cells → outgoing M' x' (cell.new c) ≡ outgoing M x c
    outgoing-alike c h = rw (outgoing-turned M' x' (cell.new c), outgoing-turned M x c)
        (incoming-alike (opposite x) (opposite x') (λ f l. rw (along f l) (turn-opposite (turns f) (x f))) c h)

    pub updated-alike : (m m' : ℕ → ℕ) → ((c : ℕ) → c < M.cells → m' (cell.new c) ≡ m c) → (c : ℕ) → c < M.cells → updated M' m' x' (cell.new c)
        ≡ updated M m x c
    unfolding updated
    updated-alike m m' e c h = rw (e c h, incoming-alike x x' along c h, outgoing-alike c h)

    -- Document 02's S-5, for a correction that is 0 at the rim.
    pub kept-alike : (q q' : ℕ → ℕ) → ((c : ℕ) → c < M.cells → q' (cell.new c) ≡ q c)
        → (f : ℕ) → f < M.faces → (is_zero (x f) ≡ false → second M f ≢ rim) → kept_by M' q' x' (face.new f) ≡ turn (turns f) (kept_by M q x f)
    unfolding kept_by receiver giver
    kept-alike q q' e f l within = rw (along f l) (go (is_zero (x f)) refl)
      where
        go : (b : Bool) → is_zero (x f) ≡ b
            → keep q' (turn (turns f) (x f)) (first M' (face.new f)) (second M' (face.new f)) ≡ turn (turns f) (keep q (x f) (first M f) (second M f))
        go true z = keep-nothing q' (turn (turns f) (x f)) (first M' (face.new f)) (second M' (face.new f)) (is_zero-turn (turns f) (x f) ∙ z)
            ∙ sym (ap (turn (turns f)) (keep-nothing q (x f) (first M f) (second M f) z) ∙ turn-zero (turns f))
        go false z =
            let d = within z in
            let p = ends_alike f d (turns f) (a.facing f l) in
            rw (p.0, p.1) (keep-turned M.cells cell.new q q' e (turns f) (x f) (first M f) (second M f) z (j.first-in f l) (j.second_in f l d))

    -- The limiter, for a correction that is 0 at the rim.
    pub limited-alike : (gain gain' loss loss' : ℕ → ℕ) → ((c : ℕ) → c < M.cells → gain' (cell.new c) ≡ gain c)
        → ((c : ℕ) → c < M.cells → loss' (cell.new c) ≡ loss c)
        → (f : ℕ) → f < M.faces → (is_zero (x f) ≡ false → second M f ≢ rim) → limited_by M' gain' loss' x' (face.new f)
        ≡ turn (turns f) (limited_by M gain loss x f)
    unfolding limited_by receiver giver
    limited-alike gain gain' loss loss' g e f l within = rw (along f l) (go (is_zero (x f)) refl)
      where
        go : (b : Bool) → is_zero (x f) ≡ b
            → limit gain' (incoming M' x') loss' (outgoing M' x') (turn (turns f) (x f)) (first M' (face.new f)) (second M' (face.new f))
            ≡ turn (turns f) (limit gain (incoming M x) loss (outgoing M x) (x f) (first M f) (second M f))
        go true z = limit-nothing gain' (incoming M' x') loss' (outgoing M' x') (turn (turns f) (x f)) (first M' (face.new f)) (second M' (face.new f))
            (is_zero-turn (turns f) (x f) ∙ z)
            ∙ sym (ap (turn (turns f)) (limit-nothing gain (incoming M x) loss (outgoing M x) (x f) (first M f) (second M f) z) ∙ turn-zero (turns f))
        go false z =
            let d = within z in
            let p = ends_alike f d (turns f) (a.facing f l) in
            rw (p.0, p.1) (limit-turned M.cells cell.new gain (incoming M x) loss (outgoing M x) gain' (incoming M' x') loss' (outgoing M' x')
            g (incoming-alike x x' along) e outgoing-alike (turns f) (x f) (first M f) (second M f) z (j.first-in f l) (j.second_in f l d))
