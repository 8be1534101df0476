-- A step P on a part of the lagoon of a step S: what passes through its faces, what the water carries, and the masses after that.
use Prim.Native.Nat.{ℕ, ◌+◌, ◌≤◌, ◌<◌}
use mathlib.Core.Path.{◌≡◌, refl, sym, ap, ◌∙◌}
use mathlib.Core.Logic.{◌≢◌}
use mathlib.Core.Bool.{Bool, true, false, cond}
use native.Mathlib.Omega.{arith}
use borrow.Author.Tests.{eq-eqb, ne_eqb}
use lib.Dec.{eqb}
use lib.IntN.{ℤ, pos, ◌*ℤ◌}
use Rattle.lists.proofs.Tests.{Same, same, other, same?}
use Rattle.lists.proofs.Renumbered.{sum-along}
use Rattle.signed.specs.Sign.{is_negative, forward, backward, turn}
use Rattle.signed.proofs.Turns.{turn-passes, turn-opposite, turn-carries}
use Rattle.model.specs.Mesh.{Mesh, first, second, at_rim, rim, entering, incoming, outgoing, updated}
use Rattle.model.specs.Step.{StepInput, flux, outside, concentration, beyond, upwind, carried}
use Rattle.model.specs.Accepted.{Joined}
use Rattle.model.proofs.Turned.{opposite, outgoing-turned}

-- Cell c of N is cell `cell c` of M. Face f of N is face F of M: inside the part, over the rim, or cut, on the side of its first or of its second cell.
pub data Side (M N : Mesh) (cell : ℕ → ℕ) (f F : ℕ) : (cut turned : Bool) → Type 0 where
  inside : first M F ≡ cell (first N f) → second M F ≢ rim → second N f ≢ rim → second M F ≡ cell (second N f) → Side M N cell f F false false
  over_rim : first M F ≡ cell (first N f) → second M F ≡ rim → second N f ≡ rim → Side M N cell f F false false
  at_first : first M F ≡ cell (first N f) → second M F ≢ rim → second N f ≡ rim → ((c : ℕ) → c < N.cells → second M F ≢ cell c) → Side M N cell f F true false
  at_second : second M F ≡ cell (first N f) → second M F ≢ rim → second N f ≡ rim → ((c : ℕ) → c < N.cells → first M F ≢ cell c) → Side M N cell f F true true

-- The part has every face of its cells, by the number `place F`.
pub record PartMesh (M N : Mesh) (cell face place : ℕ → ℕ) (cuts turns : ℕ → Bool) : Type 0 where
  pub few : M.cells ≤ rim
  pub joined : Joined N
  pub cell_in : (c : ℕ) → c < N.cells → cell c < M.cells
  pub cell_one : (c d : ℕ) → c < N.cells → d < N.cells → cell c ≡ cell d → c ≡ d
  pub face_in : (f : ℕ) → f < N.faces → face f < M.faces
  pub face_place : (f : ℕ) → f < N.faces → place (face f) ≡ f
  pub first_kept : (F c : ℕ) → F < M.faces → c < N.cells → first M F ≡ cell c → (place F < N.faces) × (face (place F) ≡ F)
  pub second_kept : (F c : ℕ) → F < M.faces → c < N.cells → second M F ≡ cell c → (place F < N.faces) × (face (place F) ≡ F)
  pub side : (f : ℕ) → f < N.faces → Side M N cell f (face f) (cuts (face f)) (turns (face f))

module _ {M N : Mesh} {cell face place : ℕ → ℕ} {cuts turns : ℕ → Bool} (p : PartMesh M N cell face place cuts turns) where
  -- which end of a face a cell is
  cell-eqb : (c d : ℕ) → c < N.cells → d < N.cells → eqb (cell c) (cell d) ≡ eqb c d
  cell-eqb c d h l = go (eqb c d) (same? c d)
    where
      go : (b : Bool) → Same c d b → eqb (cell c) (cell d) ≡ b
      go true (same e) = eq-eqb _ _ (ap cell e)
      go false (other n) = ne_eqb _ _ (λ e. n (p.cell_one c d h l e))

  whole-rim : (c : ℕ) → c < N.cells → eqb rim (cell c) ≡ false
  whole-rim c h = ne_eqb rim (cell c) (λ e. absurd (omega (arith, p.few, p.cell_in c h)))

  no-rim : (c : ℕ) → c < N.cells → eqb rim c ≡ false
  no-rim c h = ne_eqb rim c (λ e. absurd (omega (arith, p.joined.few)))

  ends : (f c : ℕ) → f < N.faces → c < N.cells
      → (eqb (first N f) c ≡ cond (turns (face f)) (eqb (second M (face f)) (cell c)) (eqb (first M (face f)) (cell c)))
      × (eqb (second N f) c ≡ cond (turns (face f)) (eqb (first M (face f)) (cell c)) (eqb (second M (face f)) (cell c)))
  ends f c l h = go (cuts (face f)) (turns (face f)) (p.side f l)
    where
      at-first : eqb (cell (first N f)) (cell c) ≡ eqb (first N f) c
      at-first = cell-eqb (first N f) c (p.joined.first-in f l) h

      go : (k t : Bool) → Side M N cell f (face f) k t
          → (eqb (first N f) c ≡ cond t (eqb (second M (face f)) (cell c)) (eqb (first M (face f)) (cell c)))
          × (eqb (second N f) c ≡ cond t (eqb (first M (face f)) (cell c)) (eqb (second M (face f)) (cell c)))
      go false false (inside a e d b) = rw (a, b) (sym at-first, sym (cell-eqb (second N f) c (p.joined.second_in f l d) h))
      go false false (over_rim a e d) = rw (a, d, e) (sym at-first, no-rim c h ∙ sym (whole-rim c h))
      go false true z = elim z [ ]
      go true false (at_first a e d q) = rw (a, d, ne_eqb (second M (face f)) (cell c) (q c h)) (sym at-first, no-rim c h)
      go true true (at_second a e d q) = rw (a, d, ne_eqb (first M (face f)) (cell c) (q c h)) (sym at-first, no-rim c h)

  -- a face through which something passes to or from a cell of the part is one of its faces
  kept : (c F a b : ℕ) → c < N.cells → F < M.faces → cond (eqb (second M F) (cell c)) a 0 + cond (eqb (first M F) (cell c)) b 0 ≢ 0
      → (place F < N.faces) × (face (place F) ≡ F)
  kept c F a b h l n = go (eqb (second M F) (cell c)) (same? (second M F) (cell c)) (eqb (first M F) (cell c)) (same? (first M F) (cell c)) n
    where
      go : (s : Bool) → Same (second M F) (cell c) s → (r : Bool) → Same (first M F) (cell c) r → cond s a 0 + cond r b 0 ≢ 0
          → (place F < N.faces) × (face (place F) ≡ F)
      go true (same e) r rr n = p.second_kept F c l h e
      go false ss true (same e) n = p.first_kept F c l h e
      go false ss false rr n = absurd (n (omega arith))

  -- amounts carried along
  module _ (x y : ℕ → ℤ) (along : (f : ℕ) → f < N.faces → y f ≡ turn (turns (face f)) (x (face f))) where
    pub incoming-part : (c : ℕ) → c < N.cells → incoming N y c ≡ incoming M x (cell c)
    unfolding incoming entering
    incoming-part c h = sum-along N.faces M.faces (entering N y c) (entering M x (cell c)) face place p.face_in p.face_place
        (λ F l n. kept c F (forward (x F)) (backward (x F)) h l n)
        (λ f l. rw ((ends f c l h).0, (ends f c l h).1, along f l)
        (turn-passes (turns (face f)) (eqb (second M (face f)) (cell c)) (eqb (first M (face f)) (cell c)) (x (face f))))

  module _ (x y : ℕ → ℤ) (along : (f : ℕ) → f < N.faces → y f ≡ turn (turns (face f)) (x (face f))) where
    pub outgoing-part : (c : ℕ) → c < N.cells → outgoing N y c ≡ outgoing M x (cell c)
    outgoing-part c h = rw (outgoing-turned N y c, outgoing-turned M x (cell c))
        (incoming-part (opposite x) (opposite y) (λ f l. rw (along f l) (turn-opposite (turns (face f)) (x (face f)))) c h)

    pub updated-part : (m n : ℕ → ℕ) → ((c : ℕ) → c < N.cells → n c ≡ m (cell c)) → (c : ℕ) → c < N.cells → updated N n y c ≡ updated M m x (cell c)
    unfolding updated
    updated-part m n e c h = rw (e c h, incoming-part x y along c h, outgoing-part c h)

-- with q, U and outside values
pub record PartStep (S P : StepInput) (cell face place : ℕ → ℕ) (cuts turns : ℕ → Bool) : Type 0 where
  pub meshes : PartMesh S.mesh P.mesh cell face place cuts turns
  pub q_same : (c : ℕ) → c < P.mesh.cells → concentration P c ≡ concentration S (cell c)
  pub flux_same : (f : ℕ) → f < P.mesh.faces → flux P f ≡ turn (turns (face f)) (flux S (face f))
  -- at a cut face what is across the cut, where water enters
  pub outside_same : (f : ℕ) → f < P.mesh.faces → outside P f
      ≡ cond (cuts (face f)) (cond (is_negative (turn (turns (face f)) (flux S (face f))))
      (concentration S (cond (turns (face f)) (first S.mesh (face f)) (second S.mesh (face f)))) 0)
      (outside S (face f))

again : (b : Bool) (x y : ℕ) → cond b (cond b x 0) y ≡ cond b x y
again true x y = refl
again false x y = refl

module _ {S P : StepInput} {cell face place : ℕ → ℕ} {cuts turns : ℕ → Bool} (p : PartStep S P cell face place cuts turns) where
  abbrev M : Mesh
  M = S.mesh

  abbrev N : Mesh
  N = P.mesh

  pub carried-part : (f : ℕ) → f < N.faces → carried P f ≡ turn (turns (face f)) (carried S (face f))
  unfolding carried upwind beyond
  carried-part f l = rw (p.flux_same f l, p.outside_same f l) (go (cuts (face f)) (turns (face f)) (p.meshes.side f l))
    where
      u : ℤ
      u = flux S (face f)

      at-first : concentration P (first N f) ≡ concentration S (cell (first N f))
      at-first = p.q_same (first N f) (p.meshes.joined.first-in f l)

      go : (k t : Bool) → Side M N cell f (face f) k t
          → turn t u *ℤ pos (cond (is_negative (turn t u)) (cond (at_rim N f)
          (cond k (cond (is_negative (turn t u)) (concentration S (cond t (first M (face f)) (second M (face f)))) 0) (outside S (face f)))
          (concentration P (second N f))) (concentration P (first N f)))
          ≡ turn t (u *ℤ pos (cond (is_negative u) (cond (at_rim M (face f)) (outside S (face f)) (concentration S (second M (face f))))
          (concentration S (first M (face f)))))
      go false false (inside a e d b) = rw (
        ne_eqb (second N f) rim d,
        ne_eqb (second M (face f)) rim e,
        at-first,
        p.q_same (second N f) (p.meshes.joined.second_in f l d),
        a,
        b,
      )
      go false false (over_rim a e d) = rw (eq-eqb (second N f) rim d, eq-eqb (second M (face f)) rim e, at-first, a)
      go false true z = elim z [ ]
      go true false (at_first a e d q) = rw (eq-eqb (second N f) rim d, ne_eqb (second M (face f)) rim e, at-first, a)
          (rw (again (is_negative u) (concentration S (second M (face f))) (concentration S (cell (first N f)))))
      go true true (at_second a e d q) = rw (eq-eqb (second N f) rim d, ne_eqb (second M (face f)) rim e, at-first, a)
          (rw (again (is_negative (turn true u)) (concentration S (first M (face f))) (concentration S (cell (first N f))))
          (turn-carries true u (concentration S (first M (face f))) (concentration S (cell (first N f)))))
