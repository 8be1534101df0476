-- The part that is cut out is a part: its entries, its cells and its faces by their old numbers.
use Prim.Native.Nat.{ℕ, ◌≤◌, ◌<◌}
use mathlib.Core.Path.{◌≡◌, refl, sym, ap, ◌∙◌}
use mathlib.Core.Logic.{◌≢◌}
use mathlib.Core.Bool.{Bool, true, false, not, cond, ◌&&◌, ◌||◌, true≢false}
use mathlib.Core.List.{List}
use native.Mathlib.Omega.{arith}
use borrow.Author.Tests.{ne_eqb}
use lib.IntN.{pos}
use lib.ListN.{get_or}
use Rattle.lists.proofs.Tests.{Same, same, other, same?}
use Rattle.model.specs.Mesh.{Mesh, volume, first, second, share, reach, at_rim, rim}
use Rattle.model.specs.Step.{flux, outside, concentration}
use Rattle.model.specs.Causes.{release}
use Rattle.model.specs.Accepted.{MeshFit}
use Rattle.model.proofs.Raised.{raised_at}
use Rattle.model.proofs.Rounded.{rounded-same}
use Rattle.lists.specs.Marked.{count, old}
use Rattle.cutting_parts.specs.Cut.{Tables, Lagoon, whole_mesh, whole_water, step_input, in_part, first_in, touches, new_cell, is_cut, is_turned, new_first, new_second, new_share, new_reach, new_flux, new_outside, part_of}
use Rattle.lists.proofs.Marked.{count_most, count_next, old-count, old-marked, picked-at}
use Rattle.cutting_parts.proofs.Part.{Side, inside, over_rim, at_first, at_second, PartMesh, PartStep}

module _ (L : Lagoon) (labels : List ℕ) (p : ℕ) (lent : Tables) where
  abbrev pub part : Lagoon
  part = part_of L labels p lent

  abbrev M : Mesh
  M = whole_mesh L

  abbrev N : Mesh
  N = whole_mesh part

  -- the old numbers
  abbrev pub cell : ℕ → ℕ
  cell = old L.cells (in_part L labels p)

  abbrev pub face : ℕ → ℕ
  face = old L.faces (touches L labels p)

  -- what the part's tables hold
  pub volume-is : (c : ℕ) → c < N.cells → volume N c ≡ volume M (cell c)
  volume-is = picked-at L.cells (in_part L labels p) (volume M) lent.volumes 0

  pub mass-is : (c : ℕ) → c < N.cells → get_or part.tables.masses c 0 ≡ get_or L.tables.masses (cell c) 0
  mass-is = picked-at L.cells (in_part L labels p) (λ c. get_or L.tables.masses c 0) lent.masses 0

  pub release-is : (c : ℕ) → c < N.cells → release (whole_water part) c ≡ release (whole_water L) (cell c)
  release-is = picked-at L.cells (in_part L labels p) (release (whole_water L)) lent.releases 0

  pub first-is : (f : ℕ) → f < N.faces → first N f ≡ new_first L labels p (face f)
  first-is = picked-at L.faces (touches L labels p) (new_first L labels p) lent.firsts 0

  pub second_is : (f : ℕ) → f < N.faces → second N f ≡ new_second L labels p (face f)
  second_is = picked-at L.faces (touches L labels p) (new_second L labels p) lent.seconds 0

  pub share-is : (f : ℕ) → f < N.faces → share N f ≡ new_share L labels p (face f)
  share-is = picked-at L.faces (touches L labels p) (new_share L labels p) lent.shares 0

  pub reach-is : (f : ℕ) → f < N.faces → reach N f ≡ new_reach L labels p (face f)
  reach-is = picked-at L.faces (touches L labels p) (new_reach L labels p) lent.reaches 0

  pub flux-is : (f : ℕ) → f < N.faces → flux (step_input part) f ≡ new_flux L labels p (face f)
  flux-is = picked-at L.faces (touches L labels p) (new_flux L labels p) lent.fluxes (pos 0)

  pub outside-is : (f : ℕ) → f < N.faces → outside (step_input part) f ≡ new_outside L labels p (face f)
  outside-is = picked-at L.faces (touches L labels p) (new_outside L labels p) lent.outsides 0

  -- the raised masses, and q
  pub raised_is : (c : ℕ) → c < N.cells → get_or (step_input part).masses c 0 ≡ get_or (step_input L).masses (cell c) 0
  raised_is c h = raised_at N.cells part.tables.masses part.tables.releases c h
      ∙ rw (mass-is c h, release-is c h)
      (sym (raised_at M.cells L.tables.masses L.tables.releases (cell c) (old-marked (in_part L labels p) L.cells c h).0))

  pub q-is : (c : ℕ) → c < N.cells → concentration (step_input part) c ≡ concentration (step_input L) (cell c)
  q-is c h = rounded-same M N (step_input L).masses (step_input part).masses (cell c) c (volume-is c h) (raised_is c h)

  -- a cell with the label has a number in the part, and so has a face that touches such a cell
  new-cell : (k : ℕ) → k < L.cells → in_part L labels p k ≡ true → (new_cell L labels p k < N.cells) × (k ≡ cell (new_cell L labels p k))
  new-cell k h e = (count_next (in_part L labels p) k L.cells h e, sym (old-count (in_part L labels p) L.cells k h e))

  new-face : (F : ℕ) → F < L.faces → touches L labels p F ≡ true → (count F (touches L labels p) < N.faces) × (face (count F (touches L labels p)) ≡ F)
  new-face F h e = (count_next (touches L labels p) F L.faces h e, old-count (touches L labels p) L.faces F h e)

  cell-labelled : (c : ℕ) → c < N.cells → in_part L labels p (cell c) ≡ true
  cell-labelled c h = (old-marked (in_part L labels p) L.cells c h).1

  -- a cell without the label is none of the part's
  elsewhere : (k : ℕ) → in_part L labels p k ≡ false → (c : ℕ) → c < N.cells → k ≢ cell c
  elsewhere k e c h q = true≢false (sym (cell-labelled c h) ∙ ap (in_part L labels p) (sym q) ∙ e)

  module _ (few : L.cells ≤ rim) (fit : MeshFit M) where
    few-part : N.cells ≤ rim
    few-part = omega (arith, count_most (in_part L labels p) L.cells)

    -- the ends of a face of the part
    module _ (f : ℕ) (l : f < N.faces) where
      abbrev F : ℕ
      F = face f

      F-in : F < M.faces
      F-in = (old-marked (touches L labels p) L.faces f l).0

      abbrev Cut : Bool → Bool → Bool → Bool
      Cut r a b = not r && not (a && (not r && b))

      abbrev Ends : Bool → Bool → Bool → Type 0
      Ends r a b = Side M N cell f F (Cut r a b) (not a) × (first N f < N.cells) × (second N f ≢ rim → second N f < N.cells)

      sides : (r : Bool) → Same (second M F) rim r → (a : Bool) → in_part L labels p (first M F) ≡ a → (b : Bool) → in_part L labels p (second M F) ≡ b
          → (a || (not r && b)) ≡ true
          → first N f ≡ new_cell L labels p (cond (not a) (second M F) (first M F))
          → second N f ≡ cond (r || Cut r a b) rim (new_cell L labels p (cond (not a) (first M F) (second M F)))
          → Ends r a b
      sides true (same r) true a b bb t x y =
          let n = new-cell (first M F) (fit.first-in F F-in) a in
          (over_rim (n.1 ∙ ap cell (sym x)) r y, rw x n.0, λ d. absurd (d y))
      sides true r false a b bb t x y = absurd (true≢false (sym t))
      sides false (other r) true a true b t x y =
          let n = new-cell (first M F) (fit.first-in F F-in) a in
          let m = new-cell (second M F) (fit.second_in F F-in r) b in
          let g : second N f < N.cells = rw y m.0 in
          (inside (n.1 ∙ ap cell (sym x)) r (λ e. absurd (omega (arith, few-part))) (m.1 ∙ ap cell (sym y)), rw x n.0, λ d. g)
      sides false (other r) true a false b t x y =
          let n = new-cell (first M F) (fit.first-in F F-in) a in
          (at_first (n.1 ∙ ap cell (sym x)) r y (elsewhere (second M F) b), rw x n.0, λ d. absurd (d y))
      sides false (other r) false a true b t x y =
          let n = new-cell (second M F) (fit.second_in F F-in r) b in
          (at_second (n.1 ∙ ap cell (sym x)) r y (elsewhere (first M F) a), rw x n.0, λ d. absurd (d y))
      sides false r false a false b t x y = absurd (true≢false (sym t))

      pub face-ends : Side M N cell f F (is_cut L labels p F) (is_turned L labels p F) × (first N f < N.cells) × (second N f ≢ rim → second N f < N.cells)
      face-ends = sides (at_rim M F) (same? (second M F) rim) (first_in L labels p F) refl (in_part L labels p (second M F)) refl
          (old-marked (touches L labels p) L.faces f l).1 (first-is f l) (second_is f l)

    -- a face of a cell of the part touches it
    at-first : (F c : ℕ) → F < M.faces → c < N.cells → first M F ≡ cell c → touches L labels p F ≡ true
    at-first F c l h e = let t : first_in L labels p F ≡ true = ap (in_part L labels p) e ∙ cell-labelled c h in rw t

    at-second : (F c : ℕ) → F < M.faces → c < N.cells → second M F ≡ cell c → touches L labels p F ≡ true
    at-second F c l h e =
        let t : in_part L labels p (second M F) ≡ true = ap (in_part L labels p) e ∙ cell-labelled c h in
        let n : at_rim M F ≡ false = ne_eqb (second M F) rim (λ d. absurd (omega (arith, (old-marked (in_part L labels p) L.cells c h).0))) in
        rw (n, t) (or-true (first_in L labels p F))
      where
        or-true : (a : Bool) → (a || true) ≡ true
        or-true true = refl
        or-true false = refl

    pub part-mesh : PartMesh M N cell face (λ F. count F (touches L labels p)) (is_cut L labels p) (is_turned L labels p)
    part-mesh = record {
      few = few;
      joined = record { few = few-part; first-in = λ f l. (face-ends f l).1; second_in = λ f l. (face-ends f l).2 };
      cell_in = λ c h. (old-marked (in_part L labels p) L.cells c h).0;
      cell_one = λ c d h l e. sym (old-marked (in_part L labels p) L.cells c h).2 ∙ ap (new_cell L labels p) e
          ∙ (old-marked (in_part L labels p) L.cells d l).2;
      face_in = λ f l. (old-marked (touches L labels p) L.faces f l).0;
      face_place = λ f l. (old-marked (touches L labels p) L.faces f l).2;
      first_kept = λ F c l h e. new-face F l (at-first F c l h e);
      second_kept = λ F c l h e. new-face F l (at-second F c l h e);
      side = λ f l. (face-ends f l).0;
    }

    pub part_step : PartStep (step_input L) (step_input part) cell face (λ F. count F (touches L labels p)) (is_cut L labels p) (is_turned L labels p)
    part_step = record { meshes = part-mesh; q_same = q-is; flux_same = flux-is; outside_same = outside-is }
