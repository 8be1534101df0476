-- A mesh that is alike an accepted one passes causes 3 to 5: its ends are cells again, and s turned round is within its range.
use Prim.Native.Nat.{ℕ, ◌-◌, ◌≤◌, ◌<◌}
use mathlib.Core.Path.{◌≡◌, refl, sym, ap, ◌∙◌}
use mathlib.Core.Logic.{◌≢◌}
use mathlib.Core.Bool.{Bool, true, false, cond, ◌&&◌}
use native.Mathlib.Omega.{arith}
use borrow.Author.Tests.{leb-true, le-leb}
use lib.Dec.{eqb, leb}
use Rattle.lists.specs.Renumbering.{Renumbering}
use Rattle.lists.proofs.Tests.{Same, same, other, same?, both_true}
use Rattle.model.specs.Mesh.{Mesh, first, second, share, reach, at_rim, rim, max_share, max_reach, ceiling}
use Rattle.model.specs.Causes.{fine, ◌and_then◌, each, between, volume_good, ends_good, spacing_good, mesh_causes, mesh_values}
use Rattle.model.specs.Accepted.{MeshFit}
use Rattle.model.specs.Alike.{Facing, straight, turned, AlikeMesh}
use Rattle.model.proofs.Verdicts.{all-fine, each-fine, fine-each}
use Rattle.model.proofs.Accepted.{mesh-fit, ends-pass}
use Rattle.model.proofs.AlikeFaces.{rim-same}
use Rattle.model.proofs.AlikeStages.{joined}

-- a share turned round is as good
share-pass : (t : Bool) (s K : ℕ) → (between 1 max_share s && between 1 max_reach K) ≡ true
    → (between 1 max_share (cond t (256 - s) s) && between 1 max_reach K) ≡ true
share-pass false s K e = e
share-pass true s K e =
    let p = both_true (between 1 max_share s) (between 1 max_reach K) e in
    let q = both_true (leb 1 s) (leb s max_share) p.0 in
    rw (p.1, le-leb 1 (256 - s) (omega (arith, leb-true s max_share q.1)), le-leb (256 - s) max_share (omega (arith, leb-true 1 s q.0)))

module _ (M M' : Mesh) (few : M.cells ≤ rim) (fine-values : mesh_values ceiling M ≡ fine)
    (cell : Renumbering M.cells) (face : Renumbering M.faces) (turns : ℕ → Bool) (a : AlikeMesh M M' cell face turns) where
  fit : MeshFit M
  fit = mesh-fit M fine-values

  new-one : (i k : ℕ) → i < M.cells → k < M.cells → cell.new i ≡ cell.new k → i ≡ k
  new-one i k h l e = sym (cell.old_new i h) ∙ ap cell.old e ∙ cell.old_new k l

  -- cause 4
  new-ends : (f : ℕ) → f < M.faces → (t : Bool) → Facing M M' cell.new f (face.new f) t
      → (first M' (face.new f) < M.cells) × (second M' (face.new f) ≢ rim → second M' (face.new f) < M.cells)
      × (first M' (face.new f) ≢ second M' (face.new f))
  new-ends f l true (turned d p q) =
      let h = fit.second_in f l d in
      rw (p, q) (
        cell.new_in _ h,
        (λ n. cell.new_in _ (fit.first-in f l)),
        λ e. fit.apart f l (sym (new-one (second M f) (first M f) h (fit.first-in f l) e)),
      )
  new-ends f l false (straight p q) =
      let at = at-second (at_rim M f) (same? (second M f) rim) in
      rw (p, q) (cell.new_in _ (fit.first-in f l), at.0, at.1)
    where
      at-second : (b : Bool) → Same (second M f) rim b
          → (cond b rim (cell.new (second M f)) ≢ rim → cond b rim (cell.new (second M f)) < M.cells)
          × (cell.new (first M f) ≢ cond b rim (cell.new (second M f)))
      at-second true s = ((λ n. absurd (n refl)), λ e. absurd (omega (arith, few, cell.new_in (first M f) (fit.first-in f l))))
      at-second false (other d) =
          let h = fit.second_in f l d in
          ((λ n. cell.new_in _ h), λ e. fit.apart f l (new-one (first M f) (second M f) (fit.first-in f l) h e))

  ends-good : (f : ℕ) → f < M.faces → ends_good M' (face.new f) ≡ true
  unfolding ends_good
  ends-good f l =
      let e = new-ends f l (turns f) (a.ends_alike.facing f l) in
      rw a.ends_alike.cells_same (ends-pass M.cells (first M' (face.new f)) (second M' (face.new f)) e.0 e.1 e.2)

  -- cause 5
  spacing-good : (f : ℕ) → f < M.faces → spacing_good ceiling M' (face.new f) ≡ true
  unfolding spacing_good mesh_values
  spacing-good f l =
      rw (rim-same M M' (joined M few fit) cell face turns a.ends_alike f l, a.share_same f l, a.reach_same f l)
      (go (turns f) (a.ends_alike.facing f l) (at_rim M f) (same? (second M f) rim)
      (each-fine 5 M.faces (spacing_good ceiling M) (all-fine (mesh_causes ceiling M) fine-values).1.1.0 f l))
    where
      go : (t : Bool) → Facing M M' cell.new f (face.new f) t → (r : Bool) → Same (second M f) rim r
          → cond r (eqb (share M f) 0 && eqb (reach M f) 0) (between 1 max_share (share M f) && between 1 max_reach (reach M f)) ≡ true
          → cond r (eqb (cond t (256 - share M f) (share M f)) 0 && eqb (reach M f) 0)
          (between 1 max_share (cond t (256 - share M f) (share M f)) && between 1 max_reach (reach M f)) ≡ true
      go false x true s e = e
      go true (turned d p q) true (same r) e = absurd (d r)
      go t x false s e = share-pass t (share M f) (reach M f) e

  -- cause 3
  volume-good : (c : ℕ) → c < M.cells → volume_good ceiling M' (cell.new c) ≡ true
  unfolding volume_good mesh_values
  volume-good c h = rw (a.volume_same c h) (each-fine 3 M.cells (volume_good ceiling M) (all-fine (mesh_causes ceiling M) fine-values).0 c h)

  -- tests that all pass by the new numbers
  all_pass : (k n : ℕ) {n' : ℕ} (r : Renumbering n) (good : ℕ → Bool) → n' ≡ n → ((i : ℕ) → i < n → good (r.new i) ≡ true) → each k n' good ≡ fine
  all_pass k n r good e h = ap (λ (m : ℕ). each k m good) e ∙ fine-each k n good (λ i l. ap good (sym (r.new_old i l)) ∙ h (r.old i) (r.old_in i l))

  pub new-values : mesh_values ceiling M' ≡ fine
  unfolding mesh_values ◌and_then◌
  new-values = rw (
    all_pass 3 M.cells cell (volume_good ceiling M') a.ends_alike.cells_same volume-good,
    all_pass 4 M.faces face (ends_good M') a.ends_alike.faces_same ends-good,
    all_pass 5 M.faces face (spacing_good ceiling M') a.ends_alike.faces_same spacing-good,
  )
