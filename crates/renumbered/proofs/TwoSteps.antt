-- Two calls of a step that sees no numbers, on meshes that are alike: the same answer, and the same next and moved masses at the new numbers. A
-- table that is too short is found in both.
use Prim.Native.Nat.{ℕ, ◌≤◌, ◌<◌}
use mathlib.Core.Path.{◌≡◌, refl, sym, ap, ◌∙◌}
use mathlib.Core.Bool.{Bool, true, false}
use mathlib.Core.List.{List, [], ◌∷◌}
use lib.ListN.{length}
use Rattle.lists.specs.Renumbering.{Renumbering}
use Rattle.signed.specs.Sign.{turn}
use Rattle.model.specs.Mesh.{Mesh, rim, updated, ceiling}
use Rattle.model.specs.Step.{mass}
use Rattle.model.specs.Causes.{accepted, refused, Verdict, fine, ◌and_then◌, granted, Call, input_of, counts, mesh_tables, mesh_values, mesh_verdict, field_table, step_tables, verdict}
use Rattle.model.specs.Calls.{Crossing, Scheme, step_answer}
use Rattle.model.specs.Accepted.{MeshLent, CallLent, MeshFit}
use Rattle.model.specs.Alike.{AlikeMesh, AlikeCall}
use Rattle.model.proofs.Verdicts.{AllFine, all-fine}
use Rattle.model.proofs.Accepted.{counted, mesh_lent, mesh-fit, field-lent, call-lent, passed}
use Rattle.model.proofs.AlikeFaces.{updated-alike}
use Rattle.model.proofs.AlikeStages.{joined}
use Rattle.model.proofs.AlikeCauses.{with_place, NumbersKept, in-turn, raised-alike, crossing-alike, verdict-alike}
use Rattle.renumbered.proofs.Schemes.{Numberless}
use Rattle.renumbered.proofs.NewMesh.{new-values}

-- the parts of a mesh that is accepted
module _ (M : Mesh) (e : mesh_verdict M ≡ fine) where
  parts : AllFine (counts M ∷ mesh_tables M ∷ mesh_values ceiling M ∷ [])
  unfolding mesh_verdict
  parts = all-fine (counts M ∷ mesh_tables M ∷ mesh_values ceiling M ∷ []) e

  pub fine-counts : counts M ≡ fine
  fine-counts = parts.0

  pub fine-values : mesh_values ceiling M ≡ fine
  fine-values = parts.1.1.0

  pub lent : MeshLent M
  lent = mesh_lent M parts.1.0

  few : M.cells ≤ rim
  few = (counted M fine-counts).few_cells

  fit : MeshFit M
  fit = mesh-fit M fine-values

-- what the tests of counts and lengths refuse is refused
led : (M : Mesh) (field : List ℕ) (k : Call) (i j : ℕ) → (counts M and_then mesh_tables M and_then field_table M field and_then step_tables M field k) ≡ refused i j
    → verdict M field k ≡ refused i j
unfolding verdict ◌and_then◌
led M field k i j e = rw e

-- a place changes nothing of what is taken
granted-shown : {A : Type 0} (p : Bool) (v : Verdict) (x y : A) → granted (with_place p v) x y ≡ granted v x y
granted-shown true v x y = refl
granted-shown false (accepted t) x y = refl
granted-shown false (refused i j) x y = refl

-- an accepted mesh and one that is alike, in tables of the same lengths; places are shown (p) where every number is kept
pub record Meshes (p : Bool) (M M' : Mesh) (cell : Renumbering M.cells) (face : Renumbering M.faces) (turns : ℕ → Bool) : Type 0 where
  pub mesh_fine : mesh_verdict M ≡ fine
  pub cells_kept : NumbersKept p M.cells cell
  pub faces_kept : NumbersKept p M.faces face
  pub alike : AlikeMesh M M' cell face turns
  pub tables_same : mesh_tables M' ≡ mesh_tables M

-- and calls on them, in tables of the same lengths, that are alike where these are long enough
pub record Calls (p : Bool) (M M' : Mesh) (cell : Renumbering M.cells) (face : Renumbering M.faces) (turns : ℕ → Bool)
    (field field' : List ℕ) (k k' : Call) : Type 0 where
  pub meshes : Meshes p M M' cell face turns
  pub field_same : field_table M' field' ≡ field_table M field
  pub call_same : step_tables M' field' k' ≡ step_tables M field k
  pub long_alike : M.cells ≤ length field → CallLent M k → AlikeCall M M' field field' k k' cell face turns

module _ {p : Bool} {M M' : Mesh} {cell : Renumbering M.cells} {face : Renumbering M.faces} {turns : ℕ → Bool} (m : Meshes p M M' cell face turns) where
  counts_same : counts M' ≡ counts M
  unfolding counts
  counts_same = rw (m.alike.ends_alike.cells_same, m.alike.ends_alike.faces_same)

  fine-new : mesh_values ceiling M' ≡ fine
  fine-new = new-values M M' (few M m.mesh_fine) (fine-values M m.mesh_fine) cell face turns m.alike

  pub mesh-passes : mesh_verdict M' ≡ fine
  unfolding mesh_verdict
  mesh-passes = rw (counts_same, m.tables_same, fine-new ∙ sym (fine-values M m.mesh_fine)) m.mesh_fine

module _ {p : Bool} {M M' : Mesh} {cell : Renumbering M.cells} {face : Renumbering M.faces} {turns : ℕ → Bool} {field field' : List ℕ} {k k' : Call}
    (both : Calls p M M' cell face turns field field' k k') (s : Scheme) (blind : Numberless s) where
  abbrev m : Meshes p M M' cell face turns
  m = both.meshes

  pub verdict-same : with_place p (verdict M' field' k') ≡ with_place p (verdict M field k)
  verdict-same = go (counts M and_then mesh_tables M and_then field_table M field and_then step_tables M field k) refl
    where
      lead-same : (counts M' and_then mesh_tables M' and_then field_table M' field' and_then step_tables M' field' k')
          ≡ (counts M and_then mesh_tables M and_then field_table M field and_then step_tables M field k)
      lead-same = rw (m.tables_same, both.field_same, both.call_same, counts_same m)

      go : (v : Verdict) → (counts M and_then mesh_tables M and_then field_table M field and_then step_tables M field k) ≡ v
          → with_place p (verdict M' field' k') ≡ with_place p (verdict M field k)
      go (accepted t) e =
          let q = all-fine (counts M ∷ mesh_tables M ∷ field_table M field ∷ step_tables M field k ∷ []) e in
          verdict-alike p M M' cell face turns m.cells_kept m.faces_kept field field' k k'
          (both.long_alike (field-lent M field q.1.1.0) (call-lent M field k q.1.1.1.0))
          m.tables_same both.field_same both.call_same (ap (with_place p) (fine-new m ∙ sym (fine-values M m.mesh_fine)))
      go (refused i j) e = ap (with_place p) (led M' field' k' i j (lead-same ∙ e) ∙ sym (led M field k i j e))

  found-same : with_place p (s.finds M' field' k') ≡ with_place p (s.finds M field k)
  found-same = rw (blind.finds_same M' field' k', blind.finds_same M field k) verdict-same

  -- an accepted call has all its tables
  module _ (e : s.finds M field k ≡ fine) where
    pub calls-lent : (M.cells ≤ length field) × CallLent M k
    calls-lent =
        let q = passed M field k (sym (blind.finds_same M field k) ∙ e) in
        (field-lent M field q.field_table_fine, call-lent M field k q.step_tables_fine)

    calls-alike : AlikeCall M M' field field' k k' cell face turns
    calls-alike = both.long_alike calls-lent.0 calls-lent.1

    pub moves-same : (f : ℕ) → f < M.faces → s.moves M' field' k' (face.new f) ≡ turn (turns f) (s.moves M field k f)
    moves-same = blind.moves_alike M M' cell face turns field field' k k' calls-alike (few M m.mesh_fine) (fit M m.mesh_fine)

    pub masses-same : (c : ℕ) → c < M.cells
        → updated M' (mass (input_of M' field' k')) (s.moves M' field' k') (cell.new c) ≡ updated M (mass (input_of M field k)) (s.moves M field k) c
    masses-same = updated-alike M M' (joined M (few M m.mesh_fine) (fit M m.mesh_fine)) cell face turns m.alike.ends_alike
        (s.moves M field k) (s.moves M' field' k') moves-same (mass (input_of M field k)) (mass (input_of M' field' k'))
        (raised-alike M M' cell face turns field field' k k' calls-alike)

  pub answer-same : with_place p (step_answer s M' k' field') ≡ with_place p (step_answer s M k field)
  unfolding step_answer
  answer-same = in-turn p _ _ _ _ found-same (λ e. ap (λ (x : Crossing). with_place p (accepted x))
      (crossing-alike M M' cell face turns field field' k k' (calls-alike e) (few M m.mesh_fine) (fit M m.mesh_fine)))

  -- what stands in a table afterwards
  pub granted-same : {A : Type 0} (x x' y : A) → (s.finds M field k ≡ fine → x' ≡ x) → granted (s.finds M' field' k') x' y ≡ granted (s.finds M field k) x y
  granted-same x x' y d =
      sym (granted-shown p (s.finds M' field' k') x' y) ∙ rw found-same (granted-shown p (s.finds M field k) x' y) ∙ go (s.finds M field k) refl
    where
      go : (v : Verdict) → s.finds M field k ≡ v → granted v x' y ≡ granted v x y
      go (accepted t) e = d e
      go (refused i j) e = refl
