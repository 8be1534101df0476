-- Schemes that see no numbers: they find what the step's causes find, and move the same amounts in calls that are alike, turned with the faces.
use Prim.Native.Nat.{ℕ, ◌≤◌, ◌<◌}
use mathlib.Core.Path.{◌≡◌, refl}
use mathlib.Core.Bool.{Bool}
use mathlib.Core.List.{List}
use Rattle.lists.specs.Renumbering.{Renumbering}
use Rattle.signed.specs.Sign.{turn}
use Rattle.model.specs.Mesh.{Mesh, rim}
use Rattle.model.specs.Causes.{Call, verdict}
use Rattle.model.specs.Calls.{Scheme, corrected, plain}
use Rattle.model.specs.Accepted.{MeshFit}
use Rattle.model.specs.Alike.{AlikeCall}
use Rattle.model.proofs.AlikeStages.{carried-alike, moved-alike}
use Rattle.model.proofs.AlikeCauses.{inputs-alike}

pub record Numberless (s : Scheme) : Type 0 where
  pub finds_same : (M : Mesh) (field : List ℕ) (k : Call) → s.finds M field k ≡ verdict M field k
  pub moves_alike : (M M' : Mesh) (cell : Renumbering M.cells) (face : Renumbering M.faces) (turns : ℕ → Bool) (field field' : List ℕ) (k k' : Call)
      → AlikeCall M M' field field' k k' cell face turns → M.cells ≤ rim → MeshFit M
      → (f : ℕ) → f < M.faces → s.moves M' field' k' (face.new f) ≡ turn (turns f) (s.moves M field k f)

pub corrected-numberless : Numberless corrected
corrected-numberless = record {
  finds_same = λ M field k. refl;
  moves_alike = λ M M' cell face turns field field' k k' a few fit.
      moved-alike _ _ few fit cell face turns (inputs-alike M M' cell face turns field field' k k' a);
}

pub plain-numberless : Numberless plain
plain-numberless = record {
  finds_same = λ M field k. refl;
  moves_alike = λ M M' cell face turns field field' k k' a few fit.
      carried-alike _ _ few fit cell face turns (inputs-alike M M' cell face turns field field' k k' a);
}
