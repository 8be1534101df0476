-- Within the old ceilings a test by either ceiling says the same.
use Prim.Native.Nat.{ℕ, ◌≤◌}
use mathlib.Core.Path.{◌≡◌, refl, sym, ◌∙◌}
use mathlib.Core.Bool.{Bool, true, false, cond}
use mathlib.Core.List.{List}
use native.Mathlib.Omega.{arith}
use borrow.Author.Tests.{le-leb}
use lib.Dec.{eqb, leb}
use Rattle.signed.specs.Sign.{size}
use Rattle.lists.proofs.Tests.{Same, same, same?}
use Rattle.model.specs.Mesh.{Mesh, volume, second, share, reach, rim, ceiling, old_ceiling}
use Rattle.model.specs.Step.{flux}
use Rattle.model.specs.Causes.{fine, volume_fits, spacing_fit, flux_fit, Call, input_of, volume_good, spacing_good, mesh_values, flux_good, step_values, verdict}
use Rattle.model.specs.Calls.{Scheme, corrected, plain, step_answer, next_table, moved_table, work_table}
use Rattle.model.specs.Ceilings.{MeshSmall, StepSmall, judged_before, OldAnswers, OldMeshes, OldSteps}
use Rattle.model.proofs.Accepted.{volumes-within, spaced-within}
use Rattle.model.proofs.Agree.{each-agree}

within_both : (x : ℕ) → x ≤ old_ceiling → leb x ceiling ≡ leb x old_ceiling
within_both x h = le-leb x ceiling (omega arith) ∙ sym (le-leb x old_ceiling h)

volume-both : (v : ℕ) → v ≤ old_ceiling → volume_fits ceiling v ≡ volume_fits old_ceiling v
volume-both v h = rw (within_both v h)

spacing-both : (k s r : ℕ) → r ≤ old_ceiling → spacing_fit ceiling k s r ≡ spacing_fit old_ceiling k s r
spacing-both k s r h = rw (within_both r h)

flux-both : (k r u : ℕ) → (k ≡ rim → u ≤ old_ceiling) → flux_fit ceiling k r u ≡ flux_fit old_ceiling k r u
flux-both k r u h = go (eqb k rim) (same? k rim)
  where
    go : (b : Bool) → Same k rim b → leb u (cond b ceiling r) ≡ leb u (cond b old_ceiling r)
    go true (same e) = within_both u (h e)
    go false o = refl

-- what passes by the old ceiling is within it
pub small_of : (M : Mesh) → mesh_values old_ceiling M ≡ fine → MeshSmall M
small_of M e = record { small_volumes = λ c h. (volumes-within old_ceiling M e c h).1; small_reaches = λ f l. (spaced-within old_ceiling M e f l).1 }

pub old-meshes : OldMeshes
unfolding mesh_values volume_good spacing_good
old-meshes M s = rw (
  each-agree 3 M.cells (volume_good old_ceiling M) (volume_good ceiling M) refl (λ c h. volume-both (volume M c) (s.small_volumes c h)),
  each-agree 5 M.faces (spacing_good old_ceiling M) (spacing_good ceiling M) refl
      (λ f l. spacing-both (second M f) (share M f) (reach M f) (s.small_reaches f l)),
)

module _ (M : Mesh) (k : Call) (field : List ℕ) (s : StepSmall M k) where
  old-values : step_values ceiling M field k ≡ step_values old_ceiling M field k
  unfolding step_values flux_good
  old-values = rw (each-agree 8 M.faces (flux_good old_ceiling M field k) (flux_good ceiling M field k) refl
      (λ f l. flux-both (second M f) (reach M f) (size (flux (input_of M field k) f)) (s.small_fluxes f l)))

  old-verdict : verdict M field k ≡ (judged_before corrected).finds M field k
  unfolding verdict
  old-verdict = rw (old-meshes M s.small_mesh, old-values)

  old-answers : (x : Scheme) → x.finds M field k ≡ verdict M field k → OldAnswers x M k field
  unfolding step_answer next_table moved_table work_table
  old-answers x e = let v = e ∙ old-verdict in record { old_answer = rw v; old_next = rw v; old_moved = rw v; old_work = rw v }

pub old-steps : OldSteps
old-steps M k field s = (old-answers M k field s corrected refl, old-answers M k field s plain refl)
