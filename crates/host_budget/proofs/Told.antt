-- What an accepted step on records finds is what `lagoon_crossing` finds of them, and the records hold the counted entries of mesh and field.
use Prim.Native.Nat.{ℕ}
use mathlib.Core.Path.{◌≡◌, sym, ap, ◌∙◌}
use mathlib.Core.List.{List}
use Rattle.lists.specs.Fold.{sum}
use Rattle.lists.proofs.Sums.{sum-cong}
use Rattle.lists.proofs.Tables.{get_or-table}
use Rattle.model.specs.Mesh.{Mesh, total}
use Rattle.model.specs.Causes.{accepted, Verdict, fine, ◌and_then◌, mesh_verdict}
use Rattle.model.specs.Calls.{Crossing, Left, crossing_of, corrected, mass_in}
use Rattle.model.proofs.Verdicts.{both-fine, accepted-of}
use Rattle.model.proofs.Lists.{corrected-keeping}
use Rattle.record_reading.specs.Reading.{mesh_in, masses_in}
use Rattle.taking.specs.Taking.{step_in}
use Rattle.lagoon.specs.Host.{host_verdict}
use Rattle.host_answer.specs.Found.{filled, alone}
use Rattle.host_answer.specs.Steps.{crossed}
use Rattle.host_tested.specs.Tested.{field_in, field_tested, step_tested, total_held}
use Rattle.promises.specs.Held.{trimmed_field}
use Rattle.promises.specs.Steps.{HostMade, host_said, host_left, Brought}
use Rattle.promises.proofs.OnRecords.{records-crossing}
use Rattle.promises.proofs.Hosts.{step_same, host-says, plain-says}
use Rattle.host_budget.specs.Told.{CrossingTold, TotalTold, BudgetTold}

module _ (M : Mesh) (mesh_fine : mesh_verdict M ≡ fine) (field : List ℕ) (m : HostMade) (brought : Brought M m field) where
  module _ (ok : step_tested m.mesh m.field m.step ≡ fine) where
    crossing-told : (l : Left) → l.crossing ≡ crossing_of M field (step_in M m.step) → CrossingTold M field m l
    unfolding ◌and_then◌
    crossing-told l is found r found' a =
        let there : Crossing = crossing_of (mesh_in m.mesh) (field_in m.mesh m.field) (step_in (mesh_in m.mesh) m.step) in
        let t : found' ≡ filled (crossed there) found = a.found-after ∙ rw ok in
        let same = records-crossing corrected corrected-keeping M mesh_fine field m brought (λ N. step_in N m.step) (step_same M m.step) in
        (a.number ∙ rw ok, t ∙ ap (λ (x : Crossing). filled (crossed x) found) (same ∙ sym is))

    -- the masses in the record are those of the field
    total-same : total_held m.mesh m.field ≡ total M (mass_in field)
    unfolding total
    total-same =
        ap (λ (N : Mesh). sum N.cells (mass_in (masses_in m.field N.cells))) brought.0.mesh_held
        ∙ ap (λ (x : List ℕ). sum M.cells (mass_in x)) brought.1.field_held
        ∙ sum-cong M.cells (mass_in (trimmed_field M field)) (mass_in field) (λ c h. get_or-table M.cells (mass_in field) 0 c h)

    total-told : (l : Left) → TotalTold M field m l
    unfolding ◌and_then◌
    total-told l found r found' a =
        let good : field_tested m.mesh m.field ≡ fine = (both-fine _ _ ok).0 in
        let t : found' ≡ filled (alone (total_held m.mesh m.field)) found = a.found-after ∙ rw good in
        (a.number ∙ rw good, t ∙ ap (λ (n : ℕ). filled (alone n) found) total-same)

    told : (l : Left) → l.crossing ≡ crossing_of M field (step_in M m.step) → CrossingTold M field m l × TotalTold M field m l
    told l is = (crossing-told l is, total-told l)

  -- where the number says that nothing is refused, the records were found good before the room was asked for
  figures-told : (v : Verdict) → host_said m.number ≡ (step_tested m.mesh m.field m.step and_then v) → (l : Left) → host_left M m field ≡ accepted l
      → CrossingTold M field m l × TotalTold M field m l
  figures-told v says l e =
      let b = accepted-of (host_said m.number) _ l (sym e) in
      told (both-fine _ _ (sym says ∙ b.0)).0 l (ap (λ (x : Left). x.crossing) b.1)

pub budget-told : BudgetTold
unfolding host_verdict
budget-told M mesh_fine field m l = (
  λ p e. figures-told M mesh_fine field m p.0 _ (host-says M mesh_fine field m p.0 p.1) l e,
  λ p e. figures-told M mesh_fine field m p.0 _ (plain-says M mesh_fine field m p.0 p.1) l e,
)
