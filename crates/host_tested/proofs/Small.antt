-- Every refusal of a host's record has a place below 2 ^ 32: places are counted in tables within the limits, or in the bits of a record whose
-- length has been tested.
use Prim.Native.Nat.{ℕ, ◌+◌, ◌*◌, ◌^◌, ◌<◌}
use mathlib.Core.Path.{◌≡◌}
use mathlib.Core.List.{List}
use native.Mathlib.Nat.{mul-le-mul, le_of_lt, le_trans}
use native.Mathlib.Omega.{arith}
use borrow.Author.Tests.{eqb-true}
use lib.ListN.{length}
use Rattle.model.specs.Mesh.{run_cells, run_faces, ceiling}
use Rattle.model.specs.Causes.{counts_within, cells_only}
use Rattle.model.proofs.Verdicts.{all-fine, need-fine}
use Rattle.record_bits.proofs.Fields.{bits-lt}
use Rattle.record_bits.proofs.Layouts.{bytes_most}
use Rattle.record_layouts.specs.Layouts.{kind_bits, cells_bits, faces_bits, mesh_length, step_length, mesh_bits, step_bits}
use Rattle.record_heads.specs.Heads.{kind_in, cells_in, faces_in, width_in, mesh_head_verdict, field_head_verdict, step_head_verdict}
use Rattle.record_layouts.proofs.Layouts.{rim-le, value-most, mass-most, release-wide}
use Rattle.record_reading.specs.Reading.{mesh_table_causes, step_table_causes, mesh_body_verdict, field_body_verdict, step_body_verdict, field_read, volumes_in, seconds_in, mesh_in, masses_in}
use Rattle.taking_mesh.specs.MeshTaking.{mesh_record_found, mesh_judged, mesh_judged_in_run}
use Rattle.taking.specs.Taking.{field_judged, step_in, step_record_found, step_judged}
use Rattle.host_answer.specs.Number.{cause_step}
use Rattle.host_answer.proofs.Small.{Small, small-then, small-and, small-need, small-each}
use Rattle.host_answer.proofs.Tables.{Few, mesh-values-small, mesh-field-small, verdict-small}
use Rattle.host_tested.specs.Tested.{field_tested}

few_cells : (mesh : List ℕ) → cells_in mesh < 2 ^ cells_bits
few_cells mesh = bits-lt mesh kind_bits cells_bits

few_faces : (mesh : List ℕ) → faces_in mesh < 2 ^ faces_bits
few_faces mesh = bits-lt mesh (kind_bits + cells_bits) faces_bits

pub few : (mesh : List ℕ) → Few (mesh_in mesh)
few mesh = (omega (arith, few_cells mesh), omega (arith, few_faces mesh))

mesh-bytes : (mesh : List ℕ) → length mesh ≡ mesh_length (kind_in mesh) (cells_in mesh) (faces_in mesh) → 8 * length mesh < cause_step
unfolding mesh_length
mesh-bytes mesh e = omega (
  arith,
  e,
  bytes_most (mesh_bits (kind_in mesh) (cells_in mesh) (faces_in mesh)),
  few_cells mesh,
  few_faces mesh,
  mul-le-mul (le_of_lt (few_cells mesh)) (value-most (kind_in mesh)),
  mul-le-mul (le_of_lt (few_faces mesh)) (value-most (kind_in mesh)),
)

step-bytes : (step seconds : List ℕ) (kind cells faces : ℕ) → cells < 2 ^ cells_bits → faces < 2 ^ faces_bits
    → length step ≡ step_length kind cells faces seconds → 8 * length step < cause_step
unfolding step_length
step-bytes step seconds kind cells faces few l e = omega (
  arith,
  e,
  bytes_most (step_bits kind cells faces seconds),
  rim-le seconds faces,
  mul-le-mul (le_of_lt few) (le_trans (release-wide kind) (mass-most kind)),
  mul-le-mul (le_of_lt l) (value-most kind),
)

mesh-body : (mesh : List ℕ) → Small (mesh_body_verdict mesh run_cells run_faces run_faces run_faces run_faces)
unfolding mesh_body_verdict
mesh-body mesh = small-then _ _
    (small-and (small-and (small-and (small-and (small-and
    (small-need 11 0 _ (omega arith))
    (small-need 2 0 _ (omega arith)))
    (small-need 2 1 _ (omega arith)))
    (small-need 2 2 _ (omega arith)))
    (small-need 2 3 _ (omega arith)))
    (small-need 2 4 _ (omega arith)))
    (λ e. small-each 12 (8 * length mesh) _ (omega (
      arith,
      mesh-bytes mesh (eqb-true _ _ (need-fine 11 0 _ (all-fine (mesh_table_causes mesh run_cells run_faces run_faces run_faces run_faces) e).0)),
    )))

mesh-small : (mesh : List ℕ) → Small (mesh_judged_in_run mesh)
unfolding mesh_judged mesh_record_found mesh_head_verdict counts_within
mesh-small mesh =
    small-and
    (small-and
    (small-and (small-and (small-and (small-need 11 0 _ (omega arith)) (small-need 13 0 _ (omega arith))) (small-and (small-need 1 0 _ (omega arith))
    (small-need 1 1 _ (omega arith))))
    (mesh-body mesh))
    (small-and (small-and (small-and (small-and
    (small-need 2 0 _ (omega arith))
    (small-need 2 1 _ (omega arith)))
    (small-need 2 2 _ (omega arith)))
    (small-need 2 3 _ (omega arith)))
    (small-need 2 4 _ (omega arith))))
    (mesh-values-small (mesh_in mesh) (few mesh) ceiling)

module _ (mesh field : List ℕ) where
  field-small : Small (field_judged (width_in mesh) (cells_in mesh) (volumes_in mesh) field run_cells)
  unfolding field_judged field_read field_head_verdict field_body_verdict
  field-small =
      small-and
      (small-and
      (small-and (small-and (small-and (small-and
      (small-need 11 0 _ (omega arith))
      (small-need 13 0 _ (omega arith)))
      (small-need 13 1 _ (omega arith)))
      (small-need 1 0 _ (omega arith)))
      (small-and (small-need 11 0 _ (omega arith)) (small-need 2 5 _ (omega arith))))
      (small-need 2 5 _ (omega arith)))
      (mesh-field-small (cells_only (cells_in mesh) (volumes_in mesh)) (masses_in field (cells_in mesh)))

  pub field-tested-small : Small (field_tested mesh field)
  field-tested-small = small-and (mesh-small mesh) field-small

module _ (mesh step : List ℕ) where
  step-body : Small (step_body_verdict (cells_in mesh) (faces_in mesh) (seconds_in mesh) step run_faces run_faces run_cells)
  unfolding step_body_verdict
  step-body = small-then _ _
      (small-and (small-and (small-and (small-need 11 0 _ (omega arith)) (small-need 2 6 _ (omega arith))) (small-need 2 7 _ (omega arith)))
      (small-need 2 14 _ (omega arith)))
      (λ e. small-each 12 (8 * length step) _ (omega (
        arith,
        step-bytes step (seconds_in mesh) (kind_in step) (cells_in mesh) (faces_in mesh) (few_cells mesh) (few_faces mesh)
            (eqb-true _ _ (need-fine 11 0 _
            (all-fine (step_table_causes (cells_in mesh) (faces_in mesh) (seconds_in mesh) step run_faces run_faces run_cells) e).0)),
      )))

  pub step-record-small : Small (step_record_found (width_in mesh) (mesh_in mesh) step)
  unfolding step_record_found step_head_verdict counts_within
  step-record-small = small-and
      (small-and (small-and (small-and (small-and
      (small-need 11 0 _ (omega arith))
      (small-need 13 0 _ (omega arith)))
      (small-need 13 1 _ (omega arith)))
      (small-and (small-need 1 0 _ (omega arith)) (small-need 1 1 _ (omega arith))))
      (small-need 2 2 _ (omega arith)))
      step-body

  pub step-judged-small : (masses : List ℕ) → Small (step_judged (width_in mesh) (mesh_in mesh) masses step)
  unfolding step_judged
  step-judged-small masses = small-and step-record-small (verdict-small (mesh_in mesh) masses (step_in (mesh_in mesh) step))
