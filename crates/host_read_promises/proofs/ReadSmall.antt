-- What a reader refuses has small places: positions of tables, and the bits of a record whose length has been tested.
use Prim.Native.Nat.{ℕ, ◌+◌, ◌*◌, ◌^◌, ◌≤◌, ◌<◌}
use mathlib.Core.Path.{◌≡◌}
use mathlib.Core.List.{List}
use native.Mathlib.Nat.{mul-le-mul, le_of_lt, le_trans}
use native.Mathlib.Omega.{arith}
use borrow.Author.Tests.{eqb-true}
use lib.ListN.{length}
use Rattle.model.specs.Mesh.{max_cells, max_faces}
use Rattle.model.specs.Causes.{fine, counts_within}
use Rattle.model.proofs.Verdicts.{all-fine, need-fine}
use Rattle.record_bits.proofs.Fields.{bits-lt}
use Rattle.record_bits.proofs.Layouts.{bytes_most}
use Rattle.record_layouts.specs.Layouts.{kind_bits, cells_bits, faces_bits, mesh_length, step_length, mesh_bits, step_bits}
use Rattle.record_heads.specs.Heads.{kind_in, cells_in, faces_in, mesh_head_verdict, field_head_verdict, step_head_verdict}
use Rattle.record_heads.proofs.HeadLaws.{step-head-says}
use Rattle.record_layouts.specs.declared.Width.{Width}
use Rattle.record_layouts.proofs.Layouts.{rim-le, value-most, mass-most, release-wide}
use Rattle.record_reading.specs.Reading.{mesh_table_causes, step_table_causes, mesh_body_verdict, field_body_verdict, step_body_verdict, mesh_read, field_read, step_read}
use Rattle.host_answer.specs.Number.{cause_step}
use Rattle.host_answer.proofs.Small.{Small, small-then, small-and, small-need, small-each, small-giving}

counts-within-small : (most_cells most_faces cells faces : ℕ) → Small (counts_within most_cells most_faces cells faces)
unfolding counts_within
counts-within-small most_cells most_faces cells faces = small-and (small-need 1 0 _ (omega arith)) (small-need 1 1 _ (omega arith))

-- a mesh: the counts in its head are of few bits, so its length is too
module _ (bs : List ℕ) where
  few_cells : cells_in bs < 2 ^ cells_bits
  few_cells = bits-lt bs kind_bits cells_bits

  few_faces : faces_in bs < 2 ^ faces_bits
  few_faces = bits-lt bs (kind_bits + cells_bits) faces_bits

  mesh-bytes : length bs ≡ mesh_length (kind_in bs) (cells_in bs) (faces_in bs) → 8 * length bs < cause_step
  unfolding mesh_length
  mesh-bytes e = omega (
    arith,
    e,
    bytes_most (mesh_bits (kind_in bs) (cells_in bs) (faces_in bs)),
    few_cells,
    few_faces,
    mul-le-mul (le_of_lt few_cells) (value-most (kind_in bs)),
    mul-le-mul (le_of_lt few_faces) (value-most (kind_in bs)),
  )

  mesh-head-small : (most_cells most_faces : ℕ) → Small (mesh_head_verdict most_cells most_faces bs)
  unfolding mesh_head_verdict
  mesh-head-small most_cells most_faces = small-and (small-and (small-need 11 0 _ (omega arith)) (small-need 13 0 _ (omega arith))) (counts-within-small _ _ _ _)

  mesh-body-small : (volumes firsts seconds shares reaches : ℕ) → Small (mesh_body_verdict bs volumes firsts seconds shares reaches)
  unfolding mesh_body_verdict
  mesh-body-small volumes firsts seconds shares reaches = small-then _ _
      (small-and (small-and (small-and (small-and (small-and
      (small-need 11 0 _ (omega arith))
      (small-need 2 0 _ (omega arith)))
      (small-need 2 1 _ (omega arith)))
      (small-need 2 2 _ (omega arith)))
      (small-need 2 3 _ (omega arith)))
      (small-need 2 4 _ (omega arith)))
      (λ e. small-each 12 (8 * length bs) _ (omega (
        arith,
        mesh-bytes (eqb-true _ _ (need-fine 11 0 _ (all-fine (mesh_table_causes bs volumes firsts seconds shares reaches) e).0)),
      )))

  pub mesh-read-small : (most_cells most_faces volumes firsts seconds shares reaches : ℕ)
      → Small (mesh_read most_cells most_faces bs volumes firsts seconds shares reaches)
  unfolding mesh_read
  mesh-read-small most_cells most_faces volumes firsts seconds shares reaches =
      small-giving _ (small-and (mesh-head-small most_cells most_faces) (mesh-body-small volumes firsts seconds shares reaches))

  -- a field has no bit that is judged
  pub field-read-small : (w : Width) (cells masses : ℕ) → Small (field_read w cells bs masses)
  unfolding field_read field_head_verdict field_body_verdict
  field-read-small w cells masses = small-and
      (small-and (small-and (small-and (small-need 11 0 _ (omega arith)) (small-need 13 0 _ (omega arith))) (small-need 13 1 _ (omega arith)))
      (small-need 1 0 _ (omega arith)))
      (small-and (small-need 11 0 _ (omega arith)) (small-need 2 5 _ (omega arith)))

  -- a step: its counts have been tested before its length
  module _ (w : Width) (cells faces : ℕ) (seconds : List ℕ) where
    step-bytes : cells ≤ max_cells → faces ≤ max_faces → length bs ≡ step_length (kind_in bs) cells faces seconds → 8 * length bs < cause_step
    unfolding step_length
    step-bytes few l e = omega (
      arith,
      e,
      bytes_most (step_bits (kind_in bs) cells faces seconds),
      rim-le seconds faces,
      mul-le-mul few (le_trans (release-wide (kind_in bs)) (mass-most (kind_in bs))),
      mul-le-mul l (value-most (kind_in bs)),
    )

    step-head-small : Small (step_head_verdict w cells faces seconds bs)
    unfolding step_head_verdict
    step-head-small = small-and
        (small-and (small-and (small-and (small-need 11 0 _ (omega arith)) (small-need 13 0 _ (omega arith))) (small-need 13 1 _ (omega arith)))
        (counts-within-small _ _ _ _))
        (small-need 2 2 _ (omega arith))

    step-few : step_head_verdict w cells faces seconds bs ≡ fine → (cells ≤ max_cells) × (faces ≤ max_faces)
    step-few e = let h = step-head-says w cells faces seconds bs e in (h.few_cells, h.few_faces)

    step-body-small : cells ≤ max_cells → faces ≤ max_faces → (fluxes outsides releases : ℕ)
        → Small (step_body_verdict cells faces seconds bs fluxes outsides releases)
    unfolding step_body_verdict
    step-body-small few l fluxes outsides releases = small-then _ _
        (small-and (small-and (small-and (small-need 11 0 _ (omega arith)) (small-need 2 6 _ (omega arith))) (small-need 2 7 _ (omega arith)))
        (small-need 2 14 _ (omega arith)))
        (λ e. small-each 12 (8 * length bs) _ (omega (
          arith,
          step-bytes few l (eqb-true _ _ (need-fine 11 0 _ (all-fine (step_table_causes cells faces seconds bs fluxes outsides releases) e).0)),
        )))

    pub step-read-small : (fluxes outsides releases : ℕ) → Small (step_read w cells faces seconds bs fluxes outsides releases)
    unfolding step_read
    step-read-small fluxes outsides releases = small-giving _ (small-then _ _ step-head-small (λ e.
        step-body-small (step-few e).0 (step-few e).1 fluxes outsides releases))
