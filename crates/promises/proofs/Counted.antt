-- Entries past the counts mean nothing: of tables that agree below the counts a step record has the same length, bits and values, and a
-- step on tables trimmed to their counts, as records hold them, agrees with the step on the whole tables.
use Prim.Native.Nat.{ℕ, ◌*◌, ◌≤◌, ◌<◌}
use mathlib.Core.Path.{◌≡◌, refl}
use mathlib.Core.Bool.{cond}
use mathlib.Core.List.{List}
use native.Mathlib.Omega.{arith}
use borrow.Author.Tests.{le-leb}
use lib.ListN.{length, get_or}
use Rattle.lists.proofs.Sums.{sum-cong}
use Rattle.lists.proofs.Tables.{get_or-table, table-cong}
use Rattle.model.specs.Mesh.{Mesh, volume, first, second, share, reach, run_cells, run_faces}
use Rattle.model.specs.Alike.{AgreeCall}
use Rattle.model.specs.Causes.{◌and_then◌, Call}
use Rattle.model.specs.Calls.{mass_in}
use Rattle.model.proofs.Verdicts.{need-met, each-cong}
use Rattle.record_bits.specs.Field.{bits_at}
use Rattle.record_sections.specs.Sections.{those, entry_in}
use Rattle.record_layouts.specs.Layouts.{outside_bits, rim_faces, is_rim, step_length}
use Rattle.record_heads.specs.Heads.{step_head_verdict}
use Rattle.record_layouts.specs.declared.Width.{Width}
use Rattle.record_reading.specs.Reading.{outsides_in, outside_place, step_shape_in, releases_in, step_bit_good, step_body_verdict}
use Rattle.promises.specs.Held.{trimmed, trimmed_field}

-- a step record on seconds that agree below the faces
module _ (step : List ℕ) (cells faces : ℕ) (seconds other : List ℕ) (same : (f : ℕ) → f < faces → get_or other f 0 ≡ get_or seconds f 0) where
  rims-same : (f : ℕ) → f ≤ faces → rim_faces other f ≡ rim_faces seconds f
  unfolding those
  rims-same f h = sum-cong f (λ g. cond (is_rim other g) 1 0) (λ g. cond (is_rim seconds g) 1 0) (λ g l. rw (same g (omega arith)))

  pub outsides-same : outsides_in step faces other ≡ outsides_in step faces seconds
  unfolding outsides_in
  outsides-same = table-cong 0 faces
      (λ f. cond (is_rim other f) (bits_at step (outside_place step faces other f) outside_bits) 0)
      (λ f. cond (is_rim seconds f) (bits_at step (outside_place step faces seconds f) outside_bits) 0)
      (λ f h. rw (same f h, rims-same f (omega arith)))

  pub releases-same : releases_in step cells faces other ≡ releases_in step cells faces seconds
  unfolding releases_in
  releases-same = table-cong 0 cells (entry_in step (step_shape_in step cells faces other) 3 0) (entry_in step (step_shape_in step cells faces seconds) 3 0)
      (λ c h. rw (rims-same faces (omega arith)))

  bit-same : (i : ℕ) → step_bit_good step cells faces other i ≡ step_bit_good step cells faces seconds i
  unfolding step_bit_good
  bit-same i = rw (rims-same faces (omega arith))

  pub found-same : (w : Width) → faces ≤ length seconds → faces ≤ length other
      → (step_head_verdict w cells faces other step and_then step_body_verdict cells faces other step run_faces run_faces run_cells)
      ≡ (step_head_verdict w cells faces seconds step and_then step_body_verdict cells faces seconds step run_faces run_faces run_cells)
  unfolding step_head_verdict step_body_verdict step_length
  found-same w l m = rw (
    need-met 2 2 (le-leb faces (length other) m),
    need-met 2 2 (le-leb faces (length seconds) l),
    rims-same faces (omega arith),
    each-cong 12 (8 * length step) (step_bit_good step cells faces other) (step_bit_good step cells faces seconds) (λ i h. bit-same i),
  )

pub trimmed-agrees : (M : Mesh) (field : List ℕ) (k : Call) → AgreeCall M (trimmed M) field (trimmed_field M field) k k
trimmed-agrees M field k = record {
  mesh_agrees = record {
    cells_same = refl;
    faces_same = refl;
    volumes = get_or-table M.cells (volume M) 0;
    firsts = get_or-table M.faces (first M) 0;
    seconds = get_or-table M.faces (second M) 0;
    shares = get_or-table M.faces (share M) 0;
    reaches = get_or-table M.faces (reach M) 0;
  };
  masses = get_or-table M.cells (mass_in field) 0;
  fluxes = λ f l. refl;
  outsides = λ f l. refl;
  releases = λ c h. refl;
}
