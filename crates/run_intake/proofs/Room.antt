-- A record within the run's limits is no longer than the longest step.
use Prim.Native.Nat.{ℕ, ◌+◌, ◌≤◌, ◌<◌}
use mathlib.Core.Path.{◌≡◌, refl, sym, ◌∙◌}
use mathlib.Core.List.{List}
use native.Mathlib.Nat.{mul-le-mul, le_trans}
use native.Mathlib.Omega.{arith}
use borrow.Author.Tests.{leb-true, lt-leb}
use lib.Dec.{leb}
use lib.ListN.{length}
use Rattle.lists.proofs.Tests.{both_true}
use Rattle.model.specs.Mesh.{run_cells, run_faces}
use Rattle.model.specs.Causes.{accepted, counts_within, need, ◌and_then◌}
use Rattle.model.proofs.Verdicts.{both-fine, need-fine}
use Rattle.record_bits.specs.Layout.{bytes_for}
use Rattle.record_bits.proofs.Layouts.{bytes_most}
use Rattle.record_layouts.specs.Layouts.{field_kind, step_head_bits, value_bits, mass_bits, release_bits, mesh_bits, field_bits, step_bits, mesh_length, field_length, step_length}
use Rattle.record_heads.specs.Heads.{kind_in, cells_in, faces_in, mesh_head_verdict, mesh_measured, mesh_needs, field_needs, step_needs, step_head_verdict}
use Rattle.record_layouts.specs.declared.Width.{Width}
use Rattle.record_heads.proofs.HeadLaws.{bytes-alone}
use Rattle.record_layouts.proofs.Layouts.{rim-le, value-most, mass-most, release-wide}
use Rattle.run_intake.specs.Intake.{record_bytes, still_needed}

-- the same in bytes, as the run's buffer has them
abbrev pub longest : ℕ
longest = 14582

pub record_is : record_bytes ≡ longest
unfolding bytes_for value_bits mass_bits release_bits
record_is = refl

pub mesh-in-room : (bs : List ℕ) (n : ℕ) → mesh_needs run_cells run_faces bs ≡ accepted n → n ≤ record_bytes
unfolding mesh_needs mesh_measured mesh_head_verdict counts_within mesh_length
mesh-in-room bs n e =
    let p = both-fine _ _ (sym (bytes-alone _ _) ∙ e) in
    let h = both-fine _ _ (both-fine _ _ p.0).1 in
    let c = both_true (leb 1 (cells_in bs)) (leb (cells_in bs) run_cells) (need-fine 1 0 _ h.0) in
    let q : bytes_for (mesh_bits (kind_in bs) (cells_in bs) (faces_in bs)) ≡ n = cc in
    let l = leb-true (cells_in bs) run_cells c.1 in
    let m = leb-true (faces_in bs) run_faces (need-fine 1 1 _ h.1) in
    rw record_is (omega (
      arith,
      q,
      l,
      m,
      bytes_most (mesh_bits (kind_in bs) (cells_in bs) (faces_in bs)),
      mul-le-mul l (value-most (kind_in bs)),
      mul-le-mul m (value-most (kind_in bs)),
    ))

pub field-in-room : (w : Width) (cells : ℕ) (bs : List ℕ) (n : ℕ) → cells ≤ run_cells → field_needs w cells bs ≡ accepted n → n ≤ record_bytes
unfolding field_needs field_length
field-in-room w cells bs n l e =
    let p = (both-fine _ _ e).1 in
    let q : bytes_for (field_bits (field_kind w) cells) ≡ n = cc in
    rw record_is (omega (arith, q, bytes_most (field_bits (field_kind w) cells), mul-le-mul l (mass-most (field_kind w))))

-- a release has the width of a mass, or none
pub step-in-room : (w : Width) (cells faces : ℕ) (seconds bs : List ℕ) (n : ℕ) → cells ≤ run_cells → faces ≤ run_faces → step_needs w cells faces seconds bs
    ≡ accepted n → n ≤ record_bytes
unfolding step_needs step_length
step-in-room w cells faces seconds bs n k l e =
    let p = (both-fine _ _ e).1 in
    let q : bytes_for (step_bits (kind_in bs) cells faces seconds) ≡ n = cc in
    rw record_is (omega (
      arith,
      q,
      bytes_most (step_bits (kind_in bs) cells faces seconds),
      rim-le seconds faces,
      mul-le-mul k (le_trans (release-wide (kind_in bs)) (mass-most (kind_in bs))),
      mul-le-mul l (value-most (kind_in bs)),
    ))

-- a head that has not come whole asks for nothing
pub no-head : (w : Width) (cells faces : ℕ) (seconds bs : List ℕ) (got : ℕ) → length bs < bytes_for step_head_bits
    → still_needed (step_needs w cells faces seconds bs) got ≡ 0
unfolding step_needs step_head_verdict need ◌and_then◌
no-head w cells faces seconds bs got h = rw (lt-leb (bytes_for step_head_bits) (length bs) h)

pub room-left : (got more : ℕ) → (got ≤ record_bytes → got + more ≤ record_bytes) → got ≤ longest → got + more ≤ longest
room-left got more h l = let q : got ≤ record_bytes = rw record_is l in rw record_is at (h q)
