-- What a call makes of tables that have been taken, it makes of what the records hold.
use Prim.Native.Nat.{ℕ, ◌≤◌}
use mathlib.Core.Path.{◌≡◌, sym, ap, ◌∙◌, subst}
use mathlib.Core.List.{List}
use lib.ListN.{length, take}
use lib.Seq.{length-take-le}
use Rattle.model.specs.Mesh.{Mesh, mesh_of}
use Rattle.model.specs.Meshes.{parted, MeshCut}
use Rattle.model.specs.Accepted.{MeshLent}
use Rattle.model.specs.Causes.{accepted, fine, ◌and_then◌}
use Rattle.model.specs.Answers.{number, told}
use Rattle.model.specs.declared.Refusal.{Refusal}
use Rattle.model.proofs.Verdicts.{refused-of, accepted-of}
use Rattle.model.proofs.Parts.{parted-cut}
use Rattle.record_heads.specs.Heads.{width_in}
use Rattle.record_layouts.specs.declared.Width.{Width}
use Rattle.record_reading.specs.Reading.{mesh_in}
use Rattle.host_tested.specs.Tested.{field_tested, field_in}
use Rattle.host_taking.specs.Taken.{taken_in, field_taken_said, Front, TablesHeld, RecordsTaking, CellsTaking}
use Rattle.host_taking.specs.declared.FieldCounts.{FieldCounts}
use Rattle.std.specs.Prelude.{Result, Ok, Err}

-- a part that is lent is as long as its count
front_fits : {n m : ℕ} {xs ys : List ℕ} → n ≡ m → Front m xs ys → n ≤ length ys
front_fits {ys = ys} e f = rw e f.fits

front_long : {n m : ℕ} {xs ys : List ℕ} → n ≡ m → Front m xs ys → n ≡ length (take n ys)
front_long {n = n} {ys = ys} e f = sym (length-take-le n ys (front_fits e f))

module _ (mesh field : List ℕ) {a : Result FieldCounts Refusal} (q : field_taken_said a ≡ (field_tested mesh field and_then accepted (taken_in mesh field))) where
  pub untaken : {r : Refusal} → a ≡ Err r → field_tested mesh field ≡ told r
  untaken {r = r} d = refused-of (field_tested mesh field) (taken_in mesh field) (number r.cause) r.place (sym (ap field_taken_said d) ∙ q)

  module _ {n : FieldCounts} (d : a ≡ Ok n) where
    is-taken : (field_tested mesh field ≡ fine) × (n ≡ taken_in mesh field)
    is-taken = accepted-of (field_tested mesh field) (taken_in mesh field) n (sym (ap field_taken_said d) ∙ q)

    pub tested-fine : field_tested mesh field ≡ fine
    tested-fine = is-taken.0

    pub total-is : n.total ≡ (taken_in mesh field).total
    total-is = ap (λ (k : FieldCounts). k.total) is-taken.1

    pub cells_are : n.cells ≡ (mesh_in mesh).cells
    cells_are = ap (λ (k : FieldCounts). k.cells) is-taken.1

    pub faces_are : n.faces ≡ (mesh_in mesh).faces
    faces_are = ap (λ (k : FieldCounts). k.faces) is-taken.1

    pub width_is : n.width ≡ width_in mesh
    width_is = ap (λ (k : FieldCounts). k.width) is-taken.1

-- of a call that looks at cells alone
module _ (mesh field : List ℕ) {a : Result FieldCounts Refusal} {volumes masses : List ℕ} (t : CellsTaking mesh field a volumes masses) {n : FieldCounts}
    (d : a ≡ Ok n) where
  pub cells-as : (P : ℕ → List ℕ → List ℕ → Type 0) → P n.cells (take n.cells volumes) (take n.cells masses) → P (mesh_in mesh).cells
      (mesh_in mesh).volumes (field_in mesh field)
  cells-as P p =
      let e = tested-fine mesh field t.answer d in
      let x : P (mesh_in mesh).cells (take (mesh_in mesh).cells volumes) (take (mesh_in mesh).cells masses) = rw (cells_are mesh field t.answer d) at p in
      rw ((t.volumes_held e).part, (t.masses_held e).part) at x

  pub volumes-fit : n.cells ≤ length volumes
  volumes-fit = front_fits (cells_are mesh field t.answer d) (t.volumes_held (tested-fine mesh field t.answer d))

  pub volumes_long : n.cells ≡ length (take n.cells volumes)
  volumes_long = front_long (cells_are mesh field t.answer d) (t.volumes_held (tested-fine mesh field t.answer d))

  pub masses_fit : n.cells ≤ length masses
  masses_fit = front_fits (cells_are mesh field t.answer d) (t.masses_held (tested-fine mesh field t.answer d))

  pub masses_long : n.cells ≡ length (take n.cells masses)
  masses_long = front_long (cells_are mesh field t.answer d) (t.masses_held (tested-fine mesh field t.answer d))

-- lent tables at the counts that were taken
abbrev pub counted_by : FieldCounts → Mesh → Mesh
counted_by n left = mesh_of n.cells n.faces left.volumes left.firsts left.seconds left.shares left.reaches

-- the counted parts of such tables can be lent
pub record Lendable (n : FieldCounts) (left : Mesh) (masses : List ℕ) : Type 0 where
  pub mesh_fits : MeshLent (counted_by n left)
  pub mesh_cut : MeshCut (parted (counted_by n left))
  pub masses_fit : n.cells ≤ length masses
  pub masses_long : n.cells ≡ length (take n.cells masses)

-- of a call on the whole mesh
module _ (mesh field : List ℕ) {a : Result FieldCounts Refusal} {left : Mesh} {masses : List ℕ} (t : RecordsTaking mesh field a left masses) {n : FieldCounts}
    (d : a ≡ Ok n) where
  held : TablesHeld mesh field left masses
  held = t.tables (tested-fine mesh field t.answer d)

  counts_are : n ≡ taken_in mesh field
  counts_are = (is-taken mesh field t.answer d).1

  fits : MeshLent (counted_by n left)
  fits = rw counts_are held.mesh-long

  pub lendable : Lendable n left masses
  lendable =
      let c = cells_are mesh field t.answer d in
      record {
        mesh_fits = fits;
        mesh_cut = parted-cut (counted_by n left) fits;
        masses_fit = front_fits c held.masses_held;
        masses_long = front_long c held.masses_held;
      }

  pub mesh-same : parted (counted_by n left) ≡ mesh_in mesh
  mesh-same = ap (λ (k : FieldCounts). parted (counted_by k left)) counts_are ∙ held.mesh_held

  masses-same : take n.cells masses ≡ field_in mesh field
  masses-same = rw (cells_are mesh field t.answer d) held.masses_held.part

  pub all-as : (P : Width → Mesh → List ℕ → Type 0) → P n.width (parted (counted_by n left)) (take n.cells masses)
      → P (width_in mesh) (mesh_in mesh) (field_in mesh field)
  all-as P p =
      let x = subst (λ (M : Mesh). P n.width M (take n.cells masses)) mesh-same p in
      let y = subst (λ (m : List ℕ). P n.width (mesh_in mesh) m) masses-same x in
      subst (λ (w : Width). P w (mesh_in mesh) (field_in mesh field)) (width_is mesh field t.answer d) y
