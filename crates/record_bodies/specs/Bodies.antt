-- Cited by the contracts of inner functions only: no promise of the crate rests on these. A body counts its bits from its own first.
use Rattle.std.specs.Prelude.{◌≡◌, List, ℕ, suc, ◌+◌, ◌*◌, ◌^◌, ◌≤◌, ◌<◌, eqb, ℤ, length}
use Rattle.lists.specs.Table.{table, over}
use Rattle.signed.specs.Sign.{with_sign}
use Rattle.model.specs.Mesh.{Mesh, mesh_of}
use Rattle.model.specs.Accepted.{MeshLent}
use Rattle.record_sections.specs.Sections.{Section, shape_bits, value_in, column_in}
use Rattle.record_bits.specs.Field.{bits_at}
use Rattle.record_layouts.specs.declared.Width.TheVariants.{Wide}
use Rattle.record_layouts.specs.Layouts.{end_bits, share_bits, value_of, face_of, face_bits, outside_bits, mesh_body, step_body}

-- The faces of a mesh from bit `first` on, K of `value` bits: a body holds n of them, and the tables can take them.
pub record FacesRoom (value : ℕ) (body : List ℕ) (first n firsts seconds shares reaches : ℕ) : Type 0 where
  pub narrow : value ≤ value_of Wide
  pub small : 8 * length body < 2 ^ 64
  pub holds : (f : ℕ) → f < n → first + f * face_of value + face_of value ≤ 8 * length body
  pub firsts_long : n ≤ firsts
  pub seconds_long : n ≤ seconds
  pub shares_long : n ≤ shares
  pub reaches_long : n ≤ reaches

-- the tables hold n of them
pub record FacesFilled (value : ℕ) (bs : List ℕ) (first n : ℕ) (firsts seconds shares reaches firsts' seconds' shares' reaches' : List ℕ) : Type 0 where
  pub firsts_in : firsts' ≡ over (table n (λ f. bits_at bs (first + f * face_of value) end_bits)) firsts
  pub seconds_in : seconds' ≡ over (table n (λ f. bits_at bs (first + end_bits + f * face_of value) end_bits)) seconds
  pub shares_in : shares' ≡ over (table n (λ f. bits_at bs (first + end_bits + end_bits + f * face_of value) share_bits)) shares
  pub reaches_in : reaches' ≡ over (table n (λ f. bits_at bs (first + end_bits + end_bits + share_bits + f * face_of value) value)) reaches

-- a mesh's body holds what the lent tables are to take
pub record MeshRoom (kind : ℕ) (body : List ℕ) (lent : Mesh) : Type 0 where
  pub small : 8 * length body + face_bits kind < 2 ^ 64
  pub holds : shape_bits (mesh_body kind lent.cells lent.faces) ≤ 8 * length body
  pub long : MeshLent lent

-- the mesh that a body holds: the columns of its two sections
abbrev pub body_mesh : (kind cells faces : ℕ) → List ℕ → Mesh
body_mesh kind cells faces body =
    let column = column_in body (mesh_body kind cells faces) in mesh_of cells faces (column 0 0) (column 1 0) (column 1 1) (column 1 2) (column 1 3)

-- a step's body, likewise
pub record StepRoom (kind cells faces : ℕ) (seconds body : List ℕ) (fluxes outsides releases : ℕ) : Type 0 where
  pub small : 8 * length body + outside_bits < 2 ^ 64
  pub holds : shape_bits (step_body kind cells faces seconds) ≤ 8 * length body
  pub seconds_long : faces ≤ length seconds
  pub fluxes_long : faces ≤ fluxes
  pub outsides_long : faces ≤ outsides
  pub releases_long : cells ≤ releases

-- the tables hold the fluxes of section k, the outside values of section k + 1 and the releases of section k + 2
pub record StepFilled (faces : ℕ) (bs : List ℕ) (S : List Section) (k : ℕ) (fluxes : List ℤ) (outsides releases : List ℕ) (fluxes' : List ℤ)
    (outsides' releases' : List ℕ) : Type 0 where
  pub fluxes_full : fluxes' ≡ over (table faces (λ f. with_sign (eqb (value_in bs S k 0 f) 1) (value_in bs S k 1 f))) fluxes
  pub outsides_full : outsides' ≡ over (column_in bs S (suc k) 0) outsides
  pub releases_full : releases' ≡ over (column_in bs S (suc (suc k)) 0) releases
