-- As the mesh is put: field by field of the head, the columns of signs and of sizes, the outside values where there is a rim face, and the
-- releases, whose column has no bits in kind 3.
use Prim.Native.Nat.{ℕ, ◌+◌, ◌*◌, ◌≤◌}
use mathlib.Core.Path.{◌≡◌, refl, sym, ◌∙◌}
use mathlib.Core.Bool.{Bool}
use mathlib.Core.List.{List}
use native.Mathlib.Nat.{mul-le-mul}
use native.Mathlib.Omega.{arith}
use borrow.Author.Rules.{rules}
use Rattle.model.specs.Mesh.{max_faces}
use Rattle.record_sections.specs.Sections.{Section, Values, shape_bits}
use Rattle.record_sections.proofs.Columns.{Written, none, and, written_none, written-column}
use Rattle.record_sections.proofs.Bodies.{Column, column_fits, column-small, column-written, head-written}
use Rattle.record_layouts.specs.Layouts.{kind_number, value_of, value_bits, kind_bits, faces_bits, step_zero_bits, step_head_bits, release_bits, step_shape, step_value, step_length, step_record}
use Rattle.record_layouts.specs.declared.Width.TheVariants.{Wide}
use Rattle.record_layouts.proofs.Layouts.{rim-le, value-most, step-value, release_place, step_is, step-some, step-most, step-kind-in, step-faces-in, step-zeros-in, signs-in, sizes-in, outside-in}
use Rattle.record_putting.proofs.PutLaws.{Room, held, field-asks, rooms, column-asks, pad-asks, put_whole, releases-put, release-short, step_ends}
use Rattle.record_putting.proofs.step.Statement.{statement}
use Rattle.record_putting.proofs.step.Tie as tie

abbrev kind : tie.Start → ℕ
kind s = kind_number s.args.width s.args.kind

abbrev shape : tie.Start → List Section
shape s = step_shape (kind s) s.args.cells s.args.faces s.args.seconds.now

abbrev value : tie.Start → Values
value s = step_value (kind s) s.args.faces s.args.fluxes.now s.args.outsides.now s.args.releases.now

-- the bytes with some of the record's columns put
abbrev Some : tie.Start → (ℕ → ℕ → Bool) → List ℕ → Type 0
Some s put out = Written (shape s) (value s) put s.args.bytes.now out

holds : (s : tie.Start) → Room (shape s) step_head_bits s.args.bytes.now
unfolding step_length
holds s =
    let m = s.args.cells in
    let f = s.args.faces in
    let q = s.args.seconds.now in
    record {
      short = omega arith;
      some = omega (arith, step-some (kind s) m f q);
      enough = s.requires.enough;
      small = omega (arith, step-most (kind s) m f q s.requires.few_cells s.requires.few_faces);
    }

ends : (s : tie.Start) → shape_bits (shape s) ≡ release_place (kind s) s.args.faces s.args.seconds.now + s.args.cells * release_bits (kind s)
ends s = step_is (kind s) s.args.cells s.args.faces s.args.seconds.now

abbrev Head : ℕ → ℕ → Bool
Head = and (and (and none 0 0) 0 1) 0 2

abbrev Water : ℕ → ℕ → Bool
Water = and (and (and Head 1 0) 1 1) 2 0

-- the start from where the releases' place and width are known, and that from each place
abbrev reckoned : tie.After-value_width-value → tie.Start
reckoned c = c.before.before.before.before.before

abbrev from-value : tie.After-release_width-bits → tie.After-value_width-value
from-value c = c.before.before.before

abbrev start : tie.After-release_width-bits → tie.Start
start c = reckoned (from-value c)

-- the width of a size is the kind's
value-is : (c : tie.After-value_width-value) → c.value_width-value.result ≡ value_bits (kind (reckoned c))
value-is c = c.value_width-value.ensures ∙ sym (step-value (reckoned c).args.width (reckoned c).args.kind)

small : (s : tie.Start) → (value_bits (kind s) ≤ value_of Wide) × (s.args.faces * value_bits (kind s) ≤ max_faces * value_of Wide)
    × (s.args.faces ≤ max_faces)
small s = (value-most (kind s), mul-le-mul s.requires.few_faces (value-most (kind s)), s.requires.few_faces)

add-flux : tie.Need-overflow_add-flux
add-flux c = rw (value-is c) (omega (arith, small (reckoned c)))

mul-first : tie.Need-overflow_mul-first
mul-first c = rw (value-is c) (omega (arith, small (reckoned c)))

add-first : tie.Need-overflow_add-first
add-first c = rw (value-is c) (omega (arith, small (reckoned c)))

abbrev from_one : tie.After-write_bits → tie.After-release_width-bits
from_one c = c.before.before.before

abbrev from-two : tie.After-write_bits-2 → tie.After-release_width-bits
from-two c = from_one c.before.before.before.before

abbrev from-three : tie.After-write_bits-3 → tie.After-release_width-bits
from-three c = from-two c.before.before.before.before

abbrev from-four : tie.After-put_signs → tie.After-release_width-bits
from-four c = from-three c.before.before.before.before

abbrev from-five : tie.After-put_sizes → tie.After-release_width-bits
from-five c = from-four c.before.before.before.before

abbrev from-six : tie.After-put_marked → tie.After-release_width-bits
from-six c = from-five c.before.before.before.before

abbrev from-seven : tie.After-put_column → tie.After-release_width-bits
from-seven c = from-six c.before.before.before.before

-- the releases as the code reckons them, and the place after the last of them
module _ (c : tie.After-release_width-bits) where
  abbrev p : ℕ
  p = c.before.after_outsides-release.result

  abbrev w : ℕ
  w = c.release_width-bits.result

  at : p ≡ release_place (kind (start c)) (start c).args.faces (start c).args.seconds.now
  at = let k = c.before.before in let e = rw (value-is (from-value c)) at c.before.after_outsides-release.ensures in omega (arith, e, k.count_marked-outside.ensures)

  releases : Column (shape (start c)) 3 0 (start c).args.cells p w w
  releases = releases-put (kind (start c)) (start c).args.cells (start c).args.faces (start c).args.seconds.now at c.release_width-bits.ensures

  end : p + (start c).args.cells * w ≡ shape_bits (shape (start c))
  end = step_ends (kind (start c)) (start c).args.cells (start c).args.faces (start c).args.seconds.now at c.release_width-bits.ensures

one : (c : tie.After-write_bits) → Some (start (from_one c)) (and none 0 0) c.write_bits.new.dst
one c =
    let s = start (from_one c) in
    head-written (step-kind-in (kind s) s.args.cells s.args.faces s.args.seconds.now) (value s) s.requires.fits
    (written_none (shape s) (value s) _) c.write_bits.ensures (sym c.before.kind_number.ensures)

two : (c : tie.After-write_bits-2) → Some (start (from-two c)) (and (and none 0 0) 0 1) c.write_bits-2.new.dst
two c =
    let p1 = c.before.before.before.before in
    let s = start (from-two c) in
    head-written (step-faces-in (kind s) s.args.cells s.args.faces s.args.seconds.now) (value s) s.requires.fits
    (one p1) c.write_bits-2.ensures refl

three : (c : tie.After-write_bits-3) → Some (start (from-three c)) Head c.write_bits-3.new.dst
three c =
    let p1 = c.before.before.before.before in
    let s = start (from-three c) in
    head-written (step-zeros-in (kind s) s.args.cells s.args.faces s.args.seconds.now) (value s) s.requires.fits
    (two p1) c.write_bits-3.ensures refl

four : (c : tie.After-put_signs) → Some (start (from-four c)) (and Head 1 0) c.put_signs.new.bytes
four c =
    let p1 = c.before.before.before.before in
    let s = start (from-four c) in
    column-written (signs-in (kind s) s.args.cells s.args.faces s.args.seconds.now) (value s) s.requires.fits
    (three p1) (rw (value-is (from-value (from-four c))) at c.put_signs.ensures) (λ i l. refl)

five : (c : tie.After-put_sizes) → Some (start (from-five c)) (and (and Head 1 0) 1 1) c.put_sizes.new.bytes
five c =
    let p1 = c.before.before.before.before in
    let s = start (from-five c) in
    column-written (sizes-in (kind s) s.args.cells s.args.faces s.args.seconds.now) (value s) s.requires.fits
    (four p1) (rw (value-is (from-value (from-five c))) at c.put_sizes.ensures) (λ i l. refl)

six : (c : tie.After-put_marked) → Some (start (from-six c)) Water c.put_marked.new.bytes
six c =
    let p1 = c.before.before.before.before in
    let s = start (from-six c) in
    written-column (shape s) (value s) s.requires.fits 2 0 (five p1) (rw (value-is (from-value (from-six c))) at c.put_marked.ensures) (omega arith) refl
    refl (λ i. refl)
    (λ i l t. outside-in (kind s) s.args.cells s.args.faces s.args.seconds.now i) (λ i l. refl)

seven : (c : tie.After-put_column) → Some (start (from-seven c)) (and Water 3 0) c.put_column.new.bytes
seven c =
    let p1 = c.before.before.before.before in
    let s = start (from-seven c) in
    column-written (releases (from-seven c)) (value s) s.requires.fits (six p1) c.put_column.ensures (λ i l. refl)

after-outsides-requires : tie.Need-after_outsides-release-requires
after-outsides-requires c κs =
    let v = c.before in
    let s = reckoned v in
    rw (value-is v) (omega (arith, c.count_marked-outside.ensures, rim-le s.args.seconds.now s.args.faces, small s))

write-bits-requires : tie.Need-write_bits-requires
write-bits-requires c κs =
    let s = start c.before.before in
    let k = step-kind-in (kind s) s.args.cells s.args.faces s.args.seconds.now in
    field-asks (holds s) (written_none (shape s) (value s) _) 0 kind_bits _ (omega arith)
    (rw c.kind_number.ensures (column-small k (value s) s.requires.fits 0 (omega arith)))

write-bits-requires-2 : tie.Need-write_bits-requires-2
write-bits-requires-2 c κs =
    let p1 = c.before.before.before in
    let s = start (from_one p1) in
    field-asks (holds s) (one p1) kind_bits faces_bits _ (omega arith) (omega (arith, s.requires.few_faces))

write-bits-requires-3 : tie.Need-write_bits-requires-3
write-bits-requires-3 c κs =
    let p1 = c.before.before.before in
    let s = start (from-two p1) in
    field-asks (holds s) (two p1) (kind_bits + faces_bits) step_zero_bits _ (omega arith) (omega arith)

put-signs-requires : tie.Need-put_signs-requires
put-signs-requires c κs =
    let p1 = c.before.before.before in
    let s = start (from-three p1) in
    rw (value-is (from-value (from-three p1))) (
      (omega arith, s.requires.fluxes_long),
      rooms (holds s) (three p1) (signs-in (kind s) s.args.cells s.args.faces s.args.seconds.now),
    )

put-sizes-requires : tie.Need-put_sizes-requires
put-sizes-requires c κs =
    let p1 = c.before.before.before in
    let s = start (from-four p1) in
    let k = sizes-in (kind s) s.args.cells s.args.faces s.args.seconds.now in
    rw (value-is (from-value (from-four p1))) (
      (omega (arith, small s), column_fits k, s.requires.fluxes_long),
      (rooms (holds s) (four p1) k, column-small k (value s) s.requires.fits),
    )

put-marked-requires : tie.Need-put_marked-requires
put-marked-requires c κs =
    let p1 = c.before.before.before in
    let s = start (from-five p1) in
    let h = holds s in
    let r = five p1 in
    rw (value-is (from-value (from-five p1))) (
      (
        omega arith,
        s.requires.seconds_long,
        s.requires.outsides_long,
        omega (arith, r.same_length, held h, ends s),
        omega (arith, h.small, ends s),
      ),
      s.requires.outsides_fit,
    )

put-column-requires : tie.Need-put_column-requires
put-column-requires c κs =
    let p1 = c.before.before.before in
    let k = from-six p1 in
    let s = start k in
    column-asks (holds s) (six p1) (releases k) s.requires.fits s.args.releases.now
    (release-short (kind s) s.args.cells s.args.faces s.args.seconds.now (at k) k.release_width-bits.ensures) s.requires.releases_long (λ i l. refl)

mul-pad : tie.Need-overflow_mul-cells
mul-pad c = let k = from-seven c.before.before.before in omega (arith, end k, (holds (start k)).small)

add-pad : tie.Need-overflow_add-release
add-pad c = let k = from-seven c.before.before.before in omega (arith, end k, (holds (start k)).small)

pad-requires : tie.Need-pad-requires
pad-requires c κs =
    let put = c.before.before.before in
    let k = from-seven put in
    pad-asks (holds (start k)) (seven put) (end k)

same_length : tie.Need-shape_of-bytes
same_length c =
    let padded = c.before.before in
    padded.pad.ensures.1.same_length ∙ (seven padded.before.before.before.before).same_length

returns : tie.Need-returns
unfolding step_length step_record
returns c =
    let padded = c.before.before in
    let put = padded.before.before.before.before in
    let k = from-seven put in
    put_whole (holds (start k)) (seven put) (end k) refl
    (λ j. omega (arith, (from-value k).before.before.slice_known-1.given j)) (λ j. omega (arith, c.slice_known-9-1.given j)) padded.pad.ensures

pub step_spec : {M : Type 1} → statement M
step_spec =
    tie.close
    (tie.spec (search rules) add-flux (search rules) (search rules) (search rules) mul-first add-first (search rules) after-outsides-requires (search rules)
    (search rules)
    write-bits-requires write-bits-requires-2 write-bits-requires-3 put-signs-requires put-sizes-requires put-marked-requires put-column-requires
    mul-pad add-pad pad-requires same_length returns)
