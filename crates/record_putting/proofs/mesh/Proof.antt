-- Head field by head field and column by column: each puts bits as the record has them (`head-written`, `column-written`), and when every
-- column is put the bytes hold the record (`put_whole`).
use Prim.Native.Nat.{ℕ, ◌+◌, ◌*◌, ◌≤◌}
use mathlib.Core.Path.{◌≡◌, refl, sym, ◌∙◌}
use mathlib.Core.Bool.{Bool}
use mathlib.Core.List.{List}
use native.Mathlib.Nat.{mul-le-mul}
use native.Mathlib.Omega.{arith}
use borrow.Author.Rules.{rules}
use Rattle.model.specs.Mesh.{Mesh, mesh_of, max_cells}
use Rattle.record_sections.specs.Sections.{Section, Values, shape_bits}
use Rattle.record_sections.proofs.Columns.{Written, none, and, written_none}
use Rattle.record_sections.proofs.Bodies.{column-small, column-written, head-written}
use Rattle.record_layouts.specs.Layouts.{kind_bits, cells_bits, faces_bits, mesh_zero_bits, face_of, mesh_kind, value_of, value_bits, mesh_head_bits, mesh_shape, mesh_value, mesh_length, mesh_record}
use Rattle.record_layouts.specs.declared.Width.TheVariants.{Wide}
use Rattle.record_layouts.proofs.Layouts.{value-most, mesh-value, mesh-some, mesh-most, mesh-kind-in, mesh-cells-in, mesh-faces-in, mesh-zeros-in, volumes-in, firsts_in, seconds_in, shares_in, reaches_in}
use Rattle.record_putting.proofs.PutLaws.{Room, field-asks, column-asks, pad-asks, put_whole}
use Rattle.record_putting.proofs.mesh.Statement.{statement}
use Rattle.record_putting.proofs.mesh.Tie as tie

abbrev mesh : tie.Start → Mesh
mesh s = mesh_of s.args.cells s.args.faces s.args.volumes.now s.args.firsts.now s.args.seconds.now s.args.shares.now
    s.args.reaches.now

abbrev kind : tie.Start → ℕ
kind s = mesh_kind s.args.width

abbrev shape : tie.Start → List Section
shape s = mesh_shape (kind s) s.args.cells s.args.faces

abbrev value : tie.Start → Values
value s = mesh_value (kind s) (mesh s)

-- the bytes with some of the record's columns put
abbrev Some : tie.Start → (ℕ → ℕ → Bool) → List ℕ → Type 0
Some s put out = Written (shape s) (value s) put s.args.bytes.now out

holds : (s : tie.Start) → Room (shape s) mesh_head_bits s.args.bytes.now
unfolding mesh_length
holds s =
    let most = mesh-most (kind s) s.args.cells s.args.faces s.requires.few_cells s.requires.few_faces in
    record {
      short = omega arith;
      some = mesh-some (kind s) s.args.cells s.args.faces;
      enough = s.requires.enough;
      small = omega (arith, most);
    }

abbrev Head : ℕ → ℕ → Bool
Head = and (and (and (and none 0 0) 0 1) 0 2) 0 3

-- the start from where the first field of the head is put, and that place from each later one
abbrev reckoned : tie.After-value_width-value → tie.Start
reckoned c = c.before.before.before.before.before.before.before.before

abbrev from-value : tie.After-write_bits → tie.After-value_width-value
from-value c = c.before.before

abbrev start : tie.After-write_bits → tie.Start
start c = reckoned (from-value c)

-- the width of a value is the kind's
value-is : (c : tie.After-value_width-value) → c.value_width-value.result ≡ value_bits (kind (reckoned c))
value-is c = c.value_width-value.ensures ∙ sym (mesh-value (reckoned c).args.width)

small : (s : tie.Start) → (value_bits (kind s) ≤ value_of Wide) × (s.args.cells * value_bits (kind s) ≤ max_cells * value_of Wide)
small s = (value-most (kind s), mul-le-mul s.requires.few_cells (value-most (kind s)))

-- the bit after the last face
last : (s : tie.Start) {w : ℕ} → w ≡ value_bits (kind s)
    → mesh_head_bits + s.args.cells * w + s.args.faces * face_of w ≡ shape_bits (shape s)
last s e = rw e (omega arith)

ends : (c : tie.After-value_width-value) → let s = reckoned c in let w = c.value_width-value.result in
    mesh_head_bits + s.args.cells * w + s.args.faces * face_of w ≡ shape_bits (shape s)
ends c = last (reckoned c) (value-is c)

add-face : tie.Need-overflow_add-face
add-face c = rw (value-is c) (omega (arith, small (reckoned c)))

mul-first : tie.Need-overflow_mul-first
mul-first c = rw (value-is c) (omega (arith, small (reckoned c)))

add-first : tie.Need-overflow_add-first
add-first c = rw (value-is c) (omega (arith, small (reckoned c)))

add-second : tie.Need-overflow_add-second
add-second c = rw (value-is c) (omega (arith, small (reckoned c)))

add-share : tie.Need-overflow_add-share
add-share c = rw (value-is c) (omega (arith, small (reckoned c)))

add-reach : tie.Need-overflow_add-reach
add-reach c = rw (value-is c) (omega (arith, small (reckoned c)))

abbrev from-two : tie.After-write_bits-2 → tie.After-write_bits
from-two c = c.before.before.before.before

abbrev from-three : tie.After-write_bits-3 → tie.After-write_bits
from-three c = from-two c.before.before.before.before

abbrev from-four : tie.After-write_bits-4 → tie.After-write_bits
from-four c = from-three c.before.before.before.before

abbrev from-five : tie.After-put_column → tie.After-write_bits
from-five c = from-four c.before.before.before.before

abbrev from-six : tie.After-put_column-2 → tie.After-write_bits
from-six c = from-five c.before.before.before.before

abbrev from-seven : tie.After-put_column-3 → tie.After-write_bits
from-seven c = from-six c.before.before.before.before

abbrev from-eight : tie.After-put_column-4 → tie.After-write_bits
from-eight c = from-seven c.before.before.before.before

abbrev from-nine : tie.After-put_column-5 → tie.After-write_bits
from-nine c = from-eight c.before.before.before.before

one : (c : tie.After-write_bits) → Some (start c) (and none 0 0) c.write_bits.new.dst
one c =
    let s = start c in
    head-written (mesh-kind-in (kind s) s.args.cells s.args.faces) (value s) s.requires.fits (written_none (shape s) (value s) _)
    c.write_bits.ensures (sym c.before.before.before.of_width-kind.ensures)

two : (c : tie.After-write_bits-2) → Some (start (from-two c)) (and (and none 0 0) 0 1) c.write_bits-2.new.dst
two c =
    let p1 = c.before.before.before.before in
    let s = start (from-two c) in
    head-written (mesh-cells-in (kind s) s.args.cells s.args.faces) (value s) s.requires.fits (one p1) c.write_bits-2.ensures refl

three : (c : tie.After-write_bits-3) → Some (start (from-three c)) (and (and (and none 0 0) 0 1) 0 2) c.write_bits-3.new.dst
three c =
    let p1 = c.before.before.before.before in
    let s = start (from-three c) in
    head-written (mesh-faces-in (kind s) s.args.cells s.args.faces) (value s) s.requires.fits (two p1) c.write_bits-3.ensures refl

four : (c : tie.After-write_bits-4) → Some (start (from-four c)) Head c.write_bits-4.new.dst
four c =
    let p1 = c.before.before.before.before in
    let s = start (from-four c) in
    head-written (mesh-zeros-in (kind s) s.args.cells s.args.faces) (value s) s.requires.fits (three p1) c.write_bits-4.ensures refl

five : (c : tie.After-put_column) → Some (start (from-five c)) (and Head 1 0) c.put_column.new.bytes
five c =
    let p1 = c.before.before.before.before in
    let s = start (from-five c) in
    column-written (volumes-in (kind s) s.args.cells s.args.faces) (value s) s.requires.fits (four p1)
    (rw (value-is (from-value (from-five c))) at c.put_column.ensures) (λ i l. refl)

six : (c : tie.After-put_column-2) → Some (start (from-six c)) (and (and Head 1 0) 2 0) c.put_column-2.new.bytes
six c =
    let p1 = c.before.before.before.before in
    let s = start (from-six c) in
    column-written (firsts_in (kind s) s.args.cells s.args.faces refl) (value s) s.requires.fits (five p1)
    (rw (value-is (from-value (from-six c))) at c.put_column-2.ensures) (λ i l. refl)

seven : (c : tie.After-put_column-3) → Some (start (from-seven c)) (and (and (and Head 1 0) 2 0) 2 1) c.put_column-3.new.bytes
seven c =
    let p1 = c.before.before.before.before in
    let s = start (from-seven c) in
    column-written (seconds_in (kind s) s.args.cells s.args.faces refl) (value s) s.requires.fits (six p1)
    (rw (value-is (from-value (from-seven c))) at c.put_column-3.ensures) (λ i l. refl)

eight : (c : tie.After-put_column-4) → Some (start (from-eight c)) (and (and (and (and Head 1 0) 2 0) 2 1) 2 2) c.put_column-4.new.bytes
eight c =
    let p1 = c.before.before.before.before in
    let s = start (from-eight c) in
    column-written (shares_in (kind s) s.args.cells s.args.faces refl) (value s) s.requires.fits (seven p1)
    (rw (value-is (from-value (from-eight c))) at c.put_column-4.ensures) (λ i l. refl)

nine : (c : tie.After-put_column-5) → Some (start (from-nine c)) (and (and (and (and (and Head 1 0) 2 0) 2 1) 2 2) 2 3) c.put_column-5.new.bytes
nine c =
    let p1 = c.before.before.before.before in
    let s = start (from-nine c) in
    column-written (reaches_in (kind s) s.args.cells s.args.faces refl) (value s) s.requires.fits (eight p1)
    (rw (value-is (from-value (from-nine c))) at c.put_column-5.ensures) (λ i l. refl)

write-bits-requires : tie.Need-write_bits-requires
write-bits-requires c κs =
    let v = c.before in
    let s = reckoned v in
    field-asks (holds s) (written_none (shape s) (value s) _) 0 kind_bits _ (omega arith)
    (rw v.before.of_width-kind.ensures (column-small (mesh-kind-in (kind s) s.args.cells s.args.faces) (value s) s.requires.fits 0 (omega arith)))

write-bits-requires-2 : tie.Need-write_bits-requires-2
write-bits-requires-2 c κs =
    let p1 = c.before.before.before in
    let s = start p1 in
    field-asks (holds s) (one p1) kind_bits cells_bits _ (omega arith) (omega (arith, s.requires.few_cells))

write-bits-requires-3 : tie.Need-write_bits-requires-3
write-bits-requires-3 c κs =
    let p1 = c.before.before.before in
    let s = start (from-two p1) in
    field-asks (holds s) (two p1) (kind_bits + cells_bits) faces_bits _ (omega arith) (omega (arith, s.requires.few_faces))

write-bits-requires-4 : tie.Need-write_bits-requires-4
write-bits-requires-4 c κs =
    let p1 = c.before.before.before in
    let s = start (from-three p1) in
    field-asks (holds s) (three p1) (kind_bits + cells_bits + faces_bits) mesh_zero_bits _ (omega arith) (omega arith)

put-column-requires : tie.Need-put_column-requires
put-column-requires c κs =
    let p1 = c.before.before.before in
    let s = start (from-four p1) in
    rw (value-is (from-value (from-four p1))) (column-asks (holds s) (four p1) (volumes-in (kind s) s.args.cells s.args.faces) s.requires.fits
    s.args.volumes.now (omega (arith, small s)) s.requires.lent.volumes_long (λ i l. refl))

put-column-requires-2 : tie.Need-put_column-requires-2
put-column-requires-2 c κs =
    let p1 = c.before.before.before in
    let s = start (from-five p1) in
    rw (value-is (from-value (from-five p1))) (column-asks (holds s) (five p1) (firsts_in (kind s) s.args.cells s.args.faces refl) s.requires.fits
    s.args.firsts.now (omega arith) s.requires.lent.firsts_long (λ i l. refl))

put-column-requires-3 : tie.Need-put_column-requires-3
put-column-requires-3 c κs =
    let p1 = c.before.before.before in
    let s = start (from-six p1) in
    rw (value-is (from-value (from-six p1))) (column-asks (holds s) (six p1) (seconds_in (kind s) s.args.cells s.args.faces refl) s.requires.fits
    s.args.seconds.now (omega arith) s.requires.lent.seconds_long (λ i l. refl))

put-column-requires-4 : tie.Need-put_column-requires-4
put-column-requires-4 c κs =
    let p1 = c.before.before.before in
    let s = start (from-seven p1) in
    rw (value-is (from-value (from-seven p1))) (column-asks (holds s) (seven p1) (shares_in (kind s) s.args.cells s.args.faces refl) s.requires.fits
    s.args.shares.now (omega arith) s.requires.lent.shares_long (λ i l. refl))

put-column-requires-5 : tie.Need-put_column-requires-5
put-column-requires-5 c κs =
    let p1 = c.before.before.before in
    let s = start (from-eight p1) in
    rw (value-is (from-value (from-eight p1))) (column-asks (holds s) (eight p1) (reaches_in (kind s) s.args.cells s.args.faces refl) s.requires.fits
    s.args.reaches.now (omega (arith, small s)) s.requires.lent.reaches_long (λ i l. refl))

mul-pad : tie.Need-overflow_mul-faces
mul-pad c = let v = from-value (from-nine c.before.before.before) in omega (arith, ends v, (holds (reckoned v)).small)

add-pad : tie.Need-overflow_add-first-2
add-pad c = let v = from-value (from-nine c.before.before.before) in omega (arith, ends v, (holds (reckoned v)).small)

pad-requires : tie.Need-pad-requires
pad-requires c κs =
    let put = c.before.before.before in
    let f = from-nine put in
    pad-asks (holds (start f)) (nine put) (ends (from-value f))

same_length : tie.Need-shape_of-bytes
same_length c =
    let padded = c.before.before in
    padded.pad.ensures.1.same_length ∙ (nine padded.before.before.before.before).same_length

returns : tie.Need-returns
unfolding mesh_length mesh_record
returns c =
    let padded = c.before.before in
    let put = padded.before.before.before.before in
    let f = from-nine put in
    put_whole (holds (start f)) (nine put) (ends (from-value f)) refl
    (λ j. omega (arith, f.before.before.before.before.slice_known-1.given j)) (λ j. omega (arith, c.slice_known-11-1.given j)) padded.pad.ensures

pub mesh_spec : {M : Type 1} → statement M
mesh_spec =
    tie.close
    (tie.spec (search rules) (search rules) add-face (search rules) (search rules) mul-first add-first add-second add-share add-reach
    write-bits-requires write-bits-requires-2 (search rules) write-bits-requires-3 write-bits-requires-4
    put-column-requires put-column-requires-2 put-column-requires-3 put-column-requires-4 put-column-requires-5 mul-pad add-pad pad-requires same_length
    returns)
