-- As the mesh is put: field by field of the head, then the column of masses.
use Prim.Native.Nat.{ℕ, ◌+◌, ◌*◌}
use mathlib.Core.Path.{◌≡◌, refl, sym, ◌∙◌}
use mathlib.Core.Bool.{Bool}
use mathlib.Core.List.{List}
use native.Mathlib.Omega.{arith}
use borrow.Author.Rules.{rules}
use Rattle.record_sections.specs.Sections.{Section, Values, shape_bits}
use Rattle.record_sections.proofs.Columns.{Written, none, and, written_none}
use Rattle.record_sections.proofs.Bodies.{column-small, column-written, head-written}
use Rattle.record_layouts.specs.Layouts.{field_kind, kind_bits, cells_bits, mass_bits, field_head_bits, field_shape, field_value, field_length, field_record}
use Rattle.record_layouts.proofs.Layouts.{mass-most, field-mass, field-some, field-most, field-kind-in, field-cells-in, masses-in}
use Rattle.record_putting.proofs.PutLaws.{Room, field-asks, column-asks, pad-asks, put_whole}
use Rattle.record_putting.proofs.field.Statement.{statement}
use Rattle.record_putting.proofs.field.Tie as tie

abbrev kind : tie.Start → ℕ
kind s = field_kind s.args.width

abbrev shape : tie.Start → List Section
shape s = field_shape (kind s) s.args.cells

abbrev value : tie.Start → Values
value s = field_value (kind s) s.args.cells s.args.masses.now

-- the bytes with some of the record's columns put
abbrev Some : tie.Start → (ℕ → ℕ → Bool) → List ℕ → Type 0
Some s put out = Written (shape s) (value s) put s.args.bytes.now out

holds : (s : tie.Start) → Room (shape s) field_head_bits s.args.bytes.now
unfolding field_length
holds s =
    let most = field-most (kind s) s.args.cells s.requires.few_cells in
    record {
      short = omega arith;
      some = field-some (kind s) s.args.cells;
      enough = s.requires.enough;
      small = omega (arith, most);
    }

-- the start from where the first field of the head is put, and that place from each later one
abbrev reckoned : tie.After-mass_width-mass → tie.Start
reckoned c = c.before.before.before.before

abbrev from-mass : tie.After-write_bits → tie.After-mass_width-mass
from-mass c = c.before.before

abbrev start : tie.After-write_bits → tie.Start
start c = reckoned (from-mass c)

-- the width of a mass is the kind's
mass-is : (c : tie.After-mass_width-mass) → c.mass_width-mass.result ≡ mass_bits (kind (reckoned c))
mass-is c = c.mass_width-mass.ensures ∙ sym (field-mass (reckoned c).args.width)

-- the bit after the last mass
last : (s : tie.Start) {mass : ℕ} → mass ≡ mass_bits (kind s) → field_head_bits + s.args.cells * mass ≡ shape_bits (shape s)
last s e = rw e (omega arith)

ends : (c : tie.After-mass_width-mass) → field_head_bits + (reckoned c).args.cells * c.mass_width-mass.result ≡ shape_bits (shape (reckoned c))
ends c = last (reckoned c) (mass-is c)

abbrev from-two : tie.After-write_bits-2 → tie.After-write_bits
from-two c = c.before.before.before.before

abbrev from-three : tie.After-put_masses → tie.After-write_bits
from-three c = from-two c.before.before.before.before

one : (c : tie.After-write_bits) → Some (start c) (and none 0 0) c.write_bits.new.dst
one c =
    let s = start c in
    head-written (field-kind-in (kind s) s.args.cells) (value s) s.requires.fits (written_none (shape s) (value s) _) c.write_bits.ensures
    (sym c.before.before.before.of_width-kind.ensures)

two : (c : tie.After-write_bits-2) → Some (start (from-two c)) (and (and none 0 0) 0 1) c.write_bits-2.new.dst
two c =
    let p1 = c.before.before.before.before in
    let s = start (from-two c) in
    head-written (field-cells-in (kind s) s.args.cells) (value s) s.requires.fits (one p1) c.write_bits-2.ensures refl

three : (c : tie.After-put_masses) → Some (start (from-three c)) (and (and (and none 0 0) 0 1) 1 0) c.put_masses.new.bytes
three c =
    let p1 = c.before.before.before.before in
    let s = start (from-three c) in
    column-written (masses-in (kind s) s.args.cells) (value s) s.requires.fits (two p1) (rw (sym (field-mass s.args.width)) at c.put_masses.ensures)
    (λ i l. refl)

write-bits-requires : tie.Need-write_bits-requires
write-bits-requires c κs =
    let m = c.before in
    let s = reckoned m in
    field-asks (holds s) (written_none (shape s) (value s) _) 0 kind_bits _ (omega arith)
    (rw m.before.of_width-kind.ensures (column-small (field-kind-in (kind s) s.args.cells) (value s) s.requires.fits 0 (omega arith)))

write-bits-requires-2 : tie.Need-write_bits-requires-2
write-bits-requires-2 c κs =
    let p1 = c.before.before.before in
    let s = start p1 in
    field-asks (holds s) (one p1) kind_bits cells_bits _ (omega arith) (omega (arith, s.requires.few_cells))

put-masses-requires : tie.Need-put_masses-requires
put-masses-requires c κs =
    let p1 = c.before.before.before in
    let s = start (from-two p1) in
    let asked = column-asks (holds s) (two p1) (masses-in (kind s) s.args.cells) s.requires.fits s.args.masses.now (omega (arith, mass-most (kind s)))
    s.requires.masses_long (λ i l. refl) in
    rw (← field-mass s.args.width) (asked.0.2, asked.1.0, asked.1.1)

mul-pad : tie.Need-overflow_mul-cells
mul-pad c = let m = from-mass (from-three c.before.before.before) in omega (arith, ends m, (holds (reckoned m)).small)

add-pad : tie.Need-overflow_add-cells
add-pad c = let m = from-mass (from-three c.before.before.before) in omega (arith, ends m, (holds (reckoned m)).small)

pad-requires : tie.Need-pad-requires
pad-requires c κs =
    let put = c.before.before.before in
    let f = from-three put in
    pad-asks (holds (start f)) (three put) (ends (from-mass f))

same_length : tie.Need-shape_of-bytes
same_length c =
    let padded = c.before.before in
    padded.pad.ensures.1.same_length ∙ (three padded.before.before.before.before).same_length

returns : tie.Need-returns
unfolding field_length field_record
returns c =
    let padded = c.before.before in
    let put = padded.before.before.before.before in
    let f = from-three put in
    put_whole (holds (start f)) (three put) (ends (from-mass f)) refl
    (λ j. omega (arith, f.before.before.before.before.slice_known-1.given j)) (λ j. omega (arith, c.slice_known-5-1.given j)) padded.pad.ensures

pub field_spec : {M : Type 1} → statement M
field_spec = tie.close (tie.spec (search rules) (search rules) write-bits-requires write-bits-requires-2 put-masses-requires mul-pad add-pad pad-requires
    same_length returns)
