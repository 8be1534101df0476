-- A record that passed has room for its body, so the body's slice is there and its reader may be called.
use Rattle.std.proofs.Common.{◌≡◌, ◌*◌, ◌^◌, ◌≤◌, ◌<◌, sym, length}
use Rattle.model.specs.Causes.{fine}
use Rattle.record_sections.specs.Sections.{shape_bits}
use Rattle.record_sections.proofs.Bodies.{body_of}
use Rattle.record_layouts.specs.declared.Width.{Width}
use Rattle.record_layouts.specs.Layouts.{field_kind, field_body}
use Rattle.record_heads.specs.Heads.{kind_in}
use Rattle.record_reading.specs.Reading.{field_read}
use Rattle.record_reading.proofs.BodyLaws.{field_head_bytes, field_room, field-filled}
use Rattle.record_reading.proofs.ReadLaws.{field-read-says, field_accepted}
use Rattle.record_reading.proofs.read_field.Goals as goal

-- a reading that passed has room for its body
room : (w : Width) (cells : _) (bs : _) {m : _} → field_read w cells bs m ≡ fine
    → (field_head_bytes ≤ length bs) × ((8 * length (body_of field_head_bytes bs) < 2 ^ 64)
    × (shape_bits (field_body (field_kind w) cells) ≤ 8 * length (body_of field_head_bytes bs)) × (cells ≤ m))
room w cells bs {m} e = let k = field-read-says w cells bs m e in rw (← k.head.kind) (field_room cells bs k.head.few_cells k.tables)

kind_is : (w : Width) (cells : _) (bs : _) (m : _) → field_read w cells bs m ≡ fine → field_kind w ≡ kind_in bs
kind_is w cells bs m e = sym (field-read-says w cells bs m e).head.kind

pub slice_bounds-field-count : goal.slice_bounds-field-count
slice_bounds-field-count c = (room c.args.width c.args.cells c.args.bytes.now (sym c.in_ok-field.ensures)).0

pub slice_bounds-field-start : goal.slice_bounds-field-start
slice_bounds-field-start c = (room c.args.width c.args.cells c.args.bytes.now (sym c.in_ok-field.ensures)).0

pub field-requires-2 : goal.field-requires-2
field-requires-2 c = (room c.args.width c.args.cells c.args.bytes.now (sym c.in_ok-field.ensures)).1

pub returns : goal.returns
returns c =
    let e = sym c.in_ok-field.ensures in
    field_accepted e
    (field-filled c.args.cells c.args.bytes.now c.args.masses.now
    (rw (kind_is c.args.width c.args.cells c.args.bytes.now (length c.args.masses.now) e) at c.field-2.ensures))
