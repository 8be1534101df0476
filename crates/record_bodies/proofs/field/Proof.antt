-- The masses are the column of the field's width.
use mathlib.Core.Path.{ap, ◌∙◌}
use borrow.Author.Rules.{rules}
use Rattle.lists.specs.Table.{over}
use Rattle.record_sections.proofs.Bodies.{column-is, column-room}
use Rattle.record_layouts.specs.Layouts.{field_kind}
use Rattle.record_layouts.proofs.Layouts.{field-mass, masses-at}
use Rattle.record_bodies.proofs.field.Statement.{statement}
use Rattle.record_bodies.proofs.field.Tie as tie

read-masses-requires : tie.Need-read_masses-requires
read-masses-requires c κs =
    let s = c.before.before.before in
    let k = field_kind s.args.width in
    rw (← field-mass s.args.width) ((s.requires.0, s.requires.2), λ i h. column-room (masses-at k s.args.cells) s.requires.1 i h)

returns : tie.Need-returns
returns c =
    let s = c.before.before.before.before.before.before in
    let k = field_kind s.args.width in
    (rw (← field-mass s.args.width) at c.before.before.read_masses.ensures) ∙ ap (λ xs. over xs s.args.masses.now) (column-is (masses-at k
    s.args.cells) s.args.body.now)

pub field_spec : {M : Type 1} → statement M
field_spec = tie.close (tie.spec read-masses-requires (search rules) returns)
