-- Each column is read at its place of the body: `column-is` says that it is the section's.
use Prim.Native.Nat.{ℕ, ◌+◌, ◌*◌, ◌^◌, ◌≤◌, ◌<◌}
use mathlib.Core.Path.{◌≡◌, refl, sym, ap, ◌∙◌}
use mathlib.Core.List.{List}
use native.Mathlib.Omega.{arith}
use borrow.Author.Rules.{rules}
use lib.ListN.{length}
use Rattle.lists.specs.Table.{table, over}
use Rattle.model.specs.Mesh.{mesh_of}
use Rattle.model.proofs.Parts.{laid-over}
use Rattle.record_bits.specs.Field.{bits_at, widest}
use Rattle.record_sections.specs.Sections.{Section, column_in}
use Rattle.record_sections.proofs.Bodies.{Column, column-is, column-room}
use Rattle.record_layouts.specs.Layouts.{mesh_kind, end_bits, share_bits, value_bits, face_bits, mesh_body}
use Rattle.record_layouts.proofs.Layouts.{value-most, mesh-value, volumes-at, firsts_at, seconds-at, shares_at, reaches-at}
use Rattle.record_bodies.specs.Bodies.{body_mesh}
use Rattle.record_bodies.proofs.mesh.Statement.{statement}
use Rattle.record_bodies.proofs.mesh.Tie as tie

abbrev kind : tie.Start → ℕ
kind s = mesh_kind s.args.width

abbrev shape : tie.Start → List Section
shape s = mesh_body (kind s) s.args.cells s.args.faces

-- what a column asks of the body and of its table
asks : (s : tie.Start) {k j n first stride w m : ℕ} → Column (shape s) k j n first stride w → w ≤ widest → n ≤ m
    → ((8 * length s.args.body.now < 2 ^ 64) × (w ≤ widest) × (n ≤ m))
    × ((i : ℕ) → i < n → first + i * stride + w ≤ 8 * length s.args.body.now)
asks s c l e = ((omega (arith, s.requires.small), l, e), λ i h. column-room c s.requires.holds i h)

-- the places do not wrap: the body holds what they reach
within : (s : tie.Start) → s.args.cells * value_bits (kind s) + face_bits (kind s) < 2 ^ 64
within s = let p = s.requires in omega (arith, p.small, p.holds)

taken : (s : tie.Start) {k j n first stride w : ℕ} → Column (shape s) k j n first stride w → (ys : List ℕ) {zs : List ℕ}
    → zs ≡ over (table n (λ i. bits_at s.args.body.now (first + i * stride) w)) ys
    → zs ≡ over (column_in s.args.body.now (shape s) k j) ys
taken s c ys e = e ∙ ap (λ xs. over xs ys) (column-is c s.args.body.now)

-- the width of a value is the kind's, and so are the places
abbrev start : tie.After-value_width-value → tie.Start
start c = c.before.before.before.before.before.before.before

value-is : (c : tie.After-value_width-value) → c.value_width-value.result ≡ value_bits (kind (start c))
value-is c = c.value_width-value.ensures ∙ sym (mesh-value (start c).args.width)

value-small : (c : tie.After-value_width-value) → value_bits (kind (start c)) ≤ widest
value-small c = omega (arith, value-most (kind (start c)))

read-column-requires : tie.Need-read_column-requires
read-column-requires c κs =
    let v = c.before in
    let s = start v in
    rw (value-is v) (asks s (volumes-at (kind s) s.args.cells s.args.faces) (value-small v) s.requires.long.volumes_long)

mul-read-faces : tie.Need-overflow_mul-cells
mul-read-faces c =
    let v = c.before.before.before.before in
    rw (value-is v) (omega (arith, within (start v)))

-- a face ends with its reach
read-faces-requires : tie.Need-read_faces-requires
read-faces-requires c κs =
    let v = c.before.before.before.before.before.before.before.before in
    let s = start v in
    let reach = reaches-at (kind s) s.args.cells s.args.faces {p = s.args.cells * value_bits (kind s) + end_bits + end_bits + share_bits} refl in
    rw (value-is v) (record {
      narrow = omega (arith, value-most (kind s));
      small = omega (arith, s.requires.small);
      holds = λ f h. omega (arith, column-room reach s.requires.holds f h);
      firsts_long = s.requires.long.firsts_long;
      seconds_long = s.requires.long.seconds_long;
      shares_long = s.requires.long.shares_long;
      reaches_long = s.requires.long.reaches_long;
    })

returns : tie.Need-returns
returns c =
    let faces = c.before.before.before.before.before.before.before.before in
    let volumes = faces.before.before.before.before.before.before.before in
    let v = volumes.before.before in
    let s = start v in
    let k = kind s in
    let n = s.args.cells in
    let f = s.args.faces in
    let at = n * value_bits k in
    let read = rw (value-is v) at faces.read_faces.ensures in
    laid-over (body_mesh k n f s.args.body.now) (mesh_of n f s.args.volumes.now s.args.firsts.now s.args.seconds.now s.args.shares.now
    s.args.reaches.now)
    (taken s (volumes-at k n f) s.args.volumes.now (rw (value-is v) at volumes.read_column.ensures))
    (taken s (firsts_at k n f {p = at} refl) s.args.firsts.now read.firsts_in)
    (taken s (seconds-at k n f {p = at + end_bits} refl) s.args.seconds.now read.seconds_in)
    (taken s (shares_at k n f {p = at + end_bits + end_bits} refl) s.args.shares.now read.shares_in)
    (taken s (reaches-at k n f {p = at + end_bits + end_bits + share_bits} refl) s.args.reaches.now read.reaches_in)

pub mesh_spec : {M : Type 1} → statement M
mesh_spec =
    tie.close
    (tie.spec (search rules) read-column-requires mul-read-faces read-faces-requires
    (search rules) (search rules) (search rules) (search rules) (search rules) returns)
