-- The fluxes stand at the body's start, the outside values after the last of them and the releases after those, as the shape of a step says.
use Prim.Native.Nat.{ℕ, ◌+◌, ◌*◌}
use mathlib.Core.Path.{◌≡◌, sym, ap, ◌∙◌}
use native.Mathlib.Omega.{arith}
use borrow.Author.Rules.{rules}
use Rattle.lists.specs.Table.{over}
use Rattle.record_sections.proofs.Bodies.{column-room}
use Rattle.record_layouts.specs.Layouts.{kind_number, value_bits, flux_bits, outside_bits, rim_faces}
use Rattle.record_layouts.proofs.Layouts.{value-most, step-value, sizes-at}
use Rattle.record_bodies.proofs.StepLaws.{fluxes-taken, outsides-taken, releases-ask, releases-taken}
use Rattle.record_bodies.proofs.step.Statement.{statement}
use Rattle.record_bodies.proofs.step.Tie as tie

-- from each call back to the one before
abbrev start : tie.After-value_width-value → tie.Start
start c = c.before.before.before.before.before

abbrev placed : tie.After-read_signed → tie.After-new-first
placed c = c.before.before.before

abbrev fluxes-read : tie.After-read_marked-release → tie.After-read_signed
fluxes-read c = c.before.before.before

abbrev number : tie.Start → ℕ
number s = kind_number s.args.width s.args.kind

-- the width of a size is the kind's, and so is the place of the outside values
value-is : (c : tie.After-value_width-value) → c.value_width-value.result ≡ value_bits (number (start c))
value-is c = c.value_width-value.ensures ∙ sym (step-value (start c).args.width (start c).args.kind)

outside-first : (c : tie.After-new-first) → c.new-first.result.at ≡ (start c.before).args.faces * flux_bits (number (start c.before))
outside-first c = c.new-first.ensures ∙ ap (λ (v : ℕ). (start c.before).args.faces * (1 + v)) (value-is c.before)

-- the releases begin where the outside values end
release-first : (c : tie.After-read_marked-release) → let s = start (placed (fluxes-read c)).before in
    c.read_marked-release.result ≡ s.args.faces * flux_bits (number s) + rim_faces s.args.seconds.now s.args.faces * outside_bits
release-first c = omega (arith, c.read_marked-release.ensures.0, outside-first (placed (fluxes-read c)))

add-new : tie.Need-overflow_add-value
add-new c = rw (value-is c) (omega (arith, value-most (number (start c))))

mul-new : tie.Need-overflow_mul-faces
mul-new c =
    let p = (start c).requires in rw (value-is c) (omega (arith, p.small, p.holds))

read-signed-requires : tie.Need-read_signed-requires
read-signed-requires c κs =
    let v = c.before.before.before in
    let s = start v in
    let p = s.requires in
    let k = sizes-at (number s) s.args.cells s.args.faces s.args.seconds.now in
    rw (value-is v) ((omega (arith, p.small), omega (arith, value-most (number s)), p.fluxes_long), λ i h. omega (arith, column-room k p.holds i h))

read-marked-requires : tie.Need-read_marked-release-requires
read-marked-requires c κs =
    let n = placed c.before.before in
    let p = (start n.before).requires in
    (omega (arith, p.small), omega arith, p.outsides_long, p.seconds_long, omega (arith, outside-first n, p.holds))

read-column-requires : tie.Need-read_column-requires
read-column-requires c κs =
    let m = c.before.before.before in
    let r = fluxes-read m in
    let s = start (placed r).before in
    let p = s.requires in
    releases-ask s.args.body.now (number s) s.args.cells s.args.faces s.args.seconds.now
    (release-first m) r.before.before.release_width-bits.ensures
    (omega (arith, p.small)) p.holds p.releases_long

returns : tie.Need-returns
returns c =
    let l = c.before.before in
    let m = l.before.before.before.before in
    let r = fluxes-read m in
    let n = placed r in
    let s = start n.before in
    let b = s.args.body.now in
    let k = number s in
    let q = s.args.seconds.now in
    record {
      fluxes_full = r.read_signed.ensures ∙ ap (λ zs. over zs s.args.fluxes.now)
          (fluxes-taken b k s.args.cells s.args.faces q (value-is n.before));
      outsides_full = m.read_marked-release.ensures.1 ∙ ap (λ xs. over xs s.args.outsides.now)
          (outsides-taken b k s.args.cells s.args.faces q {p = n.new-first.result.at} (outside-first n));
      releases_full = l.read_column.ensures ∙ ap (λ xs. over xs s.args.releases.now)
          (releases-taken b k s.args.cells s.args.faces q (release-first m) r.before.before.release_width-bits.ensures);
    }

pub step_spec : {M : Type 1} → statement M
step_spec =
    tie.close
    (tie.spec (search rules) add-new mul-new (search rules) (search rules) read-signed-requires read-marked-requires read-column-requires
    (search rules) (search rules) (search rules) returns)
