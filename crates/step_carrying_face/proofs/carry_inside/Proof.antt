use borrow.Author.Rules.{rules}
use mathlib.Core.Path.{refl}
use mir.Syntax.{w64}
use mir.ValLaws.{to_z-of_z}
use Rattle.step_carrying_face.proofs.FaceLaws.{still-done, still-flux, some-flux}
use Rattle.step_carrying_face.proofs.carry_inside.Statement.{statement}
use Rattle.step_carrying_face.proofs.carry_inside.Tie as tie

returns : tie.Need-returns-then-flux-eq0
returns c =
    let s = c.before.before.before in
    still-done s.args.f s.args.first s.args.second s.args.share s.args.reach s.args.a s.args.b s.args.cells s.args.flux
    s.args.next.now s.args.moved.now _ s.args.work.now _ s.requires.1 (still-flux s.args.flux s.ranges.flux c.if-flux-eq0.true) refl refl

carry-wet-requires : tie.Need-carry_wet-requires
carry-wet-requires c κs =
    let i = c.before.before.before in
    let s = i.before.before.before in
    rw (to_z-of_z w64 s.args.flux s.ranges.flux) (s.requires.0, (s.requires.1, some-flux s.args.flux i.if-flux-eq0.false))

returns-2 : tie.Need-returns
returns-2 c =
    let w = c.before.before.before.before.before in
    let s = w.before.before.before.before.before.before.before in
    rw (to_z-of_z w64 s.args.flux s.ranges.flux) at w.carry_wet.ensures

pub carry_inside_spec : {M : Type 1} → statement M
carry_inside_spec =
    tie.close
    (tie.spec (search rules) (search rules) (search rules) (search rules) (search rules) (search rules) (search rules) (search rules) returns
    carry-wet-requires (search rules) (search rules) (search rules) returns-2)
