-- The cell loses what goes out, which it can afford.
use Prim.Native.Nat.{◌*◌, ◌≤◌}
use mathlib.Core.Path.{refl}
use native.Mathlib.Nat.{mul-le-mul}
use native.Mathlib.Omega.{arith}
use borrow.Author.Rules.{rules}
use Rattle.model.specs.Accepted.{max_carried}
use Rattle.model.specs.Mesh.{rim}
use Rattle.step_face.proofs.Transfers.{affords-out}
use Rattle.step_carrying_face.proofs.FaceLaws.{out-done}
use Rattle.step_carrying_face.proofs.go_out.Statement.{statement}
use Rattle.step_carrying_face.proofs.go_out.Tie as tie

amount-small : (s : tie.Start) → s.args.size * s.args.a ≤ max_carried
amount-small s = mul-le-mul s.requires.size_most s.requires.first_most

lose-requires : tie.Need-lose-requires
lose-requires c κs =
    let s = c.before.before.before.before.before.before in
    let p = s.requires in
    rw p.next_long (
      p.ends.few,
      p.ends.first-in,
      affords-out s.args.next.now s.args.first rim (s.args.size * s.args.a)
          (rw p.next_long p.ends.first-in) (rw p.next_long p.afford),
    )

abbrev lost : tie.After-slice_known-3-1 → tie.After-lose
lost c = c.before.before

abbrev noted : tie.After-lose → tie.After-put
noted c = c.before.before.before

abbrev start : tie.After-put → tie.Start
start c = c.before.before.before.before

returns : tie.Need-returns
returns c =
    let g = lost c in
    let s = start (noted g) in
    out-done s.args.f s.args.first s.args.a s.args.outside s.args.cells s.args.size s.args.next.now _ s.args.moved.now _
    s.args.work.now _
    (rw s.requires.next_long s.requires.ends.few) g.lose.ensures (noted g).put.ensures refl

pub go_out_spec : {M : Type 1} → statement M
go_out_spec =
    tie.close
    (tie.spec (λ c. omega (arith, amount-small c.before.before))
    (λ c κs. let s = c.before.before.before in (s.requires.in_moved, omega (arith, amount-small s)))
    lose-requires (search rules) (search rules) (search rules) (search rules) (search rules) (search rules) (search rules) returns)
