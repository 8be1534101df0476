-- The cell gains what comes in and meets the concentration outside; both are asked of the masses and the entries at entry.
use Prim.Native.Nat.{◌*◌, ◌≤◌}
use mathlib.Core.Path.{refl}
use native.Mathlib.Nat.{mul-le-mul}
use native.Mathlib.Omega.{arith}
use borrow.Author.Rules.{rules}
use lib.ListN.{length-set}
use Rattle.model.specs.Accepted.{max_carried}
use Rattle.model.specs.Mesh.{rim}
use Rattle.step_face.proofs.Transfers.{has-room-in}
use Rattle.step_cell.proofs.BoundLaws.{length-widened}
use Rattle.step_carrying_face.proofs.FaceLaws.{in-done}
use Rattle.step_carrying_face.proofs.come_in.Statement.{statement}
use Rattle.step_carrying_face.proofs.come_in.Tie as tie

amount-small : (s : tie.Start) → s.args.size * s.args.outside ≤ max_carried
amount-small s = mul-le-mul s.requires.0.size_most s.requires.0.beyond_most

gain-requires : tie.Need-gain-requires
gain-requires c κs =
    let s = c.before.before.before.before.before.before in
    let p = s.requires.0 in
    rw p.next_long (
      p.ends.few,
      p.ends.first-in,
      has-room-in s.args.next.now s.args.first rim (s.args.size * s.args.outside)
          (rw p.next_long p.ends.first-in) (rw p.next_long p.room),
    )

abbrev met : tie.After-slice_known-4-1 → tie.After-widen
met c = c.before.before

abbrev gained : tie.After-widen → tie.After-gain
gained c = c.before.before.before.before

abbrev noted : tie.After-gain → tie.After-put
noted c = c.before.before.before

abbrev start : tie.After-put → tie.Start
start c = c.before.before.before.before

same-work : tie.Need-shape_of-work
same-work c = simp length-set (rw ((met c).widen.ensures, length-widened))

returns : tie.Need-returns
returns c =
    let w = met c in
    let g = gained w in
    let s = start (noted g) in
    in-done s.args.f s.args.first s.args.a s.args.outside s.args.cells s.args.size s.args.next.now _ s.args.moved.now _
    s.args.work.now _ _
    s.requires.1 (rw s.requires.0.next_long s.requires.0.ends.few) g.gain.ensures (noted g).put.ensures w.widen.ensures refl

pub come_in_spec : {M : Type 1} → statement M
come_in_spec =
    tie.close
    (tie.spec (λ c. omega (arith, amount-small c.before.before))
    (λ c κs. let s = c.before.before.before in (s.requires.0.in_moved, omega (arith, amount-small s)))
    gain-requires (search rules) (search rules) (search rules) (search rules) (search rules) (search rules) (search rules) same-work returns)
