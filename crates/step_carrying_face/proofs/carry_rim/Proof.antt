use borrow.Author.Rules.{rules}
use Rattle.step_carrying_face.proofs.carry_rim.Statement.{statement}
use Rattle.step_carrying_face.proofs.carry_rim.Tie as tie

come-in-requires : tie.Need-come_in-requires
come-in-requires c κs =
    let i = c.before.before.before in
    let s = i.before.before.before in
    (rw i.if-negative.true at s.requires.0, s.requires.1 i.if-negative.true)

returns : tie.Need-returns-then-negative
returns c =
    let g = c.before.before.before.before.before in
    rw g.before.before.before.before.if-negative.true g.come_in.ensures

go-out-requires : tie.Need-go_out-requires
go-out-requires c κs =
    let i = c.before.before.before in
    rw i.if-negative.false at i.before.before.before.requires.0

returns-2 : tie.Need-returns
returns-2 c =
    let g = c.before.before.before.before.before in
    rw g.before.before.before.before.if-negative.false g.go_out.ensures

pub carry_rim_spec : {M : Type 1} → statement M
carry_rim_spec =
    tie.close
    (tie.spec come-in-requires (search rules) (search rules) (search rules) returns go-out-requires (search rules) (search rules) (search rules) returns-2)
