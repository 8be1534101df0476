-- There is room for the line, so that all of it stands after those held.
use borrow.Author.Rules.{rules}
use Rattle.run_session.proofs.Added.{added}
use Rattle.run_session.proofs.printing.add.Statement.{statement}
use Rattle.run_session.proofs.printing.add.Tie as tie

returns : tie.Need-returns
returns c =
    let put = c.before.before in
    let s = put.before.before.before.before.before in
    added s.args.lines.now put.append.ensures s.requires.0.1 s.requires.1

pub add_spec : {M : Type 1} → statement M
add_spec = tie.close (tie.spec (search rules) (search rules) (search rules) (search rules) returns)
