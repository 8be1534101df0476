-- The giver loses before the receiver gains: that it can afford the amount, and that there is room for it, is asked of the masses at entry.
use mathlib.Core.Bool.{cond}
use borrow.Author.Rules.{rules}
use Rattle.step_face.specs.Exchange.{Lost}
use Rattle.step_face.proofs.Transfers.{giver-affords, receiver-has-room, transferred}
use Rattle.step_face.proofs.exchange.transfer.Statement.{statement}
use Rattle.step_face.proofs.exchange.transfer.Tie as tie

-- both ends are known; the giver has lost
abbrev start : tie.After-end_to-receiver → tie.Start
start c = c.before.before.before

abbrev ends : tie.After-lose → tie.After-end_to-receiver
ends c = c.before.before

lost : (c : tie.After-lose) → let s = start (ends c) in Lost s.args.next.now (cond s.args.negative s.args.second s.args.first)
    s.args.amount c.lose.new.next
lost c = rw (ends c).before.end_to-giver.ensures at c.lose.ensures

lose-requires : tie.Need-lose-requires
lose-requires c κs =
    let s = start c.before in
    let g = giver-affords s.args.next.now s.args.first s.args.second s.args.negative s.args.amount s.requires.0.0 s.requires.1.0
    s.requires.1.1 s.requires.0.1 in
    rw c.before.before.end_to-giver.ensures (s.requires.0.0.few, g.0, g.1)

gain-requires : tie.Need-gain-requires
gain-requires c κs =
    let w = c.before.before.before in
    let s = start (ends w) in
    let g = receiver-has-room s.args.next.now s.args.first s.args.second s.args.negative s.args.amount s.requires.0.0 s.requires.1.0
    s.requires.1.1 s.requires.0.1 _ (lost w) in
    rw (ends w).end_to-receiver.ensures (rw (lost w).same_length s.requires.0.0.few, g.0, g.1)

returns : tie.Need-returns
returns c =
    let g = c.before.before in
    let w = g.before.before.before.before in
    let s = start (ends w) in
    transferred s.args.next.now s.args.first s.args.second s.args.negative s.args.amount _ _ (lost w)
    (rw (ends w).end_to-receiver.ensures at g.gain.ensures)

pub transfer_spec : {M : Type 1} → statement M
transfer_spec = tie.close (tie.spec (search rules) (search rules) lose-requires gain-requires (search rules) returns)
