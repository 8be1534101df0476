-- One byte is changed, and its bits are those of `put_byte`.
use lib.ListN.{length-set}
use Rattle.record_bits.proofs.Puts.{put_byte}
use borrow.Author.Rules.{rules}
use Rattle.record_bits.proofs.put_piece.Statement.{statement}
use Rattle.record_bits.proofs.put_piece.Tie as tie

returns : tie.Need-returns
returns c =
    let s = c.before.before.before in
    rw c.mix.ensures (put_byte s.args.dst.now s.args.p s.args.k s.args.v s.requires.0 s.requires.1 s.requires.2)

pub put_piece_spec : {M : Type 1} → statement M
put_piece_spec =
    tie.close
    (tie.spec (λ c. c.before.before.requires.0) (search rules) (search rules) (search rules)
    (λ c. c.before.before.before.requires.0) (λ c. simp length-set) returns)
