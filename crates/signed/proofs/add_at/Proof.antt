-- The entry and the amount have sizes whose sum fits, so the sum of the words is that of the numbers.
use borrow.Author.Rules.{rules}
use lib.IntN.{pos}
use lib.ListN.{get_or}
use mir.Syntax.{w64}
use mir.ValLaws.{to_z-of_z}
use Rattle.signed.proofs.Laws.{size-with_sign}
use Rattle.signed.proofs.add_at.Statement.{statement}
use Rattle.signed.proofs.add_at.Tie as tie

add-requires : tie.Need-add-w-requires
add-requires c κs =
    let s = c.before.before in
    rw (
      to_z-of_z w64 (get_or s.args.xs.now s.args.i (pos 0)) (record { sfits = c.u-1.given }),
      to_z-of_z w64 c.before.with_sign-v.result (record { sfits = c.before.with_sign-v.type_inv }),
      c.before.with_sign-v.ensures,
      size-with_sign s.args.negative s.args.size,
    ) s.requires.1

returns : tie.Need-returns
returns c =
    let s = c.before.before.before in
    rw (
      to_z-of_z w64 c.add-w.result (record { sfits = c.add-w.type_inv }),
      c.add-w.ensures,
      to_z-of_z w64 (get_or s.args.xs.now s.args.i (pos 0)) (record { sfits = c.before.u-1.given }),
      to_z-of_z w64 c.before.before.with_sign-v.result (record { sfits = c.before.before.with_sign-v.type_inv }),
      c.before.before.with_sign-v.ensures,
    )

pub add_at_spec : {M : Type 1} → statement M
add_at_spec = tie.close (tie.spec (search rules) (search rules) (search rules) add-requires (search rules) (search rules) (search rules) returns)
