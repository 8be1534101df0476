use Prim.Native.Nat.{ℕ, ◌+◌, ◌-◌, ◌^◌, ◌<◌}
use borrow.Author.Rules.{rules}
use native.Mathlib.Omega.{arith}
use mir.Syntax.{w64}
use mir.ValLaws.{to_z-of_z, to_z_pos}
use Rattle.signed.specs.Sign.{forward, backward}
use Rattle.signed.proofs.Machine.{less-is, number_fits}
use Rattle.signed.proofs.less.Statement.{statement}
use Rattle.signed.proofs.less.Tie as tie

number : (c : tie.Start) → c.args.n < 2 ^ 63
number c = omega (arith, c.requires.1)

abbrev left : tie.Start → ℕ
left c = c.args.n + backward c.args.amount - forward c.args.amount

left-small : (c : tie.Start) → left c < 2 ^ 63
left-small c = omega (arith, c.requires.1)

sub-y : tie.Need-overflow_sub-y
sub-y c =
    rw (to_z_pos w64 c.args.n (number c), to_z-of_z w64 c.args.amount c.ranges.amount, less-is c.args.n c.args.amount c.requires.0)
    (number_fits (left c) (left-small c))

cast-result : tie.Need-overflow_cast-result
cast-result c =
    rw (
      to_z_pos w64 c.args.n (number c),
      to_z-of_z w64 c.args.amount c.ranges.amount,
      less-is c.args.n c.args.amount c.requires.0,
      to_z_pos w64 (left c) (left-small c),
    )
    (tt, record { fits = omega (arith, left-small c) })

returns : tie.Need-returns
returns c =
    rw (
      to_z_pos w64 c.args.n (number c),
      to_z-of_z w64 c.args.amount c.ranges.amount,
      less-is c.args.n c.args.amount c.requires.0,
      to_z_pos w64 (left c) (left-small c),
    )
    (omega (arith, c.requires.0))

pub less_spec : {M : Type 1} → statement M
less_spec = tie.close (tie.spec (search rules) sub-y cast-result returns)
