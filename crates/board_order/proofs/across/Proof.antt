-- Two numbers of 32 bits: their product has 64.
use Prim.Native.Nat.{◌^◌, ◌≤◌, ◌<◌}
use native.Mathlib.Nat.{mul-le-mul}
use native.Mathlib.Omega.{arith}
use borrow.Author.Rules.{rules}
use Rattle.board_order.proofs.across.Statement.{statement}
use Rattle.board_order.proofs.across.Tie as tie

mul-result : tie.Need-overflow_mul-result
mul-result c =
    let r : c.args.rest < 2 ^ 32 = search rules in
    let v : c.args.volume < 2 ^ 32 = search rules in
    let r-most : c.args.rest ≤ 4294967295 = omega (arith, r) in
    let v-most : c.args.volume ≤ 4294967295 = omega (arith, v) in
    record { fits = omega (arith, mul-le-mul r-most v-most) }

returns : tie.Need-returns
returns c = search rules

pub across_spec : {M : Type 1} → statement M
across_spec = tie.close (tie.spec mul-result returns)
