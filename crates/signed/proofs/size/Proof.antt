-- Below 0 the complement is the size less 1, which fits even for the most negative number.
use mathlib.Core.Path.{◌≡◌, sym, ◌∙◌}
use mathlib.Core.Bool.{true}
use borrow.Author.Rules.{rules}
use native.Mathlib.Omega.{arith}
use mir.Syntax.{w64}
use mir.ValLaws.{to_z-of_z}
use Rattle.signed.specs.Sign.{is_negative}
use Rattle.signed.proofs.Machine.{test, flipped, size_small, size-pos, at_least}
use Rattle.signed.proofs.size.Statement.{statement}
use Rattle.signed.proofs.size.Tie as tie

-- what the first arm knows
under : (c : tie.Then-u-lt0) → is_negative c.before.args.u ≡ true
under c = sym (test _ c.before.ranges.u) ∙ c.if-u-lt0.true

cast-result : tie.Need-overflow_cast-result
cast-result c =
    let s = c.before in
    rw (flipped s.args.u s.ranges.u (under c)) (tt, record { fits = omega (arith, size_small s.args.u s.ranges.u) })

add-result : tie.Need-overflow_add-result
add-result c =
    let s = c.before in
    rw (flipped s.args.u s.ranges.u (under c)) (record { fits = omega (arith, size_small s.args.u s.ranges.u) })

cast-result-2 : tie.Need-overflow_cast-result-else-u-lt0
cast-result-2 c =
    let s = c.before in
    rw (to_z-of_z w64 s.args.u s.ranges.u)
    (at_least s.args.u (sym (test _ s.ranges.u) ∙ c.if-u-lt0.false), record { fits = omega (arith, size_small s.args.u s.ranges.u) })

returns : tie.Need-returns-then-u-lt0
returns c =
    let s = c.before in
    rw (flipped s.args.u s.ranges.u (under c)) (omega (arith, size-pos s.args.u (under c)))

returns-2 : tie.Need-returns-else-u-lt0
returns-2 c = search rules

pub size_spec : {M : Type 1} → statement M
size_spec = tie.close (tie.spec cast-result add-result cast-result-2 returns returns-2)
