-- No sum leaves 64 bits: each width is at most the wide one's, and the counts are bounded.
use Prim.Native.Nat.{◌≤◌}
use mathlib.Core.Path.{◌≡◌, sym, ◌∙◌}
use native.Mathlib.Nat.{mul-le-mul}
use native.Mathlib.Omega.{arith}
use borrow.Author.Rules.{rules}
use Rattle.record_layouts.specs.declared.Width.TheVariants.{Wide}
use Rattle.record_layouts.specs.Layouts.{mesh_kind, value_of, value_bits}
use Rattle.record_layouts.proofs.Layouts.{value-of-most, mesh-value}
use Rattle.record_layouts.proofs.lengths.mesh_bits.Statement.{statement}
use Rattle.record_layouts.proofs.lengths.mesh_bits.Tie as tie

small : (c : tie.After-value_width-value) → c.value_width-value.result ≤ value_of Wide
small c = rw c.value_width-value.ensures (value-of-most c.before.args.width)

mul-result-2 : tie.Need-overflow_mul-result-2
mul-result-2 c = omega (arith, mul-le-mul c.before.requires.0 (small c))

add-result : tie.Need-overflow_add-result
add-result c = omega (arith, mul-le-mul c.before.requires.0 (small c))

add-result-2 : tie.Need-overflow_add-result-2
add-result-2 c = omega (arith, small c)

mul-result-3 : tie.Need-overflow_mul-result-3
mul-result-3 c = omega (arith, mul-le-mul c.before.requires.1 (small c), c.before.requires.1)

add-result-3 : tie.Need-overflow_add-result-3
add-result-3 c = omega (arith, mul-le-mul c.before.requires.0 (small c), mul-le-mul c.before.requires.1 (small c), c.before.requires.1)

returns : tie.Need-returns
returns c =
    let e : c.value_width-value.result ≡ value_bits (mesh_kind c.before.args.width) = c.value_width-value.ensures ∙ sym (mesh-value c.before.args.width) in
    rw e (omega arith)

pub mesh_bits_spec : {M : Type 1} → statement M
mesh_bits_spec = tie.close (tie.spec (search rules) (search rules) mul-result-2 add-result add-result-2 mul-result-3 add-result-3 returns)
