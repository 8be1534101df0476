-- No product leaves 64 bits: a mass is at most as wide as the wide one's, and the cells are bounded.
use Prim.Native.Nat.{◌+◌, ◌*◌, ◌≤◌}
use mathlib.Core.Path.{◌≡◌, sym, ◌∙◌}
use native.Mathlib.Nat.{mul-le-mul}
use native.Mathlib.Omega.{arith}
use borrow.Author.Rules.{rules}
use Rattle.record_layouts.specs.declared.Width.TheVariants.{Wide}
use Rattle.record_layouts.specs.Layouts.{field_kind, mass_width, mass_bits, field_bits, field_length}
use Rattle.record_layouts.proofs.Layouts.{mass-of-most, field-mass}
use Rattle.record_layouts.proofs.lengths.field_bytes.Statement.{statement}
use Rattle.record_layouts.proofs.lengths.field_bytes.Tie as tie

small : (c : tie.After-mass_width) → c.mass_width.result ≤ mass_width Wide
small c = rw c.mass_width.ensures (mass-of-most c.before.args.width)

mul-bytes-for-2 : tie.Need-overflow_mul-cells
mul-bytes-for-2 c = omega (arith, mul-le-mul c.before.requires (small c))

add-bytes-for : tie.Need-overflow_add-cells
add-bytes-for c = omega (arith, mul-le-mul c.before.requires (small c))

bytes-for-requires : tie.Need-bytes_for-requires
bytes-for-requires c κs = omega (arith, mul-le-mul c.before.requires (small c))

returns : tie.Need-returns
unfolding field_length
returns c =
    let m = c.before in
    let s = m.before in
    let w : m.mass_width.result ≡ mass_bits (field_kind s.args.width) = m.mass_width.ensures ∙ sym (field-mass s.args.width) in
    let e : 16 + s.args.cells * m.mass_width.result ≡ field_bits (field_kind s.args.width) s.args.cells = rw w (omega arith) in
    rw (← e) c.bytes_for.ensures

pub field_bytes_spec : {M : Type 1} → statement M
field_bytes_spec = tie.close (tie.spec (search rules) (search rules) mul-bytes-for-2 add-bytes-for bytes-for-requires returns)
