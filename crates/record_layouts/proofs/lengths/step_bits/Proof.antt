-- No sum leaves 64 bits: each width is at most the wide one's, and the counts are bounded.
use Prim.Native.Nat.{◌≤◌}
use mathlib.Core.Path.{◌≡◌, sym, ◌∙◌}
use native.Mathlib.Nat.{mul-le-mul}
use native.Mathlib.Omega.{arith}
use borrow.Author.Rules.{rules}
use Rattle.record_layouts.specs.declared.Width.TheVariants.{Wide}
use Rattle.record_layouts.specs.Layouts.{kind_number, value_of, value_bits}
use Rattle.record_layouts.proofs.Layouts.{rim-le, value-of-most, step-value, releases-most, step_is}
use Rattle.record_layouts.proofs.lengths.step_bits.Statement.{statement}
use Rattle.record_layouts.proofs.lengths.step_bits.Tie as tie

small : (c : tie.After-value_width-flux) → c.value_width-flux.result ≤ value_of Wide
small c = rw c.value_width-flux.ensures (value-of-most c.before.before.before.args.width)

add-flux : tie.Need-overflow_add-flux
add-flux c = omega (arith, small c)

mul-after-outsides-2 : tie.Need-overflow_mul-faces
mul-after-outsides-2 c = let s = c.before.before.before in omega (arith, mul-le-mul s.requires.1 (small c), s.requires.1)

add-after-outsides : tie.Need-overflow_add-faces
add-after-outsides c = let s = c.before.before.before in omega (arith, mul-le-mul s.requires.1 (small c), s.requires.1)

after-outsides-requires : tie.Need-after_outsides-release-requires
after-outsides-requires c κs =
    let k = c.before in
    let s = k.before.before in
    omega (arith, k.count_marked-outsides.ensures, rim-le s.args.seconds.now s.args.faces, mul-le-mul s.requires.1 (small c), s.requires.1)

mul-result : tie.Need-overflow_mul-result
mul-result c =
    let s = c.before.before.before.before.before in
    rw c.release_width.ensures (omega (arith, releases-most (kind_number s.args.width s.args.kind) s.requires.0))

add-result : tie.Need-overflow_add-result
add-result c =
    let v = c.before.before in
    let k = v.before in
    let s = k.before.before in
    rw c.release_width.ensures
    (omega (
      arith,
      c.before.after_outsides-release.ensures,
      k.count_marked-outsides.ensures,
      releases-most (kind_number s.args.width s.args.kind) s.requires.0,
      rim-le s.args.seconds.now s.args.faces,
      mul-le-mul s.requires.1 (small v),
      s.requires.1,
    ))

returns : tie.Need-returns
returns c =
    let v = c.before.before in
    let k = v.before in
    let s = k.before.before in
    let e : v.value_width-flux.result ≡ value_bits (kind_number s.args.width s.args.kind) = v.value_width-flux.ensures
    ∙ sym (step-value s.args.width s.args.kind) in
    rw (c.release_width.ensures, c.before.after_outsides-release.ensures, k.count_marked-outsides.ensures, e)
    (sym (step_is (kind_number s.args.width s.args.kind) s.args.cells s.args.faces s.args.seconds.now))

pub step_bits_spec : {M : Type 1} → statement M
step_bits_spec =
    tie.close
    (tie.spec (search rules) (search rules) add-flux (search rules) mul-after-outsides-2 add-after-outsides after-outsides-requires (search rules) mul-result
    add-result returns)
