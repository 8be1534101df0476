-- The product's sign is the correction's, and its size over 256·K the size.
use mathlib.Core.Path.{◌≡◌}
use native.Mathlib.Nat.{div-le_of_le-mul}
use borrow.Author.Rules.{rules}
use mir.Syntax.{w64}
use mir.ValLaws.{to_z-of_z}
use Rattle.step_face.specs.Correction.{product_of}
use Rattle.step_face.proofs.Corrections.{correction-is}
use Rattle.step_face.proofs.correction.correction_code.Statement.{statement}
use Rattle.step_face.proofs.correction.correction_code.Tie as tie

product_is : (c : tie.After-correction_product-product) → let s = c.before in
    c.correction_product-product.result ≡ product_of s.args.flux s.args.a s.args.b s.args.share s.args.reach
product_is c = let s = c.before in rw (to_z-of_z w64 s.args.flux s.ranges.flux) at c.correction_product-product.ensures.0

correction-product-requires : tie.Need-correction_product-product-requires
correction-product-requires c κs = rw (to_z-of_z w64 c.args.flux c.ranges.flux) (c.requires.0, c.requires.1, c.requires.2, c.requires.3, c.requires.5)

code-requires : tie.Need-code-requires
code-requires c κs =
    let p = c.before.before in
    rw (c.before.correction_size-amount.ensures, to_z-of_z w64 p.correction_product-product.result (record { sfits = p.correction_product-product.type_inv }))
    (div-le_of_le-mul _ p.correction_product-product.ensures.1)

returns : tie.Need-returns
returns c =
    let p = c.before.before.before in
    let s = p.before in
    rw (
      c.code.ensures,
      c.before.is_negative.ensures,
      c.before.before.correction_size-amount.ensures,
      to_z-of_z w64 p.correction_product-product.result (record { sfits = p.correction_product-product.type_inv }),
      product_is p,
      correction-is s.args.flux s.args.a s.args.b s.args.share s.args.reach,
    )

pub correction_code_spec : {M : Type 1} → statement M
correction_code_spec = tie.close (tie.spec correction-product-requires (search rules) (search rules) code-requires returns)
