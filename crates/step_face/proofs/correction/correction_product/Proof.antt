-- Each factor is small by its ceiling, so that no product leaves 64 bits; together they are those of the definition, both turned or neither.
use Prim.Native.Nat.{◌-◌, ◌*◌, ◌≤◌}
use mathlib.Core.Path.{◌≡◌}
use mathlib.Core.Bool.{true, cond}
use native.Mathlib.Nat.{mul-le-mul, mul-le-mul_right, le_trans}
use native.Mathlib.Omega.{arith}
use borrow.Author.Rules.{rules}
use lib.IntN.{pos, neg_ℤ, ◌-ℤ◌, ◌*ℤ◌}
use mir.Syntax.{w64}
use mir.ValLaws.{to_z-of_z}
use Rattle.signed.specs.Sign.{size, is_negative, with_sign}
use Rattle.signed.proofs.Laws.{size-with_sign, size-mul, size-diff, size-add}
use Rattle.signed.proofs.Turns.{size-turn}
use Rattle.model.specs.Mesh.{max_reach, max_concentration}
use Rattle.step_face.specs.Correction.{product_of}
use Rattle.step_face.proofs.Corrections.{share-le, product_is, product-most}
use Rattle.step_face.proofs.correction.correction_product.Statement.{statement}
use Rattle.step_face.proofs.correction.correction_product.Tie as tie

-- what each call finds, and how large that is at most
share-found : (c : tie.After-upwind_share) → let s = c.before in
    c.upwind_share.result ≡ with_sign (is_negative s.args.flux) (cond (is_negative s.args.flux) (256 - s.args.share) s.args.share)
share-found c = let s = c.before in rw (to_z-of_z w64 s.args.flux s.ranges.flux) at c.upwind_share.ensures

share-small : (c : tie.After-upwind_share) → size c.upwind_share.result ≤ 256
share-small c = let s = c.before in rw (share-found c, size-with_sign) (share-le (is_negative s.args.flux) s.args.share s.requires.3)

way-found : (c : tie.After-times-way) → c.times-way.result ≡ c.before.upwind_share.result *ℤ pos c.before.before.args.reach
way-found c = let u = c.before in rw (to_z-of_z w64 u.upwind_share.result (record { sfits = u.upwind_share.type_inv })) at c.times-way.ensures

way-small : (c : tie.After-times-way) → size c.times-way.result ≤ 256 * c.before.before.args.reach
way-small c = let s = c.before.before in rw (way-found c, size-mul) (mul-le-mul_right s.args.reach (share-small c.before))

half-found : (c : tie.After-times-half) → c.times-half.result ≡ c.before.before.before.args.flux *ℤ pos 128
half-found c = let s = c.before.before.before in rw (to_z-of_z w64 s.args.flux s.ranges.flux) at c.times-half.ensures

half-small : (c : tie.After-times-half) → size c.times-half.result ≤ 128 * c.before.before.before.args.reach
half-small c = let s = c.before.before.before in rw (half-found c, size-mul) (omega (arith, s.requires.0))

rest-found : (c : tie.After-subtract-rest) → c.subtract-rest.result ≡ c.before.before.times-way.result -ℤ c.before.times-half.result
rest-found c =
    let h = c.before in
    let w = h.before in
    rw (to_z-of_z w64 w.times-way.result (record { sfits = w.times-way.type_inv }), to_z-of_z w64 h.times-half.result (record { sfits = h.times-half.type_inv })) at
    c.subtract-rest.ensures

rest-small : (c : tie.After-subtract-rest) → size c.subtract-rest.result ≤ 384 * max_reach
rest-small c =
    let h = c.before in
    let w = h.before in
    let s = w.before.before in
    rw (rest-found c)
    (omega (arith, size-add w.times-way.result (neg_ℤ h.times-half.result), size-turn true h.times-half.result, way-small w, half-small h, s.requires.4))

moved-found : (c : tie.After-multiply-moved) → let s = c.before.before.before.before.before.before in
    c.multiply-moved.result ≡ s.args.flux *ℤ (pos s.args.b -ℤ pos s.args.a)
moved-found c =
    let d = c.before in
    let s = d.before.before.before.before.before in
    rw (
      to_z-of_z w64 s.args.flux s.ranges.flux,
      to_z-of_z w64 d.difference.result (record { sfits = d.difference.type_inv }),
      d.difference.ensures,
    ) at c.multiply-moved.ensures

moved-small : (c : tie.After-difference) → let s = c.before.before.before.before.before in
    size s.args.flux * size c.difference.result ≤ max_reach * max_concentration
moved-small c =
    let s = c.before.before.before.before.before in
    rw c.difference.ensures
    (mul-le-mul (le_trans s.requires.0 s.requires.4) (size-diff s.args.b s.args.a max_concentration s.requires.2 s.requires.1))

times-requires : tie.Need-times-way-requires
times-requires c κs =
    let s = c.before in
    rw (to_z-of_z w64 c.upwind_share.result (record { sfits = c.upwind_share.type_inv }))
    (omega (arith, s.requires.4), omega (arith, s.requires.4, mul-le-mul_right s.args.reach (share-small c)))

times-requires-2 : tie.Need-times-half-requires
times-requires-2 c κs =
    let s = c.before.before in
    rw (to_z-of_z w64 s.args.flux s.ranges.flux) (omega arith, omega (arith, s.requires.0, s.requires.4))

subtract-requires : tie.Need-subtract-rest-requires
subtract-requires c κs =
    let w = c.before in
    rw (to_z-of_z w64 w.times-way.result (record { sfits = w.times-way.type_inv }), to_z-of_z w64 c.times-half.result (record { sfits = c.times-half.type_inv }))
    (omega (arith, way-small w, half-small c, w.before.before.requires.4))

multiply-requires : tie.Need-multiply-moved-requires
multiply-requires c κs =
    let s = c.before.before.before.before.before in
    rw (to_z-of_z w64 s.args.flux s.ranges.flux, to_z-of_z w64 c.difference.result (record { sfits = c.difference.type_inv }))
    (omega (arith, moved-small c))

factors-small : (c : tie.After-multiply-moved)
    → size c.multiply-moved.result * size c.before.before.subtract-rest.result ≤ max_reach * max_concentration * (384 * max_reach)
factors-small c =
    let d = c.before in
    let m : size c.multiply-moved.result ≤ max_reach * max_concentration =
    rw (moved-found c, size-mul, ← d.difference.ensures) (moved-small d) in
    mul-le-mul m (rest-small d.before)

multiply-requires-2 : tie.Need-multiply-requires
multiply-requires-2 c κs =
    let r = c.before.before in
    rw (to_z-of_z w64 c.multiply-moved.result (record { sfits = c.multiply-moved.type_inv }), to_z-of_z w64 r.subtract-rest.result (record { sfits = r.subtract-rest.type_inv }))
    (omega (arith, factors-small c))

product_found : (c : tie.After-multiply) → let s = c.before.before.before.before.before.before.before in
    c.multiply.result ≡ product_of s.args.flux s.args.a s.args.b s.args.share s.args.reach
product_found c =
    let m = c.before in
    let r = m.before.before in
    let h = r.before in
    let w = h.before in
    let s = w.before.before in
    let e : c.multiply.result ≡ m.multiply-moved.result *ℤ r.subtract-rest.result =
    rw (to_z-of_z w64 m.multiply-moved.result (record { sfits = m.multiply-moved.type_inv }), to_z-of_z w64 r.subtract-rest.result (record { sfits = r.subtract-rest.type_inv })) at
    c.multiply.ensures in
    rw (e, moved-found m, rest-found r, way-found w, half-found h, share-found w.before)
    (product_is s.args.flux s.args.a s.args.b s.args.share s.args.reach)

returns : tie.Need-returns
returns c =
    let s = c.before.before.before.before.before.before.before in
    let p = s.requires in
    rw (to_z-of_z w64 c.multiply.result (record { sfits = c.multiply.type_inv })) (
      product_found c,
      rw (product_found c)
          (product-most s.args.flux s.args.a s.args.b s.args.share s.args.reach p.0 p.1 p.2 p.3 p.4),
    )

pub correction_product_spec : {M : Type 1} → statement M
correction_product_spec =
    tie.close
    (tie.spec (search rules) times-requires times-requires-2 subtract-requires (search rules) multiply-requires multiply-requires-2 returns)
