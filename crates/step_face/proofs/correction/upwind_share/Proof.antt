-- The difference is s, or s less the whole way.
use Prim.Native.Nat.{◌^◌, ◌<◌}
use mathlib.Core.Path.{◌≡◌}
use mathlib.Core.Bool.{Bool, true, false, cond}
use native.Mathlib.Omega.{arith}
use borrow.Author.Rules.{rules}
use mir.Syntax.{w64}
use mir.ValLaws.{to_z-of_z}
use Rattle.signed.specs.Sign.{is_negative}
use Rattle.step_face.proofs.Corrections.{share-is}
use Rattle.step_face.proofs.correction.upwind_share.Statement.{statement}
use Rattle.step_face.proofs.correction.upwind_share.Tie as tie

end-small : (p : Bool) → cond p 256 0 < 2 ^ 63
end-small true = omega arith
end-small false = omega arith

end_is : (c : tie.After-end_of_way-end) → let s = c.before.before in c.end_of_way-end.result ≡ cond (is_negative s.args.flux) 256 0
end_is c =
    let s = c.before.before in
    rw (c.end_of_way-end.ensures, c.before.is_negative.ensures, to_z-of_z w64 s.args.flux s.ranges.flux)

difference-requires : tie.Need-difference-requires
difference-requires c κs = let s = c.before.before in (omega (arith, s.requires), rw (end_is c) (end-small (is_negative s.args.flux)))

returns : tie.Need-returns
returns c =
    let s = c.before.before.before in
    rw (to_z-of_z w64 c.difference.result (record { sfits = c.difference.type_inv }), c.difference.ensures, end_is c.before)
    (share-is (is_negative s.args.flux) s.args.share s.requires)

pub upwind_share_spec : {M : Type 1} → statement M
upwind_share_spec = tie.close (tie.spec (search rules) (search rules) difference-requires returns)
