-- What each call asks is a field of `FaceAsks`, once the upwind concentration is known; each part of `FaceDone` is what one call ensures.
use Prim.Native.Nat.{ℕ, ◌*◌, ◌≤◌}
use mathlib.Core.Path.{◌≡◌, refl, ap, ◌∙◌}
use mathlib.Core.Bool.{Bool, true, false, cond}
use native.Mathlib.Nat.{mul-le-mul}
use native.Mathlib.Omega.{arith}
use borrow.Author.Rules.{rules}
use lib.IntN.{ℤ, pos, ◌*ℤ◌}
use lib.ListN.{length-set}
use mir.Syntax.{w64}
use mir.ValLaws.{to_z-of_z}
use Rattle.signed.specs.Sign.{size, is_negative}
use Rattle.model.specs.Accepted.{max_carried}
use Rattle.model.specs.Mesh.{max_concentration}
use Rattle.step_face.specs.Correction.{correction_of}
use Rattle.step_cell.proofs.BoundLaws.{length-widened}
use Rattle.step_carrying_face.specs.OneFace.{carried_by}
use Rattle.step_carrying_face.proofs.FaceLaws.{wet-done}
use Rattle.step_carrying_face.proofs.carry_wet.Statement.{statement}
use Rattle.step_carrying_face.proofs.carry_wet.Tie as tie

-- from each call back to the one before
abbrev start-met : tie.After-widen → tie.Start
start-met c = c.before.before.before.before

abbrev first-met : tie.After-widen-2 → tie.After-widen
first-met c = c.before.before.before.before

abbrev met : tie.After-upwind → tie.After-widen-2
met c = c.before.before.before.before

abbrev noted : tie.After-pass → tie.After-times-carried
noted c = c.before.before

abbrev passed : tie.After-correction_code-code → tie.After-pass
passed c = c.before.before.before

abbrev start : tie.After-upwind → tie.Start
start c = start-met (first-met (met c))

-- from the end
abbrev met-last : tie.After-correction_code-code → tie.After-widen-2
met-last c = met (noted (passed c)).before

abbrev start-last : tie.After-correction_code-code → tie.Start
start-last c = start-met (first-met (met-last c))

either-most : (p : Bool) (a b m : ℕ) → a ≤ m → b ≤ m → cond p b a ≤ m
either-most true a b m h k = k
either-most false a b m h k = h

upwind-is : (c : tie.After-upwind) → let s = start c in c.upwind.result ≡ cond (is_negative s.args.flux) s.args.b s.args.a
upwind-is c =
    let s = start c in
    c.upwind.ensures
    ∙ ap (λ (p : Bool). cond p s.args.b s.args.a) (c.before.is_negative.ensures ∙ ap is_negative (to_z-of_z w64 s.args.flux s.ranges.flux))

upwind-small : (c : tie.After-upwind) → c.upwind.result ≤ max_concentration
upwind-small c =
    let s = start c in
    rw (upwind-is c)
    (either-most (is_negative s.args.flux) s.args.a s.args.b max_concentration s.requires.0.first_most s.requires.0.beyond_most)

amount-small : (c : tie.After-upwind) → size (start c).args.flux * c.upwind.result ≤ max_carried
amount-small c = mul-le-mul (start c).requires.0.size_most (upwind-small c)

times-requires : tie.Need-times-carried-requires
times-requires c κs =
    let s = start c in
    rw (to_z-of_z w64 s.args.flux s.ranges.flux) (omega (arith, upwind-small c), omega (arith, amount-small c))

carried-is : (c : tie.After-times-carried) → let s = start c.before in c.times-carried.result ≡ carried_by s.args.flux s.args.a s.args.b
carried-is c =
    let s = start c.before in
    c.times-carried.ensures ∙ ap (λ (x : ℤ). x *ℤ pos c.before.upwind.result) (to_z-of_z w64 s.args.flux s.ranges.flux)
    ∙ ap (λ (n : ℕ). s.args.flux *ℤ pos n) (upwind-is c.before)

pass-requires : tie.Need-pass-requires
pass-requires c κs =
    let w = c.before in
    let s = start w.before in
    let p = s.requires.0 in
    rw (to_z-of_z w64 w.times-carried.result (record { sfits = w.times-carried.type_inv }), carried-is w, p.next_long) ((p.ends, s.requires.1.0), (p.afford, p.room))

widen-requires-2 : tie.Need-widen-requires-2
widen-requires-2 c κs =
    let w = c.before.before.before in
    let s = start-met w in
    let p = s.requires.0 in
    let i = p.ends.second_in s.requires.1.0 in
    rw (w.widen.ensures, length-widened) (omega (arith, i, p.in_work), omega (arith, p.ends.few, i))

correction-code-requires : tie.Need-correction_code-code-requires
correction-code-requires c κs =
    let s = start (noted c.before.before).before in
    let p = s.requires.0 in
    let i = s.requires.1.0 in
    rw (to_z-of_z w64 s.args.flux s.ranges.flux) (p.within_reach i, p.first_most, p.beyond_most, p.share_most, p.reach_some i, p.reach_most)

mul-work : tie.Need-overflow_mul-work
mul-work c = omega (arith, (start-last c).requires.0.ends.few)

add-work : tie.Need-overflow_add-work
add-work c = let s = start-last c in omega (arith, s.requires.0.ends.few, s.requires.0.in_work, s.well_formed)

mul-work-2 : tie.Need-offset_bounds-work-cells
mul-work-2 c = let s = start-last c in omega (arith, s.requires.0.in_work, s.well_formed)

write-work : tie.Need-bounds-work-cells
write-work c =
    let m = met-last c in
    rw (m.widen-2.ensures, length-widened, (first-met m).widen.ensures, length-widened) (start-last c).requires.0.in_work

same-work : tie.Need-shape_of-work
same-work c = let m = met-last c in simp length-set (rw (m.widen-2.ensures, length-widened, (first-met m).widen.ensures, length-widened))

returns : tie.Need-returns
returns c =
    let m = met-last c in
    let t = passed c in
    let w = noted t in
    let s = start-last c in
    let z = s.args.flux in
    wet-done s.args.f s.args.first s.args.second s.args.share s.args.reach s.args.a s.args.b s.args.cells
    c.correction_code-code.result z _
    s.args.next.now _ s.args.moved.now _ s.args.work.now _ _ _ s.requires.1.0 s.requires.1.1
    (to_z-of_z w64 w.times-carried.result (record { sfits = w.times-carried.type_inv }) ∙ carried-is w) t.pass.ensures refl
    (first-met m).widen.ensures m.widen-2.ensures
    (c.correction_code-code.ensures ∙ ap (λ (y : ℤ). correction_of y s.args.a s.args.b s.args.share s.args.reach) (to_z-of_z w64 z s.ranges.flux))
    refl

pub carry_wet_spec : {M : Type 1} → statement M
carry_wet_spec =
    tie.close
    (tie.spec (search rules) widen-requires-2 (search rules) (search rules) times-requires (search rules) (search rules) pass-requires correction-code-requires
    mul-work add-work mul-work-2 write-work (search rules)
    (search rules) same-work returns)
