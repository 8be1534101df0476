-- The faces passed have no minus of size 0.
use Prim.Native.Nat.{◌≤◌, ◌<◌, ◌-◌, ◌+◌, ◌*◌, ◌^◌}
use lib.ListN.{length}
use mathlib.Core.Path.{sym, ◌∙◌}
use native.Mathlib.Omega.{arith}
use borrow.Author.Rules.{rules}
use Rattle.record_layouts.specs.Layouts.{step_head_bits, sign_bits}
use Rattle.record_zeros.specs.Scans.{NoMinus}
use Rattle.record_zeros.proofs.Minus.{three-plain, three-room}
use Rattle.record_zeros.proofs.plain_threes.Statement.{statement}
use Rattle.record_zeros.proofs.plain_threes.Tie as tie

abbrev invariant-loop : tie.invariant-loop-f
invariant-loop bytes faces value flux f₀ f = (f ≤ faces) × NoMinus bytes value faces f

abbrev decreases-loop : tie.decreases-loop-f
decreases-loop bytes faces value flux f₀ f = faces - f

room : (c : tie.In-loop-f invariant-loop decreases-loop) → let s = c.before.before.before in
    (step_head_bits + c.before.loop-f.f * (sign_bits + s.args.value) + 3 * (sign_bits + s.args.value) ≤ 8 * length s.args.bytes.now)
    × (8 * length s.args.bytes.now < 2 ^ 64)
room c = let s = c.before.before.before in (
  three-room (sign_bits + s.args.value) c.before.loop-f.f s.args.faces (8 * length s.args.bytes.now) c.loop-f-test.true s.requires.0,
  s.requires.1,
)

-- every face has a bit
few : (s : tie.Start invariant-loop decreases-loop) → s.args.faces + 32 < 2 ^ 64
few s = omega (arith, s.requires.0, s.requires.1)

add-loop : tie.Need-overflow_add-f invariant-loop decreases-loop
add-loop c = record { fits = omega (arith, c.loop-f.invariant.0, few c.before.before) }

add-f : tie.Need-overflow_add-f-in-loop-f-2 invariant-loop decreases-loop
add-f c =
    let t = c.before.before.before in
    record { fits = omega (arith, t.loop-f-test.true, few t.before.before.before) }

loop-again : tie.Need-loop-f-preserved invariant-loop decreases-loop
loop-again c =
    let t = c.before.before.before in
    let s = t.before.before.before in
    let l = t.before.loop-f in (
      omega (arith, t.loop-f-test.true),
      three-plain s.args.bytes.now s.args.value s.args.faces l.f t.loop-f-test.true c.before.before.read_bits-codes.ensures
          (sym c.before.minus_in_three.ensures ∙ c.if-minus_in_three.false) l.invariant.1,
    )

pub plain_threes_spec : {M : Type 1} → statement M
plain_threes_spec =
    tie.close
    (tie.spec invariant-loop decreases-loop (search rules) (λ c. (search rules, λ k l. absurd (omega arith))) add-loop
    (search rules) (λ c. omega (arith, room c)) (λ c. omega (arith, room c)) (λ c. omega (arith, c.before.before.before.requires.2))
    (λ c κs. omega (arith, room c, c.before.before.before.requires.2)) (search rules)
    (λ c. let v = c.before.before.before.before.loop-f.invariant in (v.0, v.1))
    add-f (λ c. omega (arith, c.before.before.before.loop-f-test.true)) loop-again (λ c. (c.before.loop-f.invariant.0, c.before.loop-f.invariant.1)))
