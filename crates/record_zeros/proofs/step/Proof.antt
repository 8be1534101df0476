-- Head, fluxes, filling: a bit found in one is the first of all, since those before it are as they should be.
use Prim.Native.Nat.{◌+◌, ◌*◌, ◌≤◌}
use mathlib.Core.Path.{◌∙◌}
use Rattle.record_layouts.specs.Layouts.{step_head_bits, sign_bits}
use native.Mathlib.Omega.{arith}
use borrow.Author.Rules.{rules}
use Rattle.record_zeros.proofs.ZeroLaws.{face-room, step-ruled, fluxes-good, all-good, sign-bad, head-hit, middle-hit, tail-hit, no_hit}
use Rattle.record_zeros.proofs.step.Statement.{statement}
use Rattle.record_zeros.proofs.step.Tie as tie

-- the minus found stands within the record
room : (c : tie.Then-m-faces) → let s = c.before.before.before.before.before in
    step_head_bits + c.before.first_minus-m.result * (sign_bits + s.args.value) + (sign_bits + s.args.value) ≤ s.args.end
room c =
    let s = c.before.before.before.before.before in
    face-room (sign_bits + s.args.value) c.before.first_minus-m.result s.args.faces s.args.end c.if-m-faces.true s.requires.1

returns : tie.Need-returns-then-a-head
returns c =
    let s = c.before.before.before.before in
    c.refused.ensures ∙ head-hit (step-ruled _ _ _ _ s.requires.1) _ (omega arith) c.before.before.first_set-a.ensures c.before.if-a-head.true

returns-2 : tie.Need-returns-then-m-faces
returns-2 c =
    let m = c.before.before in
    let s = m.before.before.before.before in
    c.refused-then-m-faces.ensures
    ∙ middle-hit (step-ruled _ _ _ _ s.requires.1) _ m.before.before.first_set-a.ensures m.before.if-a-head.false (omega (arith, room c.before))
    (fluxes-good _ _ _ _ s.requires.1 m.first_minus-m.ensures) (sign-bad _ _ _ _ s.requires.1 m.first_minus-m.ensures c.before.if-m-faces.true)

returns-3 : tie.Need-returns-then-pad-all
returns-3 c =
    let t = c.before.before in
    let m = t.before.before in
    let s = m.before.before.before.before in
    c.refused-then-pad-all.ensures
    ∙ tail-hit (step-ruled _ _ _ _ s.requires.1) _ m.before.before.first_set-a.ensures m.before.if-a-head.false
    (all-good _ _ _ _ s.requires.1 m.first_minus-m.ensures t.before.if-m-faces.false)
    t.first_set-pad.ensures c.before.if-pad-all.true

returns-4 : tie.Need-returns
returns-4 c =
    let t = c.before in
    let m = t.before.before in
    let s = m.before.before.before.before in
    no_hit (step-ruled _ _ _ _ s.requires.1) _ m.before.before.first_set-a.ensures m.before.if-a-head.false
    (all-good _ _ _ _ s.requires.1 m.first_minus-m.ensures t.before.if-m-faces.false)
    t.first_set-pad.ensures c.if-pad-all.false

pub step_spec : {M : Type 1} → statement M
step_spec =
    tie.close
    (tie.spec (search rules) (search rules) (search rules) (search rules) returns (search rules)
    (λ c. omega (arith, c.before.before.before.before.before.requires.3)) (λ c. omega (arith, room c)) (λ c. omega (arith, room c)) (search rules)
    returns-2 (search rules) (search rules) (search rules)
    returns-3 returns-4)
