-- Head and filling: a bit found in one is the first of all, since those before it are as they should be.
use mathlib.Core.Path.{◌∙◌}
use mathlib.Core.Logic.{inr}
use native.Mathlib.Omega.{arith}
use borrow.Author.Rules.{rules}
use Rattle.record_zeros.proofs.ZeroLaws.{zeros-ruled, bit-used, head-hit, tail-hit, no_hit}
use Rattle.record_zeros.proofs.mesh.Statement.{statement}
use Rattle.record_zeros.proofs.mesh.Tie as tie

returns : tie.Need-returns-then-a-head
returns c =
    let s = c.before.before.before.before in
    c.refused.ensures ∙ head-hit (zeros-ruled _ _ _ _ s.requires.1) _ (omega arith) c.before.before.first_set-a.ensures c.before.if-a-head.true

returns-2 : tie.Need-returns-then-b-all
returns-2 c =
    let t = c.before.before in
    let s = t.before.before.before.before in
    c.refused-then-b-all.ensures
    ∙ tail-hit (zeros-ruled _ _ _ _ s.requires.1) _ t.before.before.first_set-a.ensures t.before.if-a-head.false
    (λ j h l. bit-used _ _ _ _ j (inr h) l) t.first_set-b.ensures c.before.if-b-all.true

returns-3 : tie.Need-returns
returns-3 c =
    let t = c.before in
    let s = t.before.before.before.before in
    no_hit (zeros-ruled _ _ _ _ s.requires.1) _ t.before.before.first_set-a.ensures t.before.if-a-head.false (λ j h l. bit-used _ _ _ _ j (inr h) l)
    t.first_set-b.ensures c.if-b-all.false

pub mesh_spec : {M : Type 1} → statement M
mesh_spec =
    tie.close
    (tie.spec (search rules) (search rules) (search rules) (search rules) returns (search rules) (search rules) (search rules) returns-2 returns-3)
