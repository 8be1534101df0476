-- The masses of the field that is meant begin after its name.
use Prim.Native.Nat.{ℕ, ◌+◌}
use mathlib.Core.Path.{ap, ◌∙◌}
use native.Mathlib.Omega.{arith}
use lib.ListN.{take, drop}
use Rattle.store_kept.specs.Store.{used}
use Rattle.store_kept.proofs.Judged.{kept-within, held_at}
use borrow.Author.Rules.{rules}
use Rattle.store_kept.proofs.masses_of.Statement.{statement}
use Rattle.store_kept.proofs.masses_of.Tie as tie

used-requires : tie.Need-used-requires
used-requires c κs =
    let s = c.before.before in
    let w = kept-within s.args.cells s.args.store.now s.args.name s.requires.1 s.requires.2 in
    (s.requires.0, rw c.before-i.ensures (omega (arith, w, s.requires.1)))

add-result : tie.Need-overflow_add-result
add-result c =
    let s = c.before.before.before in
    let w = kept-within s.args.cells s.args.store.now s.args.name s.requires.1 s.requires.2 in
    let u = c.used.ensures ∙ ap (used s.args.cells) c.before.before-i.ensures in
    omega (arith, u, w, s.requires.1)

returns : tie.Need-returns
returns c =
    let s = c.before.before.before in
    let cells = s.args.cells in
    let store = s.args.store.now in
    let w = kept-within cells store s.args.name s.requires.1 s.requires.2 in
    let u = c.used.ensures ∙ ap (used cells) c.before.before-i.ensures in
    (omega (arith, u, w, s.requires.1), ap (λ (j : ℕ). take cells (drop (j + 1) store)) u ∙ held_at cells store s.args.name s.requires.1 s.requires.2)

pub masses_of_spec : {M : Type 1} → statement M
masses_of_spec = tie.close (tie.spec (search rules) used-requires add-result returns)
