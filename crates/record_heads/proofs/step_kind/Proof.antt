-- A kind of a step that is not the one with outfalls is the other.
use mathlib.Core.Path.{sym}
use borrow.Author.Rules.{rules}
use borrow.Author.Tests.{eqb-true, ne_eqb}
use lib.Dec.{eqb}
use Rattle.lists.proofs.Tests.{either_true}
use Rattle.record_layouts.specs.Layouts.{outfall_kind}
use Rattle.record_heads.specs.Heads.{kind_in}
use Rattle.record_heads.proofs.step_kind.Statement.{statement}
use Rattle.record_heads.proofs.step_kind.Tie as tie

returns : tie.Need-returns-then-kind-of_width
returns c = let k = c.before in sym (rw (k.before.kind.ensures, k.of_width.ensures) at c.if-kind-of_width.true)

returns-2 : tie.Need-returns
returns-2 c =
    let k = c.before in
    let s = k.before.before.before in
    sym (eqb-true _ _ (either_true _ (eqb (kind_in s.args.bytes.now) (outfall_kind s.args.width)) s.requires.1
    (ne_eqb _ _ (rw (k.before.kind.ensures, k.of_width.ensures) at c.if-kind-of_width.false))))

pub step_kind_spec : {M : Type 1} → statement M
step_kind_spec = tie.close (tie.spec (search rules) (search rules) returns returns-2)
