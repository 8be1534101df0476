-- A kind of a mesh that is not the narrow one is the wide one.
use mathlib.Core.Path.{sym}
use borrow.Author.Rules.{rules}
use borrow.Author.Tests.{eqb-true, ne_eqb}
use lib.Dec.{eqb}
use Rattle.record_heads.proofs.HeadLaws.{other-true}
use Rattle.record_layouts.specs.declared.Width.TheVariants.{Narrow}
use Rattle.record_layouts.specs.Layouts.{mesh_kind}
use Rattle.record_heads.specs.Heads.{kind_in}
use Rattle.record_heads.proofs.mesh_width.Statement.{statement}
use Rattle.record_heads.proofs.mesh_width.Tie as tie

returns : tie.Need-returns-then-kind-eq-MESH_KIND
returns c = let e = rw c.before.kind.ensures at c.if-kind-eq-MESH_KIND.true in (sym e, rw e)

returns-2 : tie.Need-returns
returns-2 c =
    let k = c.before in
    let s = k.before.before in
    let e = eqb-true _ _ (other-true (eqb (kind_in s.args.bytes.now) (mesh_kind Narrow)) _ s.requires.1
    (ne_eqb _ _ (rw k.kind.ensures at c.if-kind-eq-MESH_KIND.false))) in
    (sym e, rw e)

pub mesh_width_spec : {M : Type 1} → statement M
mesh_width_spec = tie.close (tie.spec (search rules) returns returns-2)
