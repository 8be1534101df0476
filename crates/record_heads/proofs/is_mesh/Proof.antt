-- The two tests are the definition's, in its order.
use borrow.Author.Rules.{rules}
use borrow.Author.Tests.{eq-eqb, ne_eqb}
use Rattle.record_heads.proofs.is_mesh.Statement.{statement}
use Rattle.record_heads.proofs.is_mesh.Tie as tie

returns : tie.Need-returns-then-kind-eq-MESH_KIND
returns c = rw (eq-eqb _ _ c.if-kind-eq-MESH_KIND.true)

returns-2 : tie.Need-returns
returns-2 c = rw (ne_eqb _ _ c.if-kind-eq-MESH_KIND.false)

pub is_mesh_spec : {M : Type 1} → statement M
is_mesh_spec = tie.close (tie.spec returns (search rules) returns-2)
