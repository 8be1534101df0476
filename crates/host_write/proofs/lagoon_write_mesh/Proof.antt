use borrow.Author.Rules.{rules}
use Rattle.host_answer.proofs.Answers.{fits-as}
use Rattle.host_answer.proofs.Small.{small-giving}
use Rattle.host_read_promises.proofs.WriteSmall.{mesh-write-small}
use Rattle.host_read_promises.proofs.Writers.{mesh-named}
use Rattle.host_write.proofs.lagoon_write_mesh.Statement.{statement}
use Rattle.host_write.proofs.lagoon_write_mesh.Tie as tie

answered-requires : tie.Need-answered-requires
answered-requires c κs = fits-as c.before.before.before.write_mesh-answer.ensures.answer (small-giving _ (mesh-write-small _ _ _))

returns : tie.Need-returns
returns c =
    let d = c.before.before.before.before.before.before in
    mesh-named d.before.before.width_named.ensures _ d.write_mesh-answer.ensures c.before.before.answered.ensures

pub lagoon_write_mesh_spec : {M : Type 1} → statement M
lagoon_write_mesh_spec = tie.close (tie.spec (search rules) (search rules) answered-requires (search rules) (search rules) returns)
