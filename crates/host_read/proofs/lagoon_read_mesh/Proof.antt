use borrow.Author.Rules.{rules}
use Rattle.host_answer.proofs.Answers.{fits-as}
use Rattle.host_read_promises.proofs.Readers.{mesh-from-c}
use Rattle.host_read_promises.proofs.ReadSmall.{mesh-read-small}
use Rattle.host_read.proofs.lagoon_read_mesh.Statement.{statement}
use Rattle.host_read.proofs.lagoon_read_mesh.Tie as tie

abbrev read : tie.After-slice_known-8-1 → tie.After-read_mesh-answer
read c = c.before.before.before.before

abbrev called : tie.After-slice_known-11-1 → tie.After-read_mesh-answer
called c = read c.before.before.before.before.before.before

mesh-answered-requires : tie.Need-mesh_answered-requires
mesh-answered-requires c κs = fits-as (called c.before).read_mesh-answer.ensures.answer (mesh-read-small _ _ _ _ _ _ _ _)

returns : tie.Need-returns
returns c =
    let h = (called c.before.before.before.before).read_mesh-answer.ensures in
    mesh-from-c h c.before.before.mesh_answered.ensures

pub lagoon_read_mesh_spec : {M : Type 1} → statement M
lagoon_read_mesh_spec =
    tie.close
    (tie.spec
    (search rules)
    mesh-answered-requires
    (search rules)
    (search rules)
    (search rules)
    (search rules)
    (search rules)
    (search rules)
    returns)
