use Rattle.std.proofs.Common.{ap, ◌∙◌}
use Rattle.record_bits.specs.Layout.{bytes_for}
use Rattle.record_heads.specs.Heads.{bytes_of, mesh_needs}
use Rattle.run_intake.proofs.Front.{asked-head, asked-rest}
use Rattle.run_intake.proofs.mesh.Goals as goal

pub returns-then-head : goal.returns-then-head
unfolding bytes_for
returns-then-head c = let e = c.bytes-head.ensures in (e.0, asked-head _ _ _ _ e.2)

pub returns : goal.returns
unfolding bytes_for mesh_needs
returns c =
    let e = c.rest.ensures in (
      e.0,
      asked-rest _ _ _ _ _ _ _ c.bytes-head.ensures.2 e.1 (c.bytes_alone-answer.ensures ∙ ap bytes_of c.mesh_length.ensures) e.3 e.2,
    )
