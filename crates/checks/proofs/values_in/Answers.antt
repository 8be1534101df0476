-- Where the quick tests pass, nothing refuses; else each cause is sought in its order.
use Rattle.std.proofs.Common.{sym}
use Rattle.model.specs.Mesh.{mesh_of}
use Rattle.checks.proofs.Laws.{all_pass, faces-shaped}
use Rattle.checks.proofs.values_in.Goals as goal

pub pass-requires-clause-faces_shaped : goal.pass-requires-clause-faces_shaped
pass-requires-clause-faces_shaped c = λ e. faces-shaped (mesh_of c.args.cells c.args.faces c.args.volumes.now c.args.firsts.now c.args.seconds.now c.args.shares.now c.args.reaches.now) (c.requires.reaches_value e)

pub returns-then-pass : goal.returns-then-pass
returns-then-pass c = sym (all_pass _ _ _ (c.cells_fit.ensures c.if-not-cells_fit.false) (c.pass.ensures c.if-pass.true))
