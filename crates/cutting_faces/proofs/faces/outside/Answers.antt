-- The value, or what enters at a cut face.
use Rattle.std.proofs.Common.{not, cond, pos, get_or}
use Rattle.cutting_pieces.specs.Pieces.{has_label, cutting}
use Rattle.cutting_pieces.proofs.Turns.{enters_is}
use Rattle.cutting_faces.proofs.faces.outside.Goals as goal

pub returns : goal.returns
returns c =
    let a = c.args in
    let turns = not (has_label a.labels.now a.part a.first) in
    enters_is turns (get_or a.amounts.now a.f (pos 0)) (cutting a.labels.now a.part a.first a.second) (get_or a.q.now (cond turns a.first a.second) 0) a.value
    c.unless_cut.ensures c.entering-enters.ensures c.is_minus-minus.ensures c.size_at-amount.ensures
