-- Of the sign turned or not, and of the size.
use Rattle.std.proofs.Common.{not, pos, get_or, arith}
use Rattle.std.proofs.lemmas.Int.{ints}
use Rattle.cutting_pieces.specs.Pieces.{has_label}
use Rattle.cutting_pieces.proofs.Turns.{amount-is}
use Rattle.cutting_faces.proofs.faces.flux.Goals as goal

pub returns : goal.returns
returns c =
    let a = c.args in
    let turns = not (has_label a.labels.now a.part a.first) in
    let e = amount-is turns (get_or a.amounts.now a.f (pos 0)) c.is_minus-minus.ensures c.size_at.ensures in
    omega (arith, ints, e)
