-- The numbers fill an array with an entry at the rim's mark; for a face that touches the part they are the new ones.
use Rattle.std.proofs.Common.{ℕ, List, ap, ◌∙◌, arith}
use Rattle.lists.specs.Table.{over}
use Rattle.cutting_faces.proofs.Numbered.{firsts-are}
use Rattle.cutting_faces.proofs.columns.firsts.Goals as goal

pub returns-clause-out_after : goal.returns-clause-out_after
returns-clause-out_after c =
    c.firsts.ensures.out_after ∙ ap (λ (xs : List ℕ). over xs c.args.out.now)
    (firsts-are _ _ _ c.args.part _ _ c.requires.0 _ _ (omega arith) c.numbers.ensures)
