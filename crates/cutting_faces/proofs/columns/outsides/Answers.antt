-- The concentrations fill an array with an entry at the rim's mark; those across a cut face are of cells.
use Rattle.std.proofs.Common.{ℕ, List, ap, ◌∙◌, arith}
use Rattle.lists.specs.Table.{over}
use Rattle.cutting_faces.proofs.Numbered.{outsides-are}
use Rattle.cutting_faces.proofs.columns.outsides.Goals as goal

pub returns-clause-out_after : goal.returns-clause-out_after
returns-clause-out_after c =
    c.outsides.ensures.out_after ∙ ap (λ (xs : List ℕ). over xs c.args.out.now)
    (outsides-are _ _ _ c.args.part _ _ c.requires.joined_faces.0 c.args.volumes.now c.args.masses.now c.args.releases.now _ _ (omega arith)
    c.concentrations.ensures c.args.amounts.now c.args.values.now)
