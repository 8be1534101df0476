-- The line fits where there is room for the longest.
use Rattle.std.proofs.Common.{ℕ, List, ◌++◌, take, ap, ◌∙◌, arith}
use Rattle.run_board.proofs.Entries.{line-short}
use Rattle.run_board.proofs.put_entry.Goals as goal

pub add-requires : goal.add-requires
add-requires c = let h = c.board_line.ensures in (h.0, omega (arith, line-short _ _ _ _ h))

pub returns : goal.returns
returns c =
    let h = c.board_line.ensures in (
      omega (arith, c.add.ensures.0, line-short _ _ _ _ h),
      c.add.ensures.1 ∙ ap (λ (t : List ℕ). take c.args.at c.args.lines.now ++ t) h.1,
    )
