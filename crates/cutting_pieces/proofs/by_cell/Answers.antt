-- Each turn puts one cell's entry, or none.
use Rattle.std.proofs.Common.{◌≡◌, ◌<◌, length, refl, sym, arith}
use Rattle.lists.proofs.Marked.{count_most}
use Rattle.cutting_pieces.proofs.Turns.{count-start, count_turn, picked-start, picked-turn}
use Rattle.cutting_pieces.proofs.by_cell.Goals as goal

pub loop-c-init : goal.loop-c-init
loop-c-init c = record { met = sym (count-start _); written = picked-start _ _ _ }

pub keep-at-requires : goal.keep-at-requires
keep-at-requires c m = let i = c.loop-c.invariant.met in omega (arith, count_most)

pub loop-c-preserved : goal.loop-c-preserved
loop-c-preserved c =
    let i = c.loop-c.invariant in
    let m = c.is_in-marked.ensures in
    let h : c.loop-c.c < length c.args.out.now = omega arith in record {
      met = count_turn _ _ i.met m c.keep-at.ensures.0;
      written = picked-turn _ _ _ 0 _ _ _ h i.met m refl i.written c.keep-at.ensures.1;
    }

pub returns-clause-value : goal.returns-clause-value
returns-clause-value c = let e : c.loop-c.c ≡ c.args.cells = omega arith in rw e at c.loop-c.invariant.met

pub returns-clause-out_after : goal.returns-clause-out_after
returns-clause-out_after c = let e : c.loop-c.c ≡ c.args.cells = omega arith in rw e at c.loop-c.invariant.written
