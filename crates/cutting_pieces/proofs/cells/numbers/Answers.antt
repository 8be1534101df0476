-- Each turn writes how many cells of the part were met; at last the mark of the rim.
use Rattle.std.proofs.Common.{ℕ, ◌≡◌, ◌<◌, List, length, set, sym, ap, arith}
use Rattle.lists.proofs.Tables.{over-start, over-step}
use Rattle.model.specs.Mesh.{rim}
use Rattle.lists.proofs.Marked.{count_most}
use Rattle.cutting_pieces.proofs.Turns.{count-start, count_turn}
use Rattle.cutting_pieces.proofs.cells.numbers.Goals as goal

pub loop-c-init : goal.loop-c-init
loop-c-init c = record { met = sym (count-start _); written = over-start _ _ }

pub one_more-n-requires : goal.one_more-n-requires
one_more-n-requires c = let i = c.loop-c.invariant in omega (arith, count_most)

pub loop-c-preserved : goal.loop-c-preserved
loop-c-preserved c =
    let i = c.loop-c.invariant in
    let h : c.loop-c.c < length c.args.out.now = omega arith in record {
      met = count_turn _ _ i.met c.is_in.ensures c.one_more-n.ensures;
      written = over-step _ c.args.out.now c.loop-c.c h i.written i.met;
    }

pub returns : goal.returns
returns c =
    let e : c.loop-c.c ≡ c.args.cells = omega arith in
    ap (λ (xs : List ℕ). set xs rim rim) (rw e at c.loop-c.invariant.written)
