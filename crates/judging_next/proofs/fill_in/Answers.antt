-- The gathered tables are what enters and what leaves; next masses are reckoned from them.
use Rattle.std.proofs.Common.{◌∙◌}
use Rattle.judging_bounds.proofs.Laws.{summed, affords-read, next-read}
use Rattle.judging_next.proofs.fill_in.Goals as goal

pub fill-requires-clause-salted : goal.fill-requires-clause-salted
fill-requires-clause-salted c = (
  c.requires.salted,
  summed c.args.cells c.args.faces c.args.firsts.now c.args.seconds.now c.args.claim.now c.requires.long_enough.0 c.requires.long_enough.1
      c.requires.faces_fit _ _ c.gather.ensures.0 c.gather.ensures.1,
)

pub fill-requires-clause-affords : goal.fill-requires-clause-affords
fill-requires-clause-affords c =
    affords-read c.args.cells c.args.faces c.args.firsts.now c.args.seconds.now c.args.claim.now c.requires.long_enough.0 c.requires.long_enough.1
    c.requires.faces_fit _ _ c.gather.ensures.0 c.gather.ensures.1 c.args.masses.now c.args.releases.now c.requires.affords

pub returns : goal.returns
returns c =
    c.fill.ensures
    ∙ next-read c.args.cells c.args.faces c.args.firsts.now c.args.seconds.now c.args.claim.now c.requires.long_enough.0 c.requires.long_enough.1
    c.requires.faces_fit _ _ c.gather.ensures.0 c.gather.ensures.1 c.args.masses.now c.args.releases.now c.args.next.now
