-- The gathered tables are what enters and what leaves; 22 is read off them.
use mathlib.Core.Path.{◌∙◌}
use borrow.Author.Rules.{rules}
use Rattle.judging_bounds.proofs.Laws.{summed, bounds-read}
use Rattle.judging_bounds.proofs.values_in.Statement.{statement}
use Rattle.judging_bounds.proofs.values_in.Tie as tie

-- the start, past what is known of the lent tables
abbrev entered : tie.After-shared_slice_known-6-1 → tie.Start
entered c = c.before.before.before.before.before.before

abbrev start : tie.After-gather → tie.Start
start c = entered c.before.before.before.before.before

gather-requires : tie.Need-gather-requires
gather-requires c κs =
    let s = entered c.before.before.before.before in
    ((s.requires.0.1, s.requires.0.3, s.requires.0.4, s.requires.0.5), (s.requires.1.0, s.requires.1.1.1))

bounds-good-requires : tie.Need-bounds_good-requires
bounds-good-requires c κs =
    let g = c.before.before.before.before in
    let s = start g in
    let t = s.requires.1.1.0 in (
      t.0,
      t.1,
      summed s.args.cells s.args.faces s.args.firsts.now s.args.seconds.now s.args.claim.now s.requires.0.0 s.requires.0.1 s.requires.1.0
          _ _ g.gather.ensures.0 g.gather.ensures.1,
    )

returns : tie.Need-returns
returns c =
    let g = c.before.before.before.before.before in
    let s = start g in
    c.bounds_good.ensures
    ∙ bounds-read s.args.cells s.args.faces s.args.firsts.now s.args.seconds.now s.args.claim.now s.requires.0.0 s.requires.0.1
    s.requires.1.0
    _ _ g.gather.ensures.0 g.gather.ensures.1 s.args.volumes.now s.args.masses.now s.args.releases.now s.args.work.now

pub values_in_spec : {M : Type 1} → statement M
values_in_spec = tie.close (tie.spec gather-requires bounds-good-requires (search rules) (search rules) returns)
