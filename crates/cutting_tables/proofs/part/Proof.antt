-- Each loop is lent what it asks for, and fills one table of the part.
use Rattle.cutting_parts.specs.Cut.{Tables, tables_of, Lagoon, lagoon_of, part_tables}
use Rattle.cutting_faces.proofs.Numbered.{faces-lent}
use Rattle.cutting_tables.proofs.Filled.{part_filled, tables_are}
use Rattle.cutting_tables.proofs.part.Statement.{statement}
use Rattle.cutting_tables.proofs.part.Tie as tie

-- from before the first loop back to the start
abbrev shared : tie.After-shared_slice_known-9-1 → tie.Start
shared c = c.before.before.before.before.before.before.before.before.before

abbrev start : tie.After-slice_known-8-1 → tie.Start
start c = shared c.before.before.before.before.before.before.before.before

-- what is lent
abbrev whole : tie.Start → Lagoon
whole s = lagoon_of s.args.cells s.args.faces (tables_of s.args.volumes.now s.args.firsts.now s.args.seconds.now
    s.args.shares.now s.args.reaches.now s.args.masses.now s.args.fluxes.now s.args.outsides.now s.args.releases.now)

abbrev lent : tie.Start → Tables
lent s = tables_of s.args.part_volumes.now s.args.part_firsts.now s.args.part_seconds.now s.args.part_shares.now
    s.args.part_reaches.now s.args.part_masses.now s.args.part_fluxes.now s.args.part_outsides.now s.args.part_releases.now

-- the loops, each from the one after it
abbrev to-by-cell : tie.After-by_cell → tie.After-by_cell-own_cells
to-by-cell c = c.before.before.before.before

abbrev to-by-cell2 : tie.After-by_cell-2 → tie.After-by_cell
to-by-cell2 c = c.before.before.before.before

abbrev to-by-cell3 : tie.After-firsts-own_faces → tie.After-by_cell-2
to-by-cell3 c = c.before.before.before.before

abbrev to-firsts : tie.After-seconds → tie.After-firsts-own_faces
to-firsts c = c.before.before.before.before

abbrev to-seconds : tie.After-spacings → tie.After-seconds
to-seconds c = c.before.before.before.before

abbrev to-spacings : tie.After-spacings-2 → tie.After-spacings
to-spacings c = c.before.before.before.before

abbrev to-spacings2 : tie.After-fluxes → tie.After-spacings-2
to-spacings2 c = c.before.before.before.before

abbrev to-fluxes : tie.After-outsides → tie.After-fluxes
to-fluxes c = c.before.before.before

-- and what was asked for at the start, from each
abbrev of-by-cell : tie.After-by_cell-own_cells → tie.Start
of-by-cell c = start c.before.before

abbrev of-by-cell2 : tie.After-by_cell → tie.Start
of-by-cell2 c = of-by-cell (to-by-cell c)

abbrev of-by-cell3 : tie.After-by_cell-2 → tie.Start
of-by-cell3 c = of-by-cell2 (to-by-cell2 c)

abbrev of-firsts : tie.After-firsts-own_faces → tie.Start
of-firsts c = of-by-cell3 (to-by-cell3 c)

abbrev of-seconds : tie.After-seconds → tie.Start
of-seconds c = of-firsts (to-firsts c)

abbrev of-spacings : tie.After-spacings → tie.Start
of-spacings c = of-seconds (to-seconds c)

abbrev of-spacings2 : tie.After-spacings-2 → tie.Start
of-spacings2 c = of-spacings (to-spacings c)

abbrev of-fluxes : tie.After-fluxes → tie.Start
of-fluxes c = of-spacings2 (to-spacings2 c)

by-cell-requires : tie.Need-by_cell-own_cells-requires
by-cell-requires c κs = let g = (start c.before).requires in (g.labels_there, g.whole.volumes_long, g.room.volumes_long)

by-cell-requires-2 : tie.Need-by_cell-requires
by-cell-requires-2 c κs = let g = (of-by-cell c.before.before.before).requires in (g.labels_there, g.whole.masses_long, g.room.masses_long)

by-cell-requires-3 : tie.Need-by_cell-requires-2
by-cell-requires-3 c κs = let g = (of-by-cell2 c.before.before.before).requires in (g.labels_there, g.whole.releases_long, g.room.releases_long)

firsts-requires : tie.Need-firsts-own_faces-requires
firsts-requires c κs = let g = (of-by-cell3 c.before.before.before).requires in (g.joined, g.room.firsts_long)

seconds-requires : tie.Need-seconds-requires
seconds-requires c κs = let g = (of-firsts c.before.before.before).requires in (g.joined, g.room.seconds_long)

spacings-requires : tie.Need-spacings-requires
spacings-requires c κs = let g = (of-seconds c.before.before.before).requires in
    ((faces-lent _ _ _ 0 _ _ g.joined, g.room.shares_long), g.whole.shares_long)

spacings-requires-2 : tie.Need-spacings-requires-2
spacings-requires-2 c κs = let g = (of-spacings c.before.before.before).requires in
    ((faces-lent _ _ _ 0 _ _ g.joined, g.room.reaches_long), g.whole.reaches_long)

fluxes-requires : tie.Need-fluxes-requires
fluxes-requires c κs =
    let g = (of-spacings2 c.before.before.before).requires in
    ((faces-lent _ _ _ 0 _ _ g.joined, g.room.fluxes_long), (g.whole.fluxes_long, g.sizes))

outsides-requires : tie.Need-outsides-requires
outsides-requires c κs =
    let g = (of-fluxes c.before.before).requires in
    ((g.joined, g.room.outsides_long), (g.good, (g.whole.outsides_long, g.whole.fluxes_long, g.sizes)))

-- the loops, from the end
abbrev at-outsides : tie.After-slice_known-16-1 → tie.After-outsides
at-outsides c = c.before.before

abbrev at-fluxes : tie.After-slice_known-16-1 → tie.After-fluxes
at-fluxes c = to-fluxes (at-outsides c)

abbrev at-spacings2 : tie.After-slice_known-16-1 → tie.After-spacings-2
at-spacings2 c = to-spacings2 (at-fluxes c)

abbrev at-spacings : tie.After-slice_known-16-1 → tie.After-spacings
at-spacings c = to-spacings (at-spacings2 c)

abbrev at-seconds : tie.After-slice_known-16-1 → tie.After-seconds
at-seconds c = to-seconds (at-spacings c)

abbrev at-firsts : tie.After-slice_known-16-1 → tie.After-firsts-own_faces
at-firsts c = to-firsts (at-seconds c)

abbrev at-by-cell3 : tie.After-slice_known-16-1 → tie.After-by_cell-2
at-by-cell3 c = to-by-cell3 (at-firsts c)

abbrev at-by-cell2 : tie.After-slice_known-16-1 → tie.After-by_cell
at-by-cell2 c = to-by-cell2 (at-by-cell3 c)

abbrev at-by-cell : tie.After-slice_known-16-1 → tie.After-by_cell-own_cells
at-by-cell c = to-by-cell (at-by-cell2 c)

-- each table is as long as it was: what was left of it stands right after its loop
same_length : tie.Need-shape_of-part_volumes
same_length c = (at-by-cell2 c).before.before.before.part_volumes-1.given

same-length-2 : tie.Need-shape_of-part_firsts
same-length-2 c = (at-seconds c).before.before.before.part_firsts-1.given

same-length-3 : tie.Need-shape_of-part_seconds
same-length-3 c = (at-spacings c).before.before.before.part_seconds-1.given

same-length-4 : tie.Need-shape_of-part_shares
same-length-4 c = (at-spacings2 c).before.before.before.part_shares-1.given

same-length-5 : tie.Need-shape_of-part_reaches
same-length-5 c = (at-fluxes c).before.before.before.part_reaches-1.given

same-length-6 : tie.Need-shape_of-part_masses
same-length-6 c = (at-by-cell3 c).before.before.before.part_masses-1.given

same-length-7 : tie.Need-shape_of-part_fluxes
same-length-7 c = (at-outsides c).before.before.part_fluxes-1.given

same-length-8 : tie.Need-shape_of-part_outsides
same-length-8 c = c.before.part_outsides-1.given

same-length-9 : tie.Need-shape_of-part_releases
same-length-9 c = (at-firsts c).before.before.before.part_releases-1.given

returns : tie.Need-returns
returns c =
    let s = of-by-cell (at-by-cell c) in
    part_filled (whole s) s.args.labels.now s.args.part (lent s) _ _ (at-by-cell c).by_cell-own_cells.ensures.0 (at-firsts c).firsts-own_faces.ensures.0
    (tables_are (part_tables (whole s) s.args.labels.now s.args.part (lent s))
    (at-by-cell c).by_cell-own_cells.ensures.1
    (at-firsts c).firsts-own_faces.ensures.1
    (at-seconds c).seconds.ensures.1
    (at-spacings c).spacings.ensures.1
    (at-spacings2 c).spacings-2.ensures.1
    (at-by-cell2 c).by_cell.ensures.1
    (at-fluxes c).fluxes.ensures.1
    (at-outsides c).outsides.ensures.1
    (at-by-cell3 c).by_cell-2.ensures.1)

pub part_spec : {M : Type 1} → statement M
part_spec = tie.close (tie.spec by-cell-requires by-cell-requires-2 by-cell-requires-3 firsts-requires seconds-requires spacings-requires
    spacings-requires-2 fluxes-requires outsides-requires
    same_length same-length-2 same-length-3 same-length-4 same-length-5 same-length-6 same-length-7 same-length-8 same-length-9 returns)
