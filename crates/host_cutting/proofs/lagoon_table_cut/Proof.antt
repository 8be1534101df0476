-- One call on the host's tables, each of which is as long afterwards as what the call left of it; then its answer as numbers.
use borrow.Author.Rules.{rules}
use Rattle.host_parts.proofs.Cut.{number_fits, from-c}
use Rattle.host_cutting.proofs.lagoon_table_cut.Statement.{statement}
use Rattle.host_cutting.proofs.lagoon_table_cut.Tie as tie

-- from where all tables are back: part 1's by halves, part 0's likewise, and the call
abbrev middle-1 : tie.After-slice_known-33-1 → tie.After-slice_known-29-1
middle-1 c = c.before.before.before.before.before.before.before.before.before

abbrev left-0 : tie.After-slice_known-33-1 → tie.After-slice_known-25-1
left-0 c = (middle-1 c).before.before.before.before.before.before.before.before

abbrev middle-0 : tie.After-slice_known-33-1 → tie.After-slice_known-21-1
middle-0 c = (left-0 c).before.before.before.before.before.before.before.before.before

abbrev called : tie.After-slice_known-33-1 → tie.After-cut-answer
called c = (middle-0 c).before.before.before.before.before.before.before.before

-- the same from the end
abbrev left-1 : tie.After-slice_known-34-1 → tie.After-slice_known-33-1
left-1 c = c.before.before.before.before

answered-requires : tie.Need-answered-requires
answered-requires c κs = number_fits _ _ _ _ _ _ _ (called c.before).cut-answer.ensures

same_length : tie.Need-shape_of-volumes0
same_length c = (middle-0 (left-1 c)).before.before.before.before.before.before.before.volumes0-1.given

same-length-2 : tie.Need-shape_of-firsts0
same-length-2 c = (middle-0 (left-1 c)).before.before.before.before.before.firsts0-1.given

same-length-3 : tie.Need-shape_of-seconds0
same-length-3 c = (middle-0 (left-1 c)).before.before.before.seconds0-1.given

same-length-4 : tie.Need-shape_of-shares0
same-length-4 c = (middle-0 (left-1 c)).before.shares0-1.given

same-length-5 : tie.Need-shape_of-reaches0
same-length-5 c = (left-0 (left-1 c)).before.before.before.before.before.before.before.before.reaches0-1.given

same-length-6 : tie.Need-shape_of-masses0
same-length-6 c = (left-0 (left-1 c)).before.before.before.before.before.before.masses0-1.given

same-length-7 : tie.Need-shape_of-fluxes0
same-length-7 c = (left-0 (left-1 c)).before.before.before.before.fluxes0-1.given

same-length-8 : tie.Need-shape_of-outsides0
same-length-8 c = (left-0 (left-1 c)).before.before.before.outsides0-1.given

same-length-9 : tie.Need-shape_of-releases0
same-length-9 c = (left-0 (left-1 c)).before.releases0-1.given

same-length-10 : tie.Need-shape_of-volumes1
same-length-10 c = (middle-1 (left-1 c)).before.before.before.before.before.before.before.volumes1-1.given

same-length-11 : tie.Need-shape_of-firsts1
same-length-11 c = (middle-1 (left-1 c)).before.before.before.before.before.firsts1-1.given

same-length-12 : tie.Need-shape_of-seconds1
same-length-12 c = (middle-1 (left-1 c)).before.before.before.seconds1-1.given

same-length-13 : tie.Need-shape_of-shares1
same-length-13 c = (middle-1 (left-1 c)).before.shares1-1.given

same-length-14 : tie.Need-shape_of-reaches1
same-length-14 c = (left-1 c).before.before.before.before.before.before.before.before.reaches1-1.given

same-length-15 : tie.Need-shape_of-masses1
same-length-15 c = (left-1 c).before.before.before.before.before.before.masses1-1.given

same-length-16 : tie.Need-shape_of-fluxes1
same-length-16 c = (left-1 c).before.before.before.before.fluxes1-1.given

same-length-17 : tie.Need-shape_of-outsides1
same-length-17 c = (left-1 c).before.before.before.outsides1-1.given

same-length-18 : tie.Need-shape_of-releases1
same-length-18 c = (left-1 c).before.releases1-1.given

same-length-19 : tie.Need-shape_of-found
same-length-19 c = c.before.found-1.given

returns : tie.Need-returns
returns c = from-c _ _ _ _ _ _ _ (called (left-1 c)).cut-answer.ensures _ _ _ c.before.before.answered.ensures

pub lagoon_table_cut_spec : {M : Type 1} → statement M
lagoon_table_cut_spec = tie.close (tie.spec (search rules) answered-requires
    same_length same-length-2 same-length-3 same-length-4 same-length-5 same-length-6 same-length-7 same-length-8 same-length-9
    same-length-10 same-length-11 same-length-12 same-length-13 same-length-14 same-length-15 same-length-16 same-length-17 same-length-18
    same-length-19
    returns)
