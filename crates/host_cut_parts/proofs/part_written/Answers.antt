-- The part is cut into tables of the call's own, and written from these.
use Rattle.cutting_parts.specs.Cut.{tables_of, lagoon_of}
use Rattle.record_layouts.specs.Layouts.{kind_number}
use Rattle.taking.specs.Taking.{blank}
use Rattle.host_cut_parts.proofs.Pieces.{written_as}
use Rattle.host_cut_parts.proofs.part_written.Goals as goal

pub part-own-requires : goal.part-own-requires
unfolding blank
part-own-requires c = c.requires

pub returns : goal.returns
unfolding blank
returns c =
    let a = c.args in
    let whole = lagoon_of a.cells a.faces (tables_of a.volumes.now a.firsts.now a.seconds.now a.shares.now a.reaches.now a.masses.now a.fluxes.now a.outsides.now
    a.releases.now) in
    let own = c.part-own.new in
    let after = tables_of own.part_volumes own.part_firsts own.part_seconds own.part_shares own.part_reaches own.part_masses own.part_fluxes own.part_outsides
    own.part_releases in
    written_as whole a.labels.now a.label {after = after} c.part-own.ensures a.width (kind_number a.width a.kind) c.writes.ensures
