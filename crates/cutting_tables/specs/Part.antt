-- Document 02, S-12: what is asked of tables out of which a part is cut, and the part in them.
use Rattle.std.specs.Prelude.{ℕ, ◌^◌, ◌≤◌, ◌<◌, ◌≡◌, List, pos, length, get_or}
use Rattle.signed.specs.Sign.{size}
use Rattle.cutting_parts.specs.Cut.{Tables, Lagoon, part_cells, part_faces, part_tables}
use Rattle.cutting_parts.specs.Parts.{TablesLong}
use Rattle.cutting_pieces.specs.Pieces.{JoinedFaces, CellsGood}
use Rattle.cutting_tables.specs.declared.PartCounts.{PartCounts}

-- the whole, its labels and the tables of a part, as cutting has tested them
pub record Cuttable (L : Lagoon) (labels : List ℕ) (lent : Tables) : Type 0 where
  pub labels_there : L.cells ≤ length labels
  pub whole : TablesLong L L.tables
  pub room : TablesLong L lent
  pub joined : JoinedFaces L.cells L.faces labels L.tables.firsts L.tables.seconds
  pub good : CellsGood L.cells L.tables.volumes L.tables.masses L.tables.releases
  pub sizes : (f : ℕ) → f < L.faces → size (get_or L.tables.fluxes f (pos 0)) < 2 ^ 63

-- part p is counted, and stands in its tables
pub record PartFilled (L : Lagoon) (labels : List ℕ) (p : ℕ) (lent : Tables) (r : PartCounts) (after : Tables) : Type 0 where
  pub cells_are : r.cells ≡ part_cells L labels p
  pub faces_are : r.faces ≡ part_faces L labels p
  pub tables_are : after ≡ part_tables L labels p lent
