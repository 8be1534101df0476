-- A part, by what each loop left.
use Prim.Native.Nat.{ℕ}
use mathlib.Core.Path.{◌≡◌}
use mathlib.Core.List.{List}
use lib.IntN.{ℤ}
use Rattle.cutting_parts.specs.Cut.{Tables, tables_of, Lagoon, part_cells, part_faces, part_tables}
use Rattle.cutting_tables.specs.Part.{PartFilled}
use Rattle.cutting_tables.specs.declared.PartCounts.{PartCounts}

-- a part, by its counts and tables
pub part_filled : (L : Lagoon) (labels : List ℕ) (p : ℕ) (lent : Tables) (r : PartCounts) (after : Tables) → r.cells ≡ part_cells L labels p → r.faces
    ≡ part_faces L labels p
    → after ≡ part_tables L labels p lent → PartFilled L labels p lent r after
part_filled L labels p lent r after c f t = record { cells_are = c; faces_are = f; tables_are = t }

-- tables, each by its equation
pub tables_are : {a b c d e f : List ℕ} {g : List ℤ} {h i : List ℕ} (t : Tables) → a ≡ t.volumes → b ≡ t.firsts → c ≡ t.seconds → d ≡ t.shares → e
    ≡ t.reaches
    → f ≡ t.masses → g ≡ t.fluxes → h ≡ t.outsides → i ≡ t.releases → tables_of a b c d e f g h i ≡ t
tables_are t p q r s u v w x y = rw (p, q, r, s, u, v, w, x, y)
