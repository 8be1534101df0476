-- Document 02, S-1: what a printed page holds. Its lines are defined in page_lines, and passed on here.
use Rattle.std.specs.Prelude.{ℕ, ◌+◌, ◌-◌, ◌*◌, ◌/◌, cond, List, ◌++◌, ltb}
use Rattle.lists.specs.Fold.{sum}
use Rattle.model.specs.Calls.{mass_in}
use Rattle.text.specs.Lines.{column, pieces, newline}
pub use Rattle.page_lines.specs.Lines.{cell_places, qPlaces, narrow_places, wide_places, largest, mass_places, line_bytes, page_cells, qOf, rest_at}
unfoldable pub use Rattle.page_lines.specs.Lines.{rest_places, cell_line, cells_on, line_of, line_if}

-- The line of the mass is as long as a cell's.
unfoldable pub mass_line : ℕ → ℕ → List ℕ
mass_line places mass = column (mass_places places) mass newline

-- Pages of sixty cells, of which the last may have fewer.
unfoldable pub pages : ℕ → ℕ
pages cells = (cells + (page_cells - 1)) / page_cells

-- How long a page is: a line for each cell and one for the mass. A page beyond the last needs no bytes.
unfoldable pub page_bytes : ℕ → ℕ → ℕ → ℕ
page_bytes places cells page = cond (ltb page (pages cells)) ((cells_on cells page + 1) * line_bytes places) 0

module _ (volumes masses : List ℕ) where
  -- the mass of a page's cells
  unfoldable pub page_mass : ℕ → ℕ → ℕ
  page_mass cells page = sum (cells_on cells page) (λ i. mass_in masses (page * page_cells + i))

  -- A page: the lines of its cells in their order, then the line of its mass.
  unfoldable pub page_text : ℕ → ℕ → ℕ → List ℕ
  page_text places cells page =
      pieces (cells_on cells page) (λ i. line_of volumes masses places (page * page_cells + i)) ++ mass_line places (page_mass cells page)
