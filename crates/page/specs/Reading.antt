-- Document 02, S-1: a printed page read back. Three numbers stand in the columns of a cell's line, one in those of the mass line.
use Rattle.std.specs.Prelude.{ℕ, ◌+◌, ◌*◌, ◌<◌, List, ◌≡◌, get_or}
use Rattle.model.specs.Calls.{mass_in}
use Rattle.text.specs.Reading.{number_in, line_at}
use Rattle.page.specs.Page.{cell_places, qPlaces, mass_places, line_bytes, page_cells, cells_on, qOf, rest_at, page_mass}

module _ (places : ℕ) (bytes : List ℕ) where
  -- line i of a page, from 0; the mass stands on the line after its cells
  abbrev pub page_line : ℕ → List ℕ
  page_line i = line_at (line_bytes places) i bytes

  unfoldable pub cell_read : ℕ → ℕ
  cell_read i = number_in (page_line i) 0 cell_places

  unfoldable pub qRead : ℕ → ℕ
  qRead i = number_in (page_line i) (cell_places + 1) qPlaces

  unfoldable pub rest_read : ℕ → ℕ
  rest_read i = number_in (page_line i) (cell_places + 1 + qPlaces + 1) places

  unfoldable pub mass_read : ℕ → ℕ
  mass_read cells = number_in (page_line cells) 0 (mass_places places)

-- Each line gives its cell, q and rest, and with V its mass as q times V plus the rest; the last line gives the mass of the page.
pub record ReadsBack (places : ℕ) (volumes masses : List ℕ) (cells page : ℕ) (bytes : List ℕ) : Type 0 where
  pub cell_back : (i : ℕ) → i < cells_on cells page → cell_read places bytes i ≡ page * page_cells + i
  pub q_back : (i : ℕ) → i < cells_on cells page → qRead places bytes i ≡ qOf volumes masses (page * page_cells + i)
  pub rest_back : (i : ℕ) → i < cells_on cells page → rest_read places bytes i ≡ rest_at volumes masses (page * page_cells + i)
  pub mass_back : (i : ℕ) → i < cells_on cells page
      → qRead places bytes i * get_or volumes (page * page_cells + i) 0 + rest_read places bytes i ≡ mass_in masses (page * page_cells + i)
  pub page_mass_back : mass_read places bytes (cells_on cells page) ≡ page_mass volumes masses cells page
