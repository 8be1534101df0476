-- Document 02, S-1: the lines of a page. The definitions take the places of the rest, since S-10 makes the lines of larger cells wider.
use Rattle.std.specs.Prelude.{ℕ, ◌+◌, ◌-◌, ◌*◌, ◌/◌, min, Bool, cond, List, [], ◌++◌, leb, get_or}
use Rattle.lists.specs.Fold.{greatest}
use Rattle.model.specs.Mesh.{old_ceiling}
use Rattle.model.specs.Step.{rest_of}
use Rattle.model.specs.Calls.{mass_in}
use Rattle.text.specs.Lines.{column, space, newline}

-- A cell's line: the cell in 4 places, q in 7, the rest in 4 or 5, with a space between them and a newline at the end.
abbrev pub cell_places : ℕ
cell_places = 4

abbrev pub qPlaces : ℕ
qPlaces = 7

-- Document 02, S-10: the rest has 5 places where some V of the whole mesh is above 4,095.
abbrev pub narrow_places : ℕ
narrow_places = 4

abbrev pub wide_places : ℕ
wide_places = 5

abbrev pub largest : ℕ → List ℕ → ℕ
largest cells volumes = greatest cells 0 (λ c. get_or volumes c 0)

unfoldable pub rest_places : ℕ → List ℕ → ℕ
rest_places cells volumes = cond (leb (largest cells volumes) old_ceiling) narrow_places wide_places

-- The mass line is as long as a cell's, so the mass has 17 places where the rest has 4, and 18 where it has 5.
abbrev pub mass_places : ℕ → ℕ
mass_places places = cell_places + 1 + qPlaces + 1 + places

abbrev pub line_bytes : ℕ → ℕ
line_bytes places = mass_places places + 1

unfoldable pub cell_line : ℕ → (cell q rest : ℕ) → List ℕ
cell_line places cell q rest = column cell_places cell space ++ (column qPlaces q space ++ column places rest newline)

-- Sixty cells make a page; the last page has those that are left. Beyond it the difference is cut off at 0: there are no cells.
abbrev pub page_cells : ℕ
page_cells = 60

unfoldable pub cells_on : ℕ → ℕ → ℕ
cells_on cells page = min page_cells (cells - page * page_cells)

module _ (volumes masses : List ℕ) where
  -- q, m / V rounded down, and the rest
  abbrev pub qOf : ℕ → ℕ
  qOf c = mass_in masses c / get_or volumes c 0

  abbrev pub rest_at : ℕ → ℕ
  rest_at c = rest_of (get_or volumes c 0) (mass_in masses c)

  unfoldable pub line_of : ℕ → ℕ → List ℕ
  line_of places c = cell_line places c (qOf c) (rest_at c)

  -- Document 02, S-14: of a cell that the reader may not see there is no line, not even a blank one
  unfoldable pub line_if : (visible : ℕ → Bool) → ℕ → ℕ → List ℕ
  line_if visible places c = cond (visible c) (line_of places c) []
