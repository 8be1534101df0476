-- Public pages of some, all and none of the cells, at both widths of a line, and what a public page is refused for.
use Prim.Native.Nat.{ℕ}
use mathlib.Core.Path.{◌≡◌, refl}
use mathlib.Core.List.{List, [], ◌∷◌, ◌++◌, append-nil}
use lib.ListN.{replicate}
use Rattle.lists.specs.Fold.{greatest}
use Rattle.model.specs.Causes.{fine, refused, ◌and_then◌, need, each, counts_within, counts, mesh_tables, volume_good, mesh_values, field_table, salt_good, field_values}
use Rattle.text.specs.Lines.{pieces}
use Rattle.public_marks.specs.Marks.{is_open, mark_good}
use Rattle.page.specs.Page.{narrow_places, wide_places, rest_places, cell_line, mass_line, pages, cells_on, page_bytes, line_of, line_if, page_mass, page_text}
use Rattle.page.specs.Answers.{verdict_with}
use Rattle.public_page.specs.Public.{public_text, public_page_verdict}

everything : Unit {0}
unfolding greatest ◌and_then◌ need each counts_within counts mesh_tables volume_good mesh_values field_table salt_good field_values
    pieces is_open mark_good rest_places pages cells_on page_bytes line_of line_if verdict_with public_text public_page_verdict
everything = tt

-- THE CHANNEL
abbrev volumes : List ℕ
volumes = 100 ∷ 100 ∷ 100 ∷ []

abbrev masses : List ℕ
masses = 100099 ∷ 81188 ∷ 18713 ∷ []

-- its middle cell withheld: lines 0 and 2 stand, line 1 and the mass do not
pub channel : public_text volumes masses (0 ∷ 1 ∷ 0 ∷ []) narrow_places 3 0 ≡ cell_line narrow_places 0 1000 99 ++ cell_line narrow_places 2 187 13
unfolding everything
channel = rw (append-nil (cell_line narrow_places 0 1000 99))

pub all-withheld : public_text volumes masses (1 ∷ 1 ∷ 1 ∷ []) narrow_places 3 0 ≡ []
unfolding everything
all-withheld = refl

-- none withheld, by marks or because there are none: the growers' page but for its mass line
pub none-withheld : public_text volumes masses (0 ∷ 0 ∷ 0 ∷ []) narrow_places 3 0
    ≡ (cell_line narrow_places 0 1000 99 ++ cell_line narrow_places 1 811 88) ++ cell_line narrow_places 2 187 13
unfolding everything
none-withheld = refl

pub growers-page : (vs ms : List ℕ) (places cells page : ℕ) → page_text vs ms places cells page ≡ public_text vs ms [] places cells page
    ++ mass_line places (page_mass vs ms cells page)
unfolding page_text public_text line_if is_open
growers-page vs ms places cells page = refl

-- the first and the last cell of the last of two pages
pub ends-withheld : public_text (replicate 63 1) (replicate 63 7) (replicate 60 0 ++ (1 ∷ 0 ∷ 1 ∷ [])) narrow_places 63 1 ≡ cell_line narrow_places 61 7 0
unfolding everything
ends-withheld = append-nil (cell_line narrow_places 61 7 0)

-- lines are wide by a withheld cell's volume too
pub wide : public_text (100 ∷ 4096 ∷ []) (100099 ∷ 4095 ∷ []) (0 ∷ 1 ∷ []) (rest_places 2 (100 ∷ 4096 ∷ [])) 2 0 ≡ cell_line wide_places 0 1000 99
unfolding everything
wide = append-nil (cell_line wide_places 0 1000 99)

-- REFUSED: bytes one short of the whole page, mass line included, however many cells are withheld
pub enough : public_page_verdict volumes masses (1 ∷ 1 ∷ 1 ∷ []) 3 0 72 ≡ fine
unfolding everything
enough = refl

pub one-short : public_page_verdict volumes masses (1 ∷ 1 ∷ 1 ∷ []) 3 0 71 ≡ refused 2 12
unfolding everything
one-short = refl

pub wide_enough : public_page_verdict (100 ∷ 4096 ∷ []) (0 ∷ 0 ∷ []) (0 ∷ 1 ∷ []) 2 0 57 ≡ fine
unfolding everything
wide_enough = refl

pub wide_short : public_page_verdict (100 ∷ 4096 ∷ []) (0 ∷ 0 ∷ []) (0 ∷ 1 ∷ []) 2 0 56 ≡ refused 2 12
unfolding everything
wide_short = refl

-- the marks' table before 3, the page before another mark
pub marks-short : public_page_verdict (0 ∷ 0 ∷ 0 ∷ []) masses (1 ∷ 1 ∷ []) 3 0 72 ≡ refused 2 19
unfolding everything
marks-short = refl

pub beyond-first : public_page_verdict volumes masses (2 ∷ 2 ∷ 2 ∷ []) 3 1 0 ≡ refused 14 1
unfolding everything
beyond-first = refl

pub another-mark : public_page_verdict volumes masses (1 ∷ 0 ∷ 2 ∷ []) 3 0 72 ≡ refused 27 2
unfolding everything
another-mark = refl
