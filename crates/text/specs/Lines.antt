-- Words put one after another: numbers and letters, each with the byte after it.
use Rattle.std.specs.Prelude.{ℕ, zero, suc, ◌-◌, List, [], ◌∷◌, ◌++◌, ◌≡◌, length, take, replicate}
use Rattle.lists.specs.Table.{over}
use Rattle.text.specs.Digits.{digits, most_digits}

abbrev pub space : ℕ
space = 32

abbrev pub newline : ℕ
newline = 10

-- A number and the byte after it.
unfoldable pub word : ℕ → ℕ → List ℕ
word n after = digits most_digits n ++ (after ∷ [])

-- The same right-aligned: spaces in front, as many as the number leaves of so many columns; none where it has more digits.
unfoldable pub column : ℕ → ℕ → ℕ → List ℕ
column width n after = replicate (width - length (digits most_digits n)) space ++ word n after

-- A letter and a space.
unfoldable pub mark : ℕ → List ℕ
mark letter = letter ∷ space ∷ []

-- Pieces one after another: piece 0, .., piece (n - 1).
unfoldable pub pieces : ℕ → (ℕ → List ℕ) → List ℕ
pieces zero piece = []
pieces (suc n) piece = pieces n piece ++ piece n

-- The first bytes of those lent and more after them, as far as there is room.
unfoldable pub longer : List ℕ → ℕ → List ℕ → List ℕ
longer lent at more = take (length lent) (take at lent ++ more)

-- Where they end, and the bytes lent afterwards: those past the end stay.
pub record Puts (lent : List ℕ) (at : ℕ) (more : List ℕ) (r : ℕ) (lent' : List ℕ) : Type 0 where
  pub ends : r ≡ length (longer lent at more)
  pub put : lent' ≡ over (longer lent at more) lent
