-- Document 01, "The board and the run", and document 02's S-6: the lines that the run program prints, as bytes.
use Rattle.std.specs.Prelude.{ℕ, List, ◌++◌, ◌≡◌, take}
use Rattle.io.specs.Counts.{IsPrefixLen}
use Rattle.text.specs.Lines.{word, mark, space, newline}
use Rattle.run_lines.specs.declared.Line.{Line}

-- The letters before the numbers of a refused mesh, field and step, and of the board.
abbrev pub letter_m : ℕ
letter_m = 77

abbrev pub letter_f : ℕ
letter_f = 70

abbrev pub letter_r : ℕ
letter_r = 82

abbrev pub letter_b : ℕ
letter_b = 66

-- A refused mesh or field: its letter, the number of the cause, the place.
unfoldable pub refusal_line : ℕ → ℕ → ℕ → List ℕ
refusal_line letter number place = mark letter ++ (word number space ++ word place newline)

-- An accepted step: its number, in-mass, out-mass, total, and S-6's released mass.
unfoldable pub step_line : ℕ → ℕ → ℕ → ℕ → ℕ → List ℕ
step_line step entered gone total released =
    word step space ++ (word entered space ++ (word gone space ++ (word total space ++ word released newline)))

-- A refused step: its number, the letter, the number of the cause, the place.
unfoldable pub refused_step_line : ℕ → ℕ → ℕ → List ℕ
refused_step_line step number place = word step space ++ refusal_line letter_r number place

-- An entry of the board: the letter, cell, q, rest.
unfoldable pub board_line : ℕ → ℕ → ℕ → List ℕ
board_line cell q rest = mark letter_b ++ (word cell space ++ (word q space ++ word rest newline))

-- A line by value: its first bytes are the text. What the bytes after them are is left open; nobody prints them.
abbrev pub Holds : Line → List ℕ → Type 0
Holds line text = IsPrefixLen line.used line.bytes × (take line.used line.bytes ≡ text)
