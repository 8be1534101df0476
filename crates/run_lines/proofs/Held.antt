-- Words put one after another into an array of the longest line's length are the line: it has room for all of them.
use Prim.Native.Nat.{ℕ, ◌≤◌}
use mathlib.Core.Path.{◌≡◌}
use mathlib.Core.List.{List}
use native.Mathlib.Omega.{arith}
use lib.ListN.{length, take, length-append}
use Rattle.io.specs.Counts.{IsPrefixLen}
use Rattle.io.proofs.Counting.{prefix_len_of_le}
use Rattle.text.specs.Lines.{Puts, space, newline}
use Rattle.text.proofs.Lines.{all_there, within, length-word, length-mark}
use Rattle.run_lines.specs.Lines.{refusal_line, step_line, refused_step_line, board_line, letter_r, letter_b}

-- The bytes of the longest line.
abbrev line_bytes : ℕ
line_bytes = 105

refusal-fits : (letter number place : ℕ) → length (refusal_line letter number place) ≤ 44
unfolding refusal_line
refusal-fits letter number place = simp length-append (omega (arith, length-mark letter, length-word number space, length-word place newline))

module _ {lent bytes : List ℕ} {r : ℕ} (wide : length lent ≡ line_bytes) where
  held : (text : List ℕ) → length text ≤ line_bytes → Puts lent 0 text r bytes → IsPrefixLen r bytes × (take r bytes ≡ text)
  held text h p = (prefix_len_of_le _ _ (within lent p), all_there lent p (omega arith))

  pub refusal-held : (letter number place : ℕ) → Puts lent 0 (refusal_line letter number place) r bytes → IsPrefixLen r bytes
      × (take r bytes ≡ refusal_line letter number place)
  refusal-held letter number place = held (refusal_line letter number place) (omega (arith, refusal-fits letter number place))

  pub step_held : (step entered gone total released : ℕ) → Puts lent 0 (step_line step entered gone total released) r bytes
      → IsPrefixLen r bytes × (take r bytes ≡ step_line step entered gone total released)
  unfolding step_line
  step_held step entered gone total released =
      held (step_line step entered gone total released)
      (simp length-append
      (omega (arith, length-word step space, length-word entered space, length-word gone space, length-word total space, length-word released newline)))

  pub refused-step-held : (step number place : ℕ) → Puts lent 0 (refused_step_line step number place) r bytes → IsPrefixLen r bytes
      × (take r bytes ≡ refused_step_line step number place)
  unfolding refused_step_line
  refused-step-held step number place =
      held (refused_step_line step number place) (rw length-append (omega (arith, length-word step space, refusal-fits letter_r number place)))

  pub board-held : (cell q rest : ℕ) → Puts lent 0 (board_line cell q rest) r bytes → IsPrefixLen r bytes × (take r bytes ≡ board_line cell q rest)
  unfolding board_line
  board-held cell q rest =
      held (board_line cell q rest) (simp length-append (omega
      (arith, length-mark letter_b, length-word cell space, length-word q space, length-word rest newline)))
