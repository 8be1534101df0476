-- A line more of the board stands after those put, and is no longer than the longest.
use Prim.Native.Nat.{ℕ, suc, ◌+◌, ◌≤◌, ◌<◌, min}
use mathlib.Core.Path.{◌≡◌, refl, sym, ap, ◌∙◌}
use mathlib.Core.List.{List, [], ◌∷◌, ◌++◌, append_assoc, append-nil}
use native.Mathlib.Omega.{arith}
use lib.ListN.{length, get_or, take, replicate, length-append, length-drop, length-map, length-replicate}
use lib.Seq.{take-suc}
use Rattle.text.specs.Lines.{space, newline}
use Rattle.text.proofs.Lines.{length-word, length-mark}
use Rattle.lists.specs.Table.{over}
use Rattle.model.specs.Causes.{accepted, refused, Verdict, granted}
use Rattle.board.specs.Board.{board_size, unused, entry_at, entries_of, listed, board_entries, board_verdict, BoardIs}
use Rattle.board.specs.declared.Entry.{Entry}
use Rattle.board.specs.declared.BoardAnswer.{BoardAnswer}
use Rattle.board.proofs.Listed.{listed-count}
use Rattle.run_lines.specs.Lines.{Holds, letter_b, board_line}
use Rattle.run_lines.specs.declared.Line.{Line}
use Rattle.run_session.specs.Session.{line_bytes}
use Rattle.run_board.specs.BoardLines.{board_lines}

-- what the board answers: eight entries, of which no more are used
few : (v : Verdict) (cells : ℕ) → granted v (min board_size cells) 0 ≤ board_size
few (accepted t) cells = omega arith
few (refused k i) cells = omega arith

long : (v : Verdict) (cells : ℕ) (volumes masses : List ℕ)
    → length (granted v (board_entries volumes masses cells) (replicate board_size unused)) ≡ board_size
unfolding entries_of over
long (accepted t) cells volumes masses =
    let count = length-map (listed volumes masses cells) (entry_at volumes masses) ∙ listed-count volumes masses cells in
    rw (length-append, length-drop) (omega (arith, count, length-replicate board_size unused))
long (refused k i) cells volumes masses = refl

pub board-ready : (cells : ℕ) (volumes masses : List ℕ) (r : BoardAnswer) → BoardIs cells volumes masses r
    → (r.used ≤ board_size) × (length r.entries ≡ board_size)
board-ready cells volumes masses r b =
    let v = board_verdict volumes masses cells in
    (rw b.used_is (few v cells), ap length b.entries_are ∙ long v cells volumes masses)

text-short : (cell q rest : ℕ) → length (board_line cell q rest) ≤ line_bytes
unfolding board_line
text-short cell q rest =
    simp length-append (omega (arith, length-mark letter_b, length-word cell space, length-word q space, length-word rest newline))

pub line-short : (line : Line) (cell q rest : ℕ) → Holds line (board_line cell q rest) → line.used ≤ line_bytes
line-short line cell q rest h = omega (arith, h.0.1, ap length h.1, text-short cell q rest)

lines-append : (xs ys : List Entry) → board_lines (xs ++ ys) ≡ board_lines xs ++ board_lines ys
unfolding board_lines
lines-append [] ys = refl
lines-append (e ∷ es) ys =
    ap (λ (t : List ℕ). board_line e.cell e.q e.rest ++ t) (lines-append es ys)
    ∙ sym (append_assoc (board_line e.cell e.q e.rest) (board_lines es) (board_lines ys))

-- the lines of one entry more
pub one_more : (es : List Entry) (i : ℕ) (d : Entry) (put : List ℕ) → i < length es → put ≡ board_lines (take i es)
    → put ++ board_line (get_or es i d).cell (get_or es i d).q (get_or es i d).rest ≡ board_lines (take (i + 1) es)
unfolding board_lines
one_more es i d put h e =
    let next : suc i ≡ i + 1 = omega arith in
    ap (λ (t : List ℕ). t ++ board_line (get_or es i d).cell (get_or es i d).q (get_or es i d).rest) e
    ∙ ap (λ (t : List ℕ). board_lines (take i es) ++ t) (sym (append-nil (board_line (get_or es i d).cell (get_or es i d).q (get_or es i d).rest)))
    ∙ sym (lines-append (take i es) (get_or es i d ∷ []))
    ∙ ap board_lines (sym (take-suc es i d h)) ∙ ap (λ (j : ℕ). board_lines (take j es)) next
