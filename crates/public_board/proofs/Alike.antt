-- Two fields that agree in open cells have the same public board: from contract to contract.
use Prim.Native.Nat.{ℕ, ◌<◌}
use mathlib.Core.Path.{◌≡◌, refl, sym, ap, ◌∙◌}
use mathlib.Core.Bool.{true}
use mathlib.Core.List.{List, [], ◌∷◌, map}
use lib.ListN.{take}
use Rattle.board_order.specs.Order.{ranked_of, comes_before, in_order}
use Rattle.board_order.proofs.Insertion.{take-map, ranked-alike}
use Rattle.public_marks.specs.Marks.{is_open, SameInOpen}
use Rattle.public_marks.proofs.Judged.{same_tests}
use Rattle.board.specs.Board.{board_size, shown, entry_of, entry_at, ranked_at, cell_before, listed_of, entries_of}
use Rattle.board.specs.declared.Entry.{Entry}
use Rattle.public_board.specs.Public.{open_entries, public_board_verdict}
use Rattle.public_board.specs.Alike.{BoardTellsNothing}

module _ (volumes masses : List ℕ) where
  -- entries are what is shown of ranked cells
  entries-ranked : (l : List ℕ) → map (entry_at volumes masses) l ≡ map shown (map (ranked_at volumes masses) l)
  unfolding shown ranked_at ranked_of entry_at entry_of
  entries-ranked [] = refl
  entries-ranked (c ∷ l) = ap (λ (t : List Entry). entry_at volumes masses c ∷ t) (entries-ranked l)

  first-ranked : (marks : List ℕ) (cells : ℕ) → map (entry_at volumes masses) (listed_of volumes masses (is_open marks) cells)
      ≡ map shown (take board_size (map (ranked_at volumes masses) (in_order (is_open marks) (cell_before volumes masses) cells)))
  unfolding listed_of
  first-ranked marks cells =
      entries-ranked (take board_size (in_order (is_open marks) (cell_before volumes masses) cells))
      ∙ ap (map shown) (sym (take-map (ranked_at volumes masses) board_size (in_order (is_open marks) (cell_before volumes masses) cells)))

module _ (volumes marks : List ℕ) (cells : ℕ) (masses masses' : List ℕ) (s : SameInOpen volumes marks cells masses masses') where
  same-ranked : (c : ℕ) → c < cells → is_open marks c ≡ true → ranked_at volumes masses c ≡ ranked_at volumes masses' c
  unfolding ranked_at
  same-ranked c h o = rw (s.agree c h o)

  same-order : map (ranked_at volumes masses) (in_order (is_open marks) (cell_before volumes masses) cells)
      ≡ map (ranked_at volumes masses') (in_order (is_open marks) (cell_before volumes masses') cells)
  unfolding cell_before
  same-order = ranked-alike comes_before (ranked_at volumes masses) (is_open marks) (ranked_at volumes masses') cells same-ranked

  pub same_entries : open_entries volumes masses marks cells ≡ open_entries volumes masses' marks cells
  unfolding entries_of
  same_entries = rw (first-ranked volumes masses marks cells, same-order, ← first-ranked volumes masses' marks cells) refl

  pub same-verdict : public_board_verdict volumes masses marks cells ≡ public_board_verdict volumes masses' marks cells
  unfolding public_board_verdict
  same-verdict = let t = same_tests s in rw (t.0, t.1)

pub nothing-told : BoardTellsNothing
nothing-told volumes marks cells masses masses' s r r' p p' =
    let v = same-verdict volumes marks cells masses masses' s in
    let t = same_entries volumes marks cells masses masses' s in
    (p.verdict_is ∙ v ∙ sym p'.verdict_is, p.used_is ∙ rw v (sym p'.used_is), p.entries_are ∙ rw (v, t) (sym p'.entries_are))
