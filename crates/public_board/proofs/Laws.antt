-- What an accepted call has passed; and that it lists the open cells that come before all other open ones.
use Prim.Native.Nat.{ℕ, ◌≤◌, ◌<◌, min}
use mathlib.Core.Path.{◌≡◌, ap}
use mathlib.Core.Bool.{true}
use mathlib.Core.List.{List, [], ◌∷◌, Memᴰ}
use lib.ListN.{length, get_or}
use Rattle.lists.specs.Marked.{count}
use Rattle.model.specs.Mesh.{ceiling}
use Rattle.model.specs.Causes.{Verdict, refused, fine, ◌and_then◌, cells_only, counts, mesh_tables, field_table, mesh_values, field_values, mesh_field_verdict}
use Rattle.model.proofs.Verdicts.{past, passes, refused-at, all-fine, fine-all, and_then-assoc}
use Rattle.public_marks.specs.Marks.{is_open, marks_long, marks_good}
use Rattle.board.specs.Board.{board_size, cell_before, Rankable}
use Rattle.board.specs.declared.BoardAnswer.{BoardAnswer}
use Rattle.board.proofs.Listed.{rank-asks, listed-ordered, unlisted-after}
use Rattle.public_board.specs.Public.{open_listed, open_entries, public_board_verdict, PublicBoardIs}
use Rattle.std.specs.Prelude.{Ok}

in_order : (l k m f g : Verdict) → l ≡ fine → (l and_then k and_then m and_then f and_then g) ≡ (k and_then (l and_then m and_then f) and_then g)
in_order l k m f g e = rw (past k e, past m e) (ap (λ (v : Verdict). v and_then g) (and_then-assoc k m f))

module _ (volumes masses marks : List ℕ) (cells : ℕ) where
  -- THE TESTS as the call makes them: first what is lent, then the marks' table, then all of the field and the marks
  pub judged-out : {k i : ℕ} → (counts (cells_only cells volumes) and_then mesh_tables (cells_only cells volumes)
      and_then field_table (cells_only cells volumes) masses) ≡ refused k i
      → public_board_verdict volumes masses marks cells ≡ refused k i
  unfolding public_board_verdict
  judged-out e = refused-at [] (_ ∷ _ ∷ _ ∷ _ ∷ []) tt e

  pub judged-on : (counts (cells_only cells volumes) and_then mesh_tables (cells_only cells volumes) and_then field_table (cells_only cells volumes) masses) ≡ fine
      → public_board_verdict volumes masses marks cells ≡ (marks_long marks cells and_then mesh_field_verdict (cells_only cells volumes) masses
      and_then marks_good marks cells)
  unfolding public_board_verdict mesh_field_verdict
  judged-on e = in_order _ _ _ _ _ e

  pub asks : public_board_verdict volumes masses marks cells ≡ fine → Rankable volumes masses cells
  unfolding public_board_verdict mesh_field_verdict
  asks e =
      let M = cells_only cells volumes in
      let p = all-fine (counts M ∷ mesh_tables M ∷ field_table M masses ∷ marks_long marks cells ∷ mesh_values ceiling M ∷ field_values M masses
      ∷ marks_good marks cells ∷ []) e in
      rank-asks volumes masses cells
      (fine-all (counts M ∷ mesh_tables M ∷ field_table M masses ∷ mesh_values ceiling M ∷ field_values M masses ∷ [])
      (p.0, (p.1.0, (p.1.1.0, (p.1.1.1.1.0, (p.1.1.1.1.1.0, tt))))))

  -- AN ACCEPTED CALL, by its contract: each open cell that is listed comes before those listed after it, and before every open cell that is not
  module _ (r : BoardAnswer) (b : PublicBoardIs volumes masses marks cells r) (d : r.verdict ≡ Ok tt) where
    volumes-some : (c : ℕ) → c < cells → 1 ≤ get_or volumes c 0
    volumes-some c h = ((asks (passes b.verdict_is d)).1 c h).0

    pub call-lists : (r.used ≡ min board_size (count cells (is_open marks))) × (r.entries ≡ open_entries volumes masses marks cells)
    call-lists = let f = passes b.verdict_is d in (rw f at b.used_is, rw f at b.entries_are)

    pub call-ordered : (i j : ℕ) → i < j → j < length (open_listed volumes masses marks cells)
        → cell_before volumes masses (get_or (open_listed volumes masses marks cells) i 0) (get_or (open_listed volumes masses marks cells) j 0) ≡ true
    call-ordered = listed-ordered volumes masses (is_open marks) cells volumes-some

    pub call-highest : {c d : ℕ} → c < cells → is_open marks c ≡ true → (Memᴰ c (open_listed volumes masses marks cells) → ⊥)
        → Memᴰ d (open_listed volumes masses marks cells) → cell_before volumes masses d c ≡ true
    call-highest = unlisted-after volumes masses (is_open marks) cells volumes-some
