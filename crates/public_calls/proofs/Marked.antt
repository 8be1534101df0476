-- What an accepted public page or board has passed says that its marks are there, 0 or 1.
use Prim.Native.Nat.{ℕ}
use mathlib.Core.Path.{◌≡◌}
use mathlib.Core.List.{List}
use borrow.Author.Tests.{leb-true}
use lib.ListN.{length}
use Rattle.model.specs.Causes.{fine}
use Rattle.model.proofs.Verdicts.{both-fine, all-fine, long-fine, each-fine}
use Rattle.public_marks.specs.Marks.{mark_good, marks_long, marks_good}
use Rattle.page.specs.Answers.{causes_with, verdict_with}
use Rattle.public_page.specs.Public.{public_page_verdict}
use Rattle.public_board.specs.Public.{public_board_verdict}
use Rattle.public_calls.specs.Marked.{AllMarked, OnlyMarked}

marked : (marks : List ℕ) (cells : ℕ) → marks_long marks cells ≡ fine → marks_good marks cells ≡ fine → AllMarked marks cells
unfolding mark_good
marked marks cells long good = record {
  there = long-fine 19 cells (length marks) long;
  open_or_withheld = λ c h. leb-true _ _ (each-fine 27 cells (mark_good marks) good c h);
}

on-page : (volumes masses marks : List ℕ) (cells page room : ℕ) → public_page_verdict volumes masses marks cells page room ≡ fine → AllMarked marks cells
unfolding public_page_verdict verdict_with
on-page volumes masses marks cells page room e =
    let p = both-fine _ _ e in
    marked marks cells (all-fine (causes_with (marks_long marks cells) volumes masses cells page room) p.0).1.1.1.1.0 p.1

on-board : (volumes masses marks : List ℕ) (cells : ℕ) → public_board_verdict volumes masses marks cells ≡ fine → AllMarked marks cells
unfolding public_board_verdict
on-board volumes masses marks cells e =
    let p = both-fine _ _ e in
    marked marks cells (both-fine _ _ (both-fine _ _ (both-fine _ _ p.0).0).0).1 p.1

pub only-marked : OnlyMarked
only-marked = record {
  page_marked = on-page;
  board_marked = on-board;
  record_page_marked = λ mesh field marks page room e. on-page _ _ marks _ page room (both-fine _ _ e).1;
  record_board_marked = λ mesh field marks shown e. on-board _ _ marks _ (both-fine _ _ (both-fine _ _ e).0).1;
}
