-- Document 02, S-14: the marks, position 19. A cell marked 0 is open, one marked 1 is withheld.
use Rattle.std.specs.Prelude.{ℕ, ◌<◌, ◌≡◌, Bool, true, List, eqb, leb, length, get_or}
use Rattle.model.specs.Causes.{Verdict, fine, long, each, cells_only, field_verdict}
use Rattle.model.specs.Calls.{mass_in}

module _ (marks : List ℕ) where
  unfoldable pub is_open : ℕ → Bool
  is_open c = eqb (get_or marks c 0) 0

  -- 27: another mark; its place is the cell
  unfoldable pub mark_good : ℕ → Bool
  mark_good c = leb (get_or marks c 0) 1

  abbrev pub marks_long : ℕ → Verdict
  marks_long cells = long 19 cells (length marks)

  abbrev pub marks_good : ℕ → Verdict
  marks_good cells = each 27 cells mark_good

-- Two accepted fields on one mesh, of which the cells alone are lent, that agree in open cells. The tables may differ in length and past the counts.
pub record SameInOpen (volumes marks : List ℕ) (cells : ℕ) (masses masses' : List ℕ) : Type 0 where
  pub one_accepted : field_verdict (cells_only cells volumes) masses ≡ fine
  pub other_accepted : field_verdict (cells_only cells volumes) masses' ≡ fine
  pub agree : (c : ℕ) → c < cells → is_open marks c ≡ true → mass_in masses c ≡ mass_in masses' c
