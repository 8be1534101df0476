-- The first pass, cell by cell.
use Prim.Native.Nat.{ℕ, ◌+◌, ◌*◌, ◌/◌, ◌<◌}
use mathlib.Core.Path.{◌≡◌, ◌∙◌}
use mathlib.Core.List.{List}
use native.Mathlib.Omega.{arith}
use borrow.Author.Count.{below_none, below_more}
use lib.ListN.{length, get_or, set}
use lib.Seq.{get_or-set_same, get_or-set_other}
use Rattle.model.specs.Step.{rounded}
use Rattle.step_cell.specs.Work.{cell_filled}
use Rattle.step_cell.proofs.Filling.{filling-start, filling-turn}
use Rattle.step_raising.specs.Raising.{Concentrations}

module _ (volumes masses w : List ℕ) where
  abbrev q : ℕ → ℕ
  q = rounded volumes masses

  -- what the code divides
  abbrev level : ℕ → ℕ
  level c = get_or masses c 0 / get_or volumes c 0

  pub concentrations-start : (next : List ℕ) → Concentrations volumes masses w 0 next w
  concentrations-start next = record { next_at = below_none _; filling = filling-start w q q q (λ c. 0) }

  pub concentrations-turn : (i : ℕ) (next work next' work' : List ℕ) → i < length next → 4 * i + 3 < length w → Concentrations volumes masses w i next work
      → next' ≡ set next i (get_or masses i 0) → work' ≡ cell_filled work i (level i) (level i) (level i) 0 → Concentrations volumes masses w (i + 1) next' work'
  unfolding rounded
  concentrations-turn i next work next' work' h k s e d = record {
    next_at = rw e (below_more (λ c. get_or (set next i (get_or masses i 0)) c 0 ≡ get_or masses c 0) i
        (λ c l. get_or-set_other next i c (get_or masses i 0) 0 (λ (n : c ≡ i). omega arith) ∙ s.next_at c l) (get_or-set_same next i (get_or masses i 0) 0 h));
    filling = filling-turn w q q q (λ c. 0) i work work' k s.filling d;
  }
