-- The state of the pass that raises a field: document 02, S-6, and document 01, "Mesh, water and salt", item 5, as far as cells have been passed.
use Rattle.std.specs.Prelude.{ℕ, ◌<◌, ◌≡◌, List, get_or}
use Rattle.model.specs.Step.{rounded}
use Rattle.step_cell.specs.Work.{Filling}

-- Pass 1 on the raised masses, after the cells below i: next masses are these, and a cell's entries are q three times
pub record Concentrations (volumes masses w : List ℕ) (i : ℕ) (next work : List ℕ) : Type 0 where
  pub next_at : (c : ℕ) → c < i → get_or next c 0 ≡ get_or masses c 0
  pub filling : let q : ℕ → ℕ = rounded volumes masses in Filling w q q q (λ c. 0) i work
