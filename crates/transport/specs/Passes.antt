-- What all passes of a step come to: document 01, "One step", and "Tables lent to a step".
use Rattle.std.specs.Prelude.{ℕ, ◌+◌, ◌*◌, ◌≡◌, List, Bool, true, ℤ}
use Rattle.lists.specs.Table.{table, over}
use Rattle.model.specs.Mesh.{updated}
use Rattle.model.specs.Step.{StepInput, mass, in_mass, out_mass}

-- after all passes of a scheme that moves the amounts x, on tables as long as the counts; work may be one that nobody sees
pub record Advanced (S : StepInput) (x : ℕ → ℤ) (lasting : Bool) (entered gone : ℕ) (next₁ : List ℕ) (moved₁ : List ℤ) (work₁ : List ℕ) : Type 0 where
  pub entered_is : entered ≡ in_mass S
  pub gone_is : gone ≡ out_mass S
  pub next_is : next₁ ≡ table S.mesh.cells (updated S.mesh (mass S) x)
  pub moved_is : moved₁ ≡ table S.mesh.faces x
  pub work_is : lasting ≡ true → work₁ ≡ table (4 * S.mesh.cells + S.mesh.faces) (λ i. 0)

-- the same, on longer tables
pub record AdvancedOver (S : StepInput) (x : ℕ → ℤ) (lasting : Bool) (entered gone : ℕ)
    (next₀ next₁ : List ℕ) (moved₀ moved₁ : List ℤ) (work₀ work₁ : List ℕ) : Type 0 where
  pub entered_is : entered ≡ in_mass S
  pub gone_is : gone ≡ out_mass S
  pub next_is : next₁ ≡ over (table S.mesh.cells (updated S.mesh (mass S) x)) next₀
  pub moved_is : moved₁ ≡ over (table S.mesh.faces x) moved₀
  pub work_is : lasting ≡ true → work₁ ≡ over (table (4 * S.mesh.cells + S.mesh.faces) (λ i. 0)) work₀
