-- Document 02, S-11: cause 22 of lent tables, the next masses by a claim, and what the causes before them leave true of these.
use Rattle.std.specs.Prelude.{ℕ, ◌+◌, ◌-◌, ◌*◌, ◌^◌, ◌≤◌, ◌<◌, Bool, List, ℤ, length, get_or}
use Rattle.model.specs.Mesh.{max_cells}
use Rattle.model.specs.Accepted.{max_mass}
use Rattle.model.specs.Causes.{Verdict, each}
use Rattle.model.specs.Claims.{bounds_fit}
use Rattle.check_flows.specs.Flows.{inflow, outflow}
use Rattle.step_cell.specs.Work.{of_cell}

-- what a cell holds once its release is added
abbrev pub holds : (masses releases : List ℕ) → ℕ → ℕ
holds masses releases c = get_or masses c 0 + get_or releases c 0

-- 22 of cell c, whose bounds stand in work: by what enters and leaves each cell
abbrev pub bounds_at : (volumes masses releases work : List ℕ) → (enters leaves : ℕ → ℕ) → ℕ → Bool
bounds_at volumes masses releases work enters leaves c =
    bounds_fit (get_or volumes c 0) (of_cell work c 1) (of_cell work c 2) (holds masses releases c) (enters c) (leaves c)

-- and the mass after it; by 22 what leaves is there, so that nothing is cut off
abbrev pub next_at : (masses releases : List ℕ) → (enters leaves : ℕ → ℕ) → ℕ → ℕ
next_at masses releases enters leaves c = holds masses releases c + enters c - leaves c

-- entries of a table
abbrev pub entry : List ℕ → ℕ → ℕ
entry xs c = get_or xs c 0

-- past causes 1 to 6 and 18: tables long enough, and masses small
pub record Salted (cells : ℕ) (masses releases : List ℕ) : Type 0 where
  pub few : cells ≤ max_cells
  pub masses_long : cells ≤ length masses
  pub releases_long : cells ≤ length releases
  pub small : (c : ℕ) → c < cells → holds masses releases c ≤ max_mass

-- the sums of what enters are small, as those of claims past 21
pub record Summed (cells : ℕ) (enters leaves : List ℕ) : Type 0 where
  pub enters_long : cells ≤ length enters
  pub leaves_long : cells ≤ length leaves
  pub enters_small : (c : ℕ) → c < cells → entry enters c < 2 ^ 63

-- volumes and bounds
pub record Bordered (cells : ℕ) (volumes work : List ℕ) : Type 0 where
  pub volumes_long : cells ≤ length volumes
  pub volume_some : (c : ℕ) → c < cells → 1 ≤ get_or volumes c 0
  pub work_long : 4 * cells ≤ length work

-- no cell gives what it has not, past 22
abbrev pub Affords : ℕ → (masses releases : List ℕ) → (enters leaves : ℕ → ℕ) → Type 0
Affords cells masses releases enters leaves = (c : ℕ) → c < cells → leaves c ≤ holds masses releases c + enters c

-- 22, by what a claim moves through the faces
abbrev pub bounds_verdict : (cells faces : ℕ) (volumes firsts seconds masses : List ℕ) → List ℤ → (releases work : List ℕ) → Verdict
bounds_verdict cells faces volumes firsts seconds masses claim releases work =
    each 22 cells (bounds_at volumes masses releases work (inflow faces firsts seconds claim) (outflow faces firsts seconds claim))
