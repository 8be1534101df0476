-- Document 02, S-12: the plain step of each part beside the whole's.
use Rattle.std.specs.Prelude.{ℕ, ◌≤◌, ◌≡◌, List, length, get_or, ℤ, pos}
use Rattle.signed.specs.Sign.{turn}
use Rattle.model.specs.Causes.{Outcome, accepted, fine, work_entries}
use Rattle.model.specs.Calls.{mass_in, Crossing, crossing_of, plain, step_answer, next_table, moved_table}
use Rattle.cutting_parts.specs.Cut.{Tables, Lagoon, whole_mesh, step_on, is_turned, by_cell, by_face, part_of}
use Rattle.cutting_parts.specs.Refusals.{cut_verdict}

-- what a plain step on a lagoon answers and leaves
module _ (L : Lagoon) (nexts : List ℕ) (moveds : List ℤ) (work : List ℕ) where
  abbrev pub plain_answer : Outcome Crossing
  plain_answer = step_answer plain (whole_mesh L) (step_on L nexts moveds work) L.tables.masses

  abbrev pub plain_crossing : Crossing
  plain_crossing = crossing_of (whole_mesh L) L.tables.masses (step_on L nexts moveds work)

  abbrev pub plain_next : List ℕ
  plain_next = next_table plain (whole_mesh L) (step_on L nexts moveds work) L.tables.masses

  abbrev pub plain_moved : List ℤ
  plain_moved = moved_table plain (whole_mesh L) (step_on L nexts moveds work) L.tables.masses

-- the tables of a lagoon or a part, lent at the whole's counts
pub record TablesLong (L : Lagoon) (t : Tables) : Type 0 where
  pub volumes_long : L.cells ≤ length t.volumes
  pub firsts_long : L.faces ≤ length t.firsts
  pub seconds_long : L.faces ≤ length t.seconds
  pub shares_long : L.faces ≤ length t.shares
  pub reaches_long : L.faces ≤ length t.reaches
  pub masses_long : L.cells ≤ length t.masses
  pub fluxes_long : L.faces ≤ length t.fluxes
  pub outsides_long : L.faces ≤ length t.outsides
  pub releases_long : L.cells ≤ length t.releases

-- the tables that a step on a lagoon or a part is to fill, each as long as its own counts ask
pub record LentAtCounts (L : Lagoon) (nexts : List ℕ) (moveds : List ℤ) (work : List ℕ) : Type 0 where
  pub nexts_long : L.cells ≤ length nexts
  pub moveds_long : L.faces ≤ length moveds
  pub work_long : work_entries L.cells L.faces ≤ length work

-- What the step of part p gives: next and moved masses of the whole at the old numbers, a turned face's negated.
pub record StepsAsWhole (L : Lagoon) (labels : List ℕ) (p : ℕ) (lent : Tables) (next : List ℕ) (moved : List ℤ)
    (nexts : List ℕ) (moveds : List ℤ) (work : List ℕ) : Type 0 where
  pub part_accepted : plain_answer (part_of L labels p lent) nexts moveds work ≡ accepted (plain_crossing (part_of L labels p lent) nexts moveds work)
  pub next_masses : plain_next (part_of L labels p lent) nexts moveds work ≡ by_cell L labels p (mass_in next) nexts
  pub moved_masses : plain_moved (part_of L labels p lent) nexts moveds work ≡ by_face L labels p (λ f. turn (is_turned L labels p f) (get_or moved f (pos 0))) moveds

module _ (L : Lagoon) (labels : List ℕ) (next : List ℕ) (moved : List ℤ) where
  abbrev pub PartSteps : ℕ → Tables → Type 0
  PartSteps p lent = (nexts : List ℕ) (moveds : List ℤ) (work : List ℕ) → LentAtCounts (part_of L labels p lent) nexts moveds work
      → StepsAsWhole L labels p lent next moved nexts moveds work

-- S-12: where neither the cutting nor the plain step of the whole is refused
abbrev pub S12 : Type 0
S12 = (L : Lagoon) (labels : List ℕ) (lent₀ lent₁ : Tables) → cut_verdict L labels lent₀ lent₁ ≡ fine
    → (nexts : List ℕ) (moveds : List ℤ) (work : List ℕ) (x : Crossing) → plain_answer L nexts moveds work ≡ accepted x
    → PartSteps L labels (plain_next L nexts moveds work) (plain_moved L nexts moveds work) 0 lent₀
    × PartSteps L labels (plain_next L nexts moveds work) (plain_moved L nexts moveds work) 1 lent₁
