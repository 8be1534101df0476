-- Document 02, S-12: what cutting refuses. 23 and 24 follow 5 and come before 6.
use Rattle.std.specs.Prelude.{ℕ, Bool, List, [], ◌∷◌, length, get_or, leb}
use Rattle.model.specs.Mesh.{ceiling}
use Rattle.model.specs.Causes.{Outcome, accepted, Verdict, ◌and_then◌, in_turn, granted, long, each, counts, mesh_values, field_values, raised_values, step_values}
use Rattle.cutting_parts.specs.Cut.{Tables, Lagoon, whole_mesh, whole_water, part_cells, part_faces, part_tables}

-- the labels: 0 and 1
abbrev pub parts : ℕ
parts = 2

-- the counts of both parts
pub record Sizes : Type 0 where
  pub cells₀ : ℕ
  pub faces₀ : ℕ
  pub cells₁ : ℕ
  pub faces₁ : ℕ

module _ (L : Lagoon) (labels : List ℕ) where
  abbrev pub sizes_of : Sizes
  sizes_of = record {
    cells₀ = part_cells L labels 0;
    faces₀ = part_faces L labels 0;
    cells₁ = part_cells L labels 1;
    faces₁ = part_faces L labels 1;
  }

  -- 23: a label is 0 or 1
  unfoldable pub label_good : ℕ → Bool
  label_good c = leb (get_or labels c 0) 1

  -- 24: a part has cells
  unfoldable pub part_good : ℕ → Bool
  part_good p = leb 1 (part_cells L labels p)

  abbrev pub label_causes : List Verdict
  label_causes = each 23 L.cells label_good ∷ each 24 parts part_good ∷ []

  unfoldable pub label_values : Verdict
  label_values = in_turn label_causes

  module _ (lent₀ lent₁ : Tables) where
    -- Cause 2: a table of the whole and those lent for the parts have one position, and as many entries as the whole needs. Positions are
    -- those of the step's tables; labels have 15, next after the releases.
    abbrev pub all_long : (position wanted : ℕ) (has : Tables → ℕ) → Verdict
    all_long position wanted has = in_turn (long position wanted (has L.tables) ∷ long position wanted (has lent₀) ∷ long position wanted (has lent₁) ∷ [])

    abbrev pub cut_lengths : List Verdict
    cut_lengths =
        all_long 0 L.cells (λ t. length t.volumes)
        ∷ all_long 1 L.faces (λ t. length t.firsts)
        ∷ all_long 2 L.faces (λ t. length t.seconds)
        ∷ all_long 3 L.faces (λ t. length t.shares)
        ∷ all_long 4 L.faces (λ t. length t.reaches)
        ∷ all_long 5 L.cells (λ t. length t.masses)
        ∷ all_long 6 L.faces (λ t. length t.fluxes)
        ∷ all_long 7 L.faces (λ t. length t.outsides)
        ∷ all_long 14 L.cells (λ t. length t.releases)
        ∷ long 15 L.cells (length labels)
        ∷ []

    unfoldable pub cut_tables : Verdict
    cut_tables = in_turn cut_lengths

    abbrev pub cut_causes : List Verdict
    cut_causes =
        counts (whole_mesh L)
        ∷ cut_tables
        ∷ mesh_values ceiling (whole_mesh L)
        ∷ label_values
        ∷ field_values (whole_mesh L) L.tables.masses
        ∷ raised_values (whole_mesh L) L.tables.masses (whole_water L)
        ∷ step_values ceiling (whole_mesh L) L.tables.masses (whole_water L)
        ∷ []

    unfoldable pub cut_verdict : Verdict
    cut_verdict = in_turn cut_causes

    -- the answer: cells and faces of part 0, then of part 1
    unfoldable pub cut_answer : Outcome Sizes
    cut_answer = cut_verdict and_then accepted sizes_of

    -- and the tables of part p are written, where nothing is refused
    abbrev pub cut_into : ℕ → Tables → Tables
    cut_into p lent = granted cut_verdict (part_tables L labels p lent) lent
