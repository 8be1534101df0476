-- Document 02, S-12: the causes of cutting in two groups, counts and lengths, and values.
use Rattle.std.specs.Prelude.{ℕ, List, [], ◌∷◌}
use Rattle.model.specs.Mesh.{max_cells, max_faces, ceiling}
use Rattle.model.specs.Causes.{Verdict, ◌and_then◌, in_turn, long, counts_within, mesh_values, field_values, raised_values, step_values}
use Rattle.cutting_parts.specs.Cut.{Lagoon, whole_mesh, whole_water}
use Rattle.cutting_parts.specs.Refusals.{label_values}

-- three tables of one position, by their lengths
abbrev pub three : (position wanted a b c : ℕ) → Verdict
three position wanted a b c = in_turn (long position wanted a ∷ long position wanted b ∷ long position wanted c ∷ [])

unfoldable pub values_found : Lagoon → List ℕ → Verdict
values_found L labels = in_turn (mesh_values ceiling (whole_mesh L)
    ∷ label_values L labels
    ∷ field_values (whole_mesh L) L.tables.masses
    ∷ raised_values (whole_mesh L) L.tables.masses (whole_water L)
    ∷ step_values ceiling (whole_mesh L) L.tables.masses (whole_water L)
    ∷ [])

-- causes 1 and 2, of the lengths in the order of the positions: of each kind the whole's table and the parts', then the labels
abbrev pub lengths_found : (cells faces v v0 v1 f f0 f1 s s0 s1 h h0 h1 k k0 k1 m m0 m1 u u0 u1 o o0 o1 r r0 r1 labels : ℕ) → Verdict
lengths_found cells faces v v0 v1 f f0 f1 s s0 s1 h h0 h1 k k0 k1 m m0 m1 u u0 u1 o o0 o1 r r0 r1 labels = counts_within max_cells max_faces cells faces
    and_then in_turn (three 0 cells v v0 v1
    ∷ three 1 faces f f0 f1
    ∷ three 2 faces s s0 s1
    ∷ three 3 faces h h0 h1
    ∷ three 4 faces k k0 k1
    ∷ three 5 cells m m0 m1
    ∷ three 6 faces u u0 u1
    ∷ three 7 faces o o0 o1
    ∷ three 14 cells r r0 r1
    ∷ long 15 cells labels
    ∷ [])
