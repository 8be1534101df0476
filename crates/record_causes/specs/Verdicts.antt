-- Document 01, "Causes", of writing: what writing a record refuses. Causes 1 to 8 apply, and to a step 18; the writers of a field and of a step are lent the
-- mesh's tables too. Document 02, S-6: the writer of a step is told its kind and lent the releases. S-10: all writers are told the width; those of the old
-- kinds refuse above 4,095 by 3, 5 and 8.
use Rattle.std.specs.Prelude.{List, [], ◌∷◌, ◌++◌, Bool, ℕ, ◌^◌, ltb, length, get_or, ℤ}
use Rattle.model.specs.Mesh.{Mesh, ceiling, old_ceiling}
use Rattle.model.specs.Causes.{Verdict, in_turn, each, long, bytes_long, water_of, counts, mesh_tables, mesh_values, field_table, field_values, outside_good, flux_good}
use Rattle.record_layouts.specs.Layouts.{mesh_kind, field_kind, release_bits, mesh_length, field_length, step_length}
use Rattle.record_layouts.specs.declared.Width.{Width}
use Rattle.record_layouts.specs.declared.Width.TheVariants.{Narrow, Wide}

-- S-6, 18 of a writer: a release that its field holds, in kind 3 none but 0. It is lent no masses and does not judge the raised q.
abbrev pub release_fits : (kind r : ℕ) → Bool
release_fits kind r = ltb r (2 ^ release_bits kind)

abbrev pub releases_fit : (kind cells : ℕ) → List ℕ → Verdict
releases_fit kind cells releases = each 18 cells (λ c. release_fits kind (get_or releases c 0))

-- S-10: the ceiling of 3, 5 and 8 in records of a width
abbrev pub most_of : Width → ℕ
most_of Narrow = old_ceiling
most_of Wide = ceiling

-- 7 and 8 look at mesh and water alone: the field that their tests take is none, since a writer is lent no masses.
abbrev pub no_field : List ℕ
no_field = []

-- Cause 2 of a step: its tables, and the bytes among them.
abbrev pub step_room_causes : Mesh → (kind : ℕ) → List ℤ → List ℕ → List ℕ → ℕ → List Verdict
step_room_causes M kind fluxes outsides releases room =
    long 6 M.faces (length fluxes)
    ∷ long 7 M.faces (length outsides)
    ∷ bytes_long (step_length kind M.cells M.faces M.seconds) room
    ∷ long 14 M.cells (length releases)
    ∷ []

-- The lowest cause that applies to a record that is written into so many bytes: too few bytes stand among the tables.
module _ (w : Width) (M : Mesh) where
  abbrev pub mesh_write_causes : ℕ → List Verdict
  mesh_write_causes room =
      counts M
      ∷ mesh_tables M
      ∷ bytes_long (mesh_length (mesh_kind w) M.cells M.faces) room ∷ mesh_values (most_of w) M
      ∷ []

  unfoldable pub mesh_write_verdict : ℕ → Verdict
  mesh_write_verdict room = in_turn (mesh_write_causes room)

  abbrev pub field_write_causes : List ℕ → ℕ → List Verdict
  field_write_causes masses room =
      counts M
      ∷ mesh_tables M
      ∷ field_table M masses
      ∷ bytes_long (field_length (field_kind w) M.cells) room
      ∷ mesh_values (most_of w) M
      ∷ field_values M masses
      ∷ []

  unfoldable pub field_write_verdict : List ℕ → ℕ → Verdict
  field_write_verdict masses room = in_turn (field_write_causes masses room)

  -- 18 comes before 7
  abbrev pub step_write_causes : (kind : ℕ) → List ℤ → List ℕ → List ℕ → ℕ → List Verdict
  step_write_causes kind fluxes outsides releases room =
      counts M
      ∷ mesh_tables M
      ∷ step_room_causes M kind fluxes outsides releases room
      ++ (mesh_values (most_of w) M ∷ releases_fit kind M.cells releases
      ∷ each 7 M.faces (outside_good M no_field (water_of fluxes outsides releases))
      ∷ each 8 M.faces (flux_good (most_of w) M no_field (water_of fluxes outsides releases))
      ∷ [])

  unfoldable pub step_write_verdict : (kind : ℕ) → List ℤ → List ℕ → List ℕ → ℕ → Verdict
  step_write_verdict kind fluxes outsides releases room = in_turn (step_write_causes kind fluxes outsides releases room)
