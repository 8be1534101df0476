-- What a writing that is refused for nothing has passed, cause by cause: its list taken apart once, for all that rests on it.
use Prim.Native.Nat.{ℕ, ◌≤◌}
use mathlib.Core.Path.{◌≡◌}
use mathlib.Core.List.{List}
use lib.ListN.{length}
use lib.IntN.{ℤ}
use Rattle.model.specs.Mesh.{Mesh}
use Rattle.model.specs.Causes.{fine, each, counts, mesh_tables, mesh_values, field_table, field_values, outside_good, flux_good, water_of}
use Rattle.model.proofs.Verdicts.{all-fine, long-fine}
use Rattle.record_layouts.specs.Layouts.{mesh_kind, field_kind, mesh_length, field_length, step_length}
use Rattle.record_layouts.specs.declared.Width.{Width}
use Rattle.record_causes.specs.Verdicts.{most_of, no_field, releases_fit, mesh_write_causes, field_write_causes, step_write_causes, mesh_write_verdict, field_write_verdict, step_write_verdict}

module _ (w : Width) (M : Mesh) where
  pub record MeshWriteSays (room : ℕ) : Type 0 where
    pub counts_fine : counts M ≡ fine
    pub tables_fine : mesh_tables M ≡ fine
    pub enough : mesh_length (mesh_kind w) M.cells M.faces ≤ room
    pub values_fine : mesh_values (most_of w) M ≡ fine

  pub mesh-write-says : (room : ℕ) → mesh_write_verdict w M room ≡ fine → MeshWriteSays room
  unfolding mesh_write_verdict
  mesh-write-says room e =
      let p = all-fine (mesh_write_causes w M room) e in
      record { counts_fine = p.0; tables_fine = p.1.0; enough = long-fine 11 _ _ p.1.1.0; values_fine = p.1.1.1.0 }

  pub record FieldWriteSays (masses : List ℕ) (room : ℕ) : Type 0 where
    pub counts_fine : counts M ≡ fine
    pub field_table_fine : field_table M masses ≡ fine
    pub enough : field_length (field_kind w) M.cells ≤ room
    pub values_fine : mesh_values (most_of w) M ≡ fine
    pub salt-fine : field_values M masses ≡ fine

  pub field-write-says : (masses : List ℕ) (room : ℕ) → field_write_verdict w M masses room ≡ fine → FieldWriteSays masses room
  unfolding field_write_verdict
  field-write-says masses room e =
      let p = all-fine (field_write_causes w M masses room) e in
      record {
        counts_fine = p.0;
        field_table_fine = p.1.1.0;
        enough = long-fine 11 _ _ p.1.1.1.0;
        values_fine = p.1.1.1.1.0;
        salt-fine = p.1.1.1.1.1.0;
      }

  pub record StepWriteSays (kind : ℕ) (fluxes : List ℤ) (outsides releases : List ℕ) (room : ℕ) : Type 0 where
    pub counts_fine : counts M ≡ fine
    pub tables_fine : mesh_tables M ≡ fine
    pub fluxes_long : M.faces ≤ length fluxes
    pub outsides_long : M.faces ≤ length outsides
    pub enough : step_length kind M.cells M.faces M.seconds ≤ room
    pub releases_long : M.cells ≤ length releases
    pub values_fine : mesh_values (most_of w) M ≡ fine
    pub releases-fine : releases_fit kind M.cells releases ≡ fine
    pub outsides-fine : each 7 M.faces (outside_good M no_field (water_of fluxes outsides releases)) ≡ fine
    pub fluxes-fine : each 8 M.faces (flux_good (most_of w) M no_field (water_of fluxes outsides releases)) ≡ fine

  pub step-write-says : (kind : ℕ) (fluxes : List ℤ) (outsides releases : List ℕ) (room : ℕ)
      → step_write_verdict w M kind fluxes outsides releases room ≡ fine → StepWriteSays kind fluxes outsides releases room
  unfolding step_write_verdict
  step-write-says kind fluxes outsides releases room e =
      let p = all-fine (step_write_causes w M kind fluxes outsides releases room) e in
      let tables = p.1.1 in
      let values = tables.1.1.1.1 in
      record {
        counts_fine = p.0;
        tables_fine = p.1.0;
        fluxes_long = long-fine 6 _ _ tables.0;
        outsides_long = long-fine 7 _ _ tables.1.0;
        enough = long-fine 11 _ _ tables.1.1.0;
        releases_long = long-fine 14 _ _ tables.1.1.1.0;
        values_fine = values.0;
        releases-fine = values.1.0;
        outsides-fine = values.1.1.0;
        fluxes-fine = values.1.1.1.0;
      }
