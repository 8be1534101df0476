-- Document 01, "Tables lent to a step": the host's call judges each record as the run does, in the tables that the run lends. Those are as
-- long as its limits and hold the mesh and the field in their first entries; what stands past the counts means nothing.
use Prim.Native.Nat.{ℕ, ◌≤◌, ◌<◌}
use mathlib.Core.Path.{◌≡◌, refl, sym, ◌∙◌}
use mathlib.Core.List.{List}
use native.Mathlib.Omega.{arith}
use borrow.Author.Tests.{le-leb}
use lib.ListN.{length, get_or}
use Rattle.lists.specs.Table.{table, over}
use Rattle.lists.proofs.Tables.{length-table, get_or-table, length_over, get_d_over}
use Rattle.model.specs.Mesh.{Mesh, mesh_of, run_cells, run_faces}
use Rattle.model.specs.Meshes.{over_mesh, at_counts, MeshCut}
use Rattle.model.specs.Accepted.{MeshLent}
use Rattle.model.specs.Alike.{AgreeMesh, AgreeCall}
use Rattle.model.specs.Causes.{fine, long, cells_only, counts, mesh_tables, mesh_verdict, field_table, field_values, field_verdict, step_tables, mesh_field_verdict}
use Rattle.model.proofs.Verdicts.{need-met}
use Rattle.model.proofs.Accepted.{lent-mesh, field_fit, field-passed, field_accepted}
use Rattle.model.proofs.Parts.{cut-lent, over-lent, over-agrees}
use Rattle.model.proofs.Agree.{mesh-values-agree, field-values-agree, verdict-agree}
use Rattle.record_heads.specs.Heads.{width_in, cells_in, faces_in}
use Rattle.record_reading.specs.Reading.{volumes_in, seconds_in, mesh_in, masses_in, outsides_in, releases_in}
use Rattle.record_reading.proofs.ReadLaws.{mesh_cut}
use Rattle.taking_mesh.specs.MeshTaking.{mesh_judged, mesh_judged_in_run}
use Rattle.taking.specs.Taking.{field_judged, step_in, step_record_found, step_judged}
use Rattle.taking_mesh.proofs.MeshLaws.{MeshSays, mesh-says, limits, values-left}
use Rattle.taking.proofs.FieldLaws.{field-says}
use Rattle.host_tested.specs.Tested.{field_alone, step_alone}
use Rattle.promises.proofs.Counted.{outsides-same, releases-same, found-same}

-- a table read into a longer one: its length, and its counted entries
held-long : (n : ℕ) (f : ℕ → ℕ) (ys : List ℕ) → n ≤ length ys → n ≤ length (over (table n f) ys)
held-long n f ys l = omega (arith, length_over n f ys l)

held_same : (n : ℕ) (f : ℕ → ℕ) (ys : List ℕ) (i : ℕ) → i < n → get_or (over (table n f) ys) i 0 ≡ get_or (table n f) i 0
held_same n f ys i h = get_d_over n f ys 0 i h ∙ sym (get_or-table n f 0 i h)

enough : (i : ℕ) {n m k : ℕ} → (n ≤ k) × (n ≤ m) → long i n m ≡ long i n k
enough i {n = n} {m = m} {k = k} l = need-met 2 i (le-leb n m l.1) ∙ sym (need-met 2 i (le-leb n k l.0))

full : (n : ℕ) (f : ℕ → ℕ) → n ≤ length (table n f)
full n f = omega (arith, length-table n f)

-- the run's tables, whatever they held
module _ (mesh field step : List ℕ) (tables : Mesh) (masses : List ℕ)
    (long : MeshCut (mesh_of run_cells run_faces tables.volumes tables.firsts tables.seconds tables.shares tables.reaches))
    (lm : length masses ≡ run_cells) where
  pub mesh-as-the-run : mesh_judged mesh (length tables.volumes) (length tables.firsts) (length tables.seconds) (length tables.shares)
      (length tables.reaches) ≡ mesh_judged_in_run mesh
  mesh-as-the-run = rw (← long.volumes_cut, ← long.firsts_cut, ← long.seconds_cut, ← long.shares_cut, ← long.reaches_cut)

  -- what they hold of an accepted mesh, and of a field on it
  abbrev pub lent : Mesh
  lent = at_counts (mesh_in mesh) (over_mesh (mesh_in mesh) tables)

  abbrev pub lent_field : List ℕ
  lent_field = over (masses_in field (cells_in mesh)) masses

  module _ (mesh_fine : mesh_judged_in_run mesh ≡ fine) where
    passed : MeshSays mesh run_cells run_faces run_faces run_faces run_faces
    passed = mesh-says mesh run_cells run_faces run_faces run_faces run_faces mesh_fine

    agrees : AgreeMesh (mesh_in mesh) lent
    agrees = over-agrees (mesh_in mesh) tables (mesh_cut mesh)

    lent-long : MeshLent lent
    lent-long = over-lent (mesh_in mesh) tables (mesh_cut mesh)

    whole_long : MeshLent (mesh_in mesh)
    whole_long = cut-lent (mesh_cut mesh)

    pub masses_long : (cells_in mesh ≤ length (masses_in field (cells_in mesh))) × (cells_in mesh ≤ length lent_field)
    unfolding masses_in
    masses_long = (full _ _, held-long _ _ masses (omega (arith, lm, (limits mesh passed.found).few_cells)))

    tables_same : mesh_tables lent ≡ mesh_tables (mesh_in mesh)
    tables_same = lent-mesh lent lent-long ∙ sym (lent-mesh (mesh_in mesh) whole_long)

    -- the mesh in the run's tables is an accepted one
    pub lent_fine : mesh_verdict lent ≡ fine
    unfolding mesh_verdict counts
    lent_fine =
        let whole : mesh_verdict (mesh_in mesh) ≡ fine = values-left mesh passed.found ∙ passed.values in
        rw (tables_same, mesh-values-agree (mesh_in mesh) lent agrees) whole

    cells_agree : AgreeMesh (cells_only (cells_in mesh) (volumes_in mesh)) (cells_only (cells_in mesh) lent.volumes)
    cells_agree = record {
      cells_same = refl;
      faces_same = refl;
      volumes = agrees.volumes;
      firsts = λ f l. refl;
      seconds = λ f l. refl;
      shares = λ f l. refl;
      reaches = λ f l. refl;
    }

    cells-tables : mesh_tables (cells_only (cells_in mesh) lent.volumes) ≡ mesh_tables (cells_only (cells_in mesh) (volumes_in mesh))
    unfolding mesh_tables
    cells-tables = rw (enough 0 (whole_long.volumes_long, lent-long.volumes_long))

    pub field-as-the-run : field_judged (width_in mesh) (cells_in mesh) lent.volumes field (length masses) ≡ field_alone mesh field
    unfolding field_judged mesh_field_verdict counts field_table
    field-as-the-run = rw (
      lm,
      cells-tables,
      mesh-values-agree _ _ cells_agree,
      field-values-agree _ _ cells_agree (masses_in field (cells_in mesh)) (masses_in field (cells_in mesh)) (λ c h. refl),
    )

    -- and so is a field on it
    pub lent-field-fine : field_alone mesh field ≡ fine → field_verdict lent lent_field ≡ fine
    unfolding masses_in
    lent-field-fine e =
        let salt : field_values (cells_only (cells_in mesh) (volumes_in mesh)) (masses_in field (cells_in mesh)) ≡ fine =
        (field-passed (field-says (width_in mesh) (cells_in mesh) (volumes_in mesh) field run_cells e).values).field_fine in
        field_accepted lent lent_field masses_long.1
        (λ c h. rw (held_same _ _ masses c h, agrees.volumes c h)
        (field_fit (cells_only (cells_in mesh) (volumes_in mesh)) (masses_in field (cells_in mesh)) salt c h))

    seconds-same : (f : ℕ) → f < faces_in mesh → get_or lent.seconds f 0 ≡ get_or (seconds_in mesh) f 0
    seconds-same = agrees.seconds

    outsides-are : outsides_in step (faces_in mesh) lent.seconds ≡ outsides_in step (faces_in mesh) (seconds_in mesh)
    outsides-are = outsides-same step (cells_in mesh) (faces_in mesh) (seconds_in mesh) lent.seconds seconds-same

    releases-are : releases_in step (cells_in mesh) (faces_in mesh) lent.seconds
        ≡ releases_in step (cells_in mesh) (faces_in mesh) (seconds_in mesh)
    releases-are = releases-same step (cells_in mesh) (faces_in mesh) (seconds_in mesh) lent.seconds seconds-same

    step-agrees : AgreeCall (mesh_in mesh) lent (masses_in field (cells_in mesh)) lent_field (step_in (mesh_in mesh) step) (step_in lent step)
    unfolding masses_in
    step-agrees = record {
      mesh_agrees = agrees;
      masses = held_same _ _ masses;
      fluxes = λ f l. refl;
      outsides = λ f l. rw outsides-are;
      releases = λ c h. rw releases-are;
    }

    field-lent : field_table lent lent_field ≡ field_table (mesh_in mesh) (masses_in field (cells_in mesh))
    unfolding field_table
    field-lent = enough 5 masses_long

    call-lent : step_tables lent lent_field (step_in lent step) ≡ step_tables (mesh_in mesh) (masses_in field (cells_in mesh)) (step_in (mesh_in mesh) step)
    unfolding step_tables
    call-lent = rw (outsides-are, releases-are)

    pub step-as-the-run : step_judged (width_in mesh) lent lent_field step ≡ step_alone mesh field step
    unfolding step_judged step_record_found
    step-as-the-run = rw (
      found-same step (cells_in mesh) (faces_in mesh) (seconds_in mesh) lent.seconds seconds-same (width_in mesh) whole_long.seconds_long
          lent-long.seconds_long,
      verdict-agree (mesh_in mesh) lent (masses_in field (cells_in mesh)) lent_field (step_in (mesh_in mesh) step) (step_in lent step) step-agrees tables_same
          field-lent call-lent,
    )
