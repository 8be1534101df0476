-- What is found of a cutting of records before the room: of the mesh with its labels, and then what is found of a step. So 23 and 24 follow 5 and come
-- before 6, and a lagoon whose step is accepted is cut by any labels that pass.
use Prim.Native.Nat.{ℕ, ◌≤◌}
use mathlib.Core.Path.{◌≡◌, ◌∙◌}
use mathlib.Core.List.{List, [], ◌∷◌}
use native.Mathlib.Omega.{arith}
use lib.IntN.{ℤ, pos}
use lib.ListN.{length}
use Rattle.lists.proofs.Tables.{length-table}
use Rattle.model.specs.Mesh.{Mesh, run_cells, run_faces, ceiling}
use Rattle.model.specs.Causes.{fine, ◌and_then◌, Call, in_turn, long, work_entries, cells_only, counts, mesh_tables, mesh_values, mesh_verdict, mesh_field_verdict, field_table, salt_good, field_values, step_lengths, step_tables, raised_good, raised_values, outside_good, flux_good, balance_good, outflow_good, step_values, verdict}
use Rattle.model.proofs.Verdicts.{both-fine, all-fine, fine-all, long-fine, long-met}
use Rattle.cutting_parts.specs.Cut.{Lagoon}
use Rattle.cutting_parts.specs.Refusals.{label_good, part_good, label_values, cut_lengths, cut_tables, cut_verdict}
use Rattle.record_heads.specs.Heads.{width_in}
use Rattle.record_reading.specs.Reading.{mesh_in, fluxes_in, outsides_in}
use Rattle.taking_mesh.specs.MeshTaking.{mesh_record_found, mesh_judged}
use Rattle.record_reading.proofs.ReadLaws.{mesh_cut}
use Rattle.taking_mesh.proofs.MeshLaws.{limits, values-left}
use Rattle.taking.specs.Taking.{blank, field_judged, step_in, step_record_found, step_judged}
use Rattle.taking.proofs.KindThree.{all_there}
use Rattle.host_tested.specs.Tested.{field_tested, field_in}
use Rattle.host_cut_promises.specs.Cut.{own_part, labels_find, labelled, lagoon_in, cut_tested}
use Rattle.host_cut_promises.specs.Inner.{cut_finds, cut_judged, cut_taken}
use Rattle.host_cut_promises.proofs.Room.{length-blank, after_same}

module _ (mesh field step labels : List ℕ) (labels-pass : labelled mesh labels ≡ fine) (records-pass : field_tested mesh field ≡ fine) where
  abbrev L : Lagoon
  L = lagoon_in mesh field step

  abbrev M : Mesh
  M = mesh_in mesh

  abbrev masses : List ℕ
  masses = field_in mesh field

  abbrev k : Call
  k = step_in M step

  found : (mesh_record_found mesh ≡ fine) × (mesh_values ceiling M ≡ fine)
  unfolding mesh_judged
  found = let e = both-fine _ _ (both-fine _ _ records-pass).0 in ((both-fine _ _ e.0).0, e.1)

  mesh_fine : (counts M ≡ fine) × (mesh_tables M ≡ fine)
  unfolding mesh_verdict
  mesh_fine = let e = all-fine (counts M ∷ mesh_tables M ∷ mesh_values ceiling M ∷ []) (values-left mesh found.0 ∙ found.1) in (e.0, e.1.0)

  field_fine : (field_table M masses ≡ fine) × (field_values M masses ≡ fine)
  unfolding field_judged mesh_field_verdict field_table field_values salt_good
  field_fine =
      let e = (both-fine _ _ (both-fine _ _ records-pass).1).1 in
      let O = cells_only M.cells M.volumes in
      let a = all-fine (counts O ∷ mesh_tables O ∷ field_table O masses ∷ mesh_values ceiling O ∷ field_values O masses ∷ []) e in
      (a.1.1.0, a.1.1.1.1.0)

  masses_long : M.cells ≤ length masses
  unfolding field_table
  masses_long = long-fine 5 _ _ field_fine.0

  fluxes_long : M.faces ≤ length (fluxes_in step M.faces)
  unfolding fluxes_in
  fluxes_long = let e : length (fluxes_in step M.faces) ≡ M.faces = length-table _ _ in omega (arith, e)

  outsides_long : M.faces ≤ length (outsides_in step M.faces M.seconds)
  unfolding outsides_in
  outsides_long = let e : length (outsides_in step M.faces M.seconds) ≡ M.faces = length-table _ _ in omega (arith, e)

  -- a table of the call's own
  own-long : {A : Type 0} (x : A) {n m : ℕ} → n ≤ m → n ≤ length (blank m x)
  own-long x {m = m} h = rw (length-blank m x) h

  labels-fine : (long 15 L.cells (length labels) ≡ fine) × (label_values L labels ≡ fine)
  unfolding labels_find label_values label_good part_good
  labels-fine = both-fine _ _ (both-fine _ _ labels-pass).1

  three : (position wanted a b c : ℕ) → wanted ≤ a → wanted ≤ b → wanted ≤ c
      → in_turn (long position wanted a ∷ long position wanted b ∷ long position wanted c ∷ []) ≡ fine
  three position wanted a b c x y z = fine-all (long position wanted a ∷ long position wanted b ∷ long position wanted c ∷ [])
      (long-met position wanted a x, (long-met position wanted b y, (long-met position wanted c z, tt)))

  cut-tables-fine : cut_tables L labels own_part own_part ≡ fine
  unfolding cut_tables
  cut-tables-fine =
      let m = mesh_cut mesh in
      let l = limits mesh found.0 in
      let c : M.cells ≤ length {A = ℕ} (blank run_cells 0) = own-long {A = ℕ} 0 l.few_cells in
      let f : M.faces ≤ length {A = ℕ} (blank run_faces 0) = own-long {A = ℕ} 0 l.few_faces in
      let z : M.faces ≤ length {A = ℤ} (blank run_faces (pos 0)) = own-long {A = ℤ} (pos 0) l.few_faces in
      fine-all (cut_lengths L labels own_part own_part) (
        three 0 _ _ _ _ (omega (arith, m.volumes_cut)) c c,
        (
          three 1 _ _ _ _ (omega (arith, m.firsts_cut)) f f,
          (
            three 2 _ _ _ _ (omega (arith, m.seconds_cut)) f f,
            (
              three 3 _ _ _ _ (omega (arith, m.shares_cut)) f f,
              (
                three 4 _ _ _ _ (omega (arith, m.reaches_cut)) f f,
                (
                  three 5 _ _ _ _ masses_long c c,
                  (
                    three 6 _ _ _ _ fluxes_long z z,
                    (three 7 _ _ _ _ outsides_long f f, (three 14 _ _ _ _ (all_there M step) c c, (labels-fine.0, tt))),
                  ),
                ),
              ),
            ),
          ),
        ),
      )

  step_tables_fine : step_tables M masses k ≡ fine
  unfolding step_tables
  step_tables_fine =
      let l = limits mesh found.0 in
      let w : work_entries M.cells M.faces ≤ work_entries run_cells run_faces = omega (arith, l.few_cells, l.few_faces) in
      fine-all (step_lengths M.cells M.faces k) (
        long-met 6 _ _ fluxes_long,
        (
          long-met 7 _ _ outsides_long,
          (
            long-met 8 _ _ (own-long {A = ℕ} 0 l.few_cells),
            (
              long-met 9 _ _ (own-long {A = ℤ} (pos 0) l.few_faces),
              (long-met 10 _ _ (own-long {A = ℕ} 0 w), (long-met 14 _ _ (all_there M step), tt)),
            ),
          ),
        ),
      )

  same-causes : cut_finds L labels ≡ verdict M masses k
  unfolding cut_verdict verdict raised_values raised_good step_values outside_good flux_good balance_good outflow_good ◌and_then◌
  same-causes = rw (mesh_fine.0, mesh_fine.1, cut-tables-fine, step_tables_fine, found.1, labels-fine.1, field_fine.0, field_fine.1)

pub cut-as-step : (mesh field step labels : List ℕ) → cut_taken mesh field step labels ≡ cut_tested mesh field step labels
unfolding cut_judged step_judged
cut-as-step mesh field step labels = after_same (labelled mesh labels) (λ l. after_same (field_tested mesh field) (λ r.
    after_same (step_record_found (width_in mesh) (mesh_in mesh) step) (λ s. same-causes mesh field step labels l r)))
