-- What two offices' records come to, once both read: cause 6 and the step's causes of what they hold, which is the same lagoon numbered anew.
use Prim.Native.Nat.{ℕ, ◌≤◌}
use mathlib.Core.Path.{◌≡◌, refl, sym, ap, ◌∙◌}
use mathlib.Core.Bool.{Bool, false, true≢false}
use mathlib.Core.List.{List}
use native.Mathlib.Omega.{arith}
use borrow.Author.Tests.{le-leb}
use lib.ListN.{length}
use Rattle.lists.specs.Renumbering.{Renumbering}
use Rattle.lists.specs.Table.{table}
use Rattle.lists.proofs.Tables.{length-table, get_or-table, over-all}
use Rattle.lists.proofs.Renumbered.{get_or-carried, over-carried}
use Rattle.model.specs.Mesh.{Mesh, run_cells, run_faces}
use Rattle.model.specs.Step.{next}
use Rattle.model.specs.Causes.{Verdict, fine, ◌and_then◌, Call, input_of, mesh_verdict, field_values, verdict}
use Rattle.model.specs.Calls.{mass_in, corrected}
use Rattle.model.specs.Alike.{unplaced}
use Rattle.model.proofs.Verdicts.{both-fine, need-met}
use Rattle.model.proofs.AlikeCauses.{in-turn, field-values-alike}
use Rattle.record_heads.specs.Heads.{width_in, cells_in, faces_in}
use Rattle.record_reading.specs.Reading.{mesh_in, masses_in}
use Rattle.taking_mesh.specs.MeshTaking.{mesh_record_found, mesh_judged}
use Rattle.taking_mesh.proofs.MeshLaws.{mesh-says, limits, values-left}
use Rattle.taking.specs.Taking.{field_judged, step_in, step_judged}
use Rattle.renumbered.specs.Renumbered.{is_turned, renumbered_field}
use Rattle.renumbered.proofs.Schemes.{corrected-numberless}
use Rattle.renumbered.proofs.TwoSteps.{Calls, verdict-same, masses-same}
use Rattle.renumbered.proofs.Renumbered.{alike, both}
use Rattle.renumbered_calls.specs.Anew.{new_mesh, mesh_anew, new_field, field_anew, new_call, step_anew, Reads, HeldAnew}
use Rattle.renumbered_calls.proofs.Salt.{salt-left}

-- the three records, judged one after another as the host judges them
abbrev pub judged : (mesh field step : List ℕ) → Verdict
judged mesh field step = mesh_judged mesh run_cells run_faces run_faces run_faces run_faces
    and_then field_judged (width_in mesh) (mesh_in mesh).cells (mesh_in mesh).volumes field run_cells
    and_then step_judged (width_in mesh) (mesh_in mesh) (masses_in field (mesh_in mesh).cells) step

module _ (mesh field step : List ℕ) (reads : Reads mesh field step) where
  abbrev M : Mesh
  M = mesh_in mesh

  abbrev m : List ℕ
  m = masses_in field (cells_in mesh)

  pub found : mesh_record_found mesh ≡ fine
  found = (mesh-says mesh run_cells run_faces run_faces run_faces run_faces reads.mesh_accepted).found

  pub mesh_fine : mesh_verdict M ≡ fine
  mesh_fine = values-left mesh found ∙ (mesh-says mesh run_cells run_faces run_faces run_faces run_faces reads.mesh_accepted).values

  pub masses_long : length m ≡ M.cells
  unfolding masses_in
  masses_long = length-table M.cells _

  pub few : (M.cells ≤ run_cells) × (M.faces ≤ run_faces)
  few = let l = limits mesh found in (l.few_cells, l.few_faces)

  pub judged-is : judged mesh field step ≡ (field_values M m and_then verdict M m (step_in M step))
  unfolding field_judged step_judged ◌and_then◌
  judged-is = rw (
    reads.mesh_accepted,
    reads.field_reads,
    reads.step_reads,
    need-met 2 5 (le-leb M.cells run_cells few.0),
    salt-left M m mesh_fine (omega (arith, masses_long)),
  )

module _ (mesh : List ℕ) (cell : Renumbering (cells_in mesh)) (face : Renumbering (faces_in mesh)) (turns : ℕ → Bool) (field step : List ℕ)
    (reads : Reads mesh field step) (held : HeldAnew mesh cell face turns field step) where
  abbrev M₀ : Mesh
  M₀ = mesh_in mesh

  abbrev m₀ : List ℕ
  m₀ = masses_in field (cells_in mesh)

  abbrev k₀ : Call
  k₀ = step_in M₀ step

  abbrev M₁ : Mesh
  M₁ = new_mesh mesh cell face turns

  abbrev m₁ : List ℕ
  m₁ = new_field mesh cell face turns field

  abbrev k₁ : Call
  k₁ = new_call mesh cell face turns step

  abbrev mesh' : List ℕ
  mesh' = mesh_anew mesh cell face turns

  abbrev field' : List ℕ
  field' = field_anew mesh cell face turns field

  abbrev step' : List ℕ
  step' = step_anew mesh cell face turns step

  -- whatever is said of what the second office's records hold
  pub as-held : {A : Type 0} (F : Mesh → List ℕ → Call → A)
      → (let N = mesh_in mesh' in F N (masses_in field' N.cells) (step_in N step')) ≡ F M₁ m₁ k₁
  as-held F = ap (λ (N : Mesh). F N (masses_in field' N.cells) (step_in N step')) held.mesh_held
      ∙ ap (λ (m : List ℕ). F M₁ m (step_in M₁ step')) held.field_held
      ∙ ap (F M₁ m₁) held.step_held

  calls : Calls false M₀ M₁ cell face (is_turned M₀ cell face turns) m₀ m₁ k₀ k₁
  calls = both M₀ (mesh_fine mesh field step reads) cell face turns corrected corrected-numberless m₀ k₀ k₀.nexts k₀.moveds k₀.work
      (record { nexts_same = refl; moveds_same = refl; work_same = refl })

  pub judged-alike : unplaced (judged mesh' field' step') ≡ unplaced (judged mesh field step)
  judged-alike =
      ap unplaced (judged-is _ _ _ held.reads_anew ∙ as-held (λ N m k. field_values N m and_then verdict N m k))
      ∙ in-turn false (field_values M₀ m₀) (field_values M₁ m₁) (verdict M₀ m₀ k₀) (verdict M₁ m₁ k₁) salt
      (λ e. verdict-same calls corrected corrected-numberless)
      ∙ sym (ap unplaced (judged-is mesh field step reads))
    where
      salt : unplaced (field_values M₁ m₁) ≡ unplaced (field_values M₀ m₀)
      salt = field-values-alike false M₀ M₁ cell (λ e. absurd (true≢false (sym e))) m₀ m₁ refl
          (alike M₀ (mesh_fine mesh field step reads) cell face turns).volume_same
          (get_or-carried M₀.cells cell (mass_in m₀) 0 m₀ (omega (arith, masses_long mesh field step reads)))

  -- where the first is accepted, the masses after the second step are those after the first, numbered anew
  pub next-anew : judged mesh field step ≡ fine
      → table M₀.cells (next (input_of M₁ m₁ k₁)) ≡ renumbered_field M₀ cell face turns (table M₀.cells (next (input_of M₀ m₀ k₀)))
  unfolding next
  next-anew e =
      let found = (both-fine _ _ (sym (judged-is mesh field step reads) ∙ e)).1 in
      let after = table M₀.cells (next (input_of M₀ m₀ k₀)) in
      sym (over-all M₀.cells (next (input_of M₁ m₁ k₁)) after (omega (arith, length-table M₀.cells (next (input_of M₀ m₀ k₀)))))
      ∙ over-carried M₀.cells cell (mass_in after) 0 after (next (input_of M₁ m₁ k₁))
      (λ c h. masses-same calls corrected corrected-numberless found c h ∙ sym (get_or-table M₀.cells (next (input_of M₀ m₀ k₀)) 0 c h))
      (omega (arith, length-table M₀.cells (next (input_of M₀ m₀ k₀))))
