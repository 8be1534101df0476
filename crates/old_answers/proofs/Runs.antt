-- What a run prints of a session whose mesh record is narrow: record by record, and the steps by induction.
use Prim.Native.Nat.{ℕ, zero, suc, ◌+◌, ◌≤◌}
use mathlib.Core.Path.{◌≡◌, refl, sym, ap, ◌∙◌}
use mathlib.Core.Logic.{◌≢◌}
use mathlib.Core.Bool.{cond}
use mathlib.Core.List.{List, [], ◌∷◌, ◌++◌, map}
use native.Mathlib.Omega.{arith}
use lib.ListN.{length, take, length-take}
use Rattle.lists.specs.Table.{table}
use Rattle.lists.proofs.Tables.{get_d_over, get_or-table}
use Rattle.model.specs.Mesh.{Mesh, run_cells, run_faces, total}
use Rattle.model.specs.Step.{next}
use Rattle.model.specs.Causes.{Outcome, accepted, refused, Verdict, fine, ◌and_then◌, granted, Call, cells_only, input_of}
use Rattle.model.specs.Calls.{mass_in}
use Rattle.model.specs.Ceilings.{MeshSmall}
use Rattle.record_bits.specs.Field.{bit_at, bits_at}
use Rattle.record_bits.specs.Layout.{bytes_for}
use Rattle.record_sections.specs.Sections.{entry_in}
use Rattle.record_heads.specs.Heads.{kind_in, width_in, cells_in, faces_in, bytes_of, mesh_needs}
use Rattle.record_layouts.specs.declared.Width.{Width}
use Rattle.record_layouts.specs.declared.Width.TheVariants.{Narrow}
use Rattle.record_heads.proofs.HeadLaws.{bytes-alone}
use Rattle.record_reading.specs.Reading.{volumes_in, reaches_in, shape_in, mesh_in, counts_in, masses_in}
use Rattle.board.specs.Board.{entry_at, listed}
use Rattle.taking.specs.Taking.{step_in, printed_of}
use Rattle.model.specs.declared.Printed.{Printed}
use Rattle.run_lines.specs.Lines.{step_line}
use Rattle.run_intake.specs.Intake.{still_needed, record_at}
use Rattle.run_board.specs.BoardLines.{board_lines}
use Rattle.run_session.specs.Session.{step_text, goes_on_after}
use Rattle.run_printed.specs.Run.{in_table, in_tables, following, board_printed, step_comes_to, field_then, steps_printed, field_said, from_field, field_printed, run_mesh, mesh_said_of, from_mesh, printed}
use Rattle.old_answers.specs.Before.{old_mesh_in, old_step_in, old_mesh_needs, old_mesh_judged, old_field_judged, old_step_judged}
use Rattle.old_answers.specs.BeforeRun.{old_mesh_at, old_field_at, old_step_at, old_board_printed, old_step_said, old_field_then, old_steps_printed, old_from_field, old_field_printed, old_from_mesh, old_printed}
use Rattle.old_answers.proofs.Outcomes.{same_after, filled}
use Rattle.old_answers.proofs.Records.{mesh-measured, mesh-narrow, mesh-in, old-small, field-needs, step-needs}
use Rattle.old_answers.proofs.Taken.{judged-kind-one, mesh-judged, cells-verdict, field-judged, judged-masses, judged-step-in, step-judged}

-- a record whose head asks for the same is the same
record_same : (head : ℕ) (needs also : List ℕ → Outcome ℕ) (input : List ℕ) → needs (take head input) ≡ also (take head input) → record_at head needs input
    ≡ record_at head also input
unfolding record_at
record_same head needs also input e = ap (λ (o : Outcome ℕ). take (length (take head input) + still_needed o (length (take head input))) input) e

module _ (M : Mesh) (s : MeshSmall M) where
  board-same : (masses : List ℕ) → board_printed M masses ≡ old_board_printed M masses
  unfolding board_printed old_board_printed
  board-same masses = ap (λ (v : Verdict). granted v (board_lines (map (entry_at M.volumes masses) (listed M.volumes masses M.cells))) [])
      (cells-verdict M.cells M.volumes s.small_volumes masses)

  said_same : (masses bs : List ℕ) → step_comes_to Narrow M masses bs ≡ old_step_said M masses bs
  said_same masses bs = ap (λ (v : Verdict). v and_then accepted (printed_of M masses (step_in M bs))) (step-judged M bs masses s)
      ∙ same_after (old_step_judged M masses bs) (accepted (printed_of M masses (step_in M bs))) (accepted (printed_of M masses (old_step_in M bs)))
      (λ h. ap (λ (k : Call). accepted (printed_of M masses k)) (judged-step-in M bs masses h))

  then_same : (masses bs : List ℕ) → field_then Narrow M masses bs ≡ old_field_then M masses bs
  then_same masses bs = filled masses (step-judged M bs masses s)
      (λ h. ap (λ (k : Call). table M.cells (next (input_of M masses k))) (judged-step-in M bs masses h)) refl

  steps-same : (most step : ℕ) (masses input : List ℕ) → steps_printed Narrow M most step masses input ≡ old_steps_printed M most step masses input
  unfolding steps_printed old_steps_printed bytes_for
  steps-same zero step masses input = board-same masses
  steps-same (suc most) step masses [] = board-same masses
  steps-same (suc most) step masses (b ∷ bs) =
      let at : List ℕ = old_step_at M (b ∷ bs) in
      let left : List ℕ = old_field_then M masses at in
      ap (λ (x : List ℕ). step_text step (step_comes_to Narrow M masses x) ++ cond (goes_on_after (step_comes_to Narrow M masses x))
      (steps_printed Narrow M most (step + 1) (field_then Narrow M masses x) (following x (b ∷ bs))) (board_printed M (field_then Narrow M masses x)))
      (record_same 4 _ _ (b ∷ bs) (step-needs M.cells M.faces M.seconds (take 4 (b ∷ bs))))
      ∙ ap (λ (o : Outcome Printed). step_text step o ++ cond (goes_on_after o)
      (steps_printed Narrow M most (step + 1) (field_then Narrow M masses at) (following at (b ∷ bs))) (board_printed M (field_then Narrow M masses at)))
      (said_same masses at)
      ∙ ap (λ (x : List ℕ). step_text step (old_step_said M masses at) ++ cond (goes_on_after (old_step_said M masses at))
      (steps_printed Narrow M most (step + 1) x (following at (b ∷ bs))) (board_printed M x)) (then_same masses at)
      ∙ ap (λ (x : List ℕ). step_text step (old_step_said M masses at) ++ cond (goes_on_after (old_step_said M masses at)) x (board_printed M left))
      (steps-same most (step + 1) left (following at (b ∷ bs)))
      ∙ ap (λ (x : List ℕ). step_text step (old_step_said M masses at) ++ cond (goes_on_after (old_step_said M masses at))
      (old_steps_printed M most (step + 1) left (following at (b ∷ bs))) x) (board-same left)

  -- from a field that has been read
  from-field : (v : Verdict) (sum sum' : ℕ) (masses masses' input : List ℕ) → (v ≡ fine → (sum ≡ sum') × (masses ≡ masses'))
      → from_field Narrow M (v and_then accepted sum) masses input ≡ old_from_field M (v and_then accepted sum') masses' input
  unfolding ◌and_then◌
  from-field (accepted _) sum sum' masses masses' input h =
      ap (λ (x : List ℕ). step_line 0 0 0 sum 0 ++ x) (steps-same (length input) 1 masses input) ∙ rw ((h refl).0, (h refl).1)
  from-field (refused i j) sum sum' masses masses' input h = refl

  field_same : (input : List ℕ) → field_printed Narrow M input ≡ old_field_printed M input
  unfolding field_printed old_field_printed bytes_for
  field_same input =
      let at : List ℕ = old_field_at M input in
      let held = judged-masses M.cells M.volumes at run_cells in
      ap (λ (x : List ℕ). from_field Narrow M (field_said Narrow M x) (in_table run_cells (masses_in x M.cells)) (following x input))
      (record_same 2 _ _ input (field-needs M.cells (take 2 input)))
      ∙ ap (λ (v : Verdict). from_field Narrow M (v and_then accepted (total (cells_only M.cells M.volumes) (mass_in (masses_in at M.cells))))
      (in_table run_cells (masses_in at M.cells)) (following at input))
      (field-judged M.cells M.volumes s.small_volumes at run_cells)
      ∙ from-field (old_field_judged M.cells M.volumes at run_cells) _ _ _ _ (following at input)
      (λ h. (ap (λ (m : List ℕ). total (cells_only M.cells M.volumes) (mass_in m)) (held h), ap (in_table run_cells) (held h)))

-- the run's tables hold what the record holds
tables-small : (bs : List ℕ) → MeshSmall (mesh_in bs) → MeshSmall (run_mesh bs)
unfolding volumes_in reaches_in
tables-small bs s = record {
  small_volumes = λ c h. rw (get_d_over (cells_in bs) (entry_in bs (shape_in bs) 1 0) (table run_cells (λ i. 0)) 0 c h)
      (rw (get_or-table (cells_in bs) (entry_in bs (shape_in bs) 1 0) 0 c h) at (s.small_volumes c h));
  small_reaches = λ f l. rw (get_d_over (faces_in bs) (entry_in bs (shape_in bs) 2 3) (table run_faces (λ i. 0)) 0 f l)
      (rw (get_or-table (faces_in bs) (entry_in bs (shape_in bs) 2 3) 0 f l) at (s.small_reaches f l));
}

-- the kind stands in the first byte, which every front has that is as long as a head
kind-front : (n : ℕ) (input : List ℕ) → length (take 4 input) ≤ n → kind_in (take n input) ≡ kind_in input
unfolding bits_at bit_at
kind-front zero [] h = refl
kind-front (suc n) [] h = refl
kind-front zero (b ∷ bs) h = let z : suc (length (take 3 bs)) ≤ 0 = h in absurd (omega arith)
kind-front (suc n) (b ∷ bs) h = refl

kind-of-head : (input : List ℕ) → kind_in input ≢ 5 → kind_in (take 4 input) ≢ 5
kind-of-head input k e = k (sym (kind-front 4 input (rw length-take (omega arith))) ∙ e)

kind-of-record : (needs : List ℕ → Outcome ℕ) (input : List ℕ) → kind_in input ≢ 5 → kind_in (record_at 4 needs input) ≢ 5
unfolding record_at
kind-of-record needs input k e =
    let n : ℕ = length (take 4 input) + still_needed (needs (take 4 input)) (length (take 4 input)) in
    k (sym (kind-front n input (omega arith)) ∙ e)

mesh-needs : (bs : List ℕ) → kind_in bs ≢ 5 → mesh_needs run_cells run_faces bs ≡ old_mesh_needs run_cells run_faces bs
unfolding mesh_needs
mesh-needs bs k = ap bytes_of (mesh-measured run_cells run_faces bs k) ∙ bytes-alone _ _

module _ (bs rest : List ℕ) (k : kind_in bs ≢ 5) where
  abbrev judged : Verdict
  judged = old_mesh_judged bs run_cells run_faces run_faces run_faces run_faces

  from-mesh : (v : Verdict) → (v ≡ fine → field_printed (width_in bs) (run_mesh bs) rest ≡ old_field_printed (in_tables (old_mesh_in bs)) rest)
      → from_mesh (v and_then accepted (counts_in bs)) (run_mesh bs) rest ≡ old_from_mesh v (in_tables (old_mesh_in bs)) rest
  unfolding ◌and_then◌
  from-mesh (accepted _) h = h refl
  from-mesh (refused i j) h = refl

  mesh-same : from_mesh (mesh_said_of bs) (run_mesh bs) rest ≡ old_from_mesh judged (in_tables (old_mesh_in bs)) rest
  mesh-same =
      ap (λ (v : Verdict). from_mesh (v and_then accepted (counts_in bs)) (run_mesh bs) rest) (mesh-judged bs run_cells run_faces run_faces run_faces run_faces k)
      ∙ from-mesh judged (λ h. let e = judged-kind-one bs _ _ _ _ _ h in
      ap (λ (w : Width). field_printed w (run_mesh bs) rest) (mesh-narrow bs e)
      ∙ field_same (run_mesh bs) (tables-small bs (old-small bs e)) rest
      ∙ ap (λ (M : Mesh). old_field_printed (in_tables M) rest) (mesh-in bs e))

pub run-same : (input : List ℕ) → kind_in input ≢ 5 → printed input ≡ old_printed input
unfolding printed old_printed bytes_for
run-same input k =
    ap (λ (x : List ℕ). from_mesh (mesh_said_of x) (run_mesh x) (following x input)) (record_same 4 _ _ input (mesh-needs (take 4 input) (kind-of-head input k)))
    ∙ mesh-same (old_mesh_at input) (following (old_mesh_at input) input) (kind-of-record _ input k)
