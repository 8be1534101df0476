-- The takings and the host's call: what narrow records hold is within the old ceilings, so that all their causes are the old ones.
use Prim.Native.Nat.{ℕ, ◌≤◌, ◌<◌}
use mathlib.Core.Path.{◌≡◌, ap, ◌∙◌}
use mathlib.Core.Logic.{◌≢◌}
use mathlib.Core.List.{List, [], ◌∷◌}
use native.Mathlib.Omega.{arith}
use lib.ListN.{length, get_or}
use Rattle.lists.specs.Table.{table}
use Rattle.model.specs.Mesh.{Mesh, old_ceiling, run_cells, run_faces}
use Rattle.model.specs.Step.{next}
use Rattle.model.specs.Causes.{accepted, Verdict, fine, ◌and_then◌, granted, in_turn, Call, cells_only, input_of, bytes_long, mesh_values, mesh_field_verdict, causes_within, verdict}
use Rattle.model.specs.Calls.{step_answer}
use Rattle.model.specs.Ceilings.{MeshSmall, StepSmall}
use Rattle.model.proofs.Verdicts.{both-fine, all-fine}
use Rattle.model.proofs.Ceilings.{old-meshes, old-steps}
use Rattle.record_sections.specs.Sections.{Section}
use Rattle.record_layouts.specs.Layouts.{field_kind, mass_bits, field_record, field_length}
use Rattle.record_heads.specs.Heads.{kind_in, width_in, cells_in}
use Rattle.record_layouts.specs.declared.Width.{Width}
use Rattle.record_layouts.specs.declared.Width.TheVariants.{Narrow}
use Rattle.record_reading.specs.Reading.{mesh_in, masses_in, fluxes_in, outsides_in, releases_in}
use Rattle.model.specs.Meshes.{over_mesh}
use Rattle.taking_mesh.specs.MeshTaking.{MeshKept, mesh_record_found, mesh_judged}
use Rattle.taking.specs.Taking.{field_judged, step_in, step_record_found, step_judged, printed_of, Stepping}
use Rattle.lagoon.specs.Host.{host_input, host_verdict, host_bytes}
use Rattle.old_answers.specs.Before.{step_by, old_mesh_in, old_masses_in, old_step_in, old_step_read, old_mesh_judged, old_cells_verdict, old_field_judged, old_step_judged, old_host_verdict, old_next_record, old_host_bytes}
use Rattle.old_answers.proofs.Outcomes.{same_after, same-granted, same-found, filled}
use Rattle.old_answers.proofs.Records.{mesh-found, read-kind-one, mesh-narrow, mesh-in, old-small, old-field-read, old-masses, step-found, read-shape, step-narrow, flux-small}
use Rattle.std.specs.Prelude.{Result}
use Rattle.model.specs.declared.Refusal.{Refusal}
use Rattle.model.specs.declared.Printed.{Printed}
use Rattle.record_reading.specs.declared.MeshCounts.{MeshCounts}

-- A MESH that is kept: by the same verdict, and by the width and the mesh that are the same where it passes
pub kept_same : {u v : Verdict} {w : Width} {M N lent left : Mesh} {r : Result MeshCounts Refusal} → u ≡ v → (v ≡ fine → w ≡ Narrow) → (v ≡ fine → M ≡ N)
    → MeshKept u w M lent r left → MeshKept v Narrow N lent r left
kept_same {u} {v} {w} {M} {N} {lent} e d m c = record {
  answer = c.answer ∙ ap (λ (x : Verdict). x and_then accepted (record { cells = M.cells; faces = M.faces; width = w })) e
      ∙ same_after v (accepted (record { cells = M.cells; faces = M.faces; width = w }))
      (accepted (record { cells = N.cells; faces = N.faces; width = Narrow })) (λ h. rw (d h, m h));
  mesh_after = c.mesh_after ∙ ap (λ (x : Verdict). granted x (over_mesh M lent) lent) e
      ∙ same-granted v (over_mesh M lent) (over_mesh N lent) lent (λ h. ap (λ (K : Mesh). over_mesh K lent) (m h));
}

module _ (bs : List ℕ) (volumes firsts seconds shares reaches : ℕ) where
  pub judged-kind-one : old_mesh_judged bs volumes firsts seconds shares reaches ≡ fine → kind_in bs ≡ 1
  unfolding old_mesh_judged
  judged-kind-one e = read-kind-one bs _ _ _ _ _ _ _ (all-fine (_ ∷ _ ∷ _ ∷ []) e).0

  pub mesh-judged : kind_in bs ≢ 5 → mesh_judged bs volumes firsts seconds shares reaches ≡ old_mesh_judged bs volumes firsts seconds shares reaches
  unfolding mesh_judged mesh_record_found old_mesh_judged
  mesh-judged k = rw (mesh-found bs k run_cells run_faces run_cells run_faces run_faces run_faces run_faces) (same_after _ _ _ (λ h.
      let e = read-kind-one bs _ _ _ _ _ _ _ (both-fine _ _ h).0 in
      old-meshes (mesh_in bs) (old-small bs e) ∙ ap (mesh_values old_ceiling) (mesh-in bs e)))

-- A FIELD on cells within the old ceiling
abbrev pub Small : ℕ → List ℕ → Type 0
Small cells volumes = (c : ℕ) → c < cells → get_or volumes c 0 ≤ old_ceiling

module _ (cells : ℕ) (volumes : List ℕ) (s : Small cells volumes) where
  pub cells-verdict : (masses : List ℕ) → mesh_field_verdict (cells_only cells volumes) masses ≡ old_cells_verdict cells volumes masses
  unfolding mesh_field_verdict old_cells_verdict
  cells-verdict masses = rw (old-meshes (cells_only cells volumes) (record { small_volumes = s; small_reaches = λ f l. absurd (omega arith) }))

  pub field-judged : (bs : List ℕ) (masses : ℕ) → field_judged Narrow cells volumes bs masses ≡ old_field_judged cells volumes bs masses
  unfolding field_judged old_field_judged
  field-judged bs masses = rw (old-field-read cells bs run_cells) (same_after _ _ _ (λ h.
      cells-verdict (masses_in bs cells) ∙ ap (old_cells_verdict cells volumes) (old-masses cells bs run_cells (both-fine _ _ h).0)))

pub judged-masses : (cells : ℕ) (volumes bs : List ℕ) (masses : ℕ) → old_field_judged cells volumes bs masses ≡ fine → masses_in bs cells ≡ old_masses_in bs cells
unfolding old_field_judged
judged-masses cells volumes bs masses e = old-masses cells bs run_cells (all-fine (_ ∷ _ ∷ _ ∷ []) e).0

-- A STEP on a mesh within the old ceilings
module _ (M : Mesh) (bs : List ℕ) where
  abbrev found : Verdict
  found = old_step_read M.cells M.faces M.seconds bs run_faces run_faces run_cells

  pub old-step-in : found ≡ fine → step_in M bs ≡ old_step_in M bs
  unfolding fluxes_in outsides_in releases_in
  old-step-in e = ap (λ (S : List Section). step_by S bs M.faces) (read-shape M.cells M.faces M.seconds bs run_faces run_faces run_cells e)

  module _ (masses : List ℕ) where
    pub judged-step-in : old_step_judged M masses bs ≡ fine → step_in M bs ≡ old_step_in M bs
    unfolding old_step_judged
    judged-step-in e = old-step-in (both-fine _ _ e).0

    module _ (s : MeshSmall M) where
      step-verdict : found ≡ fine → verdict M masses (step_in M bs) ≡ in_turn (causes_within old_ceiling M masses (step_in M bs))
      unfolding step_answer
      step-verdict e =
          let small : StepSmall M (step_in M bs) = record {
            small_mesh = s;
            small_fluxes = λ f l r. flux-small bs (step-narrow M.cells M.faces M.seconds bs run_faces run_faces run_cells e) M.faces f l;
          } in
          same-found _ _ _ _ (old-steps M (step_in M bs) masses small).0.old_answer

      pub step-judged : step_judged Narrow M masses bs ≡ old_step_judged M masses bs
      unfolding step_judged step_record_found old_step_judged
      step-judged = rw (step-found M.cells M.faces M.seconds bs run_faces run_faces run_cells) (same_after _ _ _ (λ h.
          step-verdict h ∙ ap (λ (k : Call). in_turn (causes_within old_ceiling M masses k)) (old-step-in h)))

module _ {M : Mesh} {masses : List ℕ} where
  pub stepping-same : {u v : Verdict} {k l : Call} {r : Result Printed Refusal} {masses' : List ℕ} → u ≡ v → (v ≡ fine → k ≡ l) → Stepping M masses u k r masses'
      → Stepping M masses v l r masses'
  stepping-same {v = v} {k = k} {l = l} e d c = record {
    answer = c.answer ∙ ap (λ (x : Verdict). x and_then accepted (printed_of M masses k)) e
        ∙ same_after v (accepted (printed_of M masses k)) (accepted (printed_of M masses l)) (λ h. ap (λ (j : Call). accepted (printed_of M masses j)) (d h));
    masses-after = filled masses e (λ h. ap (λ (j : Call). table M.cells (next (input_of M masses j))) (d h)) c.masses-after;
  }

-- THE HOST'S CALL
chain_same : (v f f' s s' l l' : Verdict) → (v ≡ fine → f ≡ f') → (v ≡ fine → f' ≡ fine → s ≡ s') → (v ≡ fine → l ≡ l')
    → (v and_then f and_then s and_then l) ≡ (v and_then f' and_then s' and_then l')
chain_same v f f' s s' l l' a b d =
    ap (λ (x : Verdict). x and_then s and_then l) (same_after v f f' a)
    ∙ ap (λ (x : Verdict). x and_then l) (same_after (v and_then f') s s' (λ h. let p = both-fine _ _ h in b p.0 p.1))
    ∙ same_after (v and_then f' and_then s') l l' (λ h. d (all-fine (_ ∷ _ ∷ _ ∷ []) h).0)

module _ (mesh field step : List ℕ) where
  abbrev cells : ℕ
  cells = cells_in mesh

  module _ (k : kind_in mesh ≢ 5) (room : ℕ) where
    pub host-verdict : host_verdict mesh field step room ≡ old_host_verdict mesh field step room
    unfolding host_verdict old_host_verdict field_length mass_bits
    host-verdict = rw (mesh-judged mesh run_cells run_faces run_faces run_faces run_faces k) (chain_same _ _ _ _ _ _ _
        (λ h. let e = judged-kind-one mesh _ _ _ _ _ h in
        ap (λ (w : Width). field_judged w cells (mesh_in mesh).volumes field run_cells) (mesh-narrow mesh e)
        ∙ field-judged cells (mesh_in mesh).volumes (old-small mesh e).small_volumes field run_cells
        ∙ ap (λ (M : Mesh). old_field_judged cells M.volumes field run_cells) (mesh-in mesh e))
        (λ h g. let e = judged-kind-one mesh _ _ _ _ _ h in
        ap (λ (w : Width). step_judged w (mesh_in mesh) (masses_in field cells) step) (mesh-narrow mesh e)
        ∙ step-judged (mesh_in mesh) step (masses_in field cells) (old-small mesh e)
        ∙ ap (λ (M : Mesh). old_step_judged M (masses_in field cells) step) (mesh-in mesh e)
        ∙ ap (λ (m : List ℕ). old_step_judged (old_mesh_in mesh) m step) (judged-masses cells _ field run_cells g))
        (λ h. ap (λ (w : Width). bytes_long (field_length (field_kind w) cells) room) (mesh-narrow mesh (judged-kind-one mesh _ _ _ _ _ h))))

  next-record : (room : ℕ) → old_host_verdict mesh field step room ≡ fine
      → field_record (field_kind (width_in mesh)) cells (table cells (next (host_input mesh field step))) ≡ old_next_record mesh field step
  unfolding old_host_verdict field_record mass_bits
  next-record room h =
      let p = all-fine (_ ∷ _ ∷ _ ∷ _ ∷ []) h in
      let e = judged-kind-one mesh _ _ _ _ _ p.0 in
      ap (λ (w : Width). field_record (field_kind w) cells (table cells (next (host_input mesh field step)))) (mesh-narrow mesh e)
      ∙ ap (λ (M : Mesh). field_record 2 cells (table cells (next (input_of M (masses_in field cells) (step_in M step))))) (mesh-in mesh e)
      ∙ ap (λ (m : List ℕ). field_record 2 cells (table cells (next (input_of (old_mesh_in mesh) m (step_in (old_mesh_in mesh) step)))))
      (judged-masses cells _ field run_cells p.1.0)
      ∙ ap (λ (c : Call). field_record 2 cells (table cells (next (input_of (old_mesh_in mesh) (old_masses_in field cells) c))))
      (judged-step-in (old_mesh_in mesh) step (old_masses_in field cells) p.1.1.0)

  pub host-bytes : kind_in mesh ≢ 5 → (bytes : List ℕ) {bytes' : List ℕ} → bytes' ≡ host_bytes mesh field step bytes → bytes' ≡ old_host_bytes mesh field step bytes
  unfolding host_bytes old_host_bytes
  host-bytes k bytes c = filled bytes (host-verdict k (length bytes)) (next-record (length bytes)) c
