-- The second office's records read, and hold the renumbered mesh, field and step: values that were read fit their fields, turned or not.
use Prim.Native.Nat.{ℕ, zero, suc, ◌^◌, ◌≤◌, ◌<◌, min}
use mathlib.Core.Path.{◌≡◌, refl, sym, ap, ◌∙◌}
use mathlib.Core.Bool.{Bool, true, false, cond}
use mathlib.Core.List.{List, [], ◌∷◌}
use native.Mathlib.Omega.{arith}
use lib.IntN.{pos}
use lib.ListN.{length, get_or}
use Rattle.lists.specs.Renumbering.{Renumbering}
use Rattle.lists.specs.Table.{table}
use Rattle.lists.proofs.Tables.{length-table, get_or-table, is-table}
use Rattle.lists.proofs.Renumbered.{length-carried, get_or-carried}
use Rattle.signed.specs.Sign.{size, is_negative, with_sign, turn}
use Rattle.signed.proofs.Laws.{size-with_sign}
use Rattle.signed.proofs.Turns.{size-turn}
use Rattle.model.specs.Mesh.{Mesh, volume, reach, at_rim, run_cells, run_faces, max_cells, max_faces, ceiling, old_ceiling}
use Rattle.model.specs.Ceilings.{MeshSmall}
use Rattle.model.specs.Causes.{fine, in_turn, counts_within, counts, mesh_values, mesh_verdict, Call, release}
use Rattle.model.specs.Calls.{mass_in}
use Rattle.model.proofs.Verdicts.{both-fine, fine-all}
use Rattle.model.proofs.Accepted.{counted, mesh-fit}
use Rattle.model.proofs.Ceilings.{old-meshes}
use Rattle.model.proofs.AlikeFaces.{rim-same}
use Rattle.model.proofs.AlikeStages.{joined}
use Rattle.record_bits.specs.Field.{bits_at}
use Rattle.record_bits.proofs.Fields.{bits-lt}
use Rattle.record_sections.specs.Sections.{Fits, place, entry_in}
use Rattle.record_sections.proofs.Columns.{sign_fits}
use Rattle.record_layouts.specs.Layouts.{mesh_kind, field_kind, width_of, kind_bits, value_bits, mass_bits, outside_bits, release_bits, is_rim, mass_of, outside_of, field_shape, field_value, step_shape, step_value}
use Rattle.record_heads.specs.Heads.{kind_in, width_in, cells_in, faces_in, mesh_head_verdict}
use Rattle.record_layouts.specs.declared.Width.{Width}
use Rattle.record_layouts.specs.declared.Width.TheVariants.{Narrow, Wide}
use Rattle.record_heads.proofs.HeadLaws.{mesh-head-says, step-head-says}
use Rattle.record_reading.specs.Reading.{mesh_in, masses_in, fluxes_in, outsides_in, releases_in, minus_in, size_in, outside_place, mesh_read, field_read, step_read}
use Rattle.record_writing.proofs.WidthLaws.{mesh_fits, field_fits}
use Rattle.record_writing.specs.Writing.{most_of}
use Rattle.record_reading.proofs.ReadLaws.{mesh-kind-is, mesh_cut}
use Rattle.record_writing.proofs.Accepting.{field-passed, field_reads, step_reads}
use Rattle.record_writing.proofs.Back.{mesh-kind-back, field-kind-back, field-cells-back, field-record-length, masses-back, step-kind-back, step-faces-back, step-record-length, step-bits-good, fluxes-back, outsides-back, releases-back}
use Rattle.record_writing.proofs.RoundTrip.{width_is, cells-read-back, faces-read-back, mesh-read-back, mesh-is-back}
use Rattle.taking_mesh.specs.MeshTaking.{mesh_record_found, mesh_room_causes, mesh_judged}
use Rattle.taking_mesh.proofs.MeshLaws.{within-long, mesh-says, limits, mesh-small}
use Rattle.taking.specs.Taking.{step_in, step_record_found}
use Rattle.renumbered.specs.Renumbered.{amount_in, is_turned, new_second}
use Rattle.renumbered.proofs.TwoSteps.{fine-counts, fine-values}
use Rattle.renumbered.proofs.Renumbered.{alike, s9-corrected}
use Rattle.renumbered_calls.specs.Anew.{new_mesh, mesh_anew, new_field, field_anew, new_call, step_anew, Reads, HeldAnew}
use Rattle.renumbered_calls.proofs.Judged.{found, mesh_fine, few, masses_long}

-- a list is the table of its entries
pub exact : {A : Type 0} (d : A) (n : ℕ) (xs : List A) → length xs ≡ n → table n (λ i. get_or xs i d) ≡ xs
exact d n xs e = sym (is-table d xs n (λ i. get_or xs i d) e (λ i l. refl))

-- what holds of all by their new numbers holds of all
everywhere : (n : ℕ) (r : Renumbering n) (P : ℕ → Type 0) → ((i : ℕ) → i < n → P (r.new i)) → (i : ℕ) → i < n → P i
everywhere n r P h i l = rw (r.new_old i l) at (h (r.old i) (r.old_in i l))

counts-within : (M : Mesh) → counts M ≡ fine → counts_within max_cells max_faces M.cells M.faces ≡ fine
unfolding counts
counts-within M e = e

module _ (mesh : List ℕ) (cell : Renumbering (cells_in mesh)) (face : Renumbering (faces_in mesh)) (turns : ℕ → Bool) (field step : List ℕ)
    (reads : Reads mesh field step) where
  abbrev M : Mesh
  M = mesh_in mesh

  abbrev w : Width
  w = width_in mesh

  abbrev M' : Mesh
  M' = new_mesh mesh cell face turns

  abbrev fine-mesh : mesh_verdict M ≡ fine
  fine-mesh = mesh_fine mesh field step reads

  new-fine : mesh_verdict M' ≡ fine
  new-fine = (s9-corrected M fine-mesh cell face turns).mesh_accepted

  within : counts M' ≡ fine
  within = fine-counts M' new-fine

  values-anew : mesh_values ceiling M' ≡ fine
  values-anew = fine-values M' new-fine

  -- V and K of the record's kind stay within its ceilings
  small-anew : width_in mesh ≡ Narrow → MeshSmall M'
  small-anew e = record {
    small_volumes = everywhere M.cells cell (λ c. volume M' c ≤ old_ceiling) (λ c h. rw (volume-at c h) ((mesh-small mesh e).small_volumes c h));
    small_reaches = everywhere M.faces face (λ f. reach M' f ≤ old_ceiling) (λ f l. rw (reach-at f l) ((mesh-small mesh e).small_reaches f l));
  }
    where
      volume-at : (c : ℕ) → c < M.cells → volume M' (cell.new c) ≡ volume M c
      volume-at = get_or-carried M.cells cell (volume M) 0 M.volumes (omega (arith, (mesh_cut mesh).volumes_cut))

      reach-at : (f : ℕ) → f < M.faces → reach M' (face.new f) ≡ reach M f
      reach-at = get_or-carried M.faces face (reach M) 0 M.reaches (omega (arith, (mesh_cut mesh).reaches_cut))

  passes : mesh_values (most_of w) M' ≡ fine
  passes = go (width_in mesh) refl
    where
      go : (v : Width) → width_in mesh ≡ v → mesh_values (most_of v) M' ≡ fine
      go Narrow e = sym (old-meshes M' (small-anew e)) ∙ values-anew
      go Wide e = values-anew

  small : (M.cells ≤ run_cells) × (M.faces ≤ run_faces)
  small = few mesh field step reads

  -- the mesh
  pub mesh_held : mesh_in (mesh_anew mesh cell face turns) ≡ M'
  mesh_held =
      mesh-is-back w M' within passes
      ∙ rw (
        exact 0 M.cells M'.volumes (length-carried M.cells cell _ 0 M.volumes ∙ sym (mesh_cut mesh).volumes_cut),
        exact 0 M.faces M'.firsts (length-carried M.faces face _ 0 M.firsts ∙ sym (mesh_cut mesh).firsts_cut),
        exact 0 M.faces M'.seconds (length-carried M.faces face _ 0 M.seconds ∙ sym (mesh_cut mesh).seconds_cut),
        exact 0 M.faces M'.shares (length-carried M.faces face _ 0 M.shares ∙ sym (mesh_cut mesh).shares_cut),
        exact 0 M.faces M'.reaches (length-carried M.faces face _ 0 M.reaches ∙ sym (mesh_cut mesh).reaches_cut),
      )

  mesh-kind-anew : kind_in (mesh_anew mesh cell face turns) ≡ mesh_kind w
  mesh-kind-anew = mesh-kind-back (mesh_kind w) M' (mesh_fits w M' within passes)

  width-anew : width_in (mesh_anew mesh cell face turns) ≡ w
  width-anew = ap width_of mesh-kind-anew ∙ width_is w

  mesh-kind-same : mesh_kind w ≡ kind_in mesh
  unfolding mesh_record_found
  mesh-kind-same = mesh-kind-is (kind_in mesh) (mesh-head-says run_cells run_faces mesh (both-fine _ _ (found mesh field step reads)).0).kind

  mesh-found : mesh_record_found (mesh_anew mesh cell face turns) ≡ fine
  unfolding mesh_record_found mesh_read mesh_head_verdict
  mesh-found = (both-fine _ _ (mesh-read-back w M' within passes run_cells run_faces run_cells run_faces run_faces run_faces run_faces limited
      (within-long small.0 small.1))).0
    where
      limited : counts_within (min run_cells max_cells) (min run_faces max_faces) M.cells M.faces ≡ fine
      limited = (both-fine _ _ (both-fine _ _ (found mesh field step reads)).0).1

  mesh-judged : mesh_judged (mesh_anew mesh cell face turns) run_cells run_faces run_faces run_faces run_faces ≡ fine
  unfolding mesh_judged
  mesh-judged = fine-all (_ ∷ _ ∷ _ ∷ []) (mesh-found, (room, (ap (mesh_values ceiling) mesh_held ∙ values-anew, tt)))
    where
      room : in_turn (mesh_room_causes (mesh_anew mesh cell face turns) run_cells run_faces run_faces run_faces run_faces) ≡ fine
      room = rw (cells-read-back w M' within passes, faces-read-back w M' within passes)
          (mesh-says mesh run_cells run_faces run_faces run_faces run_faces reads.mesh_accepted).room

  -- the field
  field-kind-is : kind_in field ≡ field_kind w
  field-kind-is = (field-passed w M.cells field run_cells reads.field_reads).kind

  mass-small : (c : ℕ) → c < M.cells → mass_in (masses_in field M.cells) c < 2 ^ mass_bits (kind_in field)
  unfolding masses_in
  mass-small c h = rw (get_or-table M.cells (entry_in field (field_shape (kind_in field) M.cells) 1 0) 0 c h)
      (bits-lt field (place (field_shape (kind_in field) M.cells) 1 0 c) (mass_bits (kind_in field)))

  field-long : length (new_field mesh cell face turns field) ≡ M.cells
  field-long = length-carried M.cells cell _ 0 (masses_in field M.cells) ∙ masses_long mesh field step reads

  mass-at : (c : ℕ) → c < M.cells → mass_in (new_field mesh cell face turns field) (cell.new c) ≡ mass_in (masses_in field M.cells) c
  mass-at = get_or-carried M.cells cell (mass_in (masses_in field M.cells)) 0 (masses_in field M.cells) (omega (arith, masses_long mesh field step reads))

  field-anew-fits : Fits (field_shape (field_kind w) M.cells) (field_value (field_kind w) M.cells (new_field mesh cell face turns field))
  field-anew-fits = field_fits w M.cells (new_field mesh cell face turns field) (omega (arith, small.0))
      (everywhere M.cells cell (λ c. mass_of (new_field mesh cell face turns field) c < 2 ^ mass_bits (field_kind w))
      (λ c h. rw (mass-at c h, ← field-kind-is) (mass-small c h)))

  pub field_held : masses_in (field_anew mesh cell face turns field) M.cells ≡ new_field mesh cell face turns field
  field_held = masses-back (field_kind w) M.cells (new_field mesh cell face turns field) field-anew-fits
      ∙ exact 0 M.cells (new_field mesh cell face turns field) field-long

  pub field-anew-reads : field_read w M.cells (field_anew mesh cell face turns field) run_cells ≡ fine
  field-anew-reads =
      let m = new_field mesh cell face turns field in
      field_reads (field_anew mesh cell face turns field) w M.cells run_cells
      (field-kind-back (field_kind w) M.cells m field-anew-fits) (field-cells-back (field_kind w) M.cells m field-anew-fits)
      (limits mesh (found mesh field step reads)).some_cells (omega (arith, small.0)) (field-record-length (field_kind w) M.cells m) small.0

  -- the step
  abbrev k : Call
  k = step_in M step

  abbrev k' : Call
  k' = new_call mesh cell face turns step

  abbrev seconds' : List ℕ
  seconds' = M'.seconds

  abbrev t : ℕ → Bool
  t = is_turned M cell face turns

  fluxes_long : length k.fluxes ≡ M.faces
  unfolding fluxes_in
  fluxes_long = length-table M.faces _

  outsides_long : length k.outsides ≡ M.faces
  unfolding outsides_in
  outsides_long = length-table M.faces _

  releases_long : length k.releases ≡ M.cells
  unfolding releases_in
  releases_long = length-table M.cells _

  -- what stands at the new numbers
  flux-at : (f : ℕ) → f < M.faces → amount_in k'.fluxes (face.new f) ≡ turn (t f) (amount_in k.fluxes f)
  flux-at = get_or-carried M.faces face (λ f. turn (t f) (amount_in k.fluxes f)) (pos 0) k.fluxes (omega (arith, fluxes_long))

  outside-at : (f : ℕ) → f < M.faces → get_or k'.outsides (face.new f) 0 ≡ get_or k.outsides f 0
  outside-at = get_or-carried M.faces face (λ f. get_or k.outsides f 0) 0 k.outsides (omega (arith, outsides_long))

  release-at : (c : ℕ) → c < M.cells → release k' (cell.new c) ≡ release k c
  release-at = get_or-carried M.cells cell (release k) 0 k.releases (omega (arith, releases_long))

  -- it fits, as what was read did
  size_small : (f : ℕ) → f < M.faces → size (amount_in k.fluxes f) < 2 ^ value_bits (kind_in step)
  unfolding fluxes_in
  size_small f l =
      rw (
        get_or-table M.faces (λ g. with_sign (minus_in step M.faces g) (size_in step M.faces g)) (pos 0) f l,
        size-with_sign (minus_in step M.faces f) (size_in step M.faces f),
      )
      (bits-lt step _ (value_bits (kind_in step)))

  outside-is : (f : ℕ) → f < M.faces
      → get_or k.outsides f 0 ≡ cond (is_rim M.seconds f) (bits_at step (outside_place step M.faces M.seconds f) outside_bits) 0
  unfolding outsides_in
  outside-is f l = get_or-table M.faces _ 0 f l

  outside-small : (f : ℕ) → f < M.faces → get_or k.outsides f 0 < 2 ^ outside_bits
  outside-small f l = rw (outside-is f l) (go (is_rim M.seconds f))
    where
      go : (b : Bool) → cond b (bits_at step (outside_place step M.faces M.seconds f) outside_bits) 0 < 2 ^ outside_bits
      go true = bits-lt step _ outside_bits
      go false = omega arith

  release-small : (c : ℕ) → c < M.cells → release k c < 2 ^ release_bits (kind_in step)
  unfolding releases_in
  release-small c h = rw (get_or-table M.cells (entry_in step (step_shape (kind_in step) M.cells M.faces M.seconds) 3 0) 0 c h)
      (bits-lt step _ (release_bits (kind_in step)))

  step-anew-fits : Fits (step_shape (kind_in step) M.cells M.faces seconds')
      (step_value (kind_in step) M.faces k'.fluxes k'.outsides k'.releases)
  step-anew-fits zero zero i h = bits-lt step 0 kind_bits
  step-anew-fits zero (suc zero) i h = omega (arith, small.1)
  step-anew-fits zero (suc (suc zero)) i h = omega arith
  step-anew-fits zero (suc (suc (suc j))) i h = absurd (omega (arith, h.among))
  step-anew-fits (suc zero) zero i h = sign_fits (is_negative (amount_in k'.fluxes i))
  step-anew-fits (suc zero) (suc zero) i h =
      everywhere M.faces face (λ f. size (amount_in k'.fluxes f) < 2 ^ value_bits (kind_in step))
      (λ f l. rw (flux-at f l, size-turn (t f) (amount_in k.fluxes f)) (size_small f l)) i h.below
  step-anew-fits (suc zero) (suc (suc j)) i h = absurd (omega (arith, h.among))
  step-anew-fits (suc (suc zero)) zero i h =
      everywhere M.faces face (λ f. get_or k'.outsides f 0 < 2 ^ outside_bits) (λ f l. rw (outside-at f l) (outside-small f l)) i h.below
  step-anew-fits (suc (suc zero)) (suc j) i h = absurd (omega (arith, h.among))
  step-anew-fits (suc (suc (suc zero))) zero i h =
      everywhere M.cells cell (λ c. release k' c < 2 ^ release_bits (kind_in step)) (λ c l. rw (release-at c l) (release-small c l)) i h.below
  step-anew-fits (suc (suc (suc zero))) (suc j) i h = absurd (omega (arith, h.among))
  step-anew-fits (suc (suc (suc (suc n)))) j i h = absurd (omega (arith, h.below))

  -- away from the rim there is no outside value, in either numbering
  none_inside : (f : ℕ) → f < M.faces → is_rim seconds' f ≡ false → outside_of k'.outsides f ≡ 0
  none_inside = everywhere M.faces face (λ f. is_rim seconds' f ≡ false → outside_of k'.outsides f ≡ 0)
      (λ f l e. outside-at f l ∙ outside-is f l ∙ rw (sym (rim-stays f l) ∙ e))
    where
      rim-stays : (f : ℕ) → f < M.faces → at_rim M' (face.new f) ≡ at_rim M f
      rim-stays = rim-same M M' (joined M (counted M (fine-counts M fine-mesh)).few_cells (mesh-fit M (fine-values M fine-mesh))) cell face t
          (alike M fine-mesh cell face turns).ends_alike

  -- what the step record holds
  abbrev R : List ℕ
  R = step_anew mesh cell face turns step

  pub step_held : step_in M' R ≡ k'
  step_held =
      let fluxes-are = fluxes-back (kind_in step) M.cells M.faces seconds' k'.fluxes k'.outsides k'.releases step-anew-fits
      ∙ exact (pos 0) M.faces k'.fluxes (length-carried M.faces face _ (pos 0) k.fluxes ∙ fluxes_long) in
      let outsides-are = outsides-back (kind_in step) M.cells M.faces seconds' k'.fluxes k'.outsides k'.releases step-anew-fits none_inside
      ∙ exact 0 M.faces k'.outsides (length-carried M.faces face _ 0 k.outsides ∙ outsides_long) in
      let releases-are = releases-back (kind_in step) M.cells M.faces seconds' k'.fluxes k'.outsides k'.releases step-anew-fits
      ∙ exact 0 M.cells k'.releases (length-carried M.cells cell _ 0 k.releases ∙ releases_long) in
      rw (fluxes-are, outsides-are, releases-are)

  step-kind-is : kind_in R ≡ kind_in step
  step-kind-is = step-kind-back (kind_in step) M.cells M.faces seconds' k'.fluxes k'.outsides k'.releases step-anew-fits

  step-found : step_record_found w M' R ≡ fine
  unfolding step_record_found step_read
  step-found =
      let said = step-head-says w M.cells M.faces M.seconds step (both-fine _ _ reads.step_reads).0 in
      (both-fine _ _ (step_reads R w M.cells M.faces seconds' run_faces run_faces run_cells
      (rw step-kind-is said.kind)
      (step-faces-back (kind_in step) M.cells M.faces seconds' k'.fluxes k'.outsides k'.releases step-anew-fits)
      (counts-within M' within)
      (omega (arith, length-carried M.faces face (new_second M cell face turns) 0 M.seconds, (mesh_cut mesh).seconds_cut))
      (rw step-kind-is (step-record-length (kind_in step) M.cells M.faces seconds' k'.fluxes k'.outsides k'.releases))
      small.1 small.1 small.0
      (λ i. rw step-kind-is (step-bits-good (kind_in step) M.cells M.faces seconds' k'.fluxes k'.outsides k'.releases step-anew-fits i)))).0

  pub held : HeldAnew mesh cell face turns field step
  held = record {
    reads_anew = record {
      mesh_accepted = mesh-judged;
      field_reads = rw (width-anew, cells-read-back w M' within passes) field-anew-reads;
      step_reads = ap (λ (v : Width). step_record_found v (mesh_in (mesh_anew mesh cell face turns)) R) width-anew
          ∙ ap (λ (N : Mesh). step_record_found w N R) mesh_held ∙ step-found;
    };
    mesh-kind = mesh-kind-anew ∙ mesh-kind-same;
    field-kind = field-kind-back (field_kind w) M.cells (new_field mesh cell face turns field) field-anew-fits ∙ sym field-kind-is;
    step_kind = step-kind-is;
    mesh_held = mesh_held;
    field_held = field_held;
    step_held = step_held;
  }
