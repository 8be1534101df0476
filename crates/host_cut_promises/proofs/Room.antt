-- Where nothing is found of a cutting, its parts pass every cause of a step, within the ceilings of their records; so their writers are left with
-- nothing to refuse but too few bytes.
use Prim.Native.Nat.{ℕ, ◌^◌, ◌≤◌, ◌<◌}
use mathlib.Core.Path.{◌≡◌, refl, sym, ap, ◌∙◌}
use mathlib.Core.Bool.{Bool, true, false, cond, ◌||◌}
use mathlib.Core.List.{List, [], ◌∷◌}
use native.Mathlib.Omega.{arith}
use borrow.Author.Tests.{eqb-true, lt-ltb}
use lib.Dec.{eqb}
use lib.IntN.{ℤ, pos}
use lib.ListN.{length, get_or, length-replicate}
use Rattle.lists.proofs.Tables.{get_or-table}
use Rattle.lists.proofs.Marked.{count_most, old-marked}
use Rattle.signed.specs.Sign.{size, with_sign}
use Rattle.signed.proofs.Turns.{size-turn}
use Rattle.signed.proofs.Laws.{size-with_sign}
use Rattle.model.specs.Mesh.{Mesh, run_cells, run_faces, old_ceiling}
use Rattle.model.specs.Step.{flux}
use Rattle.model.specs.Causes.{accepted, refused, Verdict, fine, ◌and_then◌, each, Call, water_of, work_entries, bytes_long, step_lengths, mesh_lengths, mesh_tables, mesh_values, field_table, step_tables, raised_good, raised_values, outside_good, flux_good, balance_good, outflow_good, water_causes, causes_within, step_values, step_causes, verdict}
use Rattle.model.specs.Calls.{step_answer}
use Rattle.model.specs.Ceilings.{StepSmall}
use Rattle.model.proofs.Verdicts.{both-fine, all-fine, fine-all, fine-each, past, long-met}
use Rattle.model.proofs.Accepted.{Passed, passed}
use Rattle.model.proofs.Ceilings.{old-steps}
use Rattle.cutting_parts.specs.Cut.{Tables, Lagoon, whole_mesh, step_on, step_input, in_part, touches, is_cut, is_turned}
use Rattle.cutting_parts.specs.Refusals.{cut_causes, cut_verdict}
use Rattle.cutting_parts.specs.Parts.{TablesLong, LentAtCounts}
use Rattle.cutting_parts.proofs.Entries.{cell, face, volume-is, release-is, reach-is, flux-is}
use Rattle.cutting_parts.proofs.Parts.{tables-long, lengths-fine, part-some}
use Rattle.cutting_parts.proofs.Passes.{part-fine}
use Rattle.record_bits.proofs.Fields.{bits-lt}
use Rattle.record_sections.specs.Sections.{place, entry_in}
use Rattle.record_layouts.specs.Layouts.{water_kind, outfall_kind, width_of, value_of, value_bits, release_bits, mesh_kind, field_kind, mesh_length, field_length, step_length, step_head, flux_section, step_shape}
use Rattle.record_layouts.specs.declared.Width.{Width}
use Rattle.record_layouts.specs.declared.Width.TheVariants.{Narrow, Wide}
use Rattle.record_heads.specs.Heads.{kind_in, width_in, is_step_kind}
use Rattle.record_heads.proofs.HeadLaws.{step-head-says}
use Rattle.record_reading.specs.Reading.{mesh_in, minus_in, size_in, fluxes_in, step_shape_in, releases_in}
use Rattle.record_writing.specs.Writing.{most_of, release_fits, releases_fit, mesh_write_verdict, field_write_verdict, step_write_verdict}
use Rattle.taking_mesh.proofs.MeshLaws.{mesh-small}
use Rattle.taking.specs.Taking.{blank, step_record_found}
use Rattle.host_cut_promises.specs.Cut.{Records, own_part, piece, room_finds, rooms_find, lagoon_in}
use Rattle.host_cut_promises.specs.Inner.{writers_find, records_find, cut_finds, cut_judged, cut_taken}

pub length-blank : {A : Type 0} (n : ℕ) (x : A) → length (blank n x) ≡ n
unfolding blank
length-blank n x = length-replicate n x

-- the width of a step's kind
either : (a b : Bool) {A : Type 0} → (a ≡ true → A) → (b ≡ true → A) → (a || b) ≡ true → A
either true b f g e = f refl
either false b f g e = g e

kind-width : (w : Width) (kind : ℕ) → is_step_kind w kind ≡ true → width_of kind ≡ w
kind-width Narrow kind e = either (eqb kind (water_kind Narrow)) (eqb kind (outfall_kind Narrow)) (λ h. rw (eqb-true kind (water_kind Narrow) h))
    (λ h. rw (eqb-true kind (outfall_kind Narrow) h)) e
kind-width Wide kind e = either (eqb kind (water_kind Wide)) (eqb kind (outfall_kind Wide)) (λ h. rw (eqb-true kind (water_kind Wide) h))
    (λ h. rw (eqb-true kind (outfall_kind Wide) h)) e

-- 12 bits hold no size of U above 4,095
value-narrow : (kind : ℕ) → width_of kind ≡ Narrow → value_bits kind ≡ value_of Narrow
unfolding value_bits
value-narrow kind e = ap value_of e

flux-small : (step : List ℕ) → width_in step ≡ Narrow → (faces f : ℕ) → f < faces → size (get_or (fluxes_in step faces) f (pos 0)) ≤ old_ceiling
unfolding fluxes_in
flux-small step e faces f l =
    let k = kind_in step in
    let h : size_in step faces f < 2 ^ value_bits k = bits-lt step (place (step_head ∷ flux_section k faces ∷ []) 1 1 f) (value_bits k) in
    let q : 2 ^ value_bits k ≡ 2 ^ value_of Narrow = ap (λ (n : ℕ). 2 ^ n) (value-narrow k e) in
    rw (get_or-table faces (λ g. with_sign (minus_in step faces g) (size_in step faces g)) (pos 0) f l, size-with_sign (minus_in step faces f) (size_in step faces f))
    (omega (arith, h, q))

-- a release that was read fits its field
release-fits : (step : List ℕ) (cells faces : ℕ) (seconds : List ℕ) (c : ℕ) → c < cells → get_or
    (releases_in step cells faces seconds) c 0 < 2 ^ release_bits (kind_in step)
unfolding releases_in
release-fits step cells faces seconds c h = rw (get_or-table cells (entry_in step (step_shape_in step cells faces seconds) 3 0) 0 c h)
    (bits-lt step (place (step_shape (kind_in step) cells faces seconds) 3 0 c) (release_bits (kind_in step)))

cond-most : (b : Bool) {x y : ℕ} → x ≤ y → cond b 0 x ≤ y
cond-most true h = omega arith
cond-most false h = h

then-fine : (v : Verdict) → (v and_then fine) ≡ v
unfolding ◌and_then◌
then-fine (accepted t) = refl
then-fine (refused k i) = refl

then-five : (v : Verdict) → (v and_then fine and_then fine and_then fine and_then fine and_then fine) ≡ v
unfolding ◌and_then◌
then-five (accepted t) = refl
then-five (refused k i) = refl

-- a lagoon of which cutting finds nothing, with tables of a step's own
module _ (L : Lagoon) (labels : List ℕ) (cut-fine : cut_finds L labels ≡ fine) where
  abbrev nexts : List ℕ
  nexts = blank run_cells 0

  abbrev moveds : List ℤ
  moveds = blank run_faces (pos 0)

  abbrev work : List ℕ
  work = blank (work_entries run_cells run_faces) 0

  long_of : (t : Tables) → ((P : Tables → Type 0) → P L.tables × P own_part × P own_part → P t) → TablesLong L t
  long_of = tables-long L labels own_part own_part (lengths-fine L labels own_part own_part cut-fine)

  own : TablesLong L own_part
  own = long_of own_part (λ P e. e.1)

  room : LentAtCounts L nexts moveds work
  room =
      let c : L.cells ≤ run_cells = rw (length-blank {A = ℕ} run_cells 0) at own.masses_long in
      let f : L.faces ≤ run_faces = rw (length-blank {A = ℤ} run_faces (pos 0)) at own.fluxes_long in
      let w : work_entries L.cells L.faces ≤ work_entries run_cells run_faces = omega (arith, c, f) in
      record { nexts_long = own.masses_long; moveds_long = own.fluxes_long; work_long = rw (length-blank {A = ℕ} (work_entries run_cells run_faces) 0) w }

  whole-fine : verdict (whole_mesh L) L.tables.masses (step_on L nexts moveds work) ≡ fine
  unfolding cut_verdict verdict mesh_tables field_table step_tables raised_values raised_good step_values outside_good flux_good balance_good outflow_good
  whole-fine =
      let e = all-fine (cut_causes L labels own_part own_part) cut-fine in
      let t = long_of L.tables (λ P e. e.0) in
      let mesh = fine-all (mesh_lengths (whole_mesh L)) (
        long-met 0 _ _ t.volumes_long,
        (
          long-met 1 _ _ t.firsts_long,
          (long-met 2 _ _ t.seconds_long, (long-met 3 _ _ t.shares_long, (long-met 4 _ _ t.reaches_long, tt))),
        ),
      ) in
      let step = fine-all (step_lengths L.cells L.faces (step_on L nexts moveds work)) (
        long-met 6 _ _ t.fluxes_long,
        (
          long-met 7 _ _ t.outsides_long,
          (
            long-met 8 _ _ room.nexts_long,
            (long-met 9 _ _ room.moveds_long, (long-met 10 _ _ room.work_long, (long-met 14 _ _ t.releases_long, tt))),
          ),
        ),
      ) in
      fine-all (step_causes (whole_mesh L) L.tables.masses (step_on L nexts moveds work)) (
        e.0,
        (
          mesh,
          (
            long-met 5 _ _ t.masses_long,
            (step, (e.1.1.0, (e.1.1.1.1.0, (e.1.1.1.1.1.0, (e.1.1.1.1.1.1.0, tt))))),
          ),
        ),
      )

  pub part-passes : (p : ℕ) → p < 2 → let P = piece L labels p in verdict (whole_mesh P) P.tables.masses (step_on P nexts moveds work) ≡ fine
  part-passes p h =
      let cells = count_most (in_part L labels p) L.cells in
      let faces = count_most (touches L labels p) L.faces in
      part-fine L labels p own_part nexts moveds work whole-fine (part-some L labels own_part own_part cut-fine p h) own nexts moveds work (record {
        nexts_long = omega (arith, cells, room.nexts_long);
        moveds_long = omega (arith, faces, room.moveds_long);
        work_long = omega (arith, cells, faces, room.work_long);
      })

-- and in records
module _ (mesh field step labels : List ℕ) (step_fine : step_record_found (width_in mesh) (mesh_in mesh) step ≡ fine)
    (cut-fine : cut_finds (lagoon_in mesh field step) labels ≡ fine) (p : ℕ) (among : p < 2) where
  abbrev L : Lagoon
  L = lagoon_in mesh field step

  abbrev P : Lagoon
  P = piece L labels p

  abbrev N : Mesh
  N = whole_mesh P

  abbrev k : Call
  k = step_on P (blank run_cells 0) (blank run_faces (pos 0)) (blank (work_entries run_cells run_faces) 0)

  found : verdict N P.tables.masses k ≡ fine
  found = part-passes L labels cut-fine p among

  past_all : Passed N P.tables.masses k
  past_all = passed N P.tables.masses k found

  step-width : width_in step ≡ width_in mesh
  unfolding step_record_found
  step-width = kind-width (width_in mesh) (kind_in step)
      (step-head-says (width_in mesh) (mesh_in mesh).cells (mesh_in mesh).faces (mesh_in mesh).seconds step (both-fine _ _ step_fine).0).kind

  small : width_in mesh ≡ Narrow → StepSmall N k
  small e =
      let s = mesh-small mesh e in
      record {
        small_mesh = record {
          small_volumes = λ c h. rw (volume-is L labels p own_part c h)
              (s.small_volumes (cell L labels p own_part c) (old-marked (in_part L labels p) L.cells c h).0);
          small_reaches = λ f l. rw (reach-is L labels p own_part f l)
              (cond-most (is_cut L labels p (face L labels p own_part f))
              (s.small_reaches (face L labels p own_part f) (old-marked (touches L labels p) L.faces f l).0));
        };
        small_fluxes = λ f l r. rw (
          flux-is L labels p own_part f l,
          size-turn (is_turned L labels p (face L labels p own_part f))
              (flux (step_input L) (face L labels p own_part f)),
        )
            (flux-small step (step-width ∙ e) (mesh_in mesh).faces (face L labels p own_part f) (old-marked (touches L labels p) L.faces f l).0);
      }

  -- 3, 5 and 8 by the ceiling of the width
  abbrev Within : ℕ → Type 0
  Within most = (mesh_values most N ≡ fine) × (step_values most N P.tables.masses k ≡ fine)

  narrow : width_in mesh ≡ Narrow → Within old_ceiling
  unfolding step_answer
  narrow e =
      let o = (old-steps N k P.tables.masses (small e)).0.old_answer in
      let a = all-fine (causes_within old_ceiling N P.tables.masses k) (both-fine _ _ (sym o ∙ past _ found)).0 in
      (a.1.1.1.1.0, a.1.1.1.1.1.1.1.0)

  within : Within (most_of (width_in mesh))
  within = go (width_in mesh) refl
    where
      go : (w : Width) → width_in mesh ≡ w → Within (most_of w)
      go Narrow e = narrow e
      go Wide e = (past_all.mesh_values_fine, past_all.step_values_fine)

  releases-fine : releases_fit (kind_in step) N.cells P.tables.releases ≡ fine
  releases-fine = fine-each 18 N.cells (λ c. release_fits (kind_in step) (get_or P.tables.releases c 0))
      (λ c h. lt-ltb (get_or P.tables.releases c 0) (2 ^ release_bits (kind_in step))
      (rw (release-is L labels p own_part c h) (release-fits step L.cells L.faces L.tables.seconds (cell L labels p own_part c)
      (old-marked (in_part L labels p) L.cells c h).0)))

  -- 7 and 8 look at the water alone
  abbrev water : Call
  water = water_of P.tables.fluxes P.tables.outsides P.tables.releases

  water-fine : (each 7 N.faces (outside_good N [] water) ≡ fine) × (each 8 N.faces (flux_good (most_of (width_in mesh)) N [] water) ≡ fine)
  unfolding step_values outside_good flux_good
  water-fine = let a = all-fine (water_causes (most_of (width_in mesh)) N P.tables.masses k) within.1 in (a.0, a.1.0)

  mesh-left : (m : ℕ) → mesh_write_verdict (width_in mesh) N m ≡ bytes_long (mesh_length (mesh_kind (width_in mesh)) N.cells N.faces) m
  unfolding mesh_write_verdict ◌and_then◌
  mesh-left m = rw (past_all.counts_fine, past_all.mesh_tables_fine, within.0) (then-fine _)

  field-left : (f : ℕ) → field_write_verdict (width_in mesh) N P.tables.masses f ≡ bytes_long (field_length (field_kind (width_in mesh)) N.cells) f
  unfolding field_write_verdict ◌and_then◌
  field-left f =
      let b = bytes_long (field_length (field_kind (width_in mesh)) N.cells) f in
      rw (past_all.counts_fine, past_all.mesh_tables_fine, past_all.field_table_fine, within.0, past_all.field_values_fine)
      (ap (λ (v : Verdict). v and_then fine) (then-fine b) ∙ then-fine b)

  step_left : (s : ℕ) → step_write_verdict (width_in mesh) N (kind_in step) P.tables.fluxes P.tables.outsides P.tables.releases s
      ≡ bytes_long (step_length (kind_in step) N.cells N.faces N.seconds) s
  unfolding step_write_verdict step_tables ◌and_then◌
  step_left s =
      let t = all-fine (step_lengths N.cells N.faces k) past_all.step_tables_fine in
      rw (
        past_all.counts_fine,
        past_all.mesh_tables_fine,
        t.0,
        t.1.0,
        t.1.1.1.1.1.0,
        within.0,
        releases-fine,
        water-fine.0,
        water-fine.1,
      )
      (then-five _)

  pub writers-left : (m f s : ℕ) → writers_find (width_in mesh) (kind_in step) P m f s ≡ room_finds (width_in mesh) (kind_in step) P m f s
  writers-left m f s = rw (mesh-left m, field-left f, step_left s)

-- a verdict before two that are the same where it is fine
pub after_same : (v : Verdict) {a b : Verdict} → (v ≡ fine → a ≡ b) → (v and_then a) ≡ (v and_then b)
unfolding ◌and_then◌
after_same (accepted t) e = e refl
after_same (refused k i) e = refl

pub rooms-left : (mesh field step labels : List ℕ) (lent₀ lent₁ : Records)
    → (cut_taken mesh field step labels and_then records_find (width_in mesh) (kind_in step) (lagoon_in mesh field step) labels lent₀ lent₁)
    ≡ (cut_taken mesh field step labels and_then rooms_find (width_in mesh) (kind_in step) (lagoon_in mesh field step) labels lent₀ lent₁)
unfolding cut_judged
rooms-left mesh field step labels lent₀ lent₁ = after_same (cut_taken mesh field step labels) (λ e.
    let q = both-fine _ _ (both-fine _ _ (both-fine _ _ e).1).1 in
    rw (
      writers-left mesh field step labels q.0 q.1 0 (omega arith) (length lent₀.mesh) (length lent₀.field) (length lent₀.step),
      writers-left mesh field step labels q.0 q.1 1 (omega arith) (length lent₁.mesh) (length lent₁.field) (length lent₁.step),
    ))
