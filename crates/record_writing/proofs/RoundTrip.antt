-- Records and back again, for every mesh, field and step and for every record, in tables that may be longer than the counts.
--
-- Reading undoes writing: whatever a writer that accepted left in the bytes, read at the answered length by a reader into tables that are
-- long enough, is accepted, and fills exactly the counted entries with the values that were written (`mesh-joined`, `field-joined`,
-- `step-joined`). Below them the same of the records alone (`mesh-read-back` and so on).
--
-- Writing undoes reading: the tables that a reader that accepted filled, written by a writer that accepts them, give the same bytes and
-- their length (`mesh-rejoined`, `field-rejoined`, `step-rejoined`); above them the same of the records alone. (`bytes` says that the list is one of bytes.)
use Prim.Native.Nat.{ℕ, ◌≤◌, ◌<◌, min}
use mathlib.Core.Path.{◌≡◌, refl, sym, ap, ◌∙◌}
use mathlib.Core.Bool.{true}
use mathlib.Core.List.{List, [], ◌++◌, append-nil}
use native.Mathlib.Omega.{arith}
use lib.IntN.{ℤ, pos}
use lib.ListN.{length, get_or, take, drop, drop_of_length-le}
use lib.Seq.{take_at}
use Rattle.lists.specs.Table.{table, over}
use Rattle.model.specs.Mesh.{Mesh, mesh_of, max_cells, max_faces}
use Rattle.model.specs.Meshes.{trimmed, over_mesh, at_counts}
use Rattle.model.specs.Accepted.{MeshLong, MeshLent}
use Rattle.model.specs.Causes.{accepted, Verdict, fine, ◌and_then◌, each, Call, counts, counts_within, mesh_values, field_values, outside_good, flux_good, water_of}
use Rattle.model.specs.Answers.{said}
use Rattle.model.proofs.Verdicts.{both-fine}
use Rattle.model.proofs.Accepted.{counted}
use Rattle.record_sections.specs.Sections.{Fits}
use Rattle.record_layouts.specs.Layouts.{mesh_kind, field_kind, kind_number, width_of, mass_of, outside_of, release_of, step_shape, step_value, mesh_record, field_record, step_record, mesh_length, field_length, step_length}
use Rattle.record_heads.specs.Heads.{kind_in, cells_in, faces_in, is_mesh_kind, is_step_kind}
use Rattle.record_layouts.specs.declared.Width.{Width}
use Rattle.record_layouts.specs.declared.Width.TheVariants.{Narrow, Wide}
use Rattle.record_layouts.specs.declared.StepKind.{StepKind}
use Rattle.record_layouts.specs.declared.StepKind.TheVariants.{Water, Outfalls}
use Rattle.record_reading.specs.Reading.{mesh_in, counts_in, volumes_in, firsts_in, seconds_in, shares_in, reaches_in, masses_in, fluxes_in, outsides_in, releases_in, mesh_read, field_read, step_read}
use Rattle.record_reading.specs.Answers.{mesh_said, step_read_said, counting, MeshReading, MeshReads, FieldReading, StepReading}
use Rattle.record_reading.specs.declared.MeshCounts.{MeshCounts}
use Rattle.record_reading.proofs.ReadLaws.{mesh-kind-is, step-read-says}
use Rattle.record_causes.specs.Verdicts.{no_field}
use Rattle.record_causes.proofs.Passed.{mesh-write-says, field-write-says, step-write-says}
use Rattle.record_writing.specs.Writing.{most_of, releases_fit, write_said, Writing, MeshWriting, FieldWriting, StepWriting}
use Rattle.record_writing.proofs.WidthLaws.{mesh_fits, masses_fit, field_fits, step_fits, none_inside}
use Rattle.record_writing.proofs.Accepting.{mesh-reads, field_reads, step_reads, mesh-passed, field-passed, step-passed}
use Rattle.record_writing.proofs.Back.{mesh-kind-back, mesh-cells-back, mesh-faces-back, mesh-record-length, mesh-bits-good, mesh-back, field-kind-back, field-cells-back, field-record-length, masses-back, step-kind-back, step-faces-back, step-record-length, step-bits-good, fluxes-back, outsides-back, releases-back, mesh-again, field-again, step-again}
use Rattle.std.specs.Prelude.{Result}
use Rattle.model.specs.declared.Refusal.{Refusal}

-- each kind of a step is one that its reader takes
step_kind : (w : Width) (kind : StepKind) → is_step_kind w (kind_number w kind) ≡ true
step_kind Narrow Water = refl
step_kind Narrow Outfalls = refl
step_kind Wide Water = refl
step_kind Wide Outfalls = refl

-- each kind of a mesh too, and it says its width
mesh-kind : (w : Width) → is_mesh_kind (mesh_kind w) ≡ true
mesh-kind Narrow = refl
mesh-kind Wide = refl

pub width_is : (w : Width) → width_of (mesh_kind w) ≡ w
width_is Narrow = refl
width_is Wide = refl

-- Reading undoes writing: a mesh.
module _ (w : Width) (M : Mesh) (within : counts M ≡ fine) (passes : mesh_values (most_of w) M ≡ fine) where
  pub cells-read-back : cells_in (mesh_record (mesh_kind w) M) ≡ M.cells
  cells-read-back = mesh-cells-back (mesh_kind w) M (mesh_fits w M within passes)

  pub faces-read-back : faces_in (mesh_record (mesh_kind w) M) ≡ M.faces
  faces-read-back = mesh-faces-back (mesh_kind w) M (mesh_fits w M within passes)

  pub mesh-read-back : (most_cells most_faces volumes firsts seconds shares reaches : ℕ)
      → counts_within (min most_cells max_cells) (min most_faces max_faces) M.cells M.faces ≡ fine
      → MeshLong M.cells M.faces volumes firsts seconds shares reaches
      → mesh_read most_cells most_faces (mesh_record (mesh_kind w) M) volumes firsts seconds shares reaches
      ≡ accepted (record { cells = M.cells; faces = M.faces; width = w })
  mesh-read-back most_cells most_faces volumes firsts seconds shares reaches limits long =
      let s = mesh_fits w M within passes in
      let c = mesh-cells-back (mesh_kind w) M s in
      let n = mesh-faces-back (mesh_kind w) M s in
      let q = mesh-kind-back (mesh_kind w) M s in
      let same-counts : counts_in (mesh_record (mesh_kind w) M) ≡ record { cells = M.cells; faces = M.faces; width = w } = rw (q, c, n, width_is w) in
      mesh-reads (mesh_record (mesh_kind w) M) most_cells most_faces volumes firsts seconds shares reaches (rw q (mesh-kind w)) (rw (c, n) limits)
      (rw (q, c, n) (mesh-record-length (mesh_kind w) M s))
      (rw (c, n) long) (λ i. rw (q, c, n) (mesh-bits-good (mesh_kind w) M s i)) ∙ ap accepted same-counts

  -- the whole of it: the counts, and each table cut to them
  pub mesh-is-back : mesh_in (mesh_record (mesh_kind w) M) ≡ trimmed M
  mesh-is-back = mesh-back (mesh_kind w) M (mesh_fits w M within passes)

-- A field on it.
module _ (w : Width) (M : Mesh) (within : counts M ≡ fine) (passes : mesh_values (most_of w) M ≡ fine) (field : List ℕ) (salt : field_values M field ≡ fine) where
  pub field-read-back : (masses : ℕ) → M.cells ≤ masses → field_read w M.cells (field_record (field_kind w) M.cells field) masses ≡ fine
  field-read-back masses l =
      let n = counted M within in
      let s = field_fits w M.cells field n.few_cells (masses_fit w M passes field salt) in
      field_reads (field_record (field_kind w) M.cells field) w M.cells masses (field-kind-back (field_kind w) M.cells field s)
      (field-cells-back (field_kind w) M.cells field s)
      n.some n.few_cells (field-record-length (field_kind w) M.cells field) l

  pub masses-read-back : masses_in (field_record (field_kind w) M.cells field) M.cells ≡ table M.cells (λ c. get_or field c 0)
  masses-read-back = masses-back (field_kind w) M.cells field (field_fits w M.cells field (counted M within).few_cells (masses_fit w M passes field salt))

-- A step on its cells and faces, of either kind.
module _ (w : Width) (M : Mesh) (within : counts M ≡ fine) (passes : mesh_values (most_of w) M ≡ fine) (field : List ℕ) (k : Call)
    (outsides-pass : each 7 M.faces (outside_good M field k) ≡ fine) (fluxes-pass : each 8 M.faces (flux_good (most_of w) M field k) ≡ fine)
    (kind : StepKind) (releases-pass : releases_fit (kind_number w kind) M.cells k.releases ≡ fine) where
  abbrev SR : List ℕ
  SR = step_record (kind_number w kind) M.cells M.faces M.seconds k.fluxes k.outsides k.releases

  fits : Fits (step_shape (kind_number w kind) M.cells M.faces M.seconds)
      (step_value (kind_number w kind) M.faces k.fluxes k.outsides k.releases)
  fits = step_fits w M passes field k outsides-pass fluxes-pass kind releases-pass (counted M within).few_faces

  kind-back : kind_in SR ≡ kind_number w kind
  kind-back = step-kind-back (kind_number w kind) M.cells M.faces M.seconds k.fluxes k.outsides k.releases fits

  pub step-read-back : (fluxes outsides releases : ℕ) → M.faces ≤ length M.seconds → M.faces ≤ fluxes → M.faces ≤ outsides → M.cells ≤ releases
      → step_read w M.cells M.faces M.seconds SR fluxes outsides releases ≡ accepted (kind_number w kind)
  unfolding counts
  step-read-back fluxes outsides releases ls lu lx ly =
      step_reads SR w M.cells M.faces M.seconds fluxes outsides releases (rw kind-back (step_kind w kind))
      (step-faces-back (kind_number w kind) M.cells M.faces M.seconds k.fluxes k.outsides k.releases fits) within ls
      (rw kind-back (step-record-length (kind_number w kind) M.cells M.faces M.seconds k.fluxes k.outsides k.releases)) lu lx ly
      (λ i. rw kind-back (step-bits-good (kind_number w kind) M.cells M.faces M.seconds k.fluxes k.outsides k.releases fits i))
      ∙ ap accepted kind-back

  pub fluxes-read-back : fluxes_in SR M.faces ≡ table M.faces (λ f. get_or k.fluxes f (pos 0))
  fluxes-read-back = fluxes-back (kind_number w kind) M.cells M.faces M.seconds k.fluxes k.outsides k.releases fits

  pub outsides-read-back : outsides_in SR M.faces M.seconds ≡ table M.faces (λ f. get_or k.outsides f 0)
  outsides-read-back =
      outsides-back (kind_number w kind) M.cells M.faces M.seconds k.fluxes k.outsides k.releases fits
      (none_inside w M passes field k outsides-pass fluxes-pass)

  pub releases-read-back : releases_in SR M.cells M.faces M.seconds ≡ table M.cells (λ c. get_or k.releases c 0)
  releases-read-back = releases-back (kind_number w kind) M.cells M.faces M.seconds k.fluxes k.outsides k.releases fits

-- A writing that answered a length: its causes found nothing, the length is the record's, and so are the bytes up to it.
module _ {v : Verdict} {N : ℕ} {rec bytes bytes' : List ℕ} {r : Result ℕ Refusal} {n : ℕ} (done : Writing v N rec bytes r bytes')
    (e : write_said r ≡ accepted n) where
  wrote : (v ≡ fine) × (N ≡ n) × (bytes' ≡ over rec bytes)
  unfolding ◌and_then◌
  wrote =
      let p = both-fine v (accepted N) (sym done.answer ∙ e) in
      let q = p.1 in
      let d : N ≡ n = cc in
      (p.0, d, rw p.0 at done.bytes_written)

  begins : length rec ≡ N → take n bytes' ≡ rec
  unfolding over
  begins len = rw (wrote.2, ← wrote.1) (take_at rec (drop (length rec) bytes) N len)

-- The writer's contract and the reader's, joined: a mesh.
pub mesh-joined : (w : Width) (M : Mesh) {bytes bytes' : List ℕ} {r : Result ℕ Refusal} {n : ℕ} → MeshWriting w M bytes r bytes' → write_said r ≡ accepted n
    → {lent left : Mesh} {a : Result MeshCounts Refusal}
    → counts_within (min lent.cells max_cells) (min lent.faces max_faces) M.cells M.faces ≡ fine
    → MeshLent (at_counts M lent) → MeshReads (take n bytes') lent a left
    → (mesh_said a ≡ accepted (record { cells = M.cells; faces = M.faces; width = w })) × (left ≡ over_mesh (trimmed M) lent)
unfolding mesh_length
mesh-joined w M {bytes} {bytes'} {r} {n} done e {lent} {left} {a} limits long read =
    let p = mesh-write-says w M (length bytes) (wrote done e).0 in
    let c = p.counts_fine in
    let v = p.values_fine in
    let t = begins done e (mesh-record-length (mesh_kind w) M (mesh_fits w M c v)) in
    let back = mesh-read-back w M c v lent.cells lent.faces _ _ _ _ _ limits long in
    let same : MeshCounts = record { cells = M.cells; faces = M.faces; width = w } in
    let q : MeshReading (accepted same) (mesh_record (mesh_kind w) M) lent a left = rw back at (rw t at read) in
    (q.answer, q.mesh-read ∙ ap (λ (K : Mesh). over_mesh K lent) (mesh-is-back w M c v))

-- A field.
pub field-joined : (w : Width) (M : Mesh) (field : List ℕ) {bytes bytes' : List ℕ} {r : Result ℕ Refusal} {n : ℕ} → FieldWriting w M field bytes r bytes'
    → write_said r ≡ accepted n
    → {masses masses' : List ℕ} {a : Result (Unit {0}) Refusal} → M.cells ≤ length masses
    → FieldReading (field_read w M.cells (take n bytes') (length masses)) M.cells (take n bytes') masses a masses'
    → (said a ≡ fine) × (masses' ≡ over (table M.cells (mass_of field)) masses)
unfolding field_length
field-joined w M field {bytes} {bytes'} {r} {n} done e {masses} {masses'} {a} lm read =
    let p = field-write-says w M field (length bytes) (wrote done e).0 in
    let t = begins done e (field-record-length (field_kind w) M.cells field) in
    let back = field-read-back w M p.counts_fine p.values_fine field p.salt-fine (length masses) lm in
    let q : FieldReading fine M.cells (field_record (field_kind w) M.cells field) masses a masses' = rw back at (rw t at read) in
    (q.answer, q.masses_read ∙ ap (λ xs. over xs masses) (masses-read-back w M p.counts_fine p.values_fine field p.salt-fine))

-- A step: its reader is lent the seconds that its writer was lent, and answers the kind that its writer was told.
pub step-joined : (w : Width) (M : Mesh) (kind : StepKind) (fluxes : List ℤ) (outsides releases : List ℕ) {bytes bytes' : List ℕ} {r : Result ℕ Refusal} {n : ℕ}
    → StepWriting w M (kind_number w kind) fluxes outsides releases bytes r bytes' → write_said r ≡ accepted n
    → {us us' : List ℤ} {xs xs' ys ys' : List ℕ} {a : Result StepKind Refusal}
    → M.faces ≤ length M.seconds → M.faces ≤ length us → M.faces ≤ length xs → M.cells ≤ length ys
    → StepReading w (step_read w M.cells M.faces M.seconds (take n bytes') (length us) (length xs) (length ys))
    M.cells M.faces M.seconds (take n bytes') us xs ys a us' xs' ys'
    → (step_read_said w a ≡ accepted (kind_number w kind)) × (us' ≡ over (table M.faces (λ f. get_or fluxes f (pos 0))) us)
    × (xs' ≡ over (table M.faces (outside_of outsides)) xs) × (ys' ≡ over (table M.cells (release_of releases)) ys)
unfolding step_length
step-joined w M kind fluxes outsides releases {bytes} {bytes'} {r} {n} done e {us} {us'} {xs} {xs'} {ys} {ys'} {a} ls lu lx ly read =
    let p = step-write-says w M (kind_number w kind) fluxes outsides releases (length bytes) (wrote done e).0 in
    let c = p.counts_fine in
    let v = p.values_fine in
    let o = p.outsides-fine in
    let u = p.fluxes-fine in
    let y = p.releases-fine in
    let k : Call = water_of fluxes outsides releases in
    let R = step_record (kind_number w kind) M.cells M.faces M.seconds fluxes outsides releases in
    let t = begins done e (step-record-length (kind_number w kind) M.cells M.faces M.seconds fluxes outsides releases) in
    let back = step-read-back w M c v no_field k o u kind y (length us) (length xs) (length ys) ls lu lx ly in
    let q : StepReading w (accepted (kind_number w kind)) M.cells M.faces M.seconds R us xs ys a us' xs' ys' = rw back at (rw t at read) in (
      q.answer,
      q.fluxes_read ∙ ap (λ zs. over zs us) (fluxes-read-back w M c v no_field k o u kind y),
      q.outsides_read ∙ ap (λ zs. over zs xs) (outsides-read-back w M c v no_field k o u kind y),
      q.releases_read ∙ ap (λ zs. over zs ys) (releases-read-back w M c v no_field k o u kind y),
    )

-- a table that was written over none
over-nil : {A : Type 0} (xs : List A) → over xs [] ≡ xs
unfolding over
over-nil {A} xs = let l : length {A = A} [] ≤ length xs = omega arith in ap (λ (ys : List A). xs ++ ys) (drop_of_length-le [] l) ∙ append-nil xs

-- Writing undoes reading. Nothing is asked of the values here: they fit their fields, from which they were read. A writer asks 3 to 8.
module _ (bs : List ℕ) (bytes : (j : ℕ) → get_or bs j 0 < 256) where
  pub mesh-written-back : {n : MeshCounts} (most_cells most_faces v f s w k : ℕ) → mesh_read most_cells most_faces bs v f s w k ≡ accepted n
      → mesh_record (kind_in bs) (mesh_in bs) ≡ bs
  mesh-written-back most_cells most_faces v f s w k e =
      rw (over-nil (volumes_in bs), over-nil (firsts_in bs), over-nil (seconds_in bs), over-nil (shares_in bs), over-nil (reaches_in bs)) at
      (mesh-again bs bytes (mesh-passed most_cells most_faces bs v f s w k e) (mesh_of 0 0 [] [] [] [] []))

  pub field-written-back : (w : Width) (cells m : ℕ) → field_read w cells bs m ≡ fine → field_record (kind_in bs) cells (masses_in bs cells) ≡ bs
  field-written-back w cells m e = rw (over-nil (masses_in bs cells)) at (field-again w cells bs bytes (field-passed w cells bs m e) [])

  pub step-written-back : (w : Width) (cells faces : ℕ) (seconds : List ℕ) (u x y : ℕ) {n : ℕ} → step_read w cells faces seconds bs u x y ≡ accepted n
      → step_record (kind_in bs) cells faces seconds (fluxes_in bs faces) (outsides_in bs faces seconds) (releases_in bs cells faces seconds) ≡ bs
  step-written-back w cells faces seconds u x y e =
      rw (over-nil (fluxes_in bs faces), over-nil (outsides_in bs faces seconds), over-nil (releases_in bs cells faces seconds)) at
      (step-again cells faces seconds bs bytes (step-passed w cells faces seconds bs u x y e) [] [] [])

  -- A writing of what was read: it answers the length of the record, and leaves its bytes.
  rewrote : {v : Verdict} {N : ℕ} {rec old new : List ℕ} {r : Result ℕ Refusal} {k : ℕ} → Writing v N rec old r new → write_said r ≡ accepted k
      → rec ≡ bs → length rec ≡ N → (k ≡ length bs) × (new ≡ over bs old)
  rewrote {old = old} done e same len =
      let p = wrote done e in (sym p.1 ∙ sym len ∙ ap length same, p.2 ∙ ap (λ xs. over xs old) same)

  -- The reader's contract and the writer's, joined.
  pub mesh-rejoined : {lent left : Mesh} {a : Result MeshCounts Refusal} {n : MeshCounts} {old new : List ℕ} {r : Result ℕ Refusal} {k : ℕ}
      → MeshReads bs lent a left → mesh_said a ≡ accepted n → MeshWriting n.width (counting n left) old r new → write_said r ≡ accepted k
      → (k ≡ length bs) × (new ≡ over bs old)
  unfolding mesh_length
  mesh-rejoined {lent} {left} {a} {n} {old} {new} {r} {k} read told done e =
      let came = sym read.answer ∙ told in
      let passed = mesh-passed lent.cells lent.faces bs _ _ _ _ _ came in
      let q : MeshReading (accepted n) bs lent a left = rw came at read in
      let N : Mesh = counting n left in
      let kind : mesh_kind n.width ≡ kind_in bs = rw passed.counts_are (mesh-kind-is (kind_in bs) passed.kind) in
      let same : mesh_record (mesh_kind n.width) N ≡ bs =
      rw (kind, passed.counts_are, q.mesh-read) (mesh-again bs bytes passed lent) in
      let p = mesh-write-says n.width N (length old) (wrote done e).0 in
      rewrote done e same (mesh-record-length (mesh_kind n.width) N (mesh_fits n.width N p.counts_fine p.values_fine))

  pub field-rejoined : (w : Width) (M : Mesh) {masses masses' : List ℕ} {a : Result (Unit {0}) Refusal} {old new : List ℕ} {r : Result ℕ Refusal} {k : ℕ}
      → FieldReading (field_read w M.cells bs (length masses)) M.cells bs masses a masses' → said a ≡ fine → FieldWriting w M masses' old r new
      → write_said r ≡ accepted k
      → (k ≡ length bs) × (new ≡ over bs old)
  unfolding field_length
  field-rejoined w M {masses} {masses'} {a} {old} {new} {r} {k} read told done e =
      let came = sym read.answer ∙ told in
      let q : FieldReading fine M.cells bs masses a masses' = rw came at read in
      let passed = field-passed w M.cells bs (length masses) came in
      let same : field_record (field_kind w) M.cells masses' ≡ bs = rw (← passed.kind, q.masses_read) (field-again w M.cells bs bytes passed masses) in
      rewrote done e same (field-record-length (field_kind w) M.cells masses')

  -- the writer is told the width that the reader was told, and the kind that it answered
  pub step-rejoined : (w : Width) (M : Mesh) {us us' : List ℤ} {xs xs' ys ys' : List ℕ} {a : Result StepKind Refusal} {n : ℕ} {old new : List ℕ} {r : Result ℕ Refusal} {k : ℕ}
      → StepReading w (step_read w M.cells M.faces M.seconds bs (length us) (length xs) (length ys))
      M.cells M.faces M.seconds bs us xs ys a us' xs' ys' → step_read_said w a ≡ accepted n → StepWriting w M n us' xs' ys' old r new → write_said r
      ≡ accepted k
      → (k ≡ length bs) × (new ≡ over bs old)
  unfolding step_length
  step-rejoined w M {us} {us'} {xs} {xs'} {ys} {ys'} {a} {n} {old} {new} {r} {k} read told done e =
      let came = sym read.answer ∙ told in
      let says = step-read-says w M.cells M.faces M.seconds bs (length us) (length xs) (length ys) came in
      let passed = step-passed w M.cells M.faces M.seconds bs (length us) (length xs) (length ys) came in
      let q : StepReading w (accepted n) M.cells M.faces M.seconds bs us xs ys a us' xs' ys' = rw came at read in
      let same : step_record n M.cells M.faces M.seconds us' xs' ys' ≡ bs =
      rw (says.kind_is, q.fluxes_read, q.outsides_read, q.releases_read) (step-again M.cells M.faces M.seconds bs bytes passed us xs ys) in
      rewrote done e same (step-record-length n M.cells M.faces M.seconds us' xs' ys')
