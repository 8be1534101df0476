-- Writing what was read, of all eight kinds: where the values read pass causes 3 to 8 and the bytes lent are as many as the record has, the
-- writer of that kind accepts them, answers the record's length and gives its bytes again. The counts, the lengths of the tables and, of a
-- step, 18 need no premise: the reading that was accepted has tested them, and a release that was read in a kind fits its field there. 3, 5
-- and 8 are asked with the ceiling of the width; what an old kind holds is within the old ones (taking_mesh/proofs/MeshLaws.antt `mesh-small`).
use Prim.Native.Nat.{ℕ, ◌≤◌, ◌<◌, ◌^◌}
use mathlib.Core.Path.{◌≡◌, sym, ◌∙◌}
use mathlib.Core.Bool.{true}
use mathlib.Core.List.{List, [], ◌∷◌}
use native.Mathlib.Omega.{arith}
use borrow.Author.Tests.{le-leb, lt-ltb}
use lib.Dec.{ltb}
use lib.IntN.{ℤ}
use lib.ListN.{length, get_or}
use Rattle.lists.specs.Table.{table, over}
use Rattle.lists.proofs.Tables.{length_over, get_d_over}
use Rattle.model.specs.Mesh.{Mesh, max_cells, max_faces}
use Rattle.model.specs.Causes.{accepted, Verdict, fine, ◌and_then◌, each, counts, mesh_tables, mesh_values, field_table, field_values, outside_good, flux_good, water_of}
use Rattle.model.specs.Answers.{said}
use Rattle.model.proofs.Verdicts.{all-fine, fine-all, need-met, fine-each, past}
use Rattle.model.proofs.Accepted.{lent-mesh}
use Rattle.model.proofs.Parts.{over-lent}
use Rattle.record_bits.proofs.Fields.{bits-lt}
use Rattle.record_sections.specs.Sections.{place}
use Rattle.record_layouts.specs.Layouts.{mesh_kind, field_kind, release_bits, step_shape, mesh_length, field_length, step_length}
use Rattle.record_heads.specs.Heads.{kind_in, cells_in, faces_in}
use Rattle.record_layouts.specs.declared.Width.{Width}
use Rattle.record_heads.proofs.HeadLaws.{within-met}
use Rattle.record_reading.specs.Reading.{mesh_in, masses_in, fluxes_in, outsides_in, releases_in, field_read, step_read}
use Rattle.record_reading.specs.Answers.{mesh_said, step_read_said, counting, MeshReading, MeshReads, FieldReading, StepReading}
use Rattle.record_reading.specs.declared.MeshCounts.{MeshCounts}
use Rattle.record_reading.proofs.ReadLaws.{mesh-kind-is, mesh_cut, read-says, field-read-says, step-read-says}
use Rattle.record_causes.specs.Verdicts.{mesh_write_causes, field_write_causes, step_write_causes}
use Rattle.record_writing.specs.Writing.{most_of, releases_fit, mesh_write_verdict, field_write_verdict, step_write_verdict, write_said, Writing, MeshWriting, FieldWriting, StepWriting}
use Rattle.record_writing.proofs.RoundTrip.{mesh-rejoined, field-rejoined, step-rejoined}
use Rattle.std.specs.Prelude.{Result}
use Rattle.model.specs.declared.Refusal.{Refusal}
use Rattle.record_layouts.specs.declared.StepKind.{StepKind}

-- a table that was read into is as long as it was
filled-long : {A : Type 0} (n : ℕ) (f : ℕ → A) (ys : List A) → n ≤ length ys → n ≤ length (over (table n f) ys)
filled-long n f ys l = omega (arith, length_over n f ys l)

-- an accepted writing answers its length
answers : {v : Verdict} {N : ℕ} {rec old new : List ℕ} {r : Result ℕ Refusal} → Writing v N rec old r new → v ≡ fine → write_said r ≡ accepted N
answers {N = N} w e = w.answer ∙ past (accepted N) e

-- The mesh that a field or a step of a width is written on: 1 to 5, with the ceilings of that width.
abbrev pub mesh_within : Width → Mesh → Verdict
mesh_within w M = counts M and_then mesh_tables M and_then mesh_values (most_of w) M

mesh-parts : (w : Width) (M : Mesh) → mesh_within w M ≡ fine → (counts M ≡ fine) × (mesh_tables M ≡ fine) × (mesh_values (most_of w) M ≡ fine)
mesh-parts w M e = let p = all-fine (counts M ∷ mesh_tables M ∷ mesh_values (most_of w) M ∷ []) e in (p.0, p.1.0, p.1.1.0)

module _ (bs : List ℕ) (bytes : (j : ℕ) → get_or bs j 0 < 256) where
  -- A MESH: 3 to 5.
  pub mesh-written-again : {lent left : Mesh} {a : Result MeshCounts Refusal} {n : MeshCounts} {old new : List ℕ} {r : Result ℕ Refusal} → MeshReads bs lent a left
      → mesh_said a ≡ accepted n → mesh_values (most_of n.width) (counting n left) ≡ fine → length bs ≤ length old
      → MeshWriting n.width (counting n left) old r new → (write_said r ≡ accepted (length bs)) × (new ≡ over bs old)
  unfolding counts mesh_write_verdict mesh_length
  mesh-written-again {lent} {left} {a} {n} {old} {new} {r} read told values room w =
      let came = sym read.answer ∙ told in
      let says = read-says lent.cells lent.faces bs _ _ _ _ _ came in
      let q : MeshReading (accepted n) bs lent a left = rw came at read in
      let N : Mesh = counting n left in
      let kind : mesh_kind n.width ≡ kind_in bs = rw says.counts_are (mesh-kind-is (kind_in bs) says.head.kind) in
      let long : mesh_length (mesh_kind n.width) n.cells n.faces ≤ length old = rw (kind, says.counts_are) (omega (arith, says.tables.same_length)) in
      let tables : mesh_tables N ≡ fine = rw (says.counts_are, q.mesh-read) (lent-mesh _ (over-lent (mesh_in bs) lent (mesh_cut bs))) in
      let ok : mesh_write_verdict n.width N (length old) ≡ fine = fine-all (mesh_write_causes n.width N (length old)) (
        rw says.counts_are (within-met max_cells max_faces (cells_in bs) (faces_in bs) says.head.some_cells says.head.few_cells says.head.few_faces),
        (tables, (need-met 2 11 (le-leb _ _ long), (values, tt))),
      ) in
      let e = answers w ok in
      let p = mesh-rejoined bs bytes read told w e in
      (rw p.0 at e, p.1)

  -- A FIELD on such a mesh: 6. The writer is told the width that the reader was told.
  pub field-written-again : (w : Width) (M : Mesh) {masses masses' : List ℕ} {a : Result (Unit {0}) Refusal} {old new : List ℕ} {r : Result ℕ Refusal}
      → FieldReading (field_read w M.cells bs (length masses)) M.cells bs masses a masses' → said a ≡ fine
      → mesh_within w M ≡ fine → field_values M masses' ≡ fine → length bs ≤ length old → FieldWriting w M masses' old r new
      → (write_said r ≡ accepted (length bs)) × (new ≡ over bs old)
  unfolding field_table field_write_verdict field_length masses_in
  field-written-again w M {masses} {masses'} {a} {old} {new} {r} read told mesh_fine salt room done =
      let came = sym read.answer ∙ told in
      let says = field-read-says w M.cells bs (length masses) came in
      let lent = says.tables in
      let q : FieldReading fine M.cells bs masses a masses' = rw came at read in
      let m : M.cells ≤ length masses' = rw q.masses_read (filled-long _ _ masses lent.masses_long) in
      let long : field_length (field_kind w) M.cells ≤ length old =
      rw (← says.head.kind) (omega (arith, lent.same_length)) in
      let p = mesh-parts w M mesh_fine in
      let ok : field_write_verdict w M masses' (length old) ≡ fine =
      fine-all (field_write_causes w M masses' (length old))
      (p.0, (p.1, (need-met 2 5 (le-leb _ _ m), (need-met 2 11 (le-leb _ _ long), (p.2, (salt, tt)))))) in
      let e = answers done ok in
      let b = field-rejoined bs bytes w M read told done e in
      (rw b.0 at e, b.1)

  -- a release that was read fits its field
  release-read : (cells faces : ℕ) (seconds ys : List ℕ) (c : ℕ) → c < cells
      → ltb (get_or (over (releases_in bs cells faces seconds) ys) c 0) (2 ^ release_bits (kind_in bs)) ≡ true
  unfolding releases_in
  release-read cells faces seconds ys c h = rw (get_d_over cells _ ys 0 c h)
      (lt-ltb _ _ (bits-lt bs (place (step_shape (kind_in bs) cells faces seconds) 3 0 c) (release_bits (kind_in bs))))

  -- A STEP on such a mesh: 7 and 8. The writer is told the kind that the reader answered too.
  pub step-written-again : (w : Width) (M : Mesh) {us us' : List ℤ} {xs xs' ys ys' : List ℕ} {a : Result StepKind Refusal} {n : ℕ} {old new : List ℕ} {r : Result ℕ Refusal}
      → StepReading w (step_read w M.cells M.faces M.seconds bs (length us) (length xs) (length ys))
      M.cells M.faces M.seconds bs us xs ys a us' xs' ys' → step_read_said w a ≡ accepted n
      → mesh_within w M ≡ fine → each 7 M.faces (outside_good M [] (water_of us' xs' ys')) ≡ fine
      → each 8 M.faces (flux_good (most_of w) M [] (water_of us' xs' ys')) ≡ fine
      → length bs ≤ length old → StepWriting w M n us' xs' ys' old r new
      → (write_said r ≡ accepted (length bs)) × (new ≡ over bs old)
  unfolding step_write_verdict step_length fluxes_in outsides_in releases_in
  step-written-again w M {us} {us'} {xs} {xs'} {ys} {ys'} {a} {n} {old} {new} {r} read told mesh_fine outside-fine flux-fine room done =
      let came = sym read.answer ∙ told in
      let says = step-read-says w M.cells M.faces M.seconds bs (length us) (length xs) (length ys) came in
      let lent = says.tables in
      let q : StepReading w (accepted n) M.cells M.faces M.seconds bs us xs ys a us' xs' ys' = rw came at read in
      let u : M.faces ≤ length us' = rw q.fluxes_read (filled-long _ _ us lent.fluxes_long) in
      let x : M.faces ≤ length xs' = rw q.outsides_read (filled-long _ _ xs lent.outsides_long) in
      let y : M.cells ≤ length ys' = rw q.releases_read (filled-long _ _ ys lent.releases_long) in
      let long : step_length n M.cells M.faces M.seconds ≤ length old = rw says.kind_is (omega (arith, lent.same_length)) in
      let fit : releases_fit n M.cells ys' ≡ fine = rw (says.kind_is, q.releases_read)
      (fine-each 18 M.cells _ (λ c h. release-read M.cells M.faces M.seconds ys c h)) in
      let p = mesh-parts w M mesh_fine in
      let ok : step_write_verdict w M n us' xs' ys' (length old) ≡ fine =
      fine-all (step_write_causes w M n us' xs' ys' (length old)) (
        p.0,
        (
          p.1,
          (
            need-met 2 6 (le-leb _ _ u),
            (
              need-met 2 7 (le-leb _ _ x),
              (need-met 2 11 (le-leb _ _ long), (need-met 2 14 (le-leb _ _ y), (p.2, (fit, (outside-fine, (flux-fine, tt)))))),
            ),
          ),
        ),
      ) in
      let e = answers done ok in
      let b = step-rejoined bs bytes w M read told done e in
      (rw b.0 at e, b.1)
