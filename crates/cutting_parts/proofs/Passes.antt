-- A part of a lagoon whose step is accepted passes every cause of the step.
use Prim.Native.Nat.{ℕ, ◌≤◌, ◌<◌}
use mathlib.Core.Path.{◌≡◌, refl, sym, ap, ◌∙◌}
use mathlib.Core.Logic.{◌≢◌}
use mathlib.Core.Bool.{Bool, true, false, cond}
use mathlib.Core.List.{List}
use native.Mathlib.Omega.{arith}
use borrow.Author.Tests.{eq-eqb, ne_eqb, le-leb}
use lib.Dec.{leb}
use lib.IntN.{ℤ}
use lib.ListN.{length}
use Rattle.lists.proofs.Tests.{true-both}
use Rattle.signed.specs.Sign.{is_negative, size, turn}
use Rattle.signed.proofs.Turns.{size-turn}
use Rattle.model.specs.Mesh.{Mesh, volume, first, second, share, reach, rim, incoming, outgoing, max_cells, max_faces, max_concentration, max_rim_flux, ceiling}
use Rattle.model.specs.Step.{flux, outside, concentration}
use Rattle.model.specs.Causes.{fine, ◌and_then◌, long, spacing_fit, outside_fit, flux_fit, Call, work_entries, step_lengths, counts_within, counts, mesh_lengths, mesh_tables, volume_good, ends_good, spacing_good, mesh_causes, mesh_values, field_table, salt_good, field_values, step_tables, raised_good, raised_values, outside_good, flux_good, balance_good, outflow_good, water_causes, step_values, step_causes, verdict}
use Rattle.model.specs.Accepted.{Ready}
use Rattle.model.proofs.Verdicts.{all-fine, fine-all, need-met, each-fine, fine-each}
use Rattle.model.proofs.Accepted.{Passed, passed, ready, ends-pass, flux-few}
use Rattle.cutting_parts.specs.Cut.{Tables, Lagoon, whole_mesh, step_on, step_input, in_part, touches, part_cells, is_turned, by_cell, by_face, part_of}
use Rattle.cutting_parts.specs.Parts.{TablesLong, LentAtCounts}
use Rattle.lists.proofs.Marked.{count_most, picked-long}
use Rattle.cutting_parts.proofs.Part.{Side, inside, over_rim, at_first, at_second, incoming-part, outgoing-part}
use Rattle.cutting_parts.proofs.Entries.{cell, face, volume-is, mass-is, release-is, share-is, reach-is, flux-is, outside-is, face-ends, part-mesh}

-- an outside value at a cut
cut-outside : (inward : Bool) (q : ℕ) → q ≤ max_concentration → leb (cond inward q 0) (cond inward max_concentration 0) ≡ true
cut-outside true q h = le-leb q max_concentration h
cut-outside false q h = refl

module _ (L : Lagoon) (labels : List ℕ) (p : ℕ) (lent : Tables) (nexts : List ℕ) (moveds : List ℤ) (work : List ℕ)
    (whole-fine : verdict (whole_mesh L) L.tables.masses (step_on L nexts moveds work) ≡ fine)
    (some : 1 ≤ part_cells L labels p) (lent-long : TablesLong L lent)
    (nexts' : List ℕ) (moveds' : List ℤ) (work' : List ℕ) (room : LentAtCounts (part_of L labels p lent) nexts' moveds' work') where
  abbrev part : Lagoon
  part = part_of L labels p lent

  abbrev M : Mesh
  M = whole_mesh L

  abbrev N : Mesh
  N = whole_mesh part

  abbrev field : List ℕ
  field = L.tables.masses

  abbrev field' : List ℕ
  field' = part.tables.masses

  abbrev k : Call
  k = step_on L nexts moveds work

  abbrev k' : Call
  k' = step_on part nexts' moveds' work'

  past : Passed M field k
  past = passed M field k whole-fine

  whole : Ready (step_input L)
  whole = ready M field k whole-fine

  fewer-cells : N.cells ≤ L.cells
  fewer-cells = count_most (in_part L labels p) L.cells

  fewer-faces : N.faces ≤ L.faces
  fewer-faces = count_most (touches L labels p) L.faces

  cell_in : (c : ℕ) → c < N.cells → cell L labels p lent c < L.cells
  cell_in = (part-mesh L labels p lent whole.counts_fit.few_cells whole.fit).cell_in

  face_in : (f : ℕ) → f < N.faces → face L labels p lent f < L.faces
  face_in = (part-mesh L labels p lent whole.counts_fit.few_cells whole.fit).face_in

  -- cause 1
  counts-pass : counts N ≡ fine
  unfolding counts counts_within ◌and_then◌
  counts-pass = rw (need-met 1 0 (true-both (le-leb 1 N.cells some) (le-leb N.cells max_cells (omega (arith, fewer-cells, whole.counts_fit.few_cells)))))
      (need-met 1 1 (le-leb N.faces max_faces (omega (arith, fewer-faces, whole.counts_fit.few_faces))))

  -- cause 2
  cells-long : {A : Type 0} (position : ℕ) (entry : ℕ → A) (ys : List A) → L.cells ≤ length ys → long position N.cells (length (by_cell L labels p entry ys))
      ≡ fine
  cells-long position entry ys h = need-met 2 position (le-leb N.cells (length (by_cell L labels p entry ys))
      (omega (arith, fewer-cells, picked-long L.cells (in_part L labels p) entry ys h)))

  faces-long : {A : Type 0} (position : ℕ) (entry : ℕ → A) (ys : List A) → L.faces ≤ length ys → long position N.faces (length (by_face L labels p entry ys))
      ≡ fine
  faces-long position entry ys h = need-met 2 position (le-leb N.faces (length (by_face L labels p entry ys))
      (omega (arith, fewer-faces, picked-long L.faces (touches L labels p) entry ys h)))

  mesh-tables-pass : mesh_tables N ≡ fine
  unfolding mesh_tables
  mesh-tables-pass = fine-all (mesh_lengths N) (
    cells-long 0 _ _ lent-long.volumes_long,
    (
      faces-long 1 _ _ lent-long.firsts_long,
      (
        faces-long 2 _ _ lent-long.seconds_long,
        (faces-long 3 _ _ lent-long.shares_long, (faces-long 4 _ _ lent-long.reaches_long, tt)),
      ),
    ),
  )

  field-table-pass : field_table N field' ≡ fine
  unfolding field_table
  field-table-pass = cells-long 5 _ _ lent-long.masses_long

  step-tables-pass : step_tables N field' k' ≡ fine
  unfolding step_tables
  step-tables-pass = fine-all (step_lengths N.cells N.faces k') (
    faces-long 6 _ _ lent-long.fluxes_long,
    (
      faces-long 7 _ _ lent-long.outsides_long,
      (
        need-met 2 8 (le-leb N.cells (length nexts') room.nexts_long),
        (
          need-met 2 9 (le-leb N.faces (length moveds') room.moveds_long),
          (
            need-met 2 10 (le-leb (work_entries N.cells N.faces) (length work') room.work_long),
            (cells-long 14 _ _ lent-long.releases_long, tt),
          ),
        ),
      ),
    ),
  )

  -- causes 3 to 5
  volumes-pass : (c : ℕ) → c < N.cells → volume_good ceiling N c ≡ true
  unfolding mesh_values volume_good
  volumes-pass c h = rw (volume-is L labels p lent c h)
      (each-fine 3 M.cells (volume_good ceiling M) (all-fine (mesh_causes ceiling M) past.mesh_values_fine).0 (cell L labels p lent c) (cell_in c h))

  module _ (f : ℕ) (l : f < N.faces) where
    abbrev F : ℕ
    F = face L labels p lent f

    apart : (c t : Bool) → Side M N (cell L labels p lent) f F c t → first N f < N.cells → first N f ≢ second N f
    apart false false (inside a e d b) h q = whole.fit.apart F (face_in f l) (a ∙ ap (cell L labels p lent) q ∙ sym b)
    apart false false (over_rim a e d) h q = absurd (omega (arith, fewer-cells, whole.counts_fit.few_cells))
    apart false true z h q = elim z [ ]
    apart true false (at_first a e d n) h q = absurd (omega (arith, fewer-cells, whole.counts_fit.few_cells))
    apart true true (at_second a e d n) h q = absurd (omega (arith, fewer-cells, whole.counts_fit.few_cells))

    ends-good : ends_good N f ≡ true
    unfolding ends_good
    ends-good = let e = face-ends L labels p lent whole.counts_fit.few_cells whole.fit f l in
        ends-pass N.cells (first N f) (second N f) e.1 e.2 (apart _ _ e.0 e.1)

    spaced : (c t : Bool) → Side M N (cell L labels p lent) f F c t → spacing_fit ceiling (second M F) (share M F) (reach M F) ≡ true
        → spacing_fit ceiling (second N f) (cond c 0 (share M F)) (cond c 0 (reach M F)) ≡ true
    spaced false false (inside a e d b) g = rw (ne_eqb (second N f) rim d) (rw (ne_eqb (second M F) rim e) at g)
    spaced false false (over_rim a e d) g = rw (eq-eqb (second N f) rim d) (rw (eq-eqb (second M F) rim e) at g)
    spaced false true z g = elim z [ ]
    spaced true false (at_first a e d n) g = rw (eq-eqb (second N f) rim d)
    spaced true true (at_second a e d n) g = rw (eq-eqb (second N f) rim d)

    spacing-good : spacing_good ceiling N f ≡ true
    unfolding mesh_values spacing_good
    spacing-good = rw (share-is L labels p lent f l, reach-is L labels p lent f l)
        (spaced _ _ (face-ends L labels p lent whole.counts_fit.few_cells whole.fit f l).0
        (each-fine 5 M.faces (spacing_good ceiling M) (all-fine (mesh_causes ceiling M) past.mesh_values_fine).1.1.0 F (face_in f l)))

    -- causes 7 and 8
    outside-fits : (c t : Bool) → Side M N (cell L labels p lent) f F c t
        → outside_fit (second M F) (is_negative (flux (step_input L) F)) (outside (step_input L) F) ≡ true
        → outside_fit (second N f) (is_negative (turn t (flux (step_input L) F)))
        (cond c (cond (is_negative (turn t (flux (step_input L) F))) (concentration (step_input L) (cond t (first M F) (second M F))) 0) (outside (step_input L) F))
        ≡ true
    outside-fits false false (inside a e d b) g = rw (ne_eqb (second N f) rim d) (rw (ne_eqb (second M F) rim e) at g)
    outside-fits false false (over_rim a e d) g = rw (eq-eqb (second N f) rim d) (rw (eq-eqb (second M F) rim e) at g)
    outside-fits false true z g = elim z [ ]
    outside-fits true false (at_first a e d n) g = rw (eq-eqb (second N f) rim d)
        (cut-outside (is_negative (flux (step_input L) F)) _ (whole.salt_most (second M F) (whole.fit.second_in F (face_in f l) e)))
    outside-fits true true (at_second a e d n) g = rw (eq-eqb (second N f) rim d)
        (cut-outside (is_negative (turn true (flux (step_input L) F))) _ (whole.salt_most (first M F) (whole.fit.first-in F (face_in f l))))

    outside-good : outside_good N field' k' f ≡ true
    unfolding step_values outside_good
    outside-good = rw (outside-is L labels p lent f l, flux-is L labels p lent f l)
        (outside-fits _ _ (face-ends L labels p lent whole.counts_fit.few_cells whole.fit f l).0
        (each-fine 7 M.faces (outside_good M field k) (all-fine (water_causes ceiling M field k) past.step_values_fine).0 F (face_in f l)))

    flux-fits : (c t : Bool) → Side M N (cell L labels p lent) f F c t → flux_fit ceiling (second M F) (reach M F) (size (flux (step_input L) F)) ≡ true
        → flux_fit ceiling (second N f) (cond c 0 (reach M F)) (size (flux (step_input L) F)) ≡ true
    flux-fits false false (inside a e d b) g = rw (ne_eqb (second N f) rim d) (rw (ne_eqb (second M F) rim e) at g)
    flux-fits false false (over_rim a e d) g = rw (eq-eqb (second N f) rim d) (rw (eq-eqb (second M F) rim e) at g)
    flux-fits false true z g = elim z [ ]
    flux-fits true false (at_first a e d n) g = rw (eq-eqb (second N f) rim d) (le-leb _ max_rim_flux (flux-few (step_input L) whole F (face_in f l)))
    flux-fits true true (at_second a e d n) g = rw (eq-eqb (second N f) rim d) (le-leb _ max_rim_flux (flux-few (step_input L) whole F (face_in f l)))

    flux-good : flux_good ceiling N field' k' f ≡ true
    unfolding step_values flux_good
    flux-good = rw (flux-is L labels p lent f l, reach-is L labels p lent f l, size-turn (is_turned L labels p F) (flux (step_input L) F))
        (flux-fits _ _ (face-ends L labels p lent whole.counts_fit.few_cells whole.fit f l).0
        (each-fine 8 M.faces (flux_good ceiling M field k) (all-fine (water_causes ceiling M field k) past.step_values_fine).1.0 F (face_in f l)))

  mesh-values-pass : mesh_values ceiling N ≡ fine
  unfolding mesh_values
  mesh-values-pass = fine-all (mesh_causes ceiling N) (
    fine-each 3 N.cells (volume_good ceiling N) volumes-pass,
    (fine-each 4 N.faces (ends_good N) ends-good, (fine-each 5 N.faces (spacing_good ceiling N) spacing-good, tt)),
  )

  -- causes 6 and 18
  field-values-pass : field_values N field' ≡ fine
  unfolding field_values salt_good
  field-values-pass = fine-each 6 N.cells (salt_good N field') (λ c h. rw (volume-is L labels p lent c h, mass-is L labels p lent c h)
      (each-fine 6 M.cells (salt_good M field) past.field_values_fine (cell L labels p lent c) (cell_in c h)))

  raised-values-pass : raised_values N field' k' ≡ fine
  unfolding raised_values raised_good
  raised-values-pass = fine-each 18 N.cells (raised_good N field' k')
      (λ c h. rw (volume-is L labels p lent c h, mass-is L labels p lent c h, release-is L labels p lent c h)
      (each-fine 18 M.cells (raised_good M field k) past.raised_values_fine (cell L labels p lent c) (cell_in c h)))

  -- causes 9 and 10
  in-same : (c : ℕ) → c < N.cells → incoming N (flux (step_input part)) c ≡ incoming M (flux (step_input L)) (cell L labels p lent c)
  in-same = incoming-part (part-mesh L labels p lent whole.counts_fit.few_cells whole.fit) (flux (step_input L)) (flux (step_input part))
      (flux-is L labels p lent)

  out-same : (c : ℕ) → c < N.cells → outgoing N (flux (step_input part)) c ≡ outgoing M (flux (step_input L)) (cell L labels p lent c)
  out-same = outgoing-part (part-mesh L labels p lent whole.counts_fit.few_cells whole.fit) (flux (step_input L)) (flux (step_input part))
      (flux-is L labels p lent)

  balance-good : (c : ℕ) → c < N.cells → balance_good N field' k' c ≡ true
  unfolding balance_good
  balance-good c h = eq-eqb _ _ (in-same c h ∙ whole.sound.level (cell L labels p lent c) (cell_in c h) ∙ sym (out-same c h))

  outflow-good : (c : ℕ) → c < N.cells → outflow_good N field' k' c ≡ true
  unfolding outflow_good
  outflow-good c h = le-leb (outgoing N (flux (step_input part)) c) (volume N c)
      (rw (out-same c h, volume-is L labels p lent c h) (whole.sound.courant (cell L labels p lent c) (cell_in c h)))

  step-values-pass : step_values ceiling N field' k' ≡ fine
  unfolding step_values
  step-values-pass = fine-all (water_causes ceiling N field' k') (
    fine-each 7 N.faces (outside_good N field' k') outside-good,
    (
      fine-each 8 N.faces (flux_good ceiling N field' k') flux-good,
      (fine-each 9 N.cells (balance_good N field' k') balance-good, (fine-each 10 N.cells (outflow_good N field' k') outflow-good, tt)),
    ),
  )

  pub part-fine : verdict N field' k' ≡ fine
  unfolding verdict
  part-fine = fine-all (step_causes N field' k') (
    counts-pass,
    (
      mesh-tables-pass,
      (
        field-table-pass,
        (
          step-tables-pass,
          (mesh-values-pass, (field-values-pass, (raised-values-pass, (step-values-pass, tt)))),
        ),
      ),
    ),
  )
