-- S-12: neither the cutting refused nor the plain step of the whole: then nor is that of a part, and its next and moved masses are the whole's.
use Prim.Native.Nat.{ℕ, ◌≤◌, ◌<◌}
use mathlib.Core.Path.{◌≡◌, sym, ap, ◌∙◌}
use mathlib.Core.List.{List}
use native.Mathlib.Omega.{arith}
use borrow.Author.Tests.{leb-true}
use lib.IntN.{ℤ, pos}
use lib.ListN.{length, get_or}
use Rattle.lists.specs.Table.{over}
use Rattle.lists.proofs.Tables.{get_d_over, table-cong}
use Rattle.signed.specs.Sign.{turn}
use Rattle.model.specs.Mesh.{Mesh, updated}
use Rattle.model.specs.Step.{mass, carried}
use Rattle.model.specs.Causes.{accepted, fine, verdict}
use Rattle.model.specs.Accepted.{Ready}
use Rattle.model.specs.Calls.{mass_in, Crossing, step_answer, next_table, moved_table}
use Rattle.model.proofs.Verdicts.{both-fine, all-fine, past, long-fine, each-fine}
use Rattle.model.proofs.Accepted.{ready}
use Rattle.lists.specs.Marked.{picked}
use Rattle.cutting_parts.specs.Cut.{Tables, Lagoon, whole_mesh, step_on, step_input, part_cells, is_turned, by_cell, by_face, part_of}
use Rattle.cutting_parts.specs.Refusals.{part_good, label_causes, label_values, all_long, cut_lengths, cut_tables, cut_causes, cut_verdict}
use Rattle.cutting_parts.specs.Parts.{plain_answer, plain_crossing, plain_next, plain_moved, TablesLong, LentAtCounts, PartSteps, S12}
use Rattle.cutting_parts.proofs.Part.{carried-part, updated-part}
use Rattle.cutting_parts.proofs.Entries.{cell, face, raised_is, part-mesh, part_step}
use Rattle.cutting_parts.proofs.Passes.{part-fine}

-- what cutting has found of the lengths
module _ (L : Lagoon) (labels : List ℕ) (lent₀ lent₁ : Tables) (lengths-fine : cut_tables L labels lent₀ lent₁ ≡ fine) where
  -- the tables of one position, each
  abbrev Each : (Tables → Type 0) → Type 0
  Each P = P L.tables × P lent₀ × P lent₁

  each_long : (position wanted : ℕ) (has : Tables → ℕ) → all_long L labels lent₀ lent₁ position wanted has ≡ fine → Each (λ t. wanted ≤ has t)
  each_long position wanted has e =
      let q = both-fine _ _ e in
      let r = both-fine _ _ q.0 in
      (long-fine _ _ _ r.0, long-fine _ _ _ r.1, long-fine _ _ _ q.1)

  pub tables-long : (t : Tables) → ((P : Tables → Type 0) → Each P → P t) → TablesLong L t
  unfolding cut_tables
  tables-long t choose =
      let e = all-fine (cut_lengths L labels lent₀ lent₁) lengths-fine in
      let later = e.1.1.1.1 in
      record {
        volumes_long = choose (λ t. L.cells ≤ length t.volumes) (each_long 0 _ (λ t. length t.volumes) e.0);
        firsts_long = choose (λ t. L.faces ≤ length t.firsts) (each_long 1 _ (λ t. length t.firsts) e.1.0);
        seconds_long = choose (λ t. L.faces ≤ length t.seconds) (each_long 2 _ (λ t. length t.seconds) e.1.1.0);
        shares_long = choose (λ t. L.faces ≤ length t.shares) (each_long 3 _ (λ t. length t.shares) e.1.1.1.0);
        reaches_long = choose (λ t. L.faces ≤ length t.reaches) (each_long 4 _ (λ t. length t.reaches) later.0);
        masses_long = choose (λ t. L.cells ≤ length t.masses) (each_long 5 _ (λ t. length t.masses) later.1.0);
        fluxes_long = choose (λ t. L.faces ≤ length t.fluxes) (each_long 6 _ (λ t. length t.fluxes) later.1.1.0);
        outsides_long = choose (λ t. L.faces ≤ length t.outsides) (each_long 7 _ (λ t. length t.outsides) later.1.1.1.0);
        releases_long = choose (λ t. L.cells ≤ length t.releases) (each_long 14 _ (λ t. length t.releases) later.1.1.1.1.0);
      }

  pub labels_long : L.cells ≤ length labels
  unfolding cut_tables
  labels_long = long-fine _ _ _ (all-fine (cut_lengths L labels lent₀ lent₁) lengths-fine).1.1.1.1.1.1.1.1.1.0

-- and of a part
module _ (L : Lagoon) (labels : List ℕ) (lent₀ lent₁ : Tables) (cut-fine : cut_verdict L labels lent₀ lent₁ ≡ fine) where
  pub lengths-fine : cut_tables L labels lent₀ lent₁ ≡ fine
  unfolding cut_verdict
  lengths-fine = (all-fine (cut_causes L labels lent₀ lent₁) cut-fine).1.0

  pub part-some : (p : ℕ) → p < 2 → 1 ≤ part_cells L labels p
  unfolding cut_verdict label_values part_good
  part-some p h = leb-true 1 (part_cells L labels p)
      (each-fine 24 2 (part_good L labels) (all-fine (label_causes L labels) (all-fine (cut_causes L labels lent₀ lent₁) cut-fine).1.1.1.0).1.0 p h)

module _ (L : Lagoon) (labels : List ℕ) (p : ℕ) (lent : Tables) (nexts : List ℕ) (moveds : List ℤ) (work : List ℕ)
    (whole-fine : verdict (whole_mesh L) L.tables.masses (step_on L nexts moveds work) ≡ fine)
    (some : 1 ≤ part_cells L labels p) (lent-long : TablesLong L lent) where
  abbrev part : Lagoon
  part = part_of L labels p lent

  abbrev M : Mesh
  M = whole_mesh L

  abbrev N : Mesh
  N = whole_mesh part

  whole : Ready (step_input L)
  whole = ready M L.tables.masses (step_on L nexts moveds work) whole-fine

  cells_of : (c : ℕ) → c < N.cells → cell L labels p lent c < L.cells
  cells_of = (part-mesh L labels p lent whole.counts_fit.few_cells whole.fit).cell_in

  faces-of : (f : ℕ) → f < N.faces → face L labels p lent f < L.faces
  faces-of = (part-mesh L labels p lent whole.counts_fit.few_cells whole.fit).face_in

  carried-is : (f : ℕ) → f < N.faces
      → carried (step_input part) f ≡ turn (is_turned L labels p (face L labels p lent f)) (carried (step_input L) (face L labels p lent f))
  carried-is = carried-part (part_step L labels p lent whole.counts_fit.few_cells whole.fit)

  -- what the whole's step leaves
  next_at : (c : ℕ) → c < L.cells → mass_in (plain_next L nexts moveds work) c ≡ updated M (mass (step_input L)) (carried (step_input L)) c
  unfolding next_table
  next_at c h = rw whole-fine (get_d_over L.cells _ nexts 0 c h)

  moved_at : (f : ℕ) → f < L.faces → get_or (plain_moved L nexts moveds work) f (pos 0) ≡ carried (step_input L) f
  unfolding moved_table
  moved_at f l = rw whole-fine (get_d_over L.faces _ moveds (pos 0) f l)

  module _ (nexts' : List ℕ) (moveds' : List ℤ) (work' : List ℕ) (room : LentAtCounts part nexts' moveds' work') where
    found : verdict N part.tables.masses (step_on part nexts' moveds' work') ≡ fine
    found = part-fine L labels p lent nexts moveds work whole-fine some lent-long nexts' moveds' work' room

    part_accepted : plain_answer part nexts' moveds' work' ≡ accepted (plain_crossing part nexts' moveds' work')
    unfolding step_answer
    part_accepted = past _ found

    next_masses : plain_next part nexts' moveds' work' ≡ by_cell L labels p (mass_in (plain_next L nexts moveds work)) nexts'
    unfolding next_table picked
    next_masses = rw found (ap (λ (xs : List ℕ). over xs nexts') (table-cong 0 N.cells _ _ (λ c h.
        updated-part (part-mesh L labels p lent whole.counts_fit.few_cells whole.fit) (carried (step_input L)) (carried (step_input part)) carried-is
        (mass (step_input L)) (mass (step_input part)) (raised_is L labels p lent) c h
        ∙ sym (next_at (cell L labels p lent c) (cells_of c h)))))

    moved_masses : plain_moved part nexts' moveds' work'
        ≡ by_face L labels p (λ f. turn (is_turned L labels p f) (get_or (plain_moved L nexts moveds work) f (pos 0))) moveds'
    unfolding moved_table picked
    moved_masses = rw found (ap (λ (xs : List ℤ). over xs moveds') (table-cong (pos 0) N.faces _ _ (λ f l.
        carried-is f l ∙ sym (ap (turn (is_turned L labels p (face L labels p lent f))) (moved_at (face L labels p lent f) (faces-of f l))))))

  pub part-steps : PartSteps L labels (plain_next L nexts moveds work) (plain_moved L nexts moveds work) p lent
  part-steps nexts' moveds' work' room = record {
    part_accepted = part_accepted nexts' moveds' work' room;
    next_masses = next_masses nexts' moveds' work' room;
    moved_masses = moved_masses nexts' moveds' work' room;
  }

-- a plain step that is accepted has passed the causes
plain-fine : (L : Lagoon) (nexts : List ℕ) (moveds : List ℤ) (work : List ℕ) (x : Crossing) → plain_answer L nexts moveds work ≡ accepted x
    → verdict (whole_mesh L) L.tables.masses (step_on L nexts moveds work) ≡ fine
unfolding step_answer
plain-fine L nexts moveds work x e = (both-fine _ _ e).0

pub s12 : S12
s12 L labels lent₀ lent₁ cut-fine nexts moveds work x e =
    let whole-fine = plain-fine L nexts moveds work x e in (
      part-steps L labels 0 lent₀ nexts moveds work whole-fine (part-some L labels lent₀ lent₁ cut-fine 0 (omega arith))
          (tables-long L labels lent₀ lent₁ (lengths-fine L labels lent₀ lent₁ cut-fine) lent₀ (λ P e. e.1)),
      part-steps L labels 1 lent₁ nexts moveds work whole-fine (part-some L labels lent₀ lent₁ cut-fine 1 (omega arith))
          (tables-long L labels lent₀ lent₁ (lengths-fine L labels lent₀ lent₁ cut-fine) lent₁ (λ P e. e.2)),
    )
