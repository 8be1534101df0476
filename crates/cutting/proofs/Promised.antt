-- That what cutting has tested is what a part asks for, and what both parts come to.
use Prim.Native.Nat.{ℕ}
use mathlib.Core.Path.{◌≡◌, sym, ap, ◌∙◌}
use mathlib.Core.List.{List}
use native.Mathlib.Omega.{arith}
use Rattle.model.specs.Mesh.{ceiling}
use Rattle.model.specs.Causes.{Outcome, accepted, Verdict, ◌and_then◌, fine, granted, counts, water_causes, step_values}
use Rattle.model.specs.Answers.{said}
use Rattle.model.specs.declared.Refusal.{Refusal}
use Rattle.model.proofs.Verdicts.{all-fine, out, past, refuses, passes}
use Rattle.model.proofs.Accepted.{counted, mesh-fit, raised-fit, mass-small, water-fit, flux-small}
use Rattle.cutting_parts.specs.Cut.{Tables, Lagoon, whole_mesh, whole_water, step_input, part_tables}
use Rattle.cutting_parts.specs.Refusals.{Sizes, cut_tables, cut_causes, cut_verdict, cut_answer}
use Rattle.cutting_parts.specs.Parts.{TablesLong}
use Rattle.cutting_parts.proofs.Parts.{tables-long, labels_long, lengths-fine}
use Rattle.cutting_causes.specs.Lengths.{values_found}
use Rattle.cutting_causes.proofs.Groups.{lengths-first}
use Rattle.cutting_tables.specs.Part.{Cuttable, PartFilled}
use Rattle.cutting_tables.specs.declared.PartCounts.{PartCounts}
use Rattle.cutting.specs.Promise.{CutPromise}
use Rattle.cutting.specs.declared.Counts.{Counts}
use Rattle.std.specs.Prelude.{Result, Ok, Err}

counts_are : {a b c d e f g h : ℕ} → a ≡ e → b ≡ f → c ≡ g → d ≡ h
    → ◌≡◌ {A = Outcome Sizes} (accepted (record { cells₀ = a; faces₀ = b; cells₁ = c; faces₁ = d }))
    (accepted (record { cells₀ = e; faces₀ = f; cells₁ = g; faces₁ = h }))
counts_are p q r s = rw (p, q, r, s)

-- both parts' counts, as they are answered
abbrev counted-both : PartCounts → PartCounts → Counts
counted-both n₀ n₁ = record { cells_0 = n₀.cells; faces_0 = n₀.faces; cells_1 = n₁.cells; faces_1 = n₁.faces }

module _ (L : Lagoon) (labels : List ℕ) (lent₀ lent₁ : Tables) (cut-fine : cut_verdict L labels lent₀ lent₁ ≡ fine) where
  -- what is asked for a part, of either part's tables
  pub cuttable : (t : Tables) → TablesLong L t → Cuttable L labels t
  unfolding cut_verdict step_values
  cuttable t room =
      let e = all-fine (cut_causes L labels lent₀ lent₁) cut-fine in
      let lengths = lengths-fine L labels lent₀ lent₁ cut-fine in
      let fit = mesh-fit (whole_mesh L) e.1.1.0 in
      let water = all-fine (water_causes ceiling (whole_mesh L) L.tables.masses (whole_water L)) e.1.1.1.1.1.1.0 in
      let whole = tables-long L labels lent₀ lent₁ lengths L.tables (λ P e. e.0) in
      let there = labels_long L labels lent₀ lent₁ lengths in
      record {
        labels_there = there;
        whole = whole;
        room = room;
        joined = record {
          few = (counted (whole_mesh L) e.0).few_cells;
          labels_long = there;
          firsts_long = whole.firsts_long;
          seconds_long = whole.seconds_long;
          first-in = fit.first-in;
          second_in = fit.second_in;
        };
        good = record {
          volumes_long = whole.volumes_long;
          masses_long = whole.masses_long;
          releases_long = whole.releases_long;
          some_volume = fit.volume_some;
          small = λ c h. omega (
            arith,
            mass-small _ _ (fit.volume_some c h) (fit.volume_most c h)
                (raised-fit (whole_mesh L) L.tables.masses (whole_water L) e.1.1.1.1.1.0 c h),
          );
        };
        sizes = λ f h. omega (arith, flux-small (step_input L) fit (water-fit (whole_mesh L) L.tables.masses (whole_water L) water.0 water.1.0) f h);
      }

  pub room_0 : TablesLong L lent₀
  room_0 = tables-long L labels lent₀ lent₁ (lengths-fine L labels lent₀ lent₁ cut-fine) lent₀ (λ P e. e.1)

  pub room-1 : TablesLong L lent₁
  room-1 = tables-long L labels lent₀ lent₁ (lengths-fine L labels lent₀ lent₁ cut-fine) lent₁ (λ P e. e.2)

  -- both parts are written, and their counts are given
  pub promise-done : (n₀ n₁ : PartCounts) (after₀ after₁ : Tables) → PartFilled L labels 0 lent₀ n₀ after₀ → PartFilled L labels 1 lent₁ n₁ after₁
      → CutPromise L labels lent₀ lent₁ (Ok (counted-both n₀ n₁)) after₀ after₁
  unfolding cut_answer
  promise-done n₀ n₁ after₀ after₁ p q = record {
    answer = counts_are p.cells_are p.faces_are q.cells_are q.faces_are ∙ sym (past _ cut-fine);
    part_0 = p.tables_are ∙ sym (ap (λ (v : Verdict). granted v (part_tables L labels 0 lent₀) lent₀) cut-fine);
    part_1 = q.tables_are ∙ sym (ap (λ (v : Verdict). granted v (part_tables L labels 1 lent₁) lent₁) cut-fine);
  }

module _ (L : Lagoon) (labels : List ℕ) (lent₀ lent₁ : Tables) (a : Result (Unit {0}) Refusal)
    (found : said a ≡ ((counts (whole_mesh L) and_then cut_tables L labels lent₀ lent₁) and_then values_found L labels)) where
  pub found-fine : a ≡ Ok tt → cut_verdict L labels lent₀ lent₁ ≡ fine
  found-fine q = lengths-first L labels lent₀ lent₁ ∙ passes found q

  -- or nothing is
  pub promise-refused : (r : Refusal) → a ≡ Err r → CutPromise L labels lent₀ lent₁ (Err r) lent₀ lent₁
  unfolding cut_answer
  promise-refused r q =
      let e = lengths-first L labels lent₀ lent₁ ∙ refuses found q in
      record {
        answer = sym (out _ e);
        part_0 = sym (ap (λ (v : Verdict). granted v (part_tables L labels 0 lent₀) lent₀) e);
        part_1 = sym (ap (λ (v : Verdict). granted v (part_tables L labels 1 lent₁) lent₁) e);
      }
