-- What a step record comes to, from what the calls that `take_step` and `stepped` make promise.
use Prim.Native.Nat.{ℕ, ◌^◌, ◌≤◌, ◌<◌}
use mathlib.Core.Path.{◌≡◌, sym, ap, ◌∙◌}
use mathlib.Core.List.{List}
use native.Mathlib.Nat.{le_trans}
use native.Mathlib.Omega.{arith}
use lib.IntN.{ℤ, pos}
use lib.ListN.{length, take, length-replicate}
use Rattle.lists.specs.Table.{table, over}
use Rattle.lists.specs.Fold.{sum}
use Rattle.lists.proofs.Tables.{length-table, length_over, get_d_over}
use Rattle.lists.proofs.Sums.{sum-cong}
use Rattle.model.specs.Mesh.{Mesh, total, run_cells, run_faces}
use Rattle.model.specs.Step.{StepInput, next, in_mass, out_mass, released_mass}
use Rattle.model.specs.Causes.{accepted, Verdict, fine, ◌and_then◌, Call, call_of, work_entries, input_of, step_lengths, step_causes, step_tables, raised_values, raised_good, step_values, outside_good, flux_good, balance_good, outflow_good, verdict}
use Rattle.model.specs.Answers.{number, told}
use Rattle.model.specs.Calls.{Crossing, crossing_of, mass_in, step_answer}
use Rattle.model.specs.declared.Refusal.{Refusal}
use Rattle.model.proofs.Verdicts.{AllFine, all-fine, fine-all, both-fine, past, out, refused-of, accepted-of, long-fine, long-met}
use Rattle.model.proofs.Accepted.{ready, passed, field-lent, call-lent}
use Rattle.model.proofs.Sizes.{next_most, total_most}
use Rattle.model.specs.Accepted.{Ready}
use Rattle.transport.specs.Promise.{step_said, StepMade}
use Rattle.transport.specs.declared.Crossed.{Crossed}
use Rattle.record_layouts.specs.Layouts.{kind_number}
use Rattle.record_heads.specs.Heads.{kind_in, step_head_verdict}
use Rattle.record_layouts.specs.declared.Width.{Width}
use Rattle.record_layouts.specs.declared.StepKind.{StepKind}
use Rattle.record_reading.specs.Reading.{fluxes_in, outsides_in, releases_in, step_body_causes, step_body_verdict, step_read}
use Rattle.record_reading.specs.Answers.{step_read_said as read_said, StepReading}
use Rattle.model.specs.declared.Printed.{Printed}
use Rattle.taking.specs.Taking.{blank, own_tables, printed_of, Stepping, step_in, step_record_found, step_judged, StepTaking}
use Rattle.taking.specs.Inner.{SteppedIn}
use Rattle.model.proofs.Parts.{PartRead, read-part}
use Rattle.std.specs.Prelude.{Result, Ok, Err}

stepping-refused : (M : Mesh) (masses : List ℕ) {v : Verdict} (k : Call) (r : Refusal) → v ≡ told r → Stepping M masses v k (Err r) masses
stepping-refused M masses k r e = record { answer = sym (out _ e); masses-after = rw e }

length-blank : {A : Type 0} (n : ℕ) (x : A) → length (blank n x) ≡ n
unfolding blank
length-blank n x = length-replicate n x

fits-blank : {A : Type 0} (n : ℕ) (x : A) {m : ℕ} → m ≤ n → m ≤ length (blank n x)
fits-blank n x h = rw (length-blank n x) h

-- of the tables of results and work only the lengths matter
own-verdict : (M : Mesh) (masses : List ℕ) (fluxes : List ℤ) (outsides next : List ℕ) (moved : List ℤ) (work releases : List ℕ)
    → length next ≡ run_cells → length moved ≡ run_faces → length work ≡ work_entries run_cells run_faces
    → verdict M masses (call_of fluxes outsides next moved work releases) ≡ verdict M masses (own_tables fluxes outsides releases)
unfolding verdict step_tables raised_values raised_good step_values outside_good flux_good balance_good outflow_good
own-verdict M masses fluxes outsides next moved work releases n m w =
    rw (n, m, w, length-blank {A = ℕ} run_cells 0, length-blank {A = ℤ} run_faces (pos 0), length-blank {A = ℕ} (work_entries run_cells run_faces) 0)

-- a step of which nothing is found in other tables is fine in the call's own, where these hold it
pub own-fine : (M : Mesh) (masses : List ℕ) (fluxes : List ℤ) (outsides next : List ℕ) (moved : List ℤ) (work releases : List ℕ)
    → M.cells ≤ run_cells → M.faces ≤ run_faces → verdict M masses (call_of fluxes outsides next moved work releases) ≡ fine
    → verdict M masses (own_tables fluxes outsides releases) ≡ fine
unfolding verdict step_tables raised_values raised_good step_values outside_good flux_good balance_good outflow_good
own-fine M masses fluxes outsides next moved work releases cells faces e =
    let p = passed M masses (call_of fluxes outsides next moved work releases) e in
    let l = call-lent M masses (call_of fluxes outsides next moved work releases) p.step_tables_fine in
    let w : work_entries M.cells M.faces ≤ work_entries run_cells run_faces = omega (arith, cells, faces) in
    let tables = fine-all (step_lengths M.cells M.faces (own_tables fluxes outsides releases)) (
      long-met 6 _ _ l.fluxes_long,
      (
        long-met 7 _ _ l.outsides_long,
        (
          long-met 8 _ _ (fits-blank {A = ℕ} run_cells 0 cells),
          (
            long-met 9 _ _ (fits-blank {A = ℤ} run_faces (pos 0) faces),
            (
              long-met 10 _ _ (fits-blank {A = ℕ} (work_entries run_cells run_faces) 0 w),
              (long-met 14 _ _ l.releases_long, tt),
            ),
          ),
        ),
      ),
    ) in
    fine-all (step_causes M masses (own_tables fluxes outsides releases)) (
      p.counts_fine,
      (
        p.mesh_tables_fine,
        (
          p.field_table_fine,
          (
            tables,
            (
              p.mesh_values_fine,
              (
                p.field_values_fine,
                (
                  p.raised_values_fine,
                  (p.step_values_fine, tt),
                ),
              ),
            ),
          ),
        ),
      ),
    )

-- the step on tables
module _ {M : Mesh} {masses : List ℕ} {fluxes : List ℤ} {outsides nexts : List ℕ} {moveds : List ℤ} {work releases : List ℕ} {a : Result Crossed Refusal} {nexts' : List ℕ}
    (p : StepMade M masses (call_of fluxes outsides nexts moveds work releases) a nexts') where
  abbrev k : Call
  k = call_of fluxes outsides nexts moveds work releases

  abbrev S : StepInput
  S = input_of M masses k

  module _ {b : Crossed} (d : a ≡ Ok b) where
    pub crossed : (verdict M masses k ≡ fine) × (◌≡◌ {A = Crossing} (record { entered = b.entered; gone = b.gone; released = b.released })
        (crossing_of M masses k))
    unfolding step_answer
    crossed = accepted-of (verdict M masses k) _ _ (sym (ap step_said d) ∙ p.answer)

    stepped-ready : Ready S
    stepped-ready = ready M masses k crossed.0

    pub nexts-part : PartRead M.cells (table M.cells (next S)) nexts'
    nexts-part = record { fits = p.next_long crossed.0; part = p.next_masses crossed.0 }

    masses_fit : M.cells ≤ length masses
    masses_fit = field-lent M masses (passed M masses k crossed.0).field_table_fine

    pub copy-asks : length (take M.cells nexts') ≤ length masses
    copy-asks = rw nexts-part.part (omega (arith, length-table M.cells (next S), masses_fit))

    module _ {masses' : List ℕ} (e : masses' ≡ over (take M.cells nexts') masses) where
      masses_are : masses' ≡ over (table M.cells (next S)) masses
      masses_are = e ∙ ap (λ (t : List ℕ). over t masses) nexts-part.part

      sum_is : sum M.cells (mass_in masses') ≡ total M (next S)
      unfolding total
      sum_is = rw masses_are (sum-cong M.cells (mass_in (over (table M.cells (next S)) masses)) (next S) (λ c h. get_d_over M.cells
          (next S) masses 0 c h))

      -- the total fits, since each next mass is one of an accepted field
      pub sum-asks : (M.cells ≤ length masses') × (sum M.cells (mass_in masses') < 2 ^ 64)
      sum-asks = (
        rw masses_are (omega (arith, length_over M.cells (next S) masses masses_fit, masses_fit)),
        omega (arith, sum_is, total_most M (next S) stepped-ready.counts_fit.few_cells (next_most S stepped-ready)),
      )

  -- in tables as long as the run's limits
  module _ (nl : length nexts ≡ run_cells) (ml : length moveds ≡ run_faces) (wl : length work ≡ work_entries run_cells run_faces) where
    own : verdict M masses k ≡ verdict M masses (own_tables fluxes outsides releases)
    own = own-verdict M masses fluxes outsides nexts moveds work releases nl ml wl

    pub step-refused : {r : Refusal} → a ≡ Err r → SteppedIn M masses fluxes outsides releases (Err r) masses
    unfolding step_answer
    step-refused {r = r} d = stepping-refused M masses (own_tables fluxes outsides releases) r
        (sym own ∙ refused-of (verdict M masses k) _ (number r.cause) r.place (sym (ap step_said d) ∙ p.answer))

    pub step-done : {b : Crossed} (d : a ≡ Ok b) {masses' : List ℕ} (e : masses' ≡ over (take M.cells nexts') masses) {t : ℕ} → t ≡ sum
        M.cells (mass_in masses')
        → SteppedIn M masses fluxes outsides releases (Ok (record
        { entered = b.entered; gone = b.gone; total = t; released = b.released })) masses'
    step-done {b = b} d e {t = t} h =
        let x = crossed d in
        let v = sym own ∙ x.0 in
        let i : b.entered ≡ in_mass S = ap (λ (x : Crossing). x.entered) x.1 in
        let o : b.gone ≡ out_mass S = ap (λ (x : Crossing). x.gone) x.1 in
        let l : b.released ≡ released_mass M.cells releases = ap (λ (x : Crossing). x.released) x.1 in
        let q : ◌≡◌ {A = Printed} (record { entered = b.entered; gone = b.gone; total = t; released = b.released }) (printed_of M masses
        (own_tables fluxes outsides releases)) =
        rw (i, o, h, l, sum_is d e) in
        record { answer = ap accepted q ∙ sym (past _ v); masses-after = rw v (masses_are d e) }

-- what a step of which nothing is found has passed: its record, and the causes of the step
pub step-says : (w : Width) (M : Mesh) (masses bs : List ℕ) → step_judged w M masses bs ≡ fine
    → (step_record_found w M bs ≡ fine) × (verdict M masses (step_in M bs) ≡ fine)
unfolding step_judged
step-says w M masses bs e = both-fine _ _ e

-- the step of a record
module _ (w : Width) (M : Mesh) (masses : List ℕ) {bs : List ℕ} {fluxes : List ℤ} {outsides releases : List ℕ} {a : Result StepKind Refusal} {fluxes' : List ℤ}
    {outsides' releases' : List ℕ}
    (s : StepReading w (step_read w M.cells M.faces M.seconds bs (length fluxes) (length outsides) (length releases)) M.cells M.faces
    M.seconds bs
    fluxes outsides releases a fluxes' outsides' releases') where
  module _ {kind : StepKind} (d : a ≡ Ok kind) where
    read-fine : (step_head_verdict w M.cells M.faces M.seconds bs ≡ fine)
        × (step_body_verdict M.cells M.faces M.seconds bs (length fluxes) (length outsides) (length releases) ≡ fine)
    unfolding step_read
    read-fine = both-fine _ _ (accepted-of _ (kind_in bs) (kind_number w kind) (sym (ap (read_said w) d) ∙ s.answer)).0

    body-fine : AllFine (step_body_causes M.cells M.faces M.seconds bs (length fluxes) (length outsides) (length releases))
    unfolding step_body_verdict
    body-fine = all-fine (step_body_causes M.cells M.faces M.seconds bs (length fluxes) (length outsides) (length releases)) read-fine.1

    pub fluxes-part : PartRead M.faces (fluxes_in bs M.faces) fluxes'
    unfolding fluxes_in
    fluxes-part = read-part M.faces _ fluxes fluxes' (sym s.answer ∙ ap (read_said w) d) (long-fine 6 _ _ body-fine.1.0) s.fluxes_read

    pub outsides-part : PartRead M.faces (outsides_in bs M.faces M.seconds) outsides'
    unfolding outsides_in
    outsides-part = read-part M.faces _ outsides outsides' (sym s.answer ∙ ap (read_said w) d) (long-fine 7 _ _ body-fine.1.1.0) s.outsides_read

    pub releases-part : PartRead M.cells (releases_in bs M.cells M.faces M.seconds) releases'
    unfolding releases_in
    releases-part = read-part M.cells _ releases releases' (sym s.answer ∙ ap (read_said w) d) (long-fine 14 _ _ body-fine.1.1.1.0)
        s.releases_read

    -- read into tables that may be shorter than the call's own
    module _ (faces : length fluxes ≤ run_faces) (cells : length releases ≤ run_cells) where
      pub few : (M.cells ≤ run_cells) × (M.faces ≤ run_faces)
      few = (le_trans (long-fine 14 _ _ body-fine.1.1.1.0) cells, le_trans (long-fine 6 _ _ body-fine.1.0) faces)

      pub found-fine : step_record_found w M bs ≡ fine
      unfolding step_record_found step_body_verdict
      found-fine = past _ read-fine.0 ∙ fine-all (step_body_causes M.cells M.faces M.seconds bs run_faces run_faces run_cells)
          (body-fine.0, (long-met 6 _ _ few.1, (long-met 7 _ _ few.1, (long-met 14 _ _ few.0, (body-fine.1.1.1.1.0, tt)))))

  -- in tables as long as the run's limits
  module _ (fl : length fluxes ≡ run_faces) (ol : length outsides ≡ run_faces) (rl : length releases ≡ run_cells) where
    read-said : read_said w a ≡ (step_record_found w M bs and_then accepted (kind_in bs))
    unfolding step_record_found step_read
    read-said = rw (fl, ol, rl) at s.answer

    pub step-unread : {r : Refusal} → a ≡ Err r → StepTaking w M masses bs (Err r) masses
    unfolding step_judged
    step-unread {r = r} d = stepping-refused M masses (step_in M bs) r
        (out _ (refused-of (step_record_found w M bs) (kind_in bs) (number r.cause) r.place (sym (ap (read_said w) d) ∙ read-said)))

    pub step-took : {kind : StepKind} (d : a ≡ Ok kind) {r : Result Printed Refusal} {masses' : List ℕ}
        → SteppedIn M masses (take M.faces fluxes') (take M.faces outsides') (take M.cells releases') r masses' → StepTaking w M masses bs r masses'
    unfolding step_judged
    step-took d {r = r} {masses' = masses'} t =
        let u : SteppedIn M masses (fluxes_in bs M.faces) (outsides_in bs M.faces M.seconds) (releases_in bs M.cells M.faces
        M.seconds) r masses' =
        rw ((fluxes-part d).part, (outsides-part d).part, (releases-part d).part) at t in
        rw (past (verdict M masses (step_in M bs)) (found-fine d (omega (arith, fl)) (omega (arith, rl)))) u
