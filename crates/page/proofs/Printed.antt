-- A printed page, over the places of the rest: how long it is, and what is read back from it.
use Prim.Native.Nat.{ℕ, ◌+◌, ◌-◌, ◌*◌, ◌/◌, ◌^◌, ◌≤◌, ◌<◌}
use mathlib.Core.Path.{◌≡◌, refl, sym, ap, ◌∙◌}
use mathlib.Core.List.{List, [], ◌++◌, append_assoc, append-nil}
use native.Mathlib.Nat.{add-mul, one-mul, div-mul-le_self}
use native.Mathlib.Omega.{arith}
use lib.ListN.{length, get_or, drop, length-append}
use Rattle.lists.specs.Fold.{sum}
use Rattle.lists.specs.Table.{over}
use Rattle.lists.proofs.Sums.{sum-cong}
use Rattle.model.specs.Causes.{accepted, fine, ◌and_then◌, cells_only, mesh_field_verdict}
use Rattle.model.specs.Answers.{told as told_of}
use Rattle.model.specs.declared.Refusal.{Refusal}
use Rattle.model.specs.Calls.{mass_in}
use Rattle.model.proofs.Verdicts.{accepted-of}
use Rattle.checks.specs.Total.{total_said}
use Rattle.text.specs.Digits.{most_digits}
use Rattle.text.specs.Lines.{Puts, column, space, newline}
use Rattle.text.specs.Reading.{number_in, line_at}
use Rattle.text.proofs.Lines.{puts-all}
use Rattle.text.proofs.Columns.{column-length, column-back, pieces-length, piece-at, after-pieces}
use Rattle.page.specs.Page.{cell_places, qPlaces, rest_places, mass_places, line_bytes, page_cells, cell_line, mass_line, pages, cells_on, page_bytes, qOf, rest_at, line_of, page_mass, page_text}
use Rattle.page.specs.Fitting.{Fitting}
use Rattle.page.specs.Reading.{cell_read, qRead, rest_read, mass_read, ReadsBack}
use Rattle.page.specs.Answers.{page_verdict, PageIs}
use Rattle.page.proofs.Laws.{PagePassed, page-passed, cell-there, bytes-needed, masses-add-up, figures-fit}
use Rattle.std.specs.Prelude.{Ok, Err}

-- ONE LINE, of three figures that fit
module _ (places cell q rest : ℕ) (some : 1 ≤ places) (few : mass_places places ≤ most_digits)
    (a : cell < 10 ^ cell_places) (b : q < 10 ^ qPlaces) (c : rest < 10 ^ places) where
  cell-length : length (column cell_places cell space) ≡ cell_places + 1
  cell-length = column-length cell_places cell space (omega arith) (omega arith) a

  q-length : length (column qPlaces q space) ≡ qPlaces + 1
  q-length = column-length qPlaces q space (omega arith) (omega arith) b

  rest-length : length (column places rest newline) ≡ places + 1
  rest-length = column-length places rest newline some (omega arith) c

  line-length : length (cell_line places cell q rest) ≡ line_bytes places
  unfolding cell_line
  line-length = simp length-append (omega (arith, cell-length, q-length, rest-length))

  cell-in-line : number_in (cell_line places cell q rest) 0 cell_places ≡ cell
  unfolding cell_line
  cell-in-line = column-back cell_places cell space (omega arith) (omega arith) a 0 [] (column qPlaces q space ++ column places rest newline) refl

  q-in-line : number_in (cell_line places cell q rest) (cell_places + 1) qPlaces ≡ q
  unfolding cell_line
  q-in-line = column-back qPlaces q space (omega arith) (omega arith) b (cell_places + 1) (column cell_places cell space) (column places rest newline) cell-length

  rest-in-line : number_in (cell_line places cell q rest) (cell_places + 1 + qPlaces + 1) places ≡ rest
  unfolding cell_line
  rest-in-line =
      let front = column cell_places cell space ++ column qPlaces q space in
      let long : length front ≡ cell_places + 1 + qPlaces + 1 = rw length-append (omega (arith, cell-length, q-length)) in
      let whole : front ++ (column places rest newline ++ []) ≡ column cell_places cell space ++ (column qPlaces q space ++ column places rest newline) =
      rw (append-nil, append_assoc) in
      rw (← whole) (column-back places rest newline some (omega arith) c (cell_places + 1 + qPlaces + 1) front [] long)

whole-mass : (m v : ℕ) → m / v * v + (m - m / v * v) ≡ m
whole-mass m v = omega (arith, div-mul-le_self m v)

-- ONE PAGE, of a field whose figures fit
module _ (places : ℕ) (volumes masses : List ℕ) (cells : ℕ) (f : Fitting places volumes masses cells) (page : ℕ) where
  pub each-length : (i : ℕ) → i < cells_on cells page → length (line_of volumes masses places (page * page_cells + i)) ≡ line_bytes places
  unfolding line_of
  each-length i h =
      let l = cell-there cells page i h in
      line-length places _ _ _ f.some_places f.few_places (f.cell_fits _ l) (f.q_fits _ l) (f.rest_fits _ l)

  mass-length : length (mass_line places (page_mass volumes masses cells page)) ≡ line_bytes places
  unfolding mass_line
  mass-length = column-length (mass_places places) (page_mass volumes masses cells page) newline (omega arith) f.few_places (f.mass_fits page)

  pub page-length : length (page_text volumes masses places cells page) ≡ (cells_on cells page + 1) * line_bytes places
  unfolding page_text
  page-length = rw length-append
      (omega (
        arith,
        pieces-length (line_bytes places) (λ i. line_of volumes masses places (page * page_cells + i)) (cells_on cells page) each-length,
        mass-length,
        add-mul (cells_on cells page) 1 (line_bytes places),
        one-mul (line_bytes places),
      ))

  -- lines found in bytes that begin with the page
  module _ (more : List ℕ) where
    line-there : (i : ℕ) → i < cells_on cells page
        → line_at (line_bytes places) i (page_text volumes masses places cells page ++ more) ≡ line_of volumes masses places (page * page_cells + i)
    unfolding page_text
    line-there i h = rw append_assoc
        (piece-at (line_bytes places) (λ i. line_of volumes masses places (page * page_cells + i)) (cells_on cells page) i
        (mass_line places (page_mass volumes masses cells page) ++ more) each-length h)

    mass-there : line_at (line_bytes places) (cells_on cells page) (page_text volumes masses places cells page ++ more)
        ≡ mass_line places (page_mass volumes masses cells page)
    unfolding page_text
    mass-there = rw append_assoc
        (after-pieces (line_bytes places) (λ i. line_of volumes masses places (page * page_cells + i)) (cells_on cells page)
        (mass_line places (page_mass volumes masses cells page)) more each-length mass-length)

    pub page-back : ReadsBack places volumes masses cells page (page_text volumes masses places cells page ++ more)
    unfolding cell_read qRead rest_read mass_read line_of mass_line
    page-back =
        let q : (i : ℕ) → i < cells_on cells page → number_in
        (line_at (line_bytes places) i (page_text volumes masses places cells page ++ more)) (cell_places + 1) qPlaces ≡ qOf volumes masses
        (page * page_cells + i) =
        λ i h. let l = cell-there cells page i h in rw (line-there i h)
        (q-in-line places _ _ _ f.some_places f.few_places (f.cell_fits _ l) (f.q_fits _ l) (f.rest_fits _ l)) in
        let r : (i : ℕ) → i < cells_on cells page → number_in
        (line_at (line_bytes places) i (page_text volumes masses places cells page ++ more))
        (cell_places + 1 + qPlaces + 1) places ≡ rest_at volumes masses (page * page_cells + i) =
        λ i h. let l = cell-there cells page i h in rw (line-there i h)
        (rest-in-line places _ _ _ f.some_places f.few_places (f.cell_fits _ l) (f.q_fits _ l) (f.rest_fits _ l)) in
        record {
          cell_back = λ i h. let l = cell-there cells page i h in rw (line-there i h)
              (cell-in-line places _ _ _ f.some_places f.few_places (f.cell_fits _ l) (f.q_fits _ l) (f.rest_fits _ l));
          q_back = q;
          rest_back = r;
          mass_back = λ i h. rw (q i h, r i h) (whole-mass (mass_in masses (page * page_cells + i)) (get_or volumes (page * page_cells + i) 0));
          page_mass_back = rw (mass-there, ← append-nil (column (mass_places places) (page_mass volumes masses cells page) newline))
              (column-back (mass_places places) (page_mass volumes masses cells page) newline (omega arith) f.few_places (f.mass_fits page) 0 [] [] refl);
        }

-- WHAT THE CALL ANSWERS, refused and accepted
module _ (volumes masses : List ℕ) (cells page : ℕ) (bytes : List ℕ) where
  pub page-refused : {r : Refusal} → page_verdict volumes masses cells page (length bytes) ≡ told_of r → PageIs volumes masses cells page bytes (Err r) bytes
  unfolding ◌and_then◌
  page-refused e = record { answer = rw e; bytes_after = rw e }

  pub page-accepted : {n : ℕ} {bytes' : List ℕ} → page_verdict volumes masses cells page (length bytes) ≡ fine
      → Puts bytes 0 (page_text volumes masses (rest_places cells volumes) cells page) n bytes' → PageIs volumes masses cells page bytes (Ok n) bytes'
  unfolding ◌and_then◌
  page-accepted {n} {bytes'} e put =
      let passed = page-passed fine volumes masses cells page (length bytes) e in
      let long = page-length (rest_places cells volumes) volumes masses cells (figures-fit volumes masses cells passed.field_fine) page
      ∙ sym (bytes-needed (rest_places cells volumes) cells page passed.there) in
      let all = puts-all bytes put (omega (arith, passed.room_enough)) in
      record { answer = rw e (ap accepted (all.0 ∙ long)); bytes_after = rw e all.1 }

-- A CALL THAT IS ACCEPTED: its answer is the length of the page, and the bytes afterwards read back.
module _ {volumes masses : List ℕ} {cells page : ℕ} {bytes bytes' : List ℕ} {n : ℕ} (p : PageIs volumes masses cells page bytes (Ok n) bytes') where
  told : (page_verdict volumes masses cells page (length bytes) ≡ fine) × (n ≡ page_bytes (rest_places cells volumes) cells page)
  told = accepted-of (page_verdict volumes masses cells page (length bytes)) (page_bytes (rest_places cells volumes) cells page) n p.answer

  passed : PagePassed volumes masses cells page (length bytes)
  passed = page-passed fine volumes masses cells page (length bytes) told.0

  fitting : Fitting (rest_places cells volumes) volumes masses cells
  fitting = figures-fit volumes masses cells passed.field_fine

  begins : bytes' ≡ page_text volumes masses (rest_places cells volumes) cells page
      ++ drop (length (page_text volumes masses (rest_places cells volumes) cells page)) bytes
  unfolding over
  begins = p.bytes_after ∙ rw told.0

  pub answer-length : n ≡ length (page_text volumes masses (rest_places cells volumes) cells page)
  answer-length = told.1 ∙ bytes-needed (rest_places cells volumes) cells page passed.there
      ∙ sym (page-length (rest_places cells volumes) volumes masses cells fitting page)

  pub reads-back : ReadsBack (rest_places cells volumes) volumes masses cells page bytes'
  reads-back = rw begins (page-back (rest_places cells volumes) volumes masses cells fitting page
      (drop (length (page_text volumes masses (rest_places cells volumes) cells page)) bytes))

-- ALL PAGES, each printed by a call into bytes of its own: the masses read from them add up to the field's total, as `total` answers it.
module _ (volumes masses : List ℕ) (cells : ℕ) (bytes bytes' : ℕ → List ℕ) (n : ℕ → ℕ)
    (printed : (page : ℕ) → page < pages cells → PageIs volumes masses cells page (bytes page) (Ok (n page)) (bytes' page)) where
  pub pages-add-up : sum (pages cells) (λ page. mass_read (rest_places cells volumes) (bytes' page) (cells_on cells page)) ≡ sum cells (mass_in masses)
  pages-add-up =
      sum-cong (pages cells) (λ page. mass_read (rest_places cells volumes) (bytes' page) (cells_on cells page)) (page_mass volumes masses cells)
      (λ page h. (reads-back (printed page h)).page_mass_back)
      ∙ masses-add-up volumes masses cells

  pub pages-total : (total : ℕ) → total_said (Ok total) ≡ (mesh_field_verdict (cells_only cells volumes) masses and_then accepted (sum cells (mass_in masses)))
      → sum (pages cells) (λ page. mass_read (rest_places cells volumes) (bytes' page) (cells_on cells page)) ≡ total
  pages-total total e = pages-add-up ∙ sym (accepted-of (mesh_field_verdict (cells_only cells volumes) masses) (sum cells (mass_in masses)) total e).1
