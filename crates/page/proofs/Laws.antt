-- The cells of a page, what an accepted call has passed, and that every figure then fits its columns.
use Prim.Native.Nat.{ℕ, suc, ◌+◌, ◌-◌, ◌*◌, ◌^◌, ◌≤◌, ◌<◌, min}
use mathlib.Core.Path.{◌≡◌, ap, ◌∙◌}
use mathlib.Core.List.{List, [], ◌∷◌}
use native.Mathlib.Nat.{le-div_iff_mul-le, lt-div-mul-add, suc-mul, mul-le-mul, mul-le-mul_right, le_trans}
use native.Mathlib.Omega.{arith}
use borrow.Author.Tests.{ltb-true, lt-ltb, le-ltb}
use lib.Dec.{leb, ltb}
use lib.ListN.{length, get_or, take, drop, length-drop}
use lib.Seq.{get_or-drop, take_all}
use mathlib.Core.Bool.{Bool, true, false, cond}
use Rattle.lists.specs.Fold.{sum}
use Rattle.lists.proofs.Tests.{Fits, fits, fits?}
use Rattle.lists.proofs.Sums.{greatest-each, sum_bound, sum-split, sum-fewer, sum-blocks, sum-cong}
use Rattle.model.specs.Mesh.{max_cells, max_volume, old_ceiling, max_concentration}
use Rattle.model.specs.Causes.{Verdict, refused, fine, ◌and_then◌, long, need, cells_only, counts, mesh_tables, field_table, mesh_field_verdict}
use Rattle.model.specs.Accepted.{max_mass}
use Rattle.model.specs.Calls.{mass_in}
use Rattle.model.proofs.Verdicts.{refused-at, all-fine, fine-all, need-fine, long-fine, past, and_then-assoc}
use Rattle.model.proofs.Accepted.{field-passed, FieldPassed, few, salt-asks, field_fit, mass-small}
use Rattle.checks.proofs.Laws.{sum-asks}
use Rattle.text.specs.Digits.{most_digits}
use Rattle.page.specs.Page.{narrow_places, wide_places, largest, rest_at, rest_places, mass_places, line_bytes, page_cells, pages, cells_on, page_bytes, qOf, page_mass}
use Rattle.page.specs.Fitting.{Fitting}
use Rattle.page.specs.Answers.{causes_with, verdict_with}

-- THE PAGES. One that is not beyond the last has a first cell; all of them have every cell.
pub page-begins : (cells page : ℕ) → page < pages cells → page * page_cells < cells
unfolding pages
page-begins cells page h =
    omega (arith, (le-div_iff_mul-le {k = page_cells} {x = suc page} {y = cells + (page_cells - 1)} (omega arith)).0 h, suc-mul page page_cells)

pub pages-end : (cells : ℕ) → cells ≤ pages cells * page_cells
unfolding pages
pages-end cells = omega (arith, lt-div-mul-add {a = cells + (page_cells - 1)} {b = page_cells} (omega arith))

pub cells-end : (cells page : ℕ) → page * page_cells ≤ cells → page * page_cells + cells_on cells page ≤ cells
unfolding cells_on
cells-end cells page h = omega arith

pub cell-there : (cells page i : ℕ) → i < cells_on cells page → page * page_cells + i < cells
unfolding cells_on
cell-there cells page i h = omega arith

pub cells-most : (cells page : ℕ) → cells_on cells page ≤ page_cells
unfolding cells_on
cells-most cells page = omega arith

pub bytes-needed : (places cells page : ℕ) → page < pages cells → page_bytes places cells page ≡ (cells_on cells page + 1) * line_bytes places
unfolding page_bytes
bytes-needed places cells page h = rw (lt-ltb page (pages cells) h)

pub no_bytes : (places cells page : ℕ) → pages cells ≤ page → page_bytes places cells page ≡ 0
unfolding page_bytes
no_bytes places cells page h = rw (le-ltb page (pages cells) h)

-- the length of a page is a small number
pub bytes_small : (n m : ℕ) → n ≤ page_cells → m ≤ most_digits → (n + 1) * (m + 1) < 2 ^ 64
bytes_small n m h l = let a : n + 1 ≤ page_cells + 1 = omega arith in let b : m + 1 ≤ most_digits + 1 = omega arith in omega (arith, mul-le-mul a b)

-- the masses of all pages are those of all cells
pub masses-add-up : (volumes masses : List ℕ) (cells : ℕ) → sum (pages cells) (page_mass volumes masses cells) ≡ sum cells (mass_in masses)
unfolding page_mass cells_on
masses-add-up volumes masses cells =
    let whole : min cells (pages cells * page_cells) ≡ cells = omega (arith, pages-end cells) in
    sum-blocks page_cells cells (pages cells) (mass_in masses) ∙ ap (λ (n : ℕ). sum n (mass_in masses)) whole

-- the mass of a page, by the masses from its first cell on
mass-from : (volumes masses : List ℕ) (cells page : ℕ) → sum (cells_on cells page) (mass_in (drop (page * page_cells) masses)) ≡ page_mass volumes masses cells page
unfolding page_mass
mass-from volumes masses cells page =
    sum-cong (cells_on cells page) (mass_in (drop (page * page_cells) masses)) (λ i. mass_in masses (page * page_cells + i))
    (λ i h. get_or-drop (page * page_cells) masses i 0)

page-mass-most : (volumes masses : List ℕ) (cells page : ℕ) → page * page_cells ≤ cells → page_mass volumes masses cells page ≤ sum cells (mass_in masses)
unfolding page_mass
page-mass-most volumes masses cells page h =
    omega (
      arith,
      sum-split (page * page_cells) (cells_on cells page) (mass_in masses),
      sum-fewer (page * page_cells + cells_on cells page) cells (mass_in masses) (cells-end cells page h),
    )

-- what the sum of a page's masses asks for, and gives, of the part of the masses that begins with its first cell
part-is : (masses : List ℕ) (first : ℕ) → take (length masses - first) (drop first masses) ≡ drop first masses
part-is masses first = take_all (length masses - first) (drop first masses) (omega (arith, length-drop first masses))

module _ (volumes masses : List ℕ) (cells page : ℕ) {count : ℕ} (e : count ≡ cells_on cells page) where
  pub part-asks : page * page_cells ≤ cells → cells ≤ length masses → sum cells (mass_in masses) < 2 ^ 64
      → (count ≤ length (take (length masses - page * page_cells) (drop (page * page_cells) masses)))
      × (sum count (mass_in (take (length masses - page * page_cells) (drop (page * page_cells) masses))) < 2 ^ 64)
  part-asks h l b = rw (part-is masses (page * page_cells), e)
      (simp length-drop (omega (arith, cells-end cells page h)), omega (arith, mass-from volumes masses cells page, page-mass-most volumes masses cells page h))

  pub part_gives : sum count (mass_in (take (length masses - page * page_cells) (drop (page * page_cells) masses))) ≡ page_mass volumes masses cells page
  part_gives = rw (part-is masses (page * page_cells), e) (mass-from volumes masses cells page)

-- WHAT AN ACCEPTED CALL HAS PASSED: the causes of a field, with those of the bytes among them
pub record PagePassed (volumes masses : List ℕ) (cells page room : ℕ) : Type 0 where
  pub field_fine : mesh_field_verdict (cells_only cells volumes) masses ≡ fine
  pub room_enough : page_bytes (rest_places cells volumes) cells page ≤ room
  pub there : page < pages cells

in_order : (l s k m f n : Verdict) → l ≡ fine → (l and_then s and_then k and_then m and_then f and_then n) ≡ (s and_then k and_then (l and_then m and_then f) and_then n)
in_order l s k m f n e = rw (past s e, past m e) (ap (λ (v : Verdict). v and_then n) (and_then-assoc (s and_then k) m f))

module _ (further : Verdict) (volumes masses : List ℕ) (cells page room : ℕ) where
  -- the tests as the call makes them: first what is lent, then the bytes and a further table, then all of the field
  pub judged-out : {k i : ℕ} → (counts (cells_only cells volumes) and_then mesh_tables (cells_only cells volumes)
      and_then field_table (cells_only cells volumes) masses) ≡ refused k i
      → verdict_with further volumes masses cells page room ≡ refused k i
  unfolding verdict_with
  judged-out e = refused-at [] (_ ∷ _ ∷ _ ∷ _ ∷ _ ∷ []) tt e

  pub judged-on : (counts (cells_only cells volumes) and_then mesh_tables (cells_only cells volumes) and_then field_table (cells_only cells volumes) masses) ≡ fine
      → verdict_with further volumes masses cells page room
      ≡ (long 12 (page_bytes (rest_places cells volumes) cells page) room and_then further and_then mesh_field_verdict (cells_only cells volumes) masses
      and_then need 14 page (ltb page (pages cells)))
  unfolding verdict_with mesh_field_verdict
  judged-on e = in_order _ _ _ _ _ _ e

  pub page-passed : verdict_with further volumes masses cells page room ≡ fine → PagePassed volumes masses cells page room
  unfolding verdict_with mesh_field_verdict
  page-passed e =
      let p = all-fine (causes_with further volumes masses cells page room) e in
      let bytes = p.1.1.1 in
      let values = bytes.1.1 in
      record {
        field_fine = fine-all (_ ∷ _ ∷ _ ∷ _ ∷ _ ∷ []) (p.0, (p.1.0, (p.1.1.0, (values.0, (values.1.0, tt)))));
        room_enough = long-fine _ _ _ bytes.0;
        there = ltb-true page (pages cells) (need-fine 14 page (ltb page (pages cells)) values.1.1.0);
      }

module _ (volumes masses : List ℕ) (cells : ℕ) where
  -- EVERY FIGURE FITS, of a field that is accepted
  module _ (e : mesh_field_verdict (cells_only cells volumes) masses ≡ fine) where
    passed : FieldPassed (cells_only cells volumes) masses
    passed = field-passed e

    pub few_cells : cells ≤ max_cells
    few_cells = (few (cells_only cells volumes) masses passed.lent_fine).0

    asks : ((cells ≤ length volumes) × (cells ≤ length masses)) × ((c : ℕ) → c < cells → (1 ≤ get_or volumes c 0) × (get_or volumes c 0 ≤ max_volume))
    asks = salt-asks (cells_only cells volumes) masses passed.lent_fine passed.mesh_fine

    q-most : (c : ℕ) → c < cells → qOf volumes masses c ≤ max_concentration
    q-most = field_fit (cells_only cells volumes) masses passed.field_fine

    mass-most : (c : ℕ) → c < cells → mass_in masses c ≤ max_mass
    mass-most c h = mass-small (mass_in masses c) (get_or volumes c 0) (asks.1 c h).0 (asks.1 c h).1 (q-most c h)

    page-small : (page : ℕ) → page_mass volumes masses cells page ≤ page_cells * max_mass
    unfolding page_mass
    page-small page =
        le_trans (sum_bound (cells_on cells page) max_mass (λ i. mass_in masses (page * page_cells + i))
        (λ i h. mass-most (page * page_cells + i) (cell-there cells page i h)))
        (mul-le-mul_right max_mass (cells-most cells page))

    rest_below : (c : ℕ) → c < cells → rest_at volumes masses c < get_or volumes c 0
    rest_below c h = omega (arith, lt-div-mul-add {a = mass_in masses c} (asks.1 c h).0, (asks.1 c h).0)

    pub figures-fit : Fitting (rest_places cells volumes) volumes masses cells
    unfolding rest_places
    figures-fit = go (leb (largest cells volumes) old_ceiling) (fits? (largest cells volumes) old_ceiling)
      where
        go : (b : Bool) → Fits (largest cells volumes) old_ceiling b → Fitting (cond b narrow_places wide_places) volumes masses cells
        go true (fits l) = record {
          some_places = omega arith;
          few_places = omega arith;
          cell_fits = λ c h. omega (arith, few_cells);
          q_fits = λ c h. omega (arith, q-most c h);
          rest_fits = λ c h. omega (arith, rest_below c h, greatest-each cells 0 (λ c. get_or volumes c 0) c h, l);
          mass_fits = λ page. omega (arith, page-small page);
        }
        go false o = record {
          some_places = omega arith;
          few_places = omega arith;
          cell_fits = λ c h. omega (arith, few_cells);
          q_fits = λ c h. omega (arith, q-most c h);
          rest_fits = λ c h. omega (arith, rest_below c h, (asks.1 c h).1);
          mass_fits = λ page. omega (arith, page-small page);
        }

    -- what putting a page asks for
    pub put-asks : (page : ℕ) → page < pages cells
        → ((mass_places (rest_places cells volumes) ≤ most_digits) × (page * page_cells ≤ cells) × (cells ≤ length volumes) × (cells ≤ length masses))
        × (((c : ℕ) → c < cells → 1 ≤ get_or volumes c 0) × (sum cells (mass_in masses) < 2 ^ 64))
    put-asks page h = (
      (figures-fit.few_places, omega (arith, page-begins cells page h), asks.0.0, asks.0.1),
      ((λ c l. (asks.1 c l).0), (sum-asks (cells_only cells volumes) masses e).1),
    )
