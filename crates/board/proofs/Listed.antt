-- What a board lists of the cells that are visible: how it grows by a cell, and that it is the eight highest.
use Prim.Native.Nat.{ℕ, zero, suc, ◌+◌, ◌-◌, ◌≤◌, ◌<◌, min}
use mathlib.Core.Path.{◌≡◌, refl, sym, ap, ◌∙◌}
use mathlib.Core.Logic.{◌≢◌}
use mathlib.Core.Bool.{Bool, true, false}
use mathlib.Core.List.{List, [], ◌∷◌, map, Memᴰ}
use native.Mathlib.Omega.{arith}
use native.Mathlib.Nat.{not-suc-le-zero, le_of_suc-le-suc}
use lib.ListN.{length, get_or, take, drop, replicate, length-map, get_or-append}
use lib.Seq.{get_or-append-add, get_or-drop}
use Rattle.lists.specs.Fold.{sum}
use Rattle.lists.specs.Table.{table, over}
use Rattle.lists.specs.Marked.{count}
use Rattle.lists.proofs.Tables.{is-table, over-start}
use Rattle.model.specs.Causes.{fine, granted, cells_only}
use Rattle.model.specs.Answers.{said}
use Rattle.model.specs.declared.Refusal.{Refusal}
use Rattle.model.proofs.Verdicts.{passes}
use Rattle.model.proofs.Accepted.{field-passed, salt-asks}
use Rattle.board_order.specs.declared.Ranked.{Ranked}
use Rattle.board_order.specs.Order.{ranked_of, unranked, comes_before, insert_in_order}
use Rattle.board_order.proofs.Insertion.{count-more, cells-none, cells-more, cells-passed}
use Rattle.board_order.proofs.Order.{Strict, board-strict, first_count, first_below, first-ordered, first-distinct, left-out-after}
use Rattle.public_marks.specs.Marks.{is_open}
use Rattle.board.specs.Board.{board_size, entry_of, unused, shown, every_cell, entry_at, ranked_at, cell_before, listed_of, ranked_cells, entries_of, listed, board_entries, board_verdict, Rankable, BoardAfter, BoardIs}
use Rattle.board.specs.declared.Entry.{Entry}
use Rattle.board.specs.declared.BoardAnswer.{BoardAnswer}
use Rattle.std.specs.Prelude.{Result, Ok, Err}

get_or-mapped : {B : Type 0} (f : ℕ → B) (l : List ℕ) (i : ℕ) (d : B) → i < length l → get_or (map f l) i d ≡ f (get_or l i 0)
get_or-mapped f [] i d h = absurd (not-suc-le-zero h)
get_or-mapped f (x ∷ l) zero d h = refl
get_or-mapped f (x ∷ l) (suc i) d h = get_or-mapped f l i d (le_of_suc-le-suc h)

get_or-blank : {B : Type 0} (n i : ℕ) {d : B} → get_or (replicate n d) i d ≡ d
get_or-blank zero i = refl
get_or-blank (suc n) zero = refl
get_or-blank (suc n) (suc i) = get_or-blank n i

-- nothing is shown of no ranked cells
pub none-shown : {u : ℕ} (es : List Ranked) → u ≡ 0 → over (table u (λ i. shown (get_or es i unranked))) (replicate board_size unused) ≡ replicate board_size unused
none-shown es e = rw e (sym (over-start (λ i. shown (get_or es i unranked)) (replicate board_size unused)))

-- every cell is counted where each is visible
all-counted : (n : ℕ) → count n every_cell ≡ n
unfolding count sum
all-counted zero = refl
all-counted (suc n) = omega (arith, all-counted n)

module _ (volumes masses : List ℕ) where
  shown-at : (l : List ℕ) (zs : List Ranked) (i : ℕ) → i < length l
      → shown (get_or (over (map (ranked_at volumes masses) l) zs) i unranked) ≡ entry_at volumes masses (get_or l i 0)
  unfolding over shown ranked_at ranked_of entry_at entry_of
  shown-at l zs i h =
      let f = ranked_at volumes masses in
      ap shown (get_or-append (map f l) (drop (length (map f l)) zs) unranked i (omega (arith, length-map l f)) ∙ get_or-mapped f l i unranked h)

  -- THE VISIBLE CELLS THAT ARE LISTED, whichever cells are visible
  module _ (visible : ℕ → Bool) where
    -- A RANKING of the visible cells below c, on the way to all of them
    pub record RankedTo (cells c used : ℕ) (ranks : List Ranked) : Type 0 where
      pub within : c ≤ cells
      pub counted : used ≡ min board_size (count c visible)
      pub ranked : ranks ≡ ranked_cells volumes masses visible c

    pub none-ranked : (cells : ℕ) {used : ℕ} {ranks : List Ranked} → used ≡ 0 → ranks ≡ replicate board_size unranked → RankedTo cells 0 used ranks
    unfolding ranked_cells listed_of cell_before count sum
    none-ranked cells u e = record {
      within = omega arith;
      counted = omega arith;
      ranked = e ∙ cells-none comes_before (ranked_at volumes masses) visible board_size (replicate board_size unranked);
    }

    pub one_more : {cells c used used' : ℕ} {ranks ranks' : List Ranked} {e : Ranked} → RankedTo cells c used ranks → c < cells
        → e ≡ ranked_of c (get_or volumes c 0) (get_or masses c 0) → (b : Bool) → b ≡ visible c
        → (b ≡ true → (used' ≡ min board_size (used + 1)) × (ranks' ≡ over (take board_size (insert_in_order comes_before e (take used ranks))) ranks))
        × (b ≡ false → (used' ≡ used) × (ranks' ≡ ranks)) → RankedTo cells (c + 1) used' ranks'
    unfolding ranked_cells listed_of cell_before ranked_at
    one_more {cells} {c} {used} {used'} {ranks} {ranks'} {e} r h i true v k =
        let t = k.0 refl in
        let more : count (c + 1) visible ≡ count c visible + 1 = rw (← v) at (count-more visible c) in
        record {
          within = omega arith;
          counted = omega (arith, t.0, r.counted, more);
          ranked = cells-more comes_before (ranked_at volumes masses) visible board_size c (replicate board_size unranked) ranks ranks' (sym v) r.counted
              r.ranked
              (t.1 ∙ ap (λ (x : Ranked). over (take board_size (insert_in_order comes_before x (take used ranks))) ranks) i);
        }
    one_more {cells} {c} {used} {used'} {ranks} {ranks'} r h i false v k =
        let t = k.1 refl in
        let same : count (c + 1) visible ≡ count c visible + 0 = rw (← v) at (count-more visible c) in
        record {
          within = omega arith;
          counted = omega (arith, t.0, r.counted, same);
          ranked = t.1 ∙ cells-passed comes_before (ranked_at volumes masses) visible board_size c (replicate board_size unranked) ranks (sym v) r.ranked;
        }

    pub all-ranked : {cells c used : ℕ} {ranks : List Ranked} → RankedTo cells c used ranks → cells ≤ c
        → (used ≡ min board_size (count cells visible)) × (ranks ≡ ranked_cells volumes masses visible cells)
    all-ranked {cells} {c} r h = let e : c ≡ cells = omega (arith, r.within) in (rw e at r.counted, rw e at r.ranked)

    -- entry i is that of the i-th cell listed, and 0 where there is none
    pub entry-used : (n i : ℕ) → i < length (listed_of volumes masses visible n)
        → get_or (entries_of volumes masses visible n) i unused ≡ entry_at volumes masses (get_or (listed_of volumes masses visible n) i 0)
    unfolding entries_of over
    entry-used n i h =
        let l = listed_of volumes masses visible n in
        let f = entry_at volumes masses in
        let k : i < length (map f l) = omega (arith, length-map l f) in
        get_or-append (map f l) (drop (length (map f l)) (replicate board_size unused)) unused i k ∙ get_or-mapped f l i unused h

    pub entry-unused : (n i : ℕ) → length (listed_of volumes masses visible n) ≤ i → get_or (entries_of volumes masses visible n) i unused ≡ unused
    unfolding entries_of over
    entry-unused n i h =
        let l = map (entry_at volumes masses) (listed_of volumes masses visible n) in
        let e : length l ≡ length (listed_of volumes masses visible n) = length-map (listed_of volumes masses visible n) (entry_at volumes masses) in
        let j : ℕ = i - length l in
        let q : length l + j ≡ i = omega arith in
        rw (← q, get_or-append-add l (drop (length l) (replicate board_size unused)) j unused, get_or-drop (length l) (replicate board_size unused) j unused)
        (get_or-blank board_size (length l + j))

    -- The laws of the listed cells, for any number of cells.
    module _ (n : ℕ) where
      -- eight cells, or all visible ones where there are fewer
      pub visible-count : length (listed_of volumes masses visible n) ≡ min board_size (count n visible)
      unfolding listed_of
      visible-count = first_count (cell_before volumes masses) visible board_size n

      -- each a visible cell
      pub listed_below : {c : ℕ} → Memᴰ c (listed_of volumes masses visible n) → (c < n) × (visible c ≡ true)
      unfolding listed_of
      listed_below = first_below (cell_before volumes masses) visible board_size n

      -- what is shown of the ranked cells
      pub entries-shown : {u : ℕ} {es : List Ranked} → u ≡ min board_size (count n visible) → es ≡ ranked_cells volumes masses visible n
          → over (table u (λ i. shown (get_or es i unranked))) (replicate board_size unused) ≡ entries_of volumes masses visible n
      unfolding ranked_cells entries_of
      entries-shown {u} {es} q e =
          let l = listed_of volumes masses visible n in
          let g = entry_at volumes masses in
          let w : map g l ≡ table u (λ i. shown (get_or es i unranked)) =
          is-table unused (map g l) u _ (length-map l g ∙ visible-count ∙ sym q)
          (λ i h. get_or-mapped g l i unused (omega (arith, visible-count))
          ∙ sym (rw e (shown-at l (replicate board_size unranked) i (omega (arith, visible-count))))) in
          ap (λ (s : List Entry). over s (replicate board_size unused)) (sym w)

      module _ (some : (c : ℕ) → c < n → 1 ≤ get_or volumes c 0) where
        before-strict : Strict n (cell_before volumes masses)
        unfolding cell_before ranked_at ranked_of
        before-strict = board-strict n (ranked_at volumes masses) (λ c. refl) some

        -- each comes before those listed after it
        pub listed-ordered : (i j : ℕ) → i < j → j < length (listed_of volumes masses visible n)
            → cell_before volumes masses (get_or (listed_of volumes masses visible n) i 0) (get_or (listed_of volumes masses visible n) j 0) ≡ true
        unfolding listed_of
        listed-ordered = first-ordered (cell_before volumes masses) n before-strict visible board_size

        pub listed-distinct : (i j : ℕ) → i < j → j < length (listed_of volumes masses visible n)
            → get_or (listed_of volumes masses visible n) i 0 ≢ get_or (listed_of volumes masses visible n) j 0
        unfolding listed_of
        listed-distinct = first-distinct (cell_before volumes masses) n before-strict visible board_size

        -- no unlisted visible cell comes before a listed one: it comes after each
        pub unlisted-after : {c d : ℕ} → c < n → visible c ≡ true → (Memᴰ c (listed_of volumes masses visible n) → ⊥)
            → Memᴰ d (listed_of volumes masses visible n) → cell_before volumes masses d c ≡ true
        unfolding listed_of
        unlisted-after = left-out-after (cell_before volumes masses) n before-strict visible board_size

    -- what a board answers after a verdict, accepted and refused
    module _ (n : ℕ) (r : BoardAnswer) where
      pub accepted-board : {v : Result (Unit {0}) Refusal} → v ≡ Ok tt → r.verdict ≡ v → r.used ≡ min board_size (count n visible) → r.entries
          ≡ entries_of volumes masses visible n
          → BoardAfter (said v) volumes masses visible n r
      accepted-board d v u e = rw d (record { verdict_is = ap said v ∙ ap said d; used_is = u; entries_are = e })

      pub refused-board : {v : Result (Unit {0}) Refusal} (k : Refusal) → v ≡ Err k → r.verdict ≡ v → r.used ≡ 0 → r.entries ≡ replicate board_size unused
          → BoardAfter (said v) volumes masses visible n r
      refused-board k d v u e = rw d (record { verdict_is = ap said v ∙ ap said d; used_is = u; entries_are = e })

  pub listed-count : (n : ℕ) → length (listed volumes masses n) ≡ min board_size n
  listed-count n = visible-count every_cell n ∙ ap (min board_size) (all-counted n)

  -- THE GROWERS' BOARD: what it asks for, and that every cell is visible where there are no marks
  pub rank-asks : (n : ℕ) → board_verdict volumes masses n ≡ fine → Rankable volumes masses n
  rank-asks n e =
      let p = field-passed e in
      let a = salt-asks (cells_only n volumes) masses p.lent_fine p.mesh_fine in
      (a.0, λ c h. ((a.1 c h).0, omega (arith, (a.1 c h).1)))

  pub without-marks : (n : ℕ) (r : BoardAnswer) → BoardAfter (board_verdict volumes masses n) volumes masses (is_open []) n r → BoardIs n volumes masses r
  unfolding is_open
  without-marks n r b = record {
    verdict_is = b.verdict_is;
    used_is = b.used_is ∙ ap (λ (k : ℕ). granted (board_verdict volumes masses n) (min board_size k) 0) (all-counted n);
    entries_are = b.entries_are;
  }

  -- AN ACCEPTED CALL, by its contract: its entries are those of the listed cells; cause 3 gives that the order is strict among them, so
  -- each comes before those listed after it, and before every cell that is not listed.
  module _ (n : ℕ) (r : BoardAnswer) (b : BoardIs n volumes masses r) (d : r.verdict ≡ Ok tt) where
    volumes-some : (c : ℕ) → c < n → 1 ≤ get_or volumes c 0
    volumes-some c h = ((rank-asks n (passes b.verdict_is d)).1 c h).0

    pub call-lists : (r.used ≡ min board_size n) × (r.entries ≡ board_entries volumes masses n)
    call-lists = let f = passes b.verdict_is d in (rw f at b.used_is, rw f at b.entries_are)

    pub call-ordered : (i j : ℕ) → i < j → j < length (listed volumes masses n)
        → cell_before volumes masses (get_or (listed volumes masses n) i 0) (get_or (listed volumes masses n) j 0) ≡ true
    call-ordered = listed-ordered every_cell n volumes-some

    pub call-highest : {c d : ℕ} → c < n → (Memᴰ c (listed volumes masses n) → ⊥) → Memᴰ d (listed volumes masses n) → cell_before volumes masses d c
        ≡ true
    call-highest h = unlisted-after every_cell n volumes-some h refl
