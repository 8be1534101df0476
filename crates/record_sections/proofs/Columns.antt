-- A record written column by column: each column puts bits as the record has them and leaves the others, so that the order does not
-- matter, and when every column is put the bytes hold the record.
use mathlib.Core.Path.{◌≡◌, refl, sym, ap, ◌∙◌}
use mathlib.Core.Bool.{Bool, true, false, cond, ◌&&◌, ◌||◌, true≢false}
use mathlib.Core.Logic.{◌⊎◌, inl, inr}
use mathlib.Core.List.{List, [], ◌∷◌}
use Prim.Native.Nat.{ℕ, zero, suc, ◌+◌, ◌-◌, ◌*◌, ◌/◌, ◌%◌, ◌^◌, ◌≤◌, ◌<◌}
use native.Mathlib.Nat.{not-suc-le-zero, le_of_suc-le-suc, zero-add, suc-mul, mul-le-mul_right, add-mul, one-mul, zero-mul}
use native.Mathlib.Decide.{dec_lt}
use native.Mathlib.Omega.{arith}
use lib.Dec.{eqb}
use lib.ListN.{length, get_or}
use Rattle.lists.specs.Table.{over}
use Rattle.lists.proofs.Sums.{sum-zero, sum_more, sum-fewer, sum_bound}
use Rattle.lists.proofs.Tests.{Same, same, other, same?, both_true}
use Rattle.record_bits.specs.Field.{bit_at, bits_at}
use Rattle.record_bits.specs.Put.{Put}
use Rattle.record_bits.specs.Layout.{width_of, bits_of, packed}
use Rattle.record_bits.proofs.Fields.{bits-bit}
use Rattle.record_bits.proofs.Puts.{bits-same}
use Rattle.record_bits.proofs.Readings.{read-bit}
use Rattle.record_bits.proofs.Writings.{Begun, begun-end}
use Rattle.record_sections.specs.Sections.{Section, those, rows_of, widths_of, has_row, shape_bits, section_in, place, width, Has, Values, fields_of, record_of, length_of, Fits, value_in}
use Rattle.record_sections.specs.Columns.{PutIf, PutColumn}
use Rattle.record_sections.proofs.Sections.{width-fields, place_end, value-back, fields_read}

-- a loop that puts a column: its first state and its turn

pub column-start : (bs : List ℕ) (test : ℕ → Bool) (pl : ℕ → ℕ) (w : ℕ) (v : ℕ → ℕ) → PutColumn bs 0 test pl w v bs
column-start bs test pl w v = record { same_length = refl; inside = λ i l. absurd (not-suc-le-zero l); others = λ b h. refl }

pub column-turn : {bs mid out : List ℕ} {n w x : ℕ} {test : ℕ → Bool} {pl v : ℕ → ℕ} → PutColumn bs n test pl w v mid → test n ≡ true → Put mid (pl n) w x out
    → x ≡ v n
    → ((i : ℕ) → i < n → test i ≡ true → pl i + w ≤ pl n) → PutColumn bs (n + 1) test pl w v out
column-turn {bs} {mid} {out} {n} {w} {x} {test} {pl} {v} c t q e apart =
    record {
      same_length = q.same_length ∙ c.same_length;
      inside = λ i l h. go i l h (same? i n);
      others = λ b h. off b h (h n (omega arith) t);
    }
  where
    go : (i : ℕ) → i < n + 1 → test i ≡ true → {b : Bool} → Same i n b → bits_at out (pl i) w ≡ v i
    go i l h (same d) = rw d (q.inside ∙ e)
    go i l h (other d) = let m : i < n = omega arith in bits-same out mid (pl i) w (λ b p r. q.below b (omega (arith, apart i m h))) ∙ c.inside i m h

    off : (b : ℕ) → ((i : ℕ) → i < n + 1 → test i ≡ true → (b < pl i) ⊎ (pl i + w ≤ b)) → (b < pl n) ⊎ (pl n + w ≤ b) → bit_at out b ≡ bit_at bs b
    off b h (inl l) = q.below b l ∙ c.others b (λ i m r. h i (omega arith) r)
    off b h (inr l) = q.above b l ∙ c.others b (λ i m r. h i (omega arith) r)

-- a row that is not there
pub column-skip : {bs mid : List ℕ} {n w : ℕ} {test : ℕ → Bool} {pl v : ℕ → ℕ} → PutColumn bs n test pl w v mid → test n ≡ false
    → PutColumn bs (n + 1) test pl w v mid
column-skip {bs} {mid} {n} {w} {test} {pl} {v} c t = record {
  same_length = c.same_length;
  inside = λ i l h. go i l h (same? i n);
  others =
      λ b h. c.others b (λ i m r. h i (omega arith) r);
}
  where
    go : (i : ℕ) → i < n + 1 → test i ≡ true → {b : Bool} → Same i n b → bits_at mid (pl i) w ≡ v i
    go i l h (same d) = absurd (true≢false (sym (rw d at h) ∙ t))
    go i l h (other d) = c.inside i (omega arith) h

-- a row that is there or not
pub column-if : {bs mid out : List ℕ} {n w x p : ℕ} {here : Bool} {test : ℕ → Bool} {pl v : ℕ → ℕ} → PutColumn bs n test pl w v mid → here ≡ test n → p ≡ pl n
    → PutIf here mid p w x out → x ≡ v n
    → ((i : ℕ) → i < n → test i ≡ true → pl i + w ≤ pl n) → PutColumn bs (n + 1) test pl w v out
column-if {bs} {mid} {out} {n} {w} {x} {p} {here} {test} {pl} {v} c t e q d apart = go here t q
  where
    go : (b : Bool) → b ≡ test n → PutIf b mid p w x out → PutColumn bs (n + 1) test pl w v out
    go true z r = column-turn c (sym z) (rw e at (r.put refl)) d apart
    go false z r = rw (r.none refl) (column-skip c (sym z))

-- rows that a test names
pub those-none : (test : ℕ → Bool) → those test 0 ≡ 0
unfolding those
those-none test = sum-zero _

pub those-more : (test : ℕ → Bool) (i : ℕ) → those test (i + 1) ≡ those test i + cond (test i) 1 0
unfolding those
those-more test i = sum_more i (λ k. cond (test k) 1 0)

pub those-fewer : (test : ℕ → Bool) (i n : ℕ) → i ≤ n → those test i ≤ those test n
unfolding those
those-fewer test i n l = sum-fewer i n (λ k. cond (test k) 1 0) l

pub those-next : (test : ℕ → Bool) (first w i : ℕ) → first + those test i * w + cond (test i) 1 0 * w ≡ first + those test (i + 1) * w
those-next test first w i = let e = add-mul (those test i) (cond (test i) 1 0) w in rw (those-more test i) (omega arith)

pub those-apart : (test : ℕ → Bool) (first w i n : ℕ) → i < n → test i ≡ true → first + those test i * w + w ≤ first + those test n * w
those-apart test first w i n l t =
    let e : first + those test i * w + 1 * w ≡ first + those test (i + 1) * w = rw t at (those-next test first w i) in
    let m = mul-le-mul_right w (those-fewer test (i + 1) n (omega arith)) in
    omega (arith, one-mul w)

-- room for a row that is there or not
pub those-room : (test : ℕ → Bool) (first w i n : ℕ) {room : ℕ} → i < n → first + those test n * w ≤ room → first + those test i * w + cond (test i) w 0 ≤ room
those-room test first w i n {room} l h = go (test i) refl
  where
    go : (b : Bool) → test i ≡ b → first + those test i * w + cond b w 0 ≤ room
    go true t = omega (arith, those-apart test first w i n l t)
    go false t = let m = mul-le-mul_right w (those-fewer test i n (omega arith)) in omega arith

pub those-most : (test : ℕ → Bool) (first w i n : ℕ) {room : ℕ} → i ≤ n → first + those test n * w ≤ room → first + those test i * w ≤ room
those-most test first w i n l h = let m = mul-le-mul_right w (those-fewer test i n l) in omega arith

pub first-at : (first w : ℕ) → first + 0 * w ≡ first
first-at first w = omega (arith, zero-mul w)

pub sign_fits : (b : Bool) → cond b 1 0 < 2 ^ 1
sign_fits true = omega arith
sign_fits false = omega arith

one-most : (b : Bool) → cond b 1 0 ≤ 1
one-most true = omega arith
one-most false = omega arith

pub those-le : (test : ℕ → Bool) (n : ℕ) → those test n ≤ n
unfolding those
those-le test n = omega (arith, sum_bound n 1 (λ k. cond (test k) 1 0) (λ k l. one-most (test k)))

-- rows that are as far apart as their fields are wide
pub row_apart : (first stride w i n : ℕ) → w ≤ stride → i < n → first + i * stride + w ≤ first + n * stride
row_apart first stride w i n l m = let k : i * stride + stride ≤ n * stride = rw (← suc-mul i stride) (mul-le-mul_right stride m) in omega arith

-- one field is a column of one row
pub column-one : {bs out : List ℕ} {p w x : ℕ} → Put bs p w x out → PutColumn bs 1 (λ i. true) (λ i. p) w (λ i. x) out
column-one {bs} {out} {p} {w} q = record { same_length = q.same_length; inside = λ i l h. q.inside; others = λ b h. off b (h 0 (omega arith) refl) }
  where
    off : (b : ℕ) → (b < p) ⊎ (p + w ≤ b) → bit_at out b ≡ bit_at bs b
    off b (inl l) = q.below b l
    off b (inr l) = q.above b l

-- a bit of a field that two lists spell alike
bit-of : (a b : List ℕ) (p w i : ℕ) → bits_at a p w ≡ bits_at b p w → p ≤ i → i < p + w → bit_at a i ≡ bit_at b i
bit-of a b p w i e l m =
    let q : p + (i - p) ≡ i = omega arith in
    ap (λ (k : ℕ). bit_at a k) (sym q) ∙ sym (bits-bit a p w (i - p) (omega arith)) ∙ ap (λ (x : ℕ). x / 2 ^ (w - suc (i - p)) % 2) e
    ∙ bits-bit b p w (i - p) (omega arith) ∙ ap (λ (k : ℕ). bit_at b k) q

-- the field of a column that a bit lies in, if it does
data Within (n : ℕ) (test : ℕ → Bool) (pl : ℕ → ℕ) (w b : ℕ) : Type 0 where
  in_field : (i : ℕ) → i < n → test i ≡ true → pl i ≤ b → b < pl i + w → Within n test pl w b
  in-none : ((i : ℕ) → i < n → test i ≡ true → (b < pl i) ⊎ (pl i + w ≤ b)) → Within n test pl w b

within : (n : ℕ) (test : ℕ → Bool) (pl : ℕ → ℕ) (w b : ℕ) → Within n test pl w b
within zero test pl w b = in-none (λ i l. absurd (not-suc-le-zero l))
within (suc n) test pl w b = go (within n test pl w b) (test n) refl (dec_lt b (pl n)) (dec_lt b (pl n + w))
  where
    add : ((i : ℕ) → i < n → test i ≡ true → (b < pl i) ⊎ (pl i + w ≤ b)) → (test n ≡ true → (b < pl n) ⊎ (pl n + w ≤ b))
        → (i : ℕ) → i < suc n → test i ≡ true → {d : Bool} → Same i n d → (b < pl i) ⊎ (pl i + w ≤ b)
    add h k i l t (same e) = rw e (k (rw e at t))
    add h k i l t (other d) = h i (omega arith) t

    go : Within n test pl w b → (t : Bool) → test n ≡ t → Dec (b < pl n) → Dec (b < pl n + w) → Within (suc n) test pl w b
    go (in_field i l t p q) d e x y = in_field i (omega arith) t p q
    go (in-none h) false e x y = in-none (λ i l t. add h (λ z. absurd (true≢false (sym z ∙ e))) i l t (same? i n))
    go (in-none h) true e (yes x) y = in-none (λ i l t. add h (λ z. inl x) i l t (same? i n))
    go (in-none h) true e (no x) (yes y) = in_field n (omega arith) e (omega arith) y
    go (in-none h) true e (no x) (no y) = in-none (λ i l t. add h (λ z. inr (omega arith)) i l t (same? i n))

-- every column of a record is among those put
abbrev pub covers_row : List ℕ → (ℕ → Bool) → Bool
covers_row [] put = true
covers_row (w ∷ ws) put = put 0 && covers_row ws (λ j. put (suc j))

abbrev pub covers : List Section → (ℕ → ℕ → Bool) → Bool
covers [] put = true
covers (s ∷ S) put = covers_row (widths_of s) (put 0) && covers S (λ k. put (suc k))

covered-row : (ws : List ℕ) (put : ℕ → Bool) → covers_row ws put ≡ true → (j : ℕ) → j < length ws → put j ≡ true
covered-row [] put e j l = absurd (not-suc-le-zero l)
covered-row (w ∷ ws) put e zero l = (both_true (put 0) _ e).0
covered-row (w ∷ ws) put e (suc j) l = covered-row ws (λ c. put (suc c)) (both_true (put 0) _ e).1 j (le_of_suc-le-suc l)

covered : (S : List Section) (put : ℕ → ℕ → Bool) → covers S put ≡ true → (k j : ℕ) → j < length (widths_of (section_in S k)) → put k j ≡ true
covered [] put e k j l = absurd (not-suc-le-zero l)
covered (s ∷ S) put e zero j l = covered-row (widths_of s) (put 0) (both_true (covers_row (widths_of s) (put 0)) _ e).0 j l
covered (s ∷ S) put e (suc k) j l = covered S (λ c. put (suc c)) (both_true (covers_row (widths_of s) (put 0)) _ e).1 k j l

abbrev pub none : ℕ → ℕ → Bool
none k j = false

abbrev pub and : (ℕ → ℕ → Bool) → ℕ → ℕ → ℕ → ℕ → Bool
and put k j k' j' = (eqb k' k && eqb j' j) || put k' j'

module _ (S : List Section) (v : Values) where
  -- some columns of the record are put into old: each bit is as it was, or as the record has it
  pub record Written (put : ℕ → ℕ → Bool) (old out : List ℕ) : Type 0 where
    pub same_length : length out ≡ length old
    pub bits : (b : ℕ) → (bit_at out b ≡ bit_at old b) ⊎ ((b < shape_bits S) × (bit_at out b ≡ bit_at (record_of S v) b))
    pub spells : (k j i : ℕ) → put k j ≡ true → Has S k j i → value_in out S k j i ≡ v k j i

  pub written_none : (old : List ℕ) → Written none old old
  written_none old = record { same_length = refl; bits = λ b. inl refl; spells = λ k j i e. absurd (true≢false (sym e)) }

  module _ (fits : Fits S v) where
    -- one column more
    pub written-column : {put : ℕ → ℕ → Bool} {old mid out : List ℕ} (k j : ℕ) {n : ℕ} {test : ℕ → Bool} {pl x : ℕ → ℕ} {w : ℕ} → Written put old mid
        → PutColumn mid n test pl w x out
        → j < length (widths_of (section_in S k)) → rows_of (section_in S k) ≡ n → width S k j ≡ w
        → ((i : ℕ) → has_row (section_in S k) i ≡ test i) → ((i : ℕ) → i < n → test i ≡ true → place S k j i ≡ pl i)
        → ((i : ℕ) → i < n → v k j i ≡ x i) → Written (and put k j) old out
    written-column {put} {old} {mid} {out} k j {n} {test} {pl} {x} {w} r c jl en ew et ep ex =
        record { same_length = c.same_length ∙ r.same_length; bits = λ b. both b (toward b) (r.bits b); spells = spells-all }
      where
        has : (i : ℕ) → i < n → test i ≡ true → Has S k j i
        has i l t = record { below = rw en l; there = et i ∙ t; among = jl }

        mine : (i : ℕ) → Has S k j i → value_in out S k j i ≡ v k j i
        mine i h =
            let l : i < n = rw en at h.below in
            let t = sym (et i) ∙ h.there in
            ap (λ (p : ℕ). bits_at out p (width S k j)) (ep i l t) ∙ ap (λ (u : ℕ). bits_at out (pl i) u) ew ∙ c.inside i l t ∙ sym (ex i l)

        toward : (b : ℕ) → (bit_at out b ≡ bit_at mid b) ⊎ ((b < shape_bits S) × (bit_at out b ≡ bit_at (record_of S v) b))
        toward b = go (within n test pl w b)
          where
            go : Within n test pl w b → (bit_at out b ≡ bit_at mid b) ⊎ ((b < shape_bits S) × (bit_at out b ≡ bit_at (record_of S v) b))
            go (in-none h) = inl (c.others b h)
            go (in_field i l t p q) =
                let h = has i l t in
                let end = place_end S k j i h in
                let lo : place S k j i ≤ b = rw (ep i l t) p in
                let hi : b < place S k j i + width S k j = rw (ep i l t, ew) q in
                inr (omega arith, bit-of out (record_of S v) (place S k j i) (width S k j) b (mine i h ∙ sym (value-back S v fits k j i h)) lo hi)

        both : (b : ℕ) → (bit_at out b ≡ bit_at mid b) ⊎ ((b < shape_bits S) × (bit_at out b ≡ bit_at (record_of S v) b))
            → (bit_at mid b ≡ bit_at old b) ⊎ ((b < shape_bits S) × (bit_at mid b ≡ bit_at (record_of S v) b))
            → (bit_at out b ≡ bit_at old b) ⊎ ((b < shape_bits S) × (bit_at out b ≡ bit_at (record_of S v) b))
        both b (inr p) q = inr p
        both b (inl e) (inl d) = inl (e ∙ d)
        both b (inl e) (inr p) = inr (p.0, e ∙ p.1)

        -- a column put before stays put
        stays : (k' j' i : ℕ) → Has S k' j' i → value_in mid S k' j' i ≡ v k' j' i → value_in out S k' j' i ≡ v k' j' i
        stays k' j' i h e = bits-same out (record_of S v) (place S k' j' i) (width S k' j') (λ b l m. go b l m (toward b)) ∙ value-back S v fits k' j' i h
          where
            go : (b : ℕ) → place S k' j' i ≤ b → b < place S k' j' i + width S k' j'
                → (bit_at out b ≡ bit_at mid b) ⊎ ((b < shape_bits S) × (bit_at out b ≡ bit_at (record_of S v) b))
                → bit_at out b ≡ bit_at (record_of S v) b
            go b l m (inr p) = p.1
            go b l m (inl d) = d ∙ bit-of mid (record_of S v) (place S k' j' i) (width S k' j') b (e ∙ sym (value-back S v fits k' j' i h)) l m

        spells-all : (k' j' i : ℕ) → ((eqb k' k && eqb j' j) || put k' j') ≡ true → Has S k' j' i → value_in out S k' j' i ≡ v k' j' i
        spells-all k' j' i e h = go (eqb k' k) (same? k' k) (eqb j' j) (same? j' j) e
          where
            go : (a : Bool) → Same k' k a → (b : Bool) → Same j' j b → ((a && b) || put k' j') ≡ true → value_in out S k' j' i ≡ v k' j' i
            go true (same p) true (same q) z = let g : Has S k j i = rw (p, q) at h in rw (p, q) (mine i g)
            go true p false q z = stays k' j' i h (r.spells k' j' i z h)
            go false p b q z = stays k' j' i h (r.spells k' j' i z h)

  -- every column is put, and then the zero bits up to a whole byte
  pub written_all : {put : ℕ → ℕ → Bool} {old mid out : List ℕ} {at pad : ℕ} → Written put old mid → covers S put ≡ true → at ≡ shape_bits S → at + pad
      ≡ 8 * length_of S → length_of S ≤ length old
      → ((j : ℕ) → get_or old j 0 < 256) → ((j : ℕ) → get_or out j 0 < 256) → Put mid at pad 0 out → out ≡ over (record_of S v) old
  unfolding record_of
  written_all {put} {old} {mid} {out} {at} {pad} r all e full room small-old small-out q =
      begun-end (fields_of S v) (e ∙ sym (width-fields S v)) (rw (width-fields S v) full) (rw (width-fields S v) room) small-old small-out begun q
    where
      reads : (b : ℕ) → b < width_of (fields_of S v) → bit_at mid b ≡ get_or (bits_of (fields_of S v)) b 0
      reads b l = sym (read-bit (fields_read mid 0 S v
          (λ k j i h. sym (r.spells k j i (covered S put all k j h.among) h)
          ∙ ap (λ (p : ℕ). bits_at mid p (width S k j)) (sym (zero-add (place S k j i))))) b l
          ∙ ap (λ (p : ℕ). bit_at mid p) (zero-add b))

      kept : (b : ℕ) → width_of (fields_of S v) ≤ b → (bit_at mid b ≡ bit_at old b) ⊎ ((b < shape_bits S) × (bit_at mid b ≡ bit_at (packed (fields_of S v)) b))
          → bit_at mid b ≡ bit_at old b
      kept b l (inl d) = d
      kept b l (inr p) = absurd (omega (arith, width-fields S v, p.0))

      begun : Begun old (fields_of S v) mid
      begun = record { same_length = r.same_length; written = reads; kept = λ b l. kept b l (r.bits b) }
