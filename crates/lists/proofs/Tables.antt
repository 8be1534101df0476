-- Laws of tables: their length, their entries, and a loop that writes one entry after another.
use Prim.Native.Nat.{ℕ, zero, suc, ◌+◌, ◌-◌, ◌≤◌, ◌<◌}
use mathlib.Core.Path.{◌≡◌, refl, sym, ap, ◌∙◌}
use mathlib.Core.Bool.{Bool, true, false, cond}
use mathlib.Core.List.{List, [], ◌∷◌, ◌++◌, append-nil}
use native.Mathlib.Nat.{not-suc-le-zero, le_of_suc-le-suc}
use native.Mathlib.Numerals.{add-one}
use native.Mathlib.Omega.{arith}
use borrow.Author.Tests.{ne_eqb}
use lib.Dec.{eqb, leb}
use lib.ListN.{length, get_or, set, drop, length-set, length-append, length-drop, drop_of_length-le, get_or-append}
use lib.Seq.{ext_get_or, get_or-set_same, get_or-set_other, get_or-append-add, get_or-drop}
use Rattle.lists.specs.Table.{table, over}
use Rattle.lists.proofs.Tests.{Same, same, other, same?, Fits, fits, exceeds, fits?}

pub length-table {ℓ} : {A : Type ℓ} (n : ℕ) (f : ℕ → A) → length (table n f) ≡ n
unfolding table
length-table zero f = refl
length-table (suc n) f = ap suc (length-table n (λ k. f (suc k)))

pub get_or-table {ℓ} : {A : Type ℓ} (n : ℕ) (f : ℕ → A) (d : A) (k : ℕ) → k < n → get_or (table n f) k d ≡ f k
unfolding table
get_or-table zero f d k l = absurd (not-suc-le-zero l)
get_or-table (suc n) f d zero l = refl
get_or-table (suc n) f d (suc k) l = get_or-table n (λ j. f (suc j)) d k (le_of_suc-le-suc l)

-- a list is the table of its entries
pub is-table {ℓ} : {A : Type ℓ} (d : A) (xs : List A) (n : ℕ) (f : ℕ → A) → length xs ≡ n → ((k : ℕ) → k < n → get_or xs k d ≡ f k) → xs ≡ table n f
is-table d xs n f e h =
    ext_get_or d xs (table n f) (e ∙ sym (length-table n f))
    (λ k l. let m : k < n = rw e at l in h k m ∙ sym (get_or-table n f d k m))

pub table-cong {ℓ} : {A : Type ℓ} (d : A) (n : ℕ) (f g : ℕ → A) → ((k : ℕ) → k < n → f k ≡ g k) → table n f ≡ table n g
table-cong d n f g h = is-table d (table n f) n g (length-table n f) (λ k l. get_or-table n f d k l ∙ h k l)

pub table-get_or {ℓ} : {A : Type ℓ} (d : A) (xs : List A) → table (length xs) (λ k. get_or xs k d) ≡ xs
table-get_or d xs = sym (is-table d xs _ _ refl (λ k l. refl))

-- one entry of a list set
pub get_d_set {ℓ} : {A : Type ℓ} (xs : List A) (i c : ℕ) (v d : A) → i < length xs → get_or (set xs i v) c d ≡ cond (eqb i c) v (get_or xs c d)
get_d_set xs i c v d h = go (eqb i c) (same? i c)
  where
    go : (b : Bool) → Same i c b → get_or (set xs i v) c d ≡ cond b v (get_or xs c d)
    go true (same e) = rw (← e) (get_or-set_same xs i v d h)
    go false (other n) = get_or-set_other xs i c v d (λ e. n (sym e))

-- a table over the front of a list
pub over-table {ℓ} : {A : Type ℓ} (n : ℕ) (f : ℕ → A) (ys : List A) → over (table n f) ys ≡ table n f ++ drop n ys
unfolding over
over-table n f ys = rw (length-table n f)

pub length_over {ℓ} : {A : Type ℓ} (n : ℕ) (f : ℕ → A) (ys : List A) → n ≤ length ys → length (over (table n f) ys) ≡ length ys
length_over n f ys l = rw (over-table n f ys) (simp (length-append, length-table, length-drop) (omega arith))

pub get_d_over {ℓ} : {A : Type ℓ} (n : ℕ) (f : ℕ → A) (ys : List A) (d : A) (i : ℕ) → i < n → get_or (over (table n f) ys) i d ≡ f i
get_d_over n f ys d i h = rw (over-table n f ys) (get_or-append (table n f) (drop n ys) d i (omega (arith, length-table n f)) ∙ get_or-table n f d i h)

pub get_d_past {ℓ} : {A : Type ℓ} (n : ℕ) (f : ℕ → A) (ys : List A) (d : A) (i : ℕ) → n ≤ i → get_or (over (table n f) ys) i d ≡ get_or ys i d
get_d_past n f ys d i h =
    let e : length (table n f) + (i - n) ≡ i = omega (arith, length-table n f) in
    let q : n + (i - n) ≡ i = omega arith in
    rw (over-table n f ys)
    (ap (λ (k : ℕ). get_or (table n f ++ drop n ys) k d) (sym e) ∙ get_or-append-add (table n f) (drop n ys) (i - n) d
    ∙ get_or-drop n ys (i - n) d ∙ ap (λ (k : ℕ). get_or ys k d) q)

-- one entry of what is written, otherwise
pub over-set {ℓ} : {A : Type ℓ} (n : ℕ) (f g : ℕ → A) (ys : List A) (i : ℕ) (v d : A) → n ≤ length ys → i < n
    → ((k : ℕ) → k < n → g k ≡ cond (eqb i k) v (f k))
    → over (table n g) ys ≡ set (over (table n f) ys) i v
over-set n f g ys i v d long h same_at = ext_get_or d _ _ (length_over n g ys long ∙ sym (length-set (over (table n f) ys) i v ∙ length_over n f ys long))
    (λ k l. go k (leb (suc k) n) (fits? (suc k) n) ∙ sym (get_d_set (over (table n f) ys) i k v d (omega (arith, length_over n f ys long))))
  where
    go : (k : ℕ) (b : Bool) → Fits (suc k) n b → get_or (over (table n g) ys) k d ≡ cond (eqb i k) v (get_or (over (table n f) ys) k d)
    go k true (fits m) = get_d_over n g ys d k m ∙ same_at k m ∙ rw (get_d_over n f ys d k m)
    go k false (exceeds m) = rw (ne_eqb i k (omega arith)) (get_d_past n g ys d k (omega arith) ∙ sym (get_d_past n f ys d k (omega arith)))

-- a loop that writes f i at each i in turn: its first state, its step and its last
pub over-start {ℓ} : {A : Type ℓ} (f : ℕ → A) (ys : List A) → ys ≡ over (table 0 f) ys
unfolding over table
over-start f ys = refl

set-suc {ℓ} : {A : Type ℓ} (f : ℕ → A) (n : ℕ) (ys : List A) → n < length ys → set (table n f ++ drop n ys) n (f n) ≡ table (suc n) f ++ drop (suc n) ys
unfolding table
set-suc f n [] l = absurd (not-suc-le-zero l)
set-suc f zero (y ∷ ys) l = refl
set-suc f (suc n) (y ∷ ys) l = ap (λ t. f zero ∷ t) (set-suc (λ k. f (suc k)) n ys (le_of_suc-le-suc l))

pub over-step {ℓ} : {A : Type ℓ} (f : ℕ → A) (ys : List A) (n : ℕ) {s : List A} {v : A} → n < length ys → s ≡ over (table n f) ys → v ≡ f n → set s n v
    ≡ over (table (n + 1) f) ys
over-step f ys n l e q = rw (e, q, over-table n f ys, over-table (n + 1) f ys, add-one n) (set-suc f n ys l)

pub over-all {ℓ} : {A : Type ℓ} (n : ℕ) (f : ℕ → A) (ys : List A) → length ys ≤ n → over (table n f) ys ≡ table n f
over-all n f ys l = rw (over-table n f ys, drop_of_length-le ys l) (append-nil (table n f))

pub over_done {ℓ} : {A : Type ℓ} (f : ℕ → A) (ys : List A) (n : ℕ) {s : List A} → n ≤ length ys → length ys ≤ n → s ≡ over (table n f) ys → s
    ≡ table (length ys) f
over_done f ys n l m e = let q : n ≡ length ys = omega arith in e ∙ over-all n f ys m ∙ ap (λ (k : ℕ). table k f) q

-- a part of n entries, lent and given back as a table of k entries
pub over-part {ℓ} : {A : Type ℓ} (n : ℕ) (f : ℕ → A) (ys zs : List A) {k : ℕ} → k ≡ n → zs ≡ table k f → zs ++ drop n ys ≡ over (table n f) ys
over-part n f ys zs q e = rw (e, q, over-table n f ys)
