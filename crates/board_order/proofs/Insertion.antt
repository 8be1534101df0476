-- Insertion into a list of which the first few are kept: what a loop that carries one entry up comes to.
use Prim.Native.Nat.{ℕ, zero, suc, ◌+◌, ◌-◌, ◌≤◌, ◌<◌, min}
use mathlib.Core.Path.{◌≡◌, refl, sym, ap, ◌∙◌}
use mathlib.Core.Bool.{Bool, true, false, cond, ◌||◌, true≢false}
use mathlib.Core.List.{List, [], ◌∷◌, ◌++◌, map, append-nil}
use native.Mathlib.Numerals.{add-one}
use native.Mathlib.Omega.{arith}
use lib.ListN.{length, get_or, take, drop, set, length-append, length-take, length-map, length-set, drop_of_length-le}
use lib.Seq.{slice, slice-cons, slice_empty, take-nil, take-take, take-suc, take-suc-set, take-set-lt, drop-set-lt, take_all, take_at, take-append-le, append_snoc, set_split, drop-drop, drop-append-add, length-take-le}
use Rattle.lists.specs.Fold.{sum}
use Rattle.lists.specs.Table.{over}
use Rattle.lists.specs.Marked.{count}
use Rattle.board_order.specs.Order.{insert_in_order, in_order}

take-cons : {A : Type 0} (m : ℕ) (y : A) (ys : List A) → take m (y ∷ take m ys) ≡ take m (y ∷ ys)
take-cons zero y ys = refl
take-cons (suc m) y ys = ap (λ t. y ∷ t) (take-take m (suc m) ys (omega arith))

pub take-map : {A B : Type 0} (f : A → B) (m : ℕ) (xs : List A) → take m (map f xs) ≡ map f (take m xs)
take-map f zero xs = refl
take-map f (suc m) [] = refl
take-map f (suc m) (x ∷ xs) = ap (λ t. f x ∷ t) (take-map f m xs)

module _ {A : Type 0} (order : A → A → Bool) where
  pub length-insert : (x : A) (xs : List A) → length (insert_in_order order x xs) ≡ suc (length xs)
  unfolding insert_in_order
  length-insert x [] = refl
  length-insert x (y ∷ ys) = go (order x y) (length-insert x ys)
    where
      go : (b : Bool) → length (insert_in_order order x ys) ≡ suc (length ys) → length (cond b (x ∷ y ∷ ys) (y ∷ insert_in_order order x ys))
          ≡ suc (suc (length ys))
      go true ih = refl
      go false ih = ap suc ih

  -- what is not among the first m does not come among them again
  pub take-insert : (m : ℕ) (x : A) (xs : List A) → take m (insert_in_order order x (take m xs)) ≡ take m (insert_in_order order x xs)
  unfolding insert_in_order
  take-insert zero x xs = refl
  take-insert (suc m) x [] = refl
  take-insert (suc m) x (y ∷ ys) = go (order x y) (take-insert m x ys)
    where
      go : (b : Bool) → take m (insert_in_order order x (take m ys)) ≡ take m (insert_in_order order x ys)
          → take (suc m) (cond b (x ∷ y ∷ take m ys) (y ∷ insert_in_order order x (take m ys)))
          ≡ take (suc m) (cond b (x ∷ y ∷ ys) (y ∷ insert_in_order order x ys))
      go true ih = ap (λ t. x ∷ t) (take-cons m y ys)
      go false ih = ap (λ t. y ∷ t) ih

  pub map-insert : {B : Type 0} (f : B → A) (x : B) (xs : List B) → map f (insert_in_order (λ a b. order (f a) (f b)) x xs) ≡ insert_in_order order (f x) (map f xs)
  unfolding insert_in_order
  map-insert f x [] = refl
  map-insert f x (y ∷ ys) = go (order (f x) (f y)) (map-insert f x ys)
    where
      go : (b : Bool) → map f (insert_in_order (λ a b. order (f a) (f b)) x ys) ≡ insert_in_order order (f x) (map f ys)
          → map f (cond b (x ∷ y ∷ ys) (y ∷ insert_in_order (λ a b. order (f a) (f b)) x ys))
          ≡ cond b (f x ∷ f y ∷ map f ys) (f y ∷ insert_in_order order (f x) (map f ys))
      go true ih = refl
      go false ih = ap (λ t. f y ∷ t) ih

  -- what is still to come where x is carried: x and then ys where entries move up already, else x inserted in ys
  unfoldable pub ahead : Bool → A → List A → List A
  ahead moving x ys = cond moving (x ∷ ys) (insert_in_order order x ys)

  pub ahead-swap : (moving : Bool) (x y : A) (ys : List A) → (moving || order x y) ≡ true → ahead moving x (y ∷ ys) ≡ x ∷ ahead true y ys
  unfolding ahead insert_in_order
  ahead-swap true x y ys e = refl
  ahead-swap false x y ys e = rw e

  pub ahead-keep : (moving : Bool) (x y : A) (ys : List A) → (moving || order x y) ≡ false → ahead moving x (y ∷ ys) ≡ y ∷ ahead moving x ys
  unfolding ahead insert_in_order
  ahead-keep true x y ys e = absurd (true≢false e)
  ahead-keep false x y ys e = rw e

  pub ahead-end : (moving : Bool) (x : A) → ahead moving x [] ≡ x ∷ []
  unfolding ahead insert_in_order
  ahead-end true x = refl
  ahead-end false x = refl

  -- A loop over the first u of m entries, es₀ at leading, that carries x past place i on its way to the list t.
  module _ (t : List A) (u m : ℕ) (es₀ : List A) where
    pub record Carrying (es : List A) (moving : Bool) (x : A) (i : ℕ) : Type 0 where
      pub within : i ≤ u
      pub long : length es ≡ m
      pub untouched : drop u es ≡ drop u es₀
      pub whole : t ≡ take i es ++ ahead moving x (slice i u es)

    module _ (es : List A) (i : ℕ) (moving : Bool) (x y d : A) {b : Bool} (l : i < u) (k : u ≤ m)
        (s : Carrying es moving x i) (is : y ≡ get_or es i d) (q : b ≡ (moving || order x y)) where
      open s use {long, untouched, whole}

      next : t ≡ take i es ++ ahead moving x (y ∷ slice (suc i) u es)
      next = whole ∙ ap (λ r. take i es ++ ahead moving x r) (rw is (slice-cons i u es d l (omega arith)))

      pub carried_on : b ≡ true → {es' : List A} {x' : A} {moving' : Bool} → es' ≡ set es i x → x' ≡ y → moving' ≡ true → Carrying es' moving' x' (i + 1)
      carried_on p {es'} {x'} {moving'} e₁ e₂ e₃ = rw (e₁, e₂, e₃) (record {
        within = omega arith;
        long = length-set es i x ∙ long;
        untouched = drop-set-lt u es i x l ∙ untouched;
        whole =
            next ∙ ap (λ r. take i es ++ r) (ahead-swap moving x y (slice (suc i) u es) (sym q ∙ p))
            ∙ rw (add-one i, take-suc-set es i x (omega arith), take-set-lt u es i x l, drop-set-lt (suc i) (take u es) i x (omega arith))
            (sym (append_snoc (take i es) x (ahead true y (slice (suc i) u es))));
      })

      pub passed : b ≡ false → {es' : List A} {x' : A} {moving' : Bool} → es' ≡ es → x' ≡ x → moving' ≡ moving → Carrying es' moving' x' (i + 1)
      passed p {es'} {x'} {moving'} e₁ e₂ e₃ = rw (e₁, e₂, e₃) (record {
        within = omega arith;
        long = long;
        untouched = untouched;
        whole =
            next ∙ ap (λ r. take i es ++ r) (ahead-keep moving x y (slice (suc i) u es) (sym q ∙ p))
            ∙ rw (add-one i, take-suc es i d (omega arith), ← is) (sym (append_snoc (take i es) y (ahead moving x (slice (suc i) u es))));
      })

    pub at-end : (es : List A) (i : ℕ) (moving : Bool) (x : A) → u ≤ i → Carrying es moving x i → t ≡ take u es ++ (x ∷ [])
    at-end es i moving x k s =
        let q : i ≡ u = omega arith in
        let e : t ≡ take u es ++ ahead moving x (slice u u es) = rw q at s.whole in
        e ∙ ap (λ r. take u es ++ ahead moving x r) (slice_empty u es) ∙ ap (λ r. take u es ++ r) (ahead-end moving x)

  pub at-start : (u m : ℕ) (x : A) (es : List A) → length es ≡ m → Carrying (insert_in_order order x (take u es)) u m es es false x 0
  unfolding ahead
  at-start u m x es n = record { within = omega arith; long = n; untouched = refl; whole = refl }

-- The carried one goes behind the others where there is room, and falls out where there is none.
module _ {A : Type 0} (m u : ℕ) (t es es₀ : List A) (x : A) (n : length es ≡ m)
    (same : drop u es ≡ drop u es₀) (e : t ≡ take u es ++ (x ∷ [])) where
  pub room-left : u < m → set es u x ≡ over (take m t) es₀
  unfolding over
  room-left l =
      let lu : length (take u es) ≡ u = length-take-le u es (omega arith) in
      let lt : length t ≡ u + 1 = rw e (length-append (take u es) (x ∷ []) ∙ omega arith) in
      let w : take m t ≡ t = take_all m t (omega arith) in
      let d : drop (suc u) es ≡ drop (u + 1) es₀ = ap (λ (j : ℕ). drop j es) (sym (add-one u)) ∙ sym (drop-drop 1 u es) ∙ ap (drop 1) same ∙ drop-drop 1 u es₀
      in
      rw (set_split es u x (omega arith), d, w, lt, e) (sym (append_snoc (take u es) x (drop (u + 1) es₀)))

  pub no_room : u ≤ m → m ≤ u → es ≡ over (take m t) es₀
  unfolding over
  no_room k l =
      let w : take u es ≡ es = take_all u es (omega arith) in
      let a : take m t ≡ es = rw (e, w) (take-append-le m es (x ∷ []) (omega arith) ∙ take_all m es (omega arith)) in
      let v : length es ≡ u = omega arith in
      rw (a, v, ← same, drop_of_length-le es {i = u} (omega arith)) (sym (append-nil es))

-- A longer list written over where a shorter one was.
over-over : {A : Type 0} (xs ys zs : List A) → length ys ≤ length xs → over xs (over ys zs) ≡ over xs zs
unfolding over
over-over xs ys zs l =
    let j : ℕ = length xs - length ys in
    let q : length ys + j ≡ length xs = omega arith in
    let d : drop (length ys + j) (ys ++ drop (length ys) zs) ≡ drop (length ys + j) zs = drop-append-add ys (drop (length ys) zs) j ∙ drop-drop j (length ys) zs
    in
    ap (λ s. xs ++ s) (rw q at d)

pub length-in_order : (visible : ℕ → Bool) (order : ℕ → ℕ → Bool) (n : ℕ) → length (in_order visible order n) ≡ count n visible
unfolding in_order count sum
length-in_order visible order zero = refl
length-in_order visible order (suc n) = go (visible n) (length-in_order visible order n)
  where
    go : (b : Bool) → length (in_order visible order n) ≡ count n visible
        → length (cond b (insert_in_order order n (in_order visible order n)) (in_order visible order n)) ≡ count n visible + cond b 1 0
    go true ih = omega (arith, length-insert order n (in_order visible order n), ih)
    go false ih = omega (arith, ih)

pub count-more : (visible : ℕ → Bool) (n : ℕ) → count (n + 1) visible ≡ count n visible + cond (visible n) 1 0
unfolding count sum
count-more visible n = rw (add-one n)

-- The first m of the visible cells in an order, by what f says of each, written over zs: none yet, and a cell more.
module _ {A : Type 0} (order : A → A → Bool) (f : ℕ → A) (visible : ℕ → Bool) where
  abbrev by : ℕ → ℕ → Bool
  by a b = order (f a) (f b)

  module _ (m : ℕ) where
    leading : ℕ → List A
    leading n = map f (take m (in_order visible by n))

    length-leading : (n : ℕ) → length (leading n) ≡ min m (count n visible)
    unfolding leading
    length-leading n = let l : List ℕ = in_order visible by n in length-map (take m l) f ∙ length-take m l ∙ ap (min m) (length-in_order visible by n)

    leading-more : (n : ℕ) → visible n ≡ true → take m (insert_in_order order (f n) (leading n)) ≡ leading (n + 1)
    unfolding leading in_order
    leading-more n v =
        ap (take m) (sym (map-insert order f n (take m (in_order visible by n)))) ∙ take-map f m (insert_in_order by n (take m (in_order visible by n)))
        ∙ ap (map f) (take-insert by m n (in_order visible by n)) ∙ rw (add-one n, v)

    pub cells-none : (zs : List A) → zs ≡ over (map f (take m (in_order visible (λ a b. order (f a) (f b)) 0))) zs
    unfolding over in_order
    cells-none zs = rw (take-nil {A = ℕ} m)

    pub cells-more : (n : ℕ) (zs es es' : List A) {u : ℕ} → visible n ≡ true → u ≡ min m (count n visible)
        → es ≡ over (map f (take m (in_order visible (λ a b. order (f a) (f b)) n))) zs
        → es' ≡ over (take m (insert_in_order order (f n) (take u es))) es → es' ≡ over (map f (take m (in_order visible (λ a b. order (f a) (f b)) (n + 1)))) zs
    unfolding over leading
    cells-more n zs es es' {u} v q e e' =
        let w : take u es ≡ leading n = rw e (take_at (leading n) (drop (length (leading n)) zs) u (length-leading n ∙ sym q)) in
        let c : count (n + 1) visible ≡ count n visible + 1 = rw v at (count-more visible n) in
        let l : length (leading n) ≤ length (leading (n + 1)) = omega (arith, length-leading n, length-leading (n + 1), c) in
        e' ∙ ap (λ s. over (take m (insert_in_order order (f n) s)) es) w ∙ ap (λ s. over s es) (leading-more n v) ∙ ap (over (leading (n + 1))) e
        ∙ over-over (leading (n + 1)) (leading n) zs l

    pub cells-passed : (n : ℕ) (zs es : List A) → visible n ≡ false → es ≡ over (map f (take m (in_order visible (λ a b. order (f a) (f b)) n))) zs
        → es ≡ over (map f (take m (in_order visible (λ a b. order (f a) (f b)) (n + 1)))) zs
    unfolding in_order
    cells-passed n zs es v e = rw (add-one n, v) e

  -- another that says the same of each visible cell ranks them alike
  pub ranked-alike : (g : ℕ → A) (n : ℕ) → ((c : ℕ) → c < n → visible c ≡ true → f c ≡ g c)
      → map f (in_order visible (λ a b. order (f a) (f b)) n) ≡ map g (in_order visible (λ a b. order (g a) (g b)) n)
  unfolding in_order
  ranked-alike g zero h = refl
  ranked-alike g (suc n) h = go (visible n) refl (ranked-alike g n (λ c l. h c (omega arith)))
    where
      of-g : ℕ → ℕ → Bool
      of-g a b = order (g a) (g b)

      go : (b : Bool) → visible n ≡ b → map f (in_order visible by n) ≡ map g (in_order visible of-g n)
          → map f (cond b (insert_in_order by n (in_order visible by n)) (in_order visible by n))
          ≡ map g (cond b (insert_in_order of-g n (in_order visible of-g n)) (in_order visible of-g n))
      go true v ih =
          map-insert order f n (in_order visible by n) ∙ rw (ih, h n (omega arith) v) refl ∙ sym (map-insert order g n (in_order visible of-g n))
      go false v ih = ih
