-- The order of two cells, by what their concentrations, rests and volumes are.
use Prim.Native.Nat.{ℕ, ◌*◌, ◌≤◌, ◌<◌}
use mathlib.Core.Path.{◌≡◌, refl, sym, ◌∙◌}
use mathlib.Core.Logic.{◌≢◌, ◌⊎◌, inl, inr}
use mathlib.Core.Bool.{Bool, true, false, ◌&&◌, ◌||◌, true≢false}
use native.Mathlib.Nat.{mul-le-mul_right, le_of_mul-le-mul_right, lt_of_mul-lt-mul_right}
use native.Mathlib.Omega.{arith}
use borrow.Author.Tests.{lt-ltb, le-ltb, ltb-true, eq-eqb, ne_eqb, eqb-true}
use lib.Dec.{eqb, ltb}
use Rattle.board_order.specs.Order.{fuller, as_full, comes_before}
use Rattle.board_order.specs.declared.Ranked.{Ranked}

or-false : (t : Bool) → (t || false) ≡ t
or-false true = refl
or-false false = refl

pub by-concentration : (a b : Ranked) → a.q ≢ b.q → ltb b.q a.q ≡ comes_before a b
unfolding comes_before
by-concentration a b n = rw (ne_eqb a.q b.q n) (sym (or-false (ltb b.q a.q)))

pub by-rest : (a b : Ranked) → a.q ≡ b.q → a.rest * b.volume ≢ b.rest * a.volume → ltb (b.rest * a.volume) (a.rest * b.volume) ≡ comes_before a b
unfolding comes_before fuller as_full
by-rest a b e n =
    rw (le-ltb b.q a.q (omega arith), eq-eqb a.q b.q e, ne_eqb (a.rest * b.volume) (b.rest * a.volume) n)
    (sym (or-false (ltb (b.rest * a.volume) (a.rest * b.volume))))

pub by-cell : (a b : Ranked) → a.q ≡ b.q → a.rest * b.volume ≡ b.rest * a.volume → ltb a.cell b.cell ≡ comes_before a b
unfolding comes_before fuller as_full
by-cell a b e d =
    rw (
      le-ltb b.q a.q (omega arith),
      eq-eqb a.q b.q e,
      le-ltb (b.rest * a.volume) (a.rest * b.volume) (omega arith),
      eq-eqb (a.rest * b.volume) (b.rest * a.volume) d,
    )

-- a comes before b: by q, by rest / V, by the number of its cell
pub data First (a b : Ranked) : Type 0 where
  higher : b.q < a.q → First a b
  larger : a.q ≡ b.q → b.rest * a.volume < a.rest * b.volume → First a b
  lower : a.q ≡ b.q → a.rest * b.volume ≡ b.rest * a.volume → a.cell < b.cell → First a b

pub first_of : (a b : Ranked) → comes_before a b ≡ true → First a b
unfolding comes_before fuller as_full
first_of a b h = go (ltb b.q a.q) (eqb a.q b.q) (ltb (b.rest * a.volume) (a.rest * b.volume)) (eqb (a.rest * b.volume) (b.rest * a.volume))
    refl refl refl refl h
  where
    go : (s t u v : Bool) → ltb b.q a.q ≡ s → eqb a.q b.q ≡ t → ltb (b.rest * a.volume) (a.rest * b.volume) ≡ u
        → eqb (a.rest * b.volume) (b.rest * a.volume) ≡ v
        → (s || (t && (u || (v && ltb a.cell b.cell)))) ≡ true → First a b
    go true t u v d e i j h = higher (ltb-true b.q a.q d)
    go false true true v d e i j h = larger (eqb-true a.q b.q e) (ltb-true (b.rest * a.volume) (a.rest * b.volume) i)
    go false true false true d e i j h =
        lower (eqb-true a.q b.q e) (eqb-true (a.rest * b.volume) (b.rest * a.volume) j) (ltb-true a.cell b.cell h)
    go false true false false d e i j h = absurd (true≢false (sym h))
    go false false u v d e i j h = absurd (true≢false (sym h))

pub comes-first : (a b : Ranked) → First a b → comes_before a b ≡ true
comes-first a b (higher h) = sym (by-concentration a b (λ e. omega arith)) ∙ lt-ltb b.q a.q h
comes-first a b (larger e h) = sym (by-rest a b e (λ d. omega arith)) ∙ lt-ltb (b.rest * a.volume) (a.rest * b.volume) h
comes-first a b (lower e d h) = sym (by-cell a b e d) ∙ lt-ltb a.cell b.cell h

-- Three fractions r / v, s / w and t / x, compared by products, w not 0: those of r / v and t / x follow.
module _ (r v s w t x : ℕ) (W : 1 ≤ w) where
  pub parts-le : s * v ≤ r * w → t * w ≤ s * x → t * v ≤ r * x
  parts-le h k = le_of_mul-le-mul_right {k = w} (omega (arith, mul-le-mul_right x h, mul-le-mul_right v k)) W

  pub parts-lt : 1 ≤ v → 1 ≤ x → (s * v < r * w) ⊎ (t * w < s * x) → s * v ≤ r * w → t * w ≤ s * x → t * v < r * x
  parts-lt A C d h k = go d
    where
      go : (s * v < r * w) ⊎ (t * w < s * x) → t * v < r * x
      go (inl l) = lt_of_mul-lt-mul_right w (omega (arith, mul-le-mul_right x l, mul-le-mul_right v k))
      go (inr l) = lt_of_mul-lt-mul_right w (omega (arith, mul-le-mul_right x h, mul-le-mul_right v l))

-- The order is transitive among cells whose volumes are not 0.
module _ (a b c : Ranked) (A : 1 ≤ a.volume) (B : 1 ≤ b.volume) (C : 1 ≤ c.volume) where
  strictly : (b.rest * a.volume < a.rest * b.volume) ⊎ (c.rest * b.volume < b.rest * c.volume)
      → b.rest * a.volume ≤ a.rest * b.volume → c.rest * b.volume ≤ b.rest * c.volume → c.rest * a.volume < a.rest * c.volume
  strictly = parts-lt a.rest a.volume b.rest b.volume c.rest c.volume B A C

  equally : a.rest * b.volume ≡ b.rest * a.volume → b.rest * c.volume ≡ c.rest * b.volume → a.rest * c.volume ≡ c.rest * a.volume
  equally d g = omega (
    arith,
    parts-le a.rest a.volume b.rest b.volume c.rest c.volume B (omega arith) (omega arith),
    parts-le c.rest c.volume b.rest b.volume a.rest a.volume B (omega arith) (omega arith),
  )

  pub first-trans : First a b → First b c → First a c
  first-trans (higher h) (higher k) = higher (omega arith)
  first-trans (higher h) (larger e k) = higher (omega arith)
  first-trans (higher h) (lower e d k) = higher (omega arith)
  first-trans (larger e h) (higher k) = higher (omega arith)
  first-trans (lower e d h) (higher k) = higher (omega arith)
  first-trans (larger e h) (larger f k) = larger (e ∙ f) (strictly (inl h) (omega arith) (omega arith))
  first-trans (larger e h) (lower f g k) = larger (e ∙ f) (strictly (inl h) (omega arith) (omega arith))
  first-trans (lower e d h) (larger f k) = larger (e ∙ f) (strictly (inr k) (omega arith) (omega arith))
  first-trans (lower e d h) (lower f g k) = lower (e ∙ f) (equally d g) (omega arith)
