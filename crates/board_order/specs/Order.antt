-- Document 01, "The board and the run", and document 02, S-2: the order in which the board lists cells.
use Rattle.std.specs.Prelude.{ℕ, zero, suc, ◌*◌, ◌/◌, Bool, cond, ◌&&◌, ◌||◌, List, [], ◌∷◌, eqb, ltb}
use Rattle.model.specs.Step.{rest_of}
use Rattle.board_order.specs.declared.Ranked.{Ranked}

-- The largest volume that can be ranked, of 32 bits: the ceilings of document 01 and of S-10 are below it.
abbrev pub max_ranked : ℕ
max_ranked = 4294967295

-- A cell as the order sees it: its entry, and the volume that its rest is a part of.
unfoldable pub ranked_of : ℕ → ℕ → ℕ → Ranked
ranked_of cell volume mass = record { cell = cell; q = mass / volume; rest = rest_of volume mass; volume = volume }

abbrev pub unranked : Ranked
unranked = record { cell = 0; q = 0; rest = 0; volume = 0 }

-- S-2: rest / V of a is larger, or equal, by products and not by quotients.
unfoldable pub fuller : Ranked → Ranked → Bool
fuller a b = ltb (b.rest * a.volume) (a.rest * b.volume)

unfoldable pub as_full : Ranked → Ranked → Bool
as_full a b = eqb (a.rest * b.volume) (b.rest * a.volume)

-- The order: the higher q, of equal ones the larger rest / V, and of those equal too the lower cell.
unfoldable pub comes_before : Ranked → Ranked → Bool
comes_before a b = ltb b.q a.q || (eqb a.q b.q && (fuller a b || (as_full a b && ltb a.cell b.cell)))

-- x put before the first of a list that it comes before, or at its end
unfoldable pub insert_in_order : {A : Type 0} → (A → A → Bool) → A → List A → List A
insert_in_order order x [] = x ∷ []
insert_in_order order x (y ∷ ys) = cond (order x y) (x ∷ y ∷ ys) (y ∷ insert_in_order order x ys)

-- the cells below n that are visible, in an order: each inserted among those below it
unfoldable pub in_order : (visible : ℕ → Bool) → (ℕ → ℕ → Bool) → ℕ → List ℕ
in_order visible order zero = []
in_order visible order (suc n) = cond (visible n) (insert_in_order order n (in_order visible order n)) (in_order visible order n)
