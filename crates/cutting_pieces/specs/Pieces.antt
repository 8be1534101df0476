-- Document 02, S-12, of single cells and faces: which cells have a label, which faces touch such a cell, and which of those are cut.
use Rattle.std.specs.Prelude.{ℕ, ◌+◌, ◌^◌, ◌≤◌, ◌<◌, ◌≢◌, Bool, not, cond, ◌&&◌, ◌||◌, List, length, get_or, eqb, ℤ, pos}
use Rattle.signed.specs.Sign.{is_negative, turn}
use Rattle.lists.specs.Marked.{count}
use Rattle.model.specs.Mesh.{rim}

module _ (labels : List ℕ) (p : ℕ) where
  abbrev pub has_label : ℕ → Bool
  has_label c = eqb (get_or labels c 0) p

  abbrev pub touching : (first second : ℕ) → Bool
  touching first second = has_label first || (not (eqb second rim) && has_label second)

  abbrev pub cutting : (first second : ℕ) → Bool
  cutting first second = not (eqb second rim) && not (has_label first && (not (eqb second rim) && has_label second))

-- whether face f is turned, its first cell not being in the part
abbrev pub turns_at : (labels : List ℕ) (p : ℕ) (firsts : List ℕ) → ℕ → Bool
turns_at labels p firsts f = not (has_label labels p (get_or firsts f 0))

-- of face f: whether it touches the part, and what the part's tables have of it
module _ (labels : List ℕ) (p : ℕ) (firsts seconds : List ℕ) where
  abbrev first : ℕ → ℕ
  first f = get_or firsts f 0

  abbrev second : ℕ → ℕ
  second f = get_or seconds f 0

  abbrev turns : ℕ → Bool
  turns f = turns_at labels p firsts f

  abbrev cuts : ℕ → Bool
  cuts f = cutting labels p (first f) (second f)

  abbrev pub touching_at : ℕ → Bool
  touching_at f = touching labels p (first f) (second f)

  abbrev pub number_at : List ℕ → ℕ → ℕ
  number_at numbers f = get_or numbers (cond (turns f) (second f) (first f)) 0

  abbrev pub second_at : List ℕ → ℕ → ℕ
  second_at numbers f = cond (cuts f) rim (get_or numbers (second f) 0)

  abbrev pub spacing_at : List ℕ → ℕ → ℕ
  spacing_at entries f = cond (cuts f) 0 (get_or entries f 0)

  abbrev pub amount_at : List ℤ → ℕ → ℤ
  amount_at amounts f = turn (turns f) (get_or amounts f (pos 0))

  abbrev pub outside_at : (q : List ℕ) (amounts : List ℤ) (values : List ℕ) → ℕ → ℕ
  outside_at q amounts values f = cond (cuts f) (cond (is_negative (amount_at amounts f)) (get_or q (cond (turns f) (first f) (second f)) 0) 0) (get_or values f 0)

-- the faces and their ends, as far as they are read
pub record FacesLent (faces : ℕ) (labels firsts seconds : List ℕ) : Type 0 where
  pub firsts_long : faces ≤ length firsts
  pub seconds_long : faces ≤ length seconds
  pub first-in : (f : ℕ) → f < faces → get_or firsts f 0 < length labels
  pub second_in : (f : ℕ) → f < faces → get_or seconds f 0 ≢ rim → get_or seconds f 0 < length labels

-- a table that has an entry for each end, the rim's mark among them
pub record EndsIn (faces : ℕ) (table firsts seconds : List ℕ) : Type 0 where
  pub first_there : (f : ℕ) → f < faces → get_or firsts f 0 < length table
  pub second_there : (f : ℕ) → f < faces → get_or seconds f 0 < length table

-- The same by the new numbers of the cells: how many of the part come before each.
module _ (labels : List ℕ) (p : ℕ) (firsts seconds : List ℕ) where
  abbrev pub new_first_at : ℕ → ℕ
  new_first_at f = count (cond (turns_at labels p firsts f) (get_or seconds f 0) (get_or firsts f 0)) (has_label labels p)

  abbrev pub new_second_at : ℕ → ℕ
  new_second_at f = cond (eqb (get_or seconds f 0) rim || cutting labels p (get_or firsts f 0) (get_or seconds f 0)) rim
      (count (cond (turns_at labels p firsts f) (get_or firsts f 0) (get_or seconds f 0)) (has_label labels p))

  -- with any q of the cells
  abbrev pub new_outside_at : (q : ℕ → ℕ) (amounts : List ℤ) (values : List ℕ) → ℕ → ℕ
  new_outside_at q amounts values f = cond (cutting labels p (get_or firsts f 0) (get_or seconds f 0))
      (cond (is_negative (turn (turns_at labels p firsts f) (get_or amounts f (pos 0))))
      (q (cond (turns_at labels p firsts f) (get_or firsts f 0) (get_or seconds f 0))) 0)
      (get_or values f 0)

-- faces that join cells, of tables that are long enough
pub record JoinedFaces (cells faces : ℕ) (labels firsts seconds : List ℕ) : Type 0 where
  pub few : cells ≤ rim
  pub labels_long : cells ≤ length labels
  pub firsts_long : faces ≤ length firsts
  pub seconds_long : faces ≤ length seconds
  pub first-in : (f : ℕ) → f < faces → get_or firsts f 0 < cells
  pub second_in : (f : ℕ) → f < faces → get_or seconds f 0 ≢ rim → get_or seconds f 0 < cells

-- cells whose raised concentrations can be worked out
pub record CellsGood (cells : ℕ) (volumes masses releases : List ℕ) : Type 0 where
  pub volumes_long : cells ≤ length volumes
  pub masses_long : cells ≤ length masses
  pub releases_long : cells ≤ length releases
  pub some_volume : (c : ℕ) → c < cells → 1 ≤ get_or volumes c 0
  pub small : (c : ℕ) → c < cells → get_or masses c 0 + get_or releases c 0 < 2 ^ 64
