-- The state of the pass that takes out corrections that smooth and sums the others: document 02, S-5, and document 01, "One step", stage 4,
-- P and N, as far as faces have been passed.
use Rattle.std.specs.Prelude.{ℕ, ◌+◌, ◌*◌, ◌/◌, ◌^◌, ◌≤◌, ◌<◌, ◌≡◌, ◌≢◌, cond, List, eqb, ℤ, length, get_or, set}
use Rattle.lists.specs.Fold.{sum}
use Rattle.model.specs.Mesh.{Mesh, max_cells, entering, leaving, incoming}
use Rattle.model.specs.Step.{smooths, kept_by}
use Rattle.step_cell.specs.Work.{of_cell, of_face, over_q, low_in}
use Rattle.step_face.specs.Correction.{over_sign}
use Rattle.step_smoothing.specs.Corrections.{enters, leaves, corrections}

-- Pass 4 begins with low-order q alone in entry 0 and with no sums; P has room over q whatever is kept
pub record Uncounted (M : Mesh) (w : List ℕ) : Type 0 where
  pub q_below : (c : ℕ) → c < M.cells → of_cell w c 0 < over_q
  pub n_none : (c : ℕ) → c < M.cells → of_cell w c 3 ≡ 0
  pub p_most : (c : ℕ) → c < M.cells → incoming M (corrections M.cells w) c < 2 ^ 44

-- one entry with n more
abbrev pub more : List ℕ → ℕ → ℕ → List ℕ
more w i n = set w i (get_or w i 0 + n)

-- P and N with a correction of size n that enters cell r and leaves cell g
abbrev pub counted : List ℕ → ℕ → ℕ → ℕ → List ℕ
counted w r g n = more (more w (4 * r + 0) (over_q * n)) (4 * g + 3) n

-- one face of pass 4, from l to k, whose correction in one number stands at entry i: one that smooths becomes 0, else it is counted
unfoldable pub kept_at : List ℕ → ℕ → ℕ → ℕ → ℕ → List ℕ
kept_at w i l k code = cond (eqb (code / over_sign) 0) w
    (cond (smooths (low_in w (leaves code l k)) (low_in w (enters code l k))) (set w i 0) (counted w (enters code l k) (leaves code l k) (code / over_sign)))

-- what it rests on: where there is a correction, both ends are cells that have room for it
pub record KeepAsks (i l k code : ℕ) (w : List ℕ) : Type 0 where
  pub in_work : i < length w
  pub small : i * 8 < 2 ^ 64
  pub inside : code / over_sign ≢ 0 → (4 * l + 3 < length w) × (4 * k + 3 < length w) × (l < max_cells) × (k < max_cells)
  pub p_room : code / over_sign ≢ 0 → of_cell w (enters code l k) 0 + over_q * (code / over_sign) < 2 ^ 64
  pub n_room : code / over_sign ≢ 0 → of_cell w (leaves code l k) 3 + code / over_sign < 2 ^ 64

-- the corrections in w that are kept, by the low-order q in w
abbrev pub kept_in : Mesh → List ℕ → ℕ → ℤ
kept_in M w = kept_by M (λ c. of_cell w c 0) (corrections M.cells w)

-- Pass 4, after the faces below f: their corrections are the kept ones; over a cell's low-order q stands the sum of those that enter it, entry 3
-- has that of those that leave it
pub record KeptTo (M : Mesh) (w : List ℕ) (f : ℕ) (work : List ℕ) : Type 0 where
  pub same_length : length work ≡ length w
  pub p_at : (c : ℕ) → c < M.cells → of_cell work c 0 ≡ of_cell w c 0 + over_q * sum f (entering M (kept_in M w) c)
  pub loss_at : (c : ℕ) → c < M.cells → of_cell work c 1 ≡ of_cell w c 1
  pub gain_at : (c : ℕ) → c < M.cells → of_cell work c 2 ≡ of_cell w c 2
  pub n_at : (c : ℕ) → c < M.cells → of_cell work c 3 ≡ of_cell w c 3 + sum f (leaving M (kept_in M w) c)
  pub kept-at : (g : ℕ) → g < f → corrections M.cells work g ≡ kept_in M w g
  pub rest_at : (g : ℕ) → f ≤ g → of_face work M.cells g ≡ of_face w M.cells g
