-- The table lent as work: document 01, "Tables lent to a step", gives it four entries per cell, then one per face.
-- What the passes keep there is their own affair: nothing of it is promised to a caller of the step.
use Rattle.std.specs.Prelude.{ℕ, zero, suc, ◌+◌, ◌-◌, ◌*◌, ◌/◌, ◌%◌, ◌≤◌, ◌<◌, min, max, ◌≡◌, true, cond, List, eqb, leb, ℤ, length, get_or, set}
use Rattle.signed.specs.Sign.{is_zero, is_negative}
use Rattle.model.specs.Mesh.{rim, max_volume, max_concentration}

-- entry j of cell c, and the entry of face f
abbrev pub of_cell : List ℕ → ℕ → ℕ → ℕ
of_cell w c j = get_or w (4 * c + j) 0

abbrev pub of_face : List ℕ → ℕ → ℕ → ℕ
of_face w cells f = get_or w (4 * cells + f) 0

-- from pass 3 on entry 0 of a cell holds two numbers: low-order q, which is below this, and P of stage 4, as a multiple of this
abbrev pub over_q : ℕ
over_q = 1048576

abbrev pub low_in : List ℕ → ℕ → ℕ
low_in w c = of_cell w c 0 % over_q

abbrev pub entering_in : List ℕ → ℕ → ℕ
entering_in w c = of_cell w c 0 / over_q

-- the four entries of cell c written
unfoldable pub cell_filled : List ℕ → ℕ → ℕ → ℕ → ℕ → ℕ → List ℕ
cell_filled w c p l g n = set (set (set (set w (4 * c + 0) p) (4 * c + 1) l) (4 * c + 2) g) (4 * c + 3) n

abbrev pub pick : ℕ → ℕ → ℕ → ℕ → ℕ → ℕ
pick zero p l g n = p
pick (suc zero) p l g n = l
pick (suc (suc zero)) p l g n = g
pick (suc (suc (suc j))) p l g n = n

-- a pass by cells, after the cells below i: their entries are p, l, g and n of the cell, and those from i on are as in w
pub record Filling (w : List ℕ) (p l g n : ℕ → ℕ) (i : ℕ) (work : List ℕ) : Type 0 where
  pub same_length : length work ≡ length w
  pub at : (c : ℕ) → c < i → (j : ℕ) → leb j 3 ≡ true → of_cell work c j ≡ pick j (p c) (l c) (g c) (n c)
  pub kept : (k : ℕ) → 4 * i ≤ k → get_or work k 0 ≡ get_or w k 0

-- Stage 3, of one cell: its least and greatest concentration after it has met q
unfoldable pub widened : List ℕ → ℕ → ℕ → List ℕ
widened w c q = set (set w (4 * c + 1) (min (of_cell w c 1) q)) (4 * c + 2) (max (of_cell w c 2) q)

-- both cells of a face from l to k after they have met across it; a of the first, b beyond the face
unfoldable pub widened_across : List ℕ → ℕ → ℕ → ℤ → ℕ → ℕ → List ℕ
widened_across w l k z a b =
    cond (is_zero z) w (cond (eqb k rim) (cond (is_negative z) (widened w l b) w) (widened (widened w l b) k a))

-- Low-order q of document 02, S-5, and stage 3, G and L, of one cell: its entries are then q, L, G and 0
unfoldable pub allowances_of : List ℕ → ℕ → ℕ → ℕ → List ℕ
allowances_of w c volume low = cell_filled w c (low / volume) (low - volume * of_cell w c 1) (volume * of_cell w c 2 + volume - 1 - low) 0

-- what keeps them in range: the low-order mass is within the bounds
pub record CellAsks (volume low least most : ℕ) : Type 0 where
  pub volume_some : 1 ≤ volume
  pub volume_most : volume ≤ max_volume
  pub most_small : most ≤ max_concentration
  pub above : volume * least ≤ low
  pub below : low ≤ volume * most + volume - 1
