-- Document 01, "Mesh, water and salt": cells, faces and amounts that pass through them.
use Rattle.std.specs.Prelude.{ℕ, ◌+◌, ◌-◌, Bool, cond, List, get_or, eqb, ℤ}
use Rattle.lists.specs.Fold.{sum}
use Rattle.signed.specs.Sign.{forward, backward}

-- its first line: how many cells and faces a mesh may have
abbrev pub max_cells : ℕ
max_cells = 4095

abbrev pub max_faces : ℕ
max_faces = 8190

-- "The board and the run": how many the run program takes; "Tables lent to a step" holds the host's call to the same
abbrev pub run_cells : ℕ
run_cells = 1023

abbrev pub run_faces : ℕ
run_faces = 2046

-- document 02, S-10: the ceiling of V, of K and of |U| over the rim; and what it was before, which the records of the old kinds hold
abbrev pub ceiling : ℕ
ceiling = 65535

abbrev pub old_ceiling : ℕ
old_ceiling = 4095

-- item 1: V
abbrev pub max_volume : ℕ
max_volume = ceiling

-- item 2: the second of a face over the rim
abbrev pub rim : ℕ
rim = 4095

-- item 3: s and K of an interior face
abbrev pub max_share : ℕ
max_share = 255

abbrev pub max_reach : ℕ
max_reach = ceiling

-- items 4 and 5: q in a cell, and an outside concentration
abbrev pub max_concentration : ℕ
max_concentration = 1000000

-- cause 8: |U| over the rim
abbrev pub max_rim_flux : ℕ
max_rim_flux = ceiling

-- "Tables lent to a step", positions 0 to 4. They may be longer than the counts; entries past the counts mean nothing.
pub record Mesh : Type 0 where
  pub cells : ℕ
  pub faces : ℕ
  pub volumes : List ℕ
  pub firsts : List ℕ
  pub seconds : List ℕ
  pub shares : List ℕ
  pub reaches : List ℕ

-- the mesh of the counts and tables lent to a call, in their order
abbrev pub mesh_of : ℕ → ℕ → List ℕ → List ℕ → List ℕ → List ℕ → List ℕ → Mesh
mesh_of cells faces volumes firsts seconds shares reaches =
    record { cells = cells; faces = faces; volumes = volumes; firsts = firsts; seconds = seconds; shares = shares; reaches = reaches }

module _ (M : Mesh) where
  abbrev pub volume : ℕ → ℕ
  volume c = get_or M.volumes c 0

  -- item 2: the ends of a face
  abbrev pub first : ℕ → ℕ
  first f = get_or M.firsts f 0

  abbrev pub second : ℕ → ℕ
  second f = get_or M.seconds f 0

  abbrev pub at_rim : ℕ → Bool
  at_rim f = eqb (second f) rim

  abbrev pub share : ℕ → ℕ
  share f = get_or M.shares f 0

  abbrev pub reach : ℕ → ℕ
  reach f = get_or M.reaches f 0

  -- item 4: amounts x through the faces count from first to second. What they bring into cell c through face f, and what they take from it.
  unfoldable pub entering : (ℕ → ℤ) → ℕ → ℕ → ℕ
  entering x c f = cond (eqb (second f) c) (forward (x f)) 0 + cond (eqb (first f) c) (backward (x f)) 0

  unfoldable pub leaving : (ℕ → ℤ) → ℕ → ℕ → ℕ
  leaving x c f = cond (eqb (first f) c) (forward (x f)) 0 + cond (eqb (second f) c) (backward (x f)) 0

  -- The same through all faces: inflow and outflow where x are the fluxes, P and N where x are the corrections.
  unfoldable pub incoming : (ℕ → ℤ) → ℕ → ℕ
  incoming x c = sum M.faces (entering x c)

  unfoldable pub outgoing : (ℕ → ℤ) → ℕ → ℕ
  outgoing x c = sum M.faces (leaving x c)

  -- "One step", stages 1 and 5: the masses m after the amounts x have passed, low-order ones after the carried, next ones after the moved. What
  -- leaves is there, so that the difference is never cut off at 0: `affords` of `Keeps`, Next.antt in proofs.
  unfoldable pub updated : (ℕ → ℕ) → (ℕ → ℤ) → ℕ → ℕ
  updated m x c = (m c + incoming x c) - outgoing x c

  -- "One step", last sentence: all masses together
  unfoldable pub total : (ℕ → ℕ) → ℕ
  total m = sum M.cells m
