-- Document 01, "One step": the five stages, with document 02's S-6 before them and its S-5 between the second and the third. First what S-5
-- and stage 4 say of any corrections, then the stages of one step in their order.
use Rattle.std.specs.Prelude.{ℕ, ◌+◌, ◌-◌, ◌*◌, ◌/◌, min, Bool, cond, ◌||◌, List, get_or, eqb, leb, ltb, ℤ, pos, ◌+ℤ◌, ◌-ℤ◌, ◌*ℤ◌}
use Rattle.std.specs.Int.Signed.{quot_z}
use Rattle.lists.specs.Fold.{sum, least, greatest}
use Rattle.lists.specs.Table.{table}
use Rattle.signed.specs.Sign.{forward, backward, size, is_zero, is_negative, with_sign}
use Rattle.model.specs.Mesh.{Mesh, volume, first, second, share, reach, at_rim, incoming, outgoing, updated}

-- Stage 4, one side of the limiter: of a correction of size a, what is left where g may pass of p in all.
unfoldable pub portion : ℕ → ℕ → ℕ → ℕ
portion a g p = cond (leb p g) a (a * g / p)

-- Stage 4, for any corrections x: the cell that a correction enters, and the one that it leaves, whichever way the water runs.
module _ (M : Mesh) (x : ℕ → ℤ) where
  unfoldable pub receiver : ℕ → ℕ
  receiver f = cond (is_negative (x f)) (first M f) (second M f)

  unfoldable pub giver : ℕ → ℕ
  giver f = cond (is_negative (x f)) (second M f) (first M f)

-- Document 02, S-5: a correction smooths that would run from a larger q to a smaller. Equal q do not.
unfoldable pub smooths : (from to : ℕ) → Bool
smooths from to = ltb to from

-- for any corrections x and concentrations q: those that smooth become 0, the others are kept
unfoldable pub kept_by : Mesh → (ℕ → ℕ) → (ℕ → ℤ) → ℕ → ℤ
kept_by M q x f = cond (smooths (q (giver M x f)) (q (receiver M x f))) (pos 0) (x f)

-- Stage 4: the lesser of what the receiver (P, G) and the giver (N, L) let pass, in the correction's own direction.
unfoldable pub limited_by : Mesh → (gain loss : ℕ → ℕ) → (ℕ → ℤ) → ℕ → ℤ
limited_by M gain loss x f = with_sign (is_negative (x f))
    (min (portion (size (x f)) (gain (receiver M x f)) (incoming M x (receiver M x f)))
    (portion (size (x f)) (loss (giver M x f)) (outgoing M x (giver M x f))))

-- Document 02, S-6: a field raised by the releases, cell by cell. It is what the stages below are given.
unfoldable pub raised : (cells : ℕ) (field releases : List ℕ) → List ℕ
raised cells field releases = table cells (λ c. get_or field c 0 + get_or releases c 0)

-- the released mass: all releases together
unfoldable pub released_mass : (cells : ℕ) (releases : List ℕ) → ℕ
released_mass cells releases = sum cells (λ c. get_or releases c 0)

-- "Mesh, water and salt", items 4 and 5: what a step works on, m and q per cell, U and an outside value per face. The stages are written for
-- any q; every step of the papers is made by `input_of` (Causes.antt), where q is m / V rounded down, and nothing is promised of another.
pub record StepInput : Type 0 where
  pub mesh : Mesh
  pub masses : List ℕ
  pub q : ℕ → ℕ
  pub fluxes : List ℤ
  pub outsides : List ℕ

-- item 5: q of document 01, m / V rounded down
unfoldable pub rounded : (volumes masses : List ℕ) → ℕ → ℕ
rounded volumes masses c = get_or masses c 0 / get_or volumes c 0

-- item 5: the rest of that division, m − qV, never cut off, since qV is at most m
abbrev pub rest_of : (volume mass : ℕ) → ℕ
rest_of volume mass = mass - mass / volume * volume

-- what a step of document 01 works on
abbrev pub rounded_input : Mesh → List ℕ → List ℤ → List ℕ → StepInput
rounded_input M masses fluxes outsides = record { mesh = M; masses = masses; q = rounded M.volumes masses; fluxes = fluxes; outsides = outsides }

module _ (S : StepInput) where
  open S use {mesh as M, masses, q, fluxes, outsides}

  abbrev pub flux : ℕ → ℤ
  flux f = get_or fluxes f (pos 0)

  abbrev pub outside : ℕ → ℕ
  outside f = get_or outsides f 0

  abbrev pub mass : ℕ → ℕ
  mass c = get_or masses c 0

  -- q before the step, in all stages but for the low-order q of S-5
  abbrev pub concentration : ℕ → ℕ
  concentration c = q c

  -- q on the far side of face f: of its second cell, or outside
  unfoldable pub beyond : ℕ → ℕ
  beyond f = cond (at_rim M f) (outside f) (concentration (second M f))

  unfoldable pub upwind : ℕ → ℕ
  upwind f = cond (is_negative (flux f)) (beyond f) (concentration (first M f))

  unfoldable pub downwind : ℕ → ℕ
  downwind f = cond (is_negative (flux f)) (concentration (first M f)) (beyond f)

  -- Stage 1: what the water carries through a face, at q of where it comes from.
  unfoldable pub carried : ℕ → ℤ
  carried f = flux f *ℤ pos (upwind f)

  -- the low-order masses
  unfoldable pub low : ℕ → ℕ
  low = updated M mass carried

  -- Stage 2: t, the share of the way that lies upwind. s is at most 255 by cause 5, so nothing is cut off.
  unfoldable pub upwind_share : ℕ → ℕ
  upwind_share f = cond (is_negative (flux f)) (256 - share M f) (share M f)

  -- U·d·(t·K − 128·|U|) / 256·K toward zero, d from upwind to downwind; 0 over the rim and where the water is still
  unfoldable pub correction : ℕ → ℤ
  correction f = cond (at_rim M f || is_zero (flux f)) (pos 0)
      (quot_z (flux f *ℤ (pos (downwind f) -ℤ pos (upwind f)) *ℤ (pos (upwind_share f * reach M f) -ℤ pos (128 * size (flux f)))) (pos (256 * reach M f)))

  -- Document 02, S-5: low-order q, the low-order mass divided by V and rounded down as q is,
  unfoldable pub low_concentration : ℕ → ℕ
  low_concentration c = low c / volume M c

  -- and the corrections that do not smooth it; the others are 0 from here on, and count in neither P nor N.
  unfoldable pub kept : ℕ → ℤ
  kept = kept_by M low_concentration correction

  -- Stage 3: a neighbourhood. What cell c meets at face f: a cell across moving water, the outside value of an inflow, else itself.
  unfoldable pub adjacent : ℕ → ℕ → ℕ
  adjacent c f =
      cond (is_zero (flux f)) (concentration c)
      (cond (eqb (first M f) c)
      (cond (at_rim M f) (cond (is_negative (flux f)) (outside f) (concentration c)) (concentration (second M f)))
      (cond (eqb (second M f) c) (concentration (first M f)) (concentration c)))

  -- lo and hi: the least and the greatest q of the neighbourhood
  unfoldable pub lo : ℕ → ℕ
  lo c = least M.faces (concentration c) (adjacent c)

  unfoldable pub hi : ℕ → ℕ
  hi c = greatest M.faces (concentration c) (adjacent c)

  -- G = V·hi + V − 1 − m and L = m − V·lo, at the low-order mass m. Never cut off at 0: Next.antt in proofs, `max_gain-is` and `max_loss-is`.
  unfoldable pub max_gain : ℕ → ℕ
  max_gain c = (volume M c * hi c + volume M c - 1) - low c

  unfoldable pub max_loss : ℕ → ℕ
  max_loss c = low c - volume M c * lo c

  -- Stage 4: every kept correction. Its last sentence, by which all corrections enter the limiter, has given way to S-5.
  unfoldable pub limited : ℕ → ℤ
  limited = limited_by M max_gain max_loss kept

  -- Stage 5.
  unfoldable pub moved : ℕ → ℤ
  moved f = carried f +ℤ limited f

  unfoldable pub next : ℕ → ℕ
  next = updated M mass moved

  -- After stage 5: what the water brings in over the rim, at the outside values,
  unfoldable pub in_mass : ℕ
  in_mass = sum M.faces (λ f. cond (at_rim M f) (backward (flux f) * outside f) 0)

  -- and what it takes out, at q of the cells.
  unfoldable pub out_mass : ℕ
  out_mass = sum M.faces (λ f. cond (at_rim M f) (forward (flux f) * concentration (first M f)) 0)
