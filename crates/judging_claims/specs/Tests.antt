-- Document 02, S-11: cause 21 of lent tables.
use Rattle.std.specs.Prelude.{ℕ, Bool, not, cond, ◌&&◌, ◌||◌, List, eqb, leb, ℤ, pos, get_or}
use Rattle.model.specs.Mesh.{rim}
use Rattle.model.specs.Claims.{max_claim, claim_fit}

-- 21 of one face, by sizes and directions
abbrev pub still_fit : (flux size : ℕ) → Bool
still_fit flux size = not (eqb flux 0) || eqb size 0

abbrev pub rim_fit : (second : ℕ) (carried_back : Bool) (carried : ℕ) (back : Bool) (size : ℕ) → Bool
rim_fit second carried_back carried back size = not (eqb second rim) || (eqb size carried && cond back carried_back (not carried_back))

abbrev pub claim_parts : (second flux : ℕ) (carried_back : Bool) (carried : ℕ) (back : Bool) (size : ℕ) → Bool
claim_parts second flux carried_back carried back size = leb size max_claim && still_fit flux size && rim_fit second carried_back carried back size

-- 21 of face f: x is claimed, y is what stage 1 says
abbrev pub claim_at : List ℕ → (fluxes y x : List ℤ) → ℕ → Bool
claim_at seconds fluxes y x f = claim_fit (eqb (get_or seconds f 0) rim) (get_or fluxes f (pos 0)) (get_or y f (pos 0)) (get_or x f (pos 0))
