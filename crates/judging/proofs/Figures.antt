-- Figures of S-11, computed by the definitions: claims of the channel's first step, at the edges of 21 and 22.
use Prim.Native.Nat.{ℕ}
use mathlib.Core.Path.{◌≡◌, refl}
use mathlib.Core.List.{List, [], ◌∷◌}
use lib.IntN.{ℤ, pos, negsuc}
use Rattle.model.specs.Causes.{Call, fine, refused}
use Rattle.model.specs.Claims.{claim_of, claim_good, bounds_good, amounts_verdict, claim_tables, unworked_verdict, claim_verdict}
use Rattle.model.specs.Calls.{judged, next_table}
use Rattle.model.proofs.Figures.{channel}
use Rattle.model.proofs.Unfolded.{the_step}

-- a name for all that a figure computes through
everything : Unit {0}
unfolding the_step claim_verdict unworked_verdict claim_tables amounts_verdict claim_good bounds_good
everything = tt

abbrev field : List ℕ
field = 100000 ∷ 0 ∷ 0 ∷ []

-- the same with salt in the second cell
abbrev half : List ℕ
half = 100000 ∷ 50000 ∷ 0 ∷ []

-- a claim of the channel's first step, and one in still water
abbrev flowing : List ℤ → Call
flowing claim = claim_of (negsuc 49 ∷ pos 50 ∷ pos 50 ∷ pos 50 ∷ []) (1000 ∷ 0 ∷ 0 ∷ 0 ∷ []) (7 ∷ 7 ∷ 7 ∷ []) claim (0 ∷ 0 ∷ 0 ∷ [])

abbrev still : List ℤ → Call
still claim = claim_of (pos 0 ∷ pos 0 ∷ pos 0 ∷ pos 0 ∷ []) (0 ∷ 0 ∷ 0 ∷ 0 ∷ []) (7 ∷ 7 ∷ 7 ∷ []) claim (0 ∷ 0 ∷ 0 ∷ [])

-- what is found where the rim moves what stage 1 says, and x moves through the second face
abbrev through : ℤ → Call
through x = flowing (negsuc 49999 ∷ x ∷ pos 0 ∷ pos 0 ∷ [])

pub record ClaimFigures : Type 0 where
  -- the corrected step's own masses; then one unit less, by which q of the first cell would be 1001
  pub own : next_table judged channel (through (pos 49901)) field ≡ 100099 ∷ 49901 ∷ 0 ∷ []
  pub above : claim_verdict channel field (through (pos 49900)) ≡ refused 22 0
  -- all that the second cell may get, and more than the first has
  pub most : next_table judged channel (through (pos 100099)) field ≡ 49901 ∷ 100099 ∷ 0 ∷ []
  pub more : claim_verdict channel field (through (pos 100100)) ≡ refused 22 1
  pub below_none : claim_verdict channel field (through (pos 150001)) ≡ refused 22 0
  -- the largest claim is judged by 22, one above it by 21, both ways
  pub largest : claim_verdict channel field (through (pos 1099511627776)) ≡ refused 22 0
  pub too_large : claim_verdict channel field (through (pos 1099511627777)) ≡ refused 21 1
  pub largest_back : claim_verdict channel field (through (negsuc 1099511627775)) ≡ refused 22 0
  pub too_large_back : claim_verdict channel field (through (negsuc 1099511627776)) ≡ refused 21 1
  pub least_entry : claim_verdict channel field (through (negsuc 9223372036854775807)) ≡ refused 21 1
  -- a rim face with one unit more than stage 1 says, and before it in order a cell that is out of bounds
  pub rim_more : claim_verdict channel field (flowing (negsuc 49999 ∷ pos 150001 ∷ pos 0 ∷ pos 1 ∷ [])) ≡ refused 21 3
  -- a rim face one off, inward
  pub inflow_more : claim_verdict channel field (flowing (negsuc 50000 ∷ pos 49901 ∷ pos 0 ∷ pos 0 ∷ [])) ≡ refused 21 0
  pub inflow_less : claim_verdict channel field (flowing (negsuc 49998 ∷ pos 49901 ∷ pos 0 ∷ pos 0 ∷ [])) ≡ refused 21 0
  -- neither the corrected step nor the plain one
  pub another : next_table judged channel (through (pos 49950)) field ≡ 100050 ∷ 49950 ∷ 0 ∷ []
  -- the first cell at its lower bound, 500, and one below it
  pub least_q : next_table judged channel (flowing (negsuc 49999 ∷ pos 100000 ∷ pos 50000 ∷ pos 0 ∷ [])) half ≡ 50000 ∷ 100000 ∷ 50000 ∷ []
  pub below : claim_verdict channel half (flowing (negsuc 49999 ∷ pos 100001 ∷ pos 50000 ∷ pos 0 ∷ [])) ≡ refused 22 0
  -- still water
  pub at_rest : claim_verdict channel field (still (pos 0 ∷ pos 0 ∷ pos 0 ∷ pos 0 ∷ [])) ≡ fine
  pub stirred : claim_verdict channel field (still (pos 0 ∷ pos 0 ∷ negsuc 0 ∷ pos 0 ∷ [])) ≡ refused 21 2

pub claim-figures : ClaimFigures
unfolding everything
claim-figures = record {
  own = refl;
  above = refl;
  most = refl;
  more = refl;
  below_none = refl;
  largest = refl;
  too_large = refl;
  largest_back = refl;
  too_large_back = refl;
  least_entry = refl;
  rim_more = refl;
  inflow_more = refl;
  inflow_less = refl;
  another = refl;
  least_q = refl;
  below = refl;
  at_rest = refl;
  stirred = refl;
}
