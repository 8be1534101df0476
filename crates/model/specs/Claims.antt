-- Document 02, S-11: moved masses that another model claims, lent as moved; causes 21 and 22, and which cause the judging answers.
use Rattle.std.specs.Prelude.{ℕ, ◌+◌, ◌-◌, ◌/◌, Bool, not, ◌&&◌, ◌||◌, List, [], ◌∷◌, ◌++◌, length, get_or, eqb, leb, ℤ, pos}
use Rattle.signed.specs.Sign.{forward, backward, size, is_zero}
use Rattle.model.specs.Mesh.{Mesh, volume, at_rim, incoming, outgoing, ceiling}
use Rattle.model.specs.Step.{StepInput, flux, mass, carried, lo, hi}
use Rattle.model.specs.Causes.{Verdict, ◌and_then◌, in_turn, each, between, long, Call, call_of, input_of, lengths_to_moved, counts, mesh_tables, mesh_values, field_table, field_values, raised_values, step_values}

-- the largest size of a claim
abbrev pub max_claim : ℕ
max_claim = 1099511627776

-- the tables that the judging is lent besides mesh and masses: those of a step but for work
abbrev pub claim_of : List ℤ → List ℕ → List ℕ → List ℤ → List ℕ → Call
claim_of fluxes outsides nexts claim releases = call_of fluxes outsides nexts claim [] releases

-- what is claimed to move through a face
abbrev pub claimed : Call → ℕ → ℤ
claimed k f = get_or k.moveds f (pos 0)

-- two amounts are equal: as much forward, and as much back
abbrev pub same_amount : ℤ → ℤ → Bool
same_amount x y = eqb (forward x) (forward y) && eqb (backward x) (backward y)

-- 21, of a face with the flux u that stage 1 says to move y: the claim x is not too large; it is 0 where the water is still; and at the
-- rim it is what stage 1 says.
abbrev pub claim_fit : (over_rim : Bool) (u y x : ℤ) → Bool
claim_fit over_rim u y x = leb (size x) max_claim && (not (is_zero u) || is_zero x) && (not over_rim || same_amount x y)

-- Cause 2: work is not lent, so no call of a claim is refused for it.
abbrev pub claim_lengths : (cells faces : ℕ) → Call → List Verdict
claim_lengths cells faces k = lengths_to_moved cells faces k ++ (long 14 cells (length k.releases) ∷ [])

abbrev pub claim_long : (cells faces : ℕ) → Call → Verdict
claim_long cells faces k = in_turn (claim_lengths cells faces k)

-- 22, of a cell with the mass m, by what enters and what leaves: it gives no more than it has, and its next q is within the bounds.
abbrev pub bounds_fit : (v least most m enters leaves : ℕ) → Bool
bounds_fit v least most m enters leaves = leb leaves (m + enters) && between least most ((m + enters - leaves) / v)

-- both of amounts x through the faces
module _ (S : StepInput) (x : ℕ → ℤ) where
  open S use {mesh as M}

  unfoldable pub claim_good : ℕ → Bool
  claim_good f = claim_fit (at_rim M f) (flux S f) (carried S f) (x f)

  unfoldable pub bounds_good : ℕ → Bool
  bounds_good c = bounds_fit (volume M c) (lo S c) (hi S c) (mass S c) (incoming M x c) (outgoing M x c)

  abbrev pub amount_causes : List Verdict
  amount_causes = each 21 M.faces claim_good ∷ each 22 M.cells bounds_good ∷ []

  unfoldable pub amounts_verdict : Verdict
  amounts_verdict = in_turn amount_causes

module _ (M : Mesh) (field : List ℕ) (k : Call) where
  unfoldable pub claim_tables : Verdict
  claim_tables = claim_long M.cells M.faces k

  -- all causes of a step, of a call that is lent no work
  abbrev pub unworked_causes : List Verdict
  unworked_causes = counts M ∷ mesh_tables M ∷ field_table M field ∷ claim_tables ∷ mesh_values ceiling M ∷ field_values M field ∷ raised_values M field k
      ∷ step_values ceiling M field k ∷ []

  unfoldable pub unworked_verdict : Verdict
  unworked_verdict = in_turn unworked_causes

  -- and then 21 and 22, both of the raised field
  unfoldable pub claim_verdict : Verdict
  claim_verdict = unworked_verdict and_then amounts_verdict (input_of M field k) (claimed k)
