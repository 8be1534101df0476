-- Document 02, S-8, the error: how far m/V can be from that of the unrounded steps after n plain steps were accepted.
use Rattle.std.specs.Prelude.{ℕ, ◌+◌, ◌*◌, ◌≤◌, ◌<◌, ◌≡◌, List, [], ◌∷◌}
use Rattle.model.specs.Mesh.{Mesh, volume, incoming, outgoing}
use Rattle.model.specs.Step.{mass, concentration, carried, low}
use Rattle.model.specs.Causes.{Outcome, granted, fine, Call, input_of, verdict}
use Rattle.model.specs.Calls.{mass_in, Left, field_after, plain, lent_masses, step_on_tables, after_all}
use Rattle.plain.specs.Unrounded.{Fractions, whole_masses, in_parts, unrounded_input, unrounded_step}

-- a fraction of whole numbers
pub record Fraction : Type 0 where
  pub top : ℕ
  pub bottom : ℕ

infix 60 ◌per◌
abbrev pub ◌per◌ : ℕ → ℕ → Fraction
a per b = record { top = a; bottom = b }

-- a/b − c/d < n and c/d − a/b < n, both times b·d
abbrev pub DifferBelow : ℕ → Fraction → Fraction → Type 0
DifferBelow n s t =
    (s.top * t.bottom < t.top * s.bottom + n * (s.bottom * t.bottom)) × (t.top * s.bottom < s.top * t.bottom + n * (s.bottom * t.bottom))

-- Plain calls of some kind K, with the tables lent to each and what it comes to on the field that it is lent. They run one after another, and
-- a refused one changes nothing on either side.
module _ (M : Mesh) {K : Type 0} (tables : K → Call) (comes : K → List ℕ → Outcome Left) where
  -- n: how many of them are accepted
  unfoldable pub accepted_of : List ℕ → List K → ℕ
  accepted_of field [] = 0
  accepted_of field (k ∷ ks) = granted (comes k field) 1 0 + accepted_of (field_after (comes k field) field) ks

  -- the unrounded steps of those that are accepted; they are tested by no causes of their own
  unfoldable pub unrounded_after : Fractions → List ℕ → List K → Fractions
  unrounded_after x field [] = x
  unrounded_after x field (k ∷ ks) = unrounded_after (granted (comes k field) (unrounded_step M (tables k) x) x) (field_after (comes k field) field) ks

  -- m/V of the field after all calls, and the same of the unrounded masses
  abbrev pub ErrorBelow : List ℕ → List K → Type 0
  ErrorBelow field ks = 1 ≤ accepted_of field ks → (c : ℕ) → c < M.cells
      → DifferBelow (accepted_of field ks) (mass_in (after_all comes field ks) c per volume M c)
      (mass_in (unrounded_after (whole_masses field) field ks).tops c per ((unrounded_after (whole_masses field) field ks).parts * volume M c))

-- A plain call on tables as one of a list: what stands in the table of masses past the field, and all other tables of a step, of any values and
-- of any length.
pub record PlainCall : Type 0 where
  pub past : List ℕ
  pub tables : Call

abbrev pub plain_comes : Mesh → PlainCall → List ℕ → Outcome Left
plain_comes M p field = step_on_tables plain M p.tables (lent_masses M p.past field)

-- In these parts every q times V is m.
abbrev pub NoneRounded : Mesh → Call → ℕ → List ℕ → Type 0
NoneRounded M k E y = (c : ℕ) → c < M.cells → concentration (input_of M y (in_parts E k)) c * volume M c ≡ mass (input_of M y (in_parts E k)) c

-- S-8's error. What makes it one about steps that are not rounded stands beside it.
pub record PlainError : Type 0 where
  pub error_below : (M : Mesh) (field : List ℕ) (calls : List PlainCall) → ErrorBelow M (λ p. p.tables) (plain_comes M) field calls
  -- in an unrounded step q times V is m
  pub nothing_rounded : (M : Mesh) (k : Call) (x : Fractions) (c : ℕ) → c < M.cells
      → concentration (unrounded_input M k x) c * volume M c ≡ mass (unrounded_input M k x) c
  -- and what the water takes from a cell is there: the difference that gives the next mass is not cut off at 0
  pub nothing_cut : (M : Mesh) (lent : List ℕ) (k : Call) → verdict M lent k ≡ fine → (x : Fractions) (c : ℕ) → c < M.cells
      → low (unrounded_input M k x) c + outgoing M (carried (unrounded_input M k x)) c
      ≡ mass (unrounded_input M k x) c + incoming M (carried (unrounded_input M k x)) c
  -- The parts do not matter. Count the masses in any parts you like, E of them to a unit, y of them in each cell: if no q is rounded in them,
  -- the plain step gives the same fractions.
  pub in_any_parts : (M : Mesh) (lent : List ℕ) (k : Call) → verdict M lent k ≡ fine → (x : Fractions) (E : ℕ) (y : List ℕ)
      → ((c : ℕ) → c < M.cells → mass_in y c * x.parts ≡ mass_in x.tops c * E) → NoneRounded M k E y
      → (c : ℕ) → c < M.cells → low (input_of M y (in_parts E k)) c * (unrounded_step M k x).parts ≡ mass_in (unrounded_step M k x).tops c * E
