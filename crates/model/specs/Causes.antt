-- Document 01, "Causes", 1 to 10, and document 02's 18: what each tests, and which of them a call answers.
use Rattle.std.specs.Prelude.{ℕ, zero, suc, ◌+◌, ◌*◌, ◌/◌, Bool, not, cond, ◌&&◌, ◌||◌, List, [], ◌∷◌, ◌++◌, length, get_or, eqb, leb, ltb, ℤ}
use Rattle.signed.specs.Sign.{size, is_negative}
use Rattle.model.specs.Mesh.{Mesh, mesh_of, volume, first, second, share, reach, rim, incoming, outgoing, max_cells, max_faces, ceiling, max_share, max_concentration}
use Rattle.model.specs.Step.{StepInput, flux, outside, raised, rounded_input}

-- The first sentence: a result, or a refusal by the numbers of its cause and its place.
pub data Outcome (A : Type 0) : Type 0 where
  accepted : A → Outcome A
  refused : ℕ → ℕ → Outcome A

-- What a test finds: nothing, or a refusal.
abbrev pub Verdict : Type 0
Verdict = Outcome (Unit {0})

abbrev pub fine : Verdict
fine = accepted tt

-- The lowest number: the first of two that refuses, where tests stand in the order of their numbers.
infixl 20 ◌and_then◌
unfoldable pub ◌and_then◌ : {A : Type 0} → Verdict → Outcome A → Outcome A
accepted _ and_then w = w
refused k i and_then w = refused k i

-- The same of a list: the first that refuses.
abbrev pub first_of : Verdict → List Verdict → Verdict
first_of v [] = v
first_of v (w ∷ ws) = first_of (v and_then w) ws

abbrev pub in_turn : List Verdict → Verdict
in_turn [] = fine
in_turn (v ∷ vs) = first_of v vs

-- x after acceptance, y after a refusal
abbrev pub granted {ℓ} : {A : Type 0} {B : Type ℓ} → Outcome A → B → B → B
granted (accepted _) x y = x
granted (refused _ _) x y = y

unfoldable pub need : ℕ → ℕ → Bool → Verdict
need cause place good = cond good fine (refused cause place)

-- The lowest place: the first below n that is not good.
unfoldable pub each : ℕ → ℕ → (ℕ → Bool) → Verdict
each cause zero good = fine
each cause (suc n) good = each cause n good and_then need cause n (good n)

abbrev pub between : ℕ → ℕ → ℕ → Bool
between a b x = leb a x && leb x b

-- Cause 1, with limits that the caller sets: place 0 for cells, 1 for faces.
unfoldable pub counts_within : ℕ → ℕ → ℕ → ℕ → Verdict
counts_within most_cells most_faces cells faces = need 1 0 (between 1 most_cells cells) and_then need 1 1 (leb faces most_faces)

-- Cause 2: a table has as many entries as wanted. Its place is its position among the tables lent to a step, from 0;
-- record bytes are 11.
abbrev pub long : ℕ → ℕ → ℕ → Verdict
long position wanted has = need 2 position (leb wanted has)

abbrev pub bytes_long : ℕ → ℕ → Verdict
bytes_long wanted room = long 11 wanted room

-- Causes 3 to 8, each of the values that it reads. Document 02, S-10: 3, 5 and 8 read a ceiling, which the calls have at 65,535 and the writers of the old
-- kinds of records at 4,095. 3: V within its range.
abbrev pub volume_fits : (most v : ℕ) → Bool
volume_fits most v = between 1 most v

-- 4: first a cell, second a cell or the rim's mark, and not the same.
abbrev pub ends_fit : (cells first second : ℕ) → Bool
ends_fit cells first second = ltb first cells && (ltb second cells || eqb second rim) && not (eqb first second)

-- 5: s and K within their ranges, and 0 at the rim.
abbrev pub spacing_fit : (most second s K : ℕ) → Bool
spacing_fit most second s K = cond (eqb second rim) (eqb s 0 && eqb K 0) (between 1 max_share s && between 1 most K)

-- 6: q within its ceiling.
abbrev pub salt_fit : (v m : ℕ) → Bool
salt_fit v m = leb (m / v) max_concentration

-- Document 02, S-6, 18: the raised q within the same ceiling, r being the release.
abbrev pub raised_fit : (v m r : ℕ) → Bool
raised_fit v m r = salt_fit v (m + r)

-- 7: an outside value within the same ceiling, and 0 elsewhere than at a rim inflow.
abbrev pub outside_fit : (second : ℕ) (inward : Bool) (outside : ℕ) → Bool
outside_fit second inward outside = leb outside (cond (eqb second rim && inward) max_concentration 0)

-- 8: the size of U within K, and within the ceiling at the rim.
abbrev pub flux_fit : (most second K amount : ℕ) → Bool
flux_fit most second K amount = leb amount (cond (eqb second rim) most K)

-- "Tables lent to a step", besides mesh and masses; and S-6's releases, one per cell.
pub record Call : Type 0 where
  pub fluxes : List ℤ
  pub outsides : List ℕ
  pub nexts : List ℕ
  pub moveds : List ℤ
  pub work : List ℕ
  pub releases : List ℕ

abbrev pub call_of : List ℤ → List ℕ → List ℕ → List ℤ → List ℕ → List ℕ → Call
call_of fluxes outsides nexts moveds work releases =
    record { fluxes = fluxes; outsides = outsides; nexts = nexts; moveds = moveds; work = work; releases = releases }

-- a step of which water and releases alone are lent, as a record holds it
abbrev pub water_of : List ℤ → List ℕ → List ℕ → Call
water_of fluxes outsides releases = call_of fluxes outsides [] [] [] releases

-- the release of a cell
abbrev pub release : Call → ℕ → ℕ
release k c = get_or k.releases c 0

-- The length of work: 4 entries a cell, and one a face.
abbrev pub work_entries : ℕ → ℕ → ℕ
work_entries cells faces = 4 * cells + faces

abbrev pub work_length : Mesh → ℕ
work_length M = work_entries M.cells M.faces

-- Cause 2 of document 01's tables among these, those before work and work; the releases have the position 14.
abbrev pub lengths_to_moved : (cells faces : ℕ) → Call → List Verdict
lengths_to_moved cells faces k =
    long 6 faces (length k.fluxes)
    ∷ long 7 faces (length k.outsides)
    ∷ long 8 cells (length k.nexts)
    ∷ long 9 faces (length k.moveds)
    ∷ []

abbrev pub lengths01 : (cells faces : ℕ) → Call → List Verdict
lengths01 cells faces k = lengths_to_moved cells faces k ++ (long 10 (work_entries cells faces) (length k.work) ∷ [])

abbrev pub step_lengths : (cells faces : ℕ) → Call → List Verdict
step_lengths cells faces k = lengths01 cells faces k ++ (long 14 cells (length k.releases) ∷ [])

abbrev pub step_long : (cells faces : ℕ) → Call → Verdict
step_long cells faces k = in_turn (step_lengths cells faces k)

-- the same of a mesh: tables of so many entries, lent for these counts
abbrev pub mesh_long : (cells faces volumes firsts seconds shares reaches : ℕ) → List Verdict
mesh_long cells faces volumes firsts seconds shares reaches =
    long 0 cells volumes ∷ long 1 faces firsts ∷ long 2 faces seconds ∷ long 3 faces shares ∷ long 4 faces reaches ∷ []

-- a mesh of which a call is lent the cells alone: one without faces
abbrev pub cells_only : ℕ → List ℕ → Mesh
cells_only cells volumes = mesh_of cells 0 volumes [] [] [] []

-- a mesh of which the ends of the faces alone are read: inflow and outflow rest on nothing else
abbrev pub faces_only : ℕ → List ℕ → List ℕ → Mesh
faces_only faces firsts seconds = mesh_of 0 faces [] firsts seconds [] []

-- What the stages of a step work on: the raised field.
abbrev pub input_of : Mesh → List ℕ → Call → StepInput
input_of M field k = rounded_input M (raised M.cells field k.releases) k.fluxes k.outsides

-- The causes of what is lent: a mesh (1 to 5), a field on it (2 and 6), a step (all).
module _ (M : Mesh) where
  unfoldable pub counts : Verdict
  counts = counts_within max_cells max_faces M.cells M.faces

  abbrev pub mesh_lengths : List Verdict
  mesh_lengths = mesh_long M.cells M.faces (length M.volumes) (length M.firsts) (length M.seconds) (length M.shares) (length M.reaches)

  unfoldable pub mesh_tables : Verdict
  mesh_tables = in_turn mesh_lengths

  unfoldable pub ends_good : ℕ → Bool
  ends_good f = ends_fit M.cells (first M f) (second M f)

-- 3 to 5 with a ceiling
module _ (most : ℕ) (M : Mesh) where
  unfoldable pub volume_good : ℕ → Bool
  volume_good c = volume_fits most (volume M c)

  unfoldable pub spacing_good : ℕ → Bool
  spacing_good f = spacing_fit most (second M f) (share M f) (reach M f)

  abbrev pub mesh_causes : List Verdict
  mesh_causes = each 3 M.cells volume_good ∷ each 4 M.faces (ends_good M) ∷ each 5 M.faces spacing_good ∷ []

  unfoldable pub mesh_values : Verdict
  mesh_values = in_turn mesh_causes

module _ (M : Mesh) where
  unfoldable pub mesh_verdict : Verdict
  mesh_verdict = in_turn (counts M ∷ mesh_tables M ∷ mesh_values ceiling M ∷ [])

  module _ (field : List ℕ) where
    unfoldable pub field_table : Verdict
    field_table = long 5 M.cells (length field)

    unfoldable pub salt_good : ℕ → Bool
    salt_good c = salt_fit (volume M c) (get_or field c 0)

    unfoldable pub field_values : Verdict
    field_values = each 6 M.cells salt_good

    unfoldable pub field_verdict : Verdict
    field_verdict = field_table and_then field_values

    -- of a call that is lent the mesh and a field
    unfoldable pub mesh_field_verdict : Verdict
    mesh_field_verdict = in_turn (counts M ∷ mesh_tables M ∷ field_table ∷ mesh_values ceiling M ∷ field_values ∷ [])

    module _ (k : Call) where
      unfoldable pub step_tables : Verdict
      step_tables = step_long M.cells M.faces k

      unfoldable pub raised_good : ℕ → Bool
      raised_good c = raised_fit (volume M c) (get_or field c 0) (release k c)

      unfoldable pub raised_values : Verdict
      raised_values = each 18 M.cells raised_good

      unfoldable pub outside_good : ℕ → Bool
      outside_good f = outside_fit (second M f) (is_negative (flux (input_of M field k) f)) (outside (input_of M field k) f)

      -- 9: a cell's inflow is its outflow; 10: its outflow is within V.
      unfoldable pub balance_good : ℕ → Bool
      balance_good c = eqb (incoming M (flux (input_of M field k)) c) (outgoing M (flux (input_of M field k)) c)

      unfoldable pub outflow_good : ℕ → Bool
      outflow_good c = leb (outgoing M (flux (input_of M field k)) c) (volume M c)

-- 7 to 10 with a ceiling, and all causes of a step; S-6 places 18 after 6 and before 7
module _ (most : ℕ) (M : Mesh) (field : List ℕ) (k : Call) where
  unfoldable pub flux_good : ℕ → Bool
  flux_good f = flux_fit most (second M f) (reach M f) (size (flux (input_of M field k) f))

  abbrev pub water_causes : List Verdict
  water_causes =
      each 7 M.faces (outside_good M field k)
      ∷ each 8 M.faces flux_good
      ∷ each 9 M.cells (balance_good M field k)
      ∷ each 10 M.cells (outflow_good M field k)
      ∷ []

  unfoldable pub step_values : Verdict
  step_values = in_turn water_causes

  abbrev pub causes_within : List Verdict
  causes_within =
      counts M
      ∷ mesh_tables M
      ∷ field_table M field
      ∷ step_tables M field k
      ∷ mesh_values most M
      ∷ field_values M field
      ∷ raised_values M field k
      ∷ step_values
      ∷ []

module _ (M : Mesh) (field : List ℕ) (k : Call) where
  -- of tables that are long enough
  unfoldable pub values_verdict : Verdict
  values_verdict = in_turn (mesh_values ceiling M ∷ field_values M field ∷ raised_values M field k ∷ step_values ceiling M field k ∷ [])

  abbrev pub step_causes : List Verdict
  step_causes = causes_within ceiling M field k

  unfoldable pub verdict : Verdict
  verdict = in_turn step_causes
