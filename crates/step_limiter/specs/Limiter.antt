-- The states of the passes that limit corrections: document 01, "One step", stages 3 to 5, as far as cells and faces have been passed.
use Rattle.std.specs.Prelude.{ℕ, ◌+◌, ◌-◌, ◌*◌, ◌/◌, ◌%◌, ◌^◌, ◌≤◌, ◌<◌, min, ◌≡◌, ◌≢◌, cond, List, eqb, ℤ, pos, ◌+ℤ◌, length, get_or}
use Rattle.signed.specs.Sign.{size, with_sign}
use Rattle.model.specs.Accepted.{max_carried, max_mass}
use Rattle.model.specs.Mesh.{Mesh, rim, incoming, outgoing}
use Rattle.model.specs.Step.{portion, limited_by}
use Rattle.step_face.specs.Exchange.{brings, takes, Transferred, EndsIn, Flowing}
use Rattle.step_cell.specs.Work.{of_cell, entering_in, Filling}
use Rattle.step_smoothing.specs.Corrections.{enters, leaves, corrections, CorrectionsIn}
use Rattle.step_face.specs.Correction.{over_sign}

-- Pass 3, after the cells below i: their entries are low-order q, L, G and 0, from the bounds in w and the low-order masses
abbrev pub Allowances : (volumes next w : List ℕ) → ℕ → List ℕ → Type 0
Allowances volumes next w =
    Filling w (λ c. get_or next c 0 / get_or volumes c 0) (λ c. get_or next c 0 - get_or volumes c 0 * of_cell w c 1)
    (λ c. get_or volumes c 0 * of_cell w c 2 + get_or volumes c 0 - 1 - get_or next c 0) (λ c. 0)

-- Stage 4: the size that a correction in one number is cut to, between receiver r and giver g
abbrev pub cut_of : List ℕ → ℕ → ℕ → ℕ → ℕ
cut_of w code r g = min (portion (code / over_sign) (of_cell w r 2) (entering_in w r)) (portion (code / over_sign) (of_cell w g 1) (of_cell w g 3))

-- the limited correction of a face from l to k
unfoldable pub limited_of : List ℕ → ℕ → ℕ → ℕ → ℤ
limited_of w code l k = cond (eqb (code / over_sign) 0) (pos 0) (with_sign (eqb (code % 2) 1) (cut_of w code (enters code l k) (leaves code l k)))

-- one face of pass 5
pub record CutAsks (f l k code : ℕ) (next : List ℕ) (moved : List ℤ) (work : List ℕ) : Type 0 where
  pub ends : EndsIn (length next) l k
  pub inside : code / over_sign ≢ 0 → (4 * l + 3 < length work) × (4 * k + 3 < length work) × (l < rim) × (k < rim)
  pub size_most : code / over_sign ≤ max_carried
  pub in_moved : f < length moved
  pub moved_most : size (get_or moved f (pos 0)) ≤ max_carried
  pub afford : (c : ℕ) → c < length next → takes l k (limited_of work code l k) c ≤ get_or next c 0
  pub room : (c : ℕ) → c < length next → get_or next c 0 + brings l k (limited_of work code l k) c < 2 ^ 64

pub record CutDone (f l k code : ℕ) (work next next' : List ℕ) (moved moved' : List ℤ) : Type 0 where
  pub flowed : Transferred next l k (limited_of work code l k) next'
  pub moved_long : length moved' ≡ length moved
  pub moved_at : (g : ℕ) → get_or moved' g (pos 0) ≡ cond (eqb f g) (get_or moved f (pos 0) +ℤ limited_of work code l k) (get_or moved g (pos 0))

-- Pass 5: the corrections in work, limited by the G, L, P and N that stand there
abbrev pub limited_in : Mesh → List ℕ → ℕ → ℤ
limited_in M w = limited_by M (λ c. of_cell w c 2) (λ c. of_cell w c 1) (corrections M.cells w)

-- what the pass rests on, and what it leaves after the faces below f
pub record LimitAsks (M : Mesh) (next : List ℕ) (moved : List ℤ) (work : List ℕ) : Type 0 where
  pub coded_in : CorrectionsIn M work
  pub next_long : length next ≡ M.cells
  pub moved_long : length moved ≡ M.faces
  pub p_is : (c : ℕ) → c < M.cells → entering_in work c ≡ incoming M (corrections M.cells work) c
  pub n_is : (c : ℕ) → c < M.cells → of_cell work c 3 ≡ outgoing M (corrections M.cells work) c
  pub gain_most : (c : ℕ) → c < M.cells → of_cell work c 2 ≤ max_mass
  pub loss_most : (c : ℕ) → c < M.cells → of_cell work c 1 ≤ get_or next c 0
  pub next_most : (c : ℕ) → c < M.cells → get_or next c 0 ≤ max_mass
  pub moved_most : (f : ℕ) → f < M.faces → size (get_or moved f (pos 0)) ≤ max_carried

pub record Limited (M : Mesh) (work next₀ : List ℕ) (moved₀ : List ℤ) (f : ℕ) (next : List ℕ) (moved : List ℤ) : Type 0 where
  pub flowing : Flowing M (limited_in M work) (λ c. get_or next₀ c 0) f next
  pub moved_long : length moved ≡ length moved₀
  pub moved_at : (g : ℕ) → g < f → get_or moved g (pos 0) ≡ get_or moved₀ g (pos 0) +ℤ limited_in M work g
  pub moved_rest : (g : ℕ) → f ≤ g → get_or moved g (pos 0) ≡ get_or moved₀ g (pos 0)
