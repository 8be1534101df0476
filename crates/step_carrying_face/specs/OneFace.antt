-- What one face of pass 2 asks and does: document 01, "One step", stages 1 to 3.
use Rattle.std.specs.Prelude.{ℕ, ◌+◌, ◌*◌, ◌^◌, ◌≤◌, ◌<◌, ◌≡◌, ◌≢◌, cond, List, eqb, ℤ, pos, ◌*ℤ◌, length, get_or, set}
use Rattle.signed.specs.Sign.{size, is_negative}
use Rattle.model.specs.Mesh.{rim, max_concentration, max_rim_flux, max_share, max_reach}
use Rattle.step_face.specs.Correction.{decoded, correction_of}
use Rattle.step_face.specs.Exchange.{brings, takes, Transferred, EndsIn}
use Rattle.step_cell.specs.Work.{widened_across}

-- Stage 1: what a flux z carries, between concentrations a of the first cell and b beyond the face
abbrev pub carried_by : ℤ → ℕ → ℕ → ℤ
carried_by z a b = z *ℤ pos (cond (is_negative z) b a)

-- one face of pass 2, with the concentrations a of its first cell and b beyond it: z is what it carries
pub record FaceAsks (f first second size share reach a b cells : ℕ) (z : ℤ) (next : List ℕ) (moved : List ℤ) (work : List ℕ) : Type 0 where
  pub ends : EndsIn cells first second
  pub next_long : length next ≡ cells
  pub in_moved : f < length moved
  pub in_work : 4 * cells + f < length work
  pub first_most : a ≤ max_concentration
  pub beyond_most : b ≤ max_concentration
  pub size_most : size ≤ max_rim_flux
  pub within_reach : second ≢ rim → size ≤ reach
  pub share_most : share ≤ max_share
  pub reach_some : second ≢ rim → 1 ≤ reach
  pub reach_most : reach ≤ max_reach
  pub afford : (c : ℕ) → c < cells → takes first second z c ≤ get_or next c 0
  pub room : (c : ℕ) → c < cells → get_or next c 0 + brings first second z c < 2 ^ 63

-- what it has done, with the flux u: r is the size of what it carries, and its correction stands in work in one number
pub record FaceDone (f first second share reach a b cells r : ℕ) (u z : ℤ) (next next' : List ℕ) (moved moved' : List ℤ) (work work' : List ℕ) : Type 0 where
  pub amount : r ≡ size z
  pub flowed : Transferred next first second z next'
  pub carries : moved' ≡ set moved f z
  pub code : ℕ
  pub code_is : decoded code ≡ cond (eqb second rim) (pos 0) (correction_of u a b share reach)
  pub worked : work' ≡ set (widened_across work first second u a b) (4 * cells + f) code
