-- Document 01, "Tables lent to a step", and document 02, S-8 and S-11, for a host in C: the answer is one number, and in-mass, out-mass and
-- released mass stand in entries lent for them. The other tables are those of the calls themselves.
use Rattle.std.specs.Prelude.{ℕ, ◌≡◌, List, [], ◌∷◌, ℤ}
use Rattle.model.specs.Mesh.{Mesh}
use Rattle.model.specs.Causes.{Call}
use Rattle.model.specs.Calls.{Crossing, Scheme, judged, step_answer, next_table, moved_table, work_table}
use Rattle.host_answer.specs.Found.{Answered}

abbrev pub crossed : Crossing → List ℕ
crossed x = x.entered ∷ x.gone ∷ x.released ∷ []

pub record StepFromC (s : Scheme) (M : Mesh) (masses : List ℕ) (k : Call) (found : List ℕ) (r : ℕ) (next : List ℕ) (moved : List ℤ)
    (work found' : List ℕ) : Type 0 where
  pub answer : Answered crossed (step_answer s M k masses) found r found'
  pub next_masses : next ≡ next_table s M k masses
  pub moved_masses : moved ≡ moved_table s M k masses
  pub work_after : work ≡ work_table s M k masses

-- no work is lent, and the claim is not written
pub record JudgeFromC (M : Mesh) (masses : List ℕ) (k : Call) (found : List ℕ) (r : ℕ) (next found' : List ℕ) : Type 0 where
  pub answer : Answered crossed (step_answer judged M k masses) found r found'
  pub next_masses : next ≡ next_table judged M k masses
