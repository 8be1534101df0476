-- What a step's call answers in C, from what the step on tables promises: the tables are those, and its answer is a number with what crossed the rim.
use Prim.Native.Nat.{ℕ}
use mathlib.Core.Path.{◌≡◌}
use mathlib.Core.List.{List}
use lib.IntN.{ℤ}
use Rattle.model.specs.Mesh.{Mesh}
use Rattle.model.specs.Causes.{Outcome, Call}
use Rattle.model.specs.Calls.{Crossing, Scheme, judged, step_answer, next_table, moved_table, work_table}
use Rattle.host_answer.specs.Found.{Answered}
use Rattle.host_answer.specs.Steps.{crossed, StepFromC, JudgeFromC}
use Rattle.host_answer.proofs.Answers.{answered-as}

module _ {M : Mesh} {masses : List ℕ} {k : Call} {o : Outcome Crossing} {found : List ℕ} {r : ℕ} {next found' : List ℕ} (a : Answered crossed o found r found')
  where
    pub step-from-c : (s : Scheme) {moved : List ℤ} {work : List ℕ} → o ≡ step_answer s M k masses → next ≡ next_table s M k masses
        → moved ≡ moved_table s M k masses → work ≡ work_table s M k masses → StepFromC s M masses k found r next moved work found'
    step-from-c s e n m w = record { answer = answered-as crossed found e a; next_masses = n; moved_masses = m; work_after = w }

    pub judge-from-c : o ≡ step_answer judged M k masses → next ≡ next_table judged M k masses → JudgeFromC M masses k found r next found'
    judge-from-c e n = record { answer = answered-as crossed found e a; next_masses = n }
