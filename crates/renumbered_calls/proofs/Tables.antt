-- Two calls of the step on tables: each does what its promise says, and S-9 says the same of both.
use mathlib.Core.Path.{◌≡◌, refl, sym, ap, ◌∙◌}
use mathlib.Core.List.{List}
use Prim.Native.Nat.{ℕ}
use Rattle.model.specs.Mesh.{Mesh}
use Rattle.model.specs.Causes.{accepted, refused, Verdict, ◌and_then◌, granted, Call}
use Rattle.model.specs.Calls.{crossing_of, Scheme, corrected, plain, step_answer}
use Rattle.model.specs.Alike.{unplaced}
use Rattle.renumbered.specs.Renumbered.{S9}
use Rattle.renumbered.specs.Turned.{S9Turned}
use Rattle.renumbered.proofs.Renumbered.{s9-corrected, s9-plain}
use Rattle.renumbered.proofs.TurnedFace.{s9-turned-corrected, s9-turned-plain}
use Rattle.renumbered_calls.specs.Tables.{TwoCalls, TurnedCalls}

-- an answer is accepted where nothing is found
granted-answer : {A : Type 0} (s : Scheme) (M : Mesh) (k : Call) (field : List ℕ) (x y : A)
    → granted (s.finds M field k) x y ≡ granted (step_answer s M k field) x y
unfolding step_answer ◌and_then◌
granted-answer s M k field x y = go (s.finds M field k)
  where
    go : (v : Verdict) → granted v x y ≡ granted (v and_then accepted (crossing_of M field k)) x y
    go (accepted t) = refl
    go (refused i j) = refl

pub two-calls : (s : Scheme) → S9 s → TwoCalls s
two-calls s law M mesh_fine cell face turns field k nexts moveds work room a b =
    let c = (law M mesh_fine cell face turns).carries field k nexts moveds work room in
    record {
      answers = ap unplaced b.promised.answer ∙ c.answer ∙ sym (ap unplaced a.promised.answer);
      next_masses = b.promised.next_masses ∙ c.next_masses ∙ rw (a.promised.next_masses, a.promised.answer) (granted-answer s M k field _ nexts);
      moved_masses = b.promised.moved_masses ∙ c.moved_masses ∙ rw (a.promised.moved_masses, a.promised.answer) (granted-answer s M k field _ moveds);
    }

pub corrected-calls : TwoCalls corrected
corrected-calls = two-calls corrected s9-corrected

pub plain-calls : TwoCalls plain
plain-calls = two-calls plain s9-plain

-- one face turned round
pub turned-calls : (s : Scheme) → S9Turned s → TurnedCalls s
turned-calls s law M mesh_fine g within inside field k a b =
    let t = (law M mesh_fine g within inside).1 field k in
    record {
      answers = b.promised.answer ∙ t.answer ∙ sym a.promised.answer;
      next_masses = b.promised.next_masses ∙ t.next_masses ∙ sym a.promised.next_masses;
      moved_masses = b.promised.moved_masses ∙ t.moved_masses
          ∙ rw (a.promised.moved_masses, a.promised.answer) (granted-answer s M k field _ k.moveds);
    }

pub corrected-turned-calls : TurnedCalls corrected
corrected-turned-calls = turned-calls corrected s9-turned-corrected

pub plain-turned-calls : TurnedCalls plain
plain-turned-calls = turned-calls plain s9-turned-plain
