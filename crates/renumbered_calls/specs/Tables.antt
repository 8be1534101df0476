-- Document 02, S-9, of the code: the first office's call of the step and the second's, each as its promise says. That a negated U fits its entry
-- is no premise: the tables of a call hold 64-bit entries, and a call that would need a larger one cannot be made.
use Rattle.std.specs.Prelude.{ℕ, ◌<◌, ◌≡◌, ◌≢◌, Bool, List, ℤ, neg_ℤ, set, Result}
use Rattle.lists.specs.Renumbering.{Renumbering}
use Rattle.model.specs.Mesh.{Mesh, second, rim}
use Rattle.model.specs.Causes.{fine, granted, Call, mesh_verdict}
use Rattle.model.specs.Calls.{mass_in, Scheme}
use Rattle.model.specs.Alike.{unplaced}
use Rattle.transport.specs.Promise.{step_said, StepPromise}
use Rattle.renumbered.specs.Renumbered.{amount_in, by_cell, amount_by_face, renumbered_mesh, renumbered_field, renumbered_call, SameRoom}
use Rattle.renumbered.specs.Turned.{turned_mesh, turned_call}
use Rattle.model.specs.declared.Refusal.{Refusal}
use Rattle.transport.specs.declared.Crossed.{Crossed}

-- what is lent, and what a call by the scheme s leaves of it
pub record Called (s : Scheme) (M : Mesh) (field : List ℕ) (k : Call) : Type 0 where
  pub answer : Result Crossed Refusal
  pub next : List ℕ
  pub moved : List ℤ
  pub work : List ℕ
  pub promised : StepPromise s M field k answer next moved work

module _ (s : Scheme) (M : Mesh) (cell : Renumbering M.cells) (face : Renumbering M.faces) (turns : ℕ → Bool) (field : List ℕ) (k : Call)
    (nexts : List ℕ) (moveds : List ℤ) (work : List ℕ) where
  abbrev pub First : Type 0
  First = Called s M field k

  abbrev pub Second : Type 0
  Second = Called s (renumbered_mesh M cell face turns) (renumbered_field M cell face turns field) (renumbered_call M cell face turns k nexts moveds work)

  -- the second answers as the first but for the place; where it is accepted it leaves the first's masses and moved masses, carried along
  pub record Agrees (a : First) (b : Second) : Type 0 where
    pub answers : unplaced (step_said b.answer) ≡ unplaced (step_said a.answer)
    pub next_masses : b.next ≡ granted (step_said a.answer) (by_cell M cell face turns (mass_in a.next) nexts) nexts
    pub moved_masses : b.moved ≡ granted (step_said a.answer) (amount_by_face M cell face turns (amount_in a.moved) moveds) moveds

abbrev pub TwoCalls : Scheme → Type 0
TwoCalls s = (M : Mesh) → mesh_verdict M ≡ fine → (cell : Renumbering M.cells) (face : Renumbering M.faces) (turns : ℕ → Bool)
    (field : List ℕ) (k : Call) (nexts : List ℕ) (moveds : List ℤ) (work : List ℕ) → SameRoom k nexts moveds work
    → (a : First s M cell face turns field k nexts moveds work) (b : Second s M cell face turns field k nexts moveds work)
    → Agrees s M cell face turns field k nexts moveds work a b

-- One interior face g turned round, and nothing else: the same answer with its place, the same masses, and the moved mass of g negated.
pub record TurnedAgrees (s : Scheme) (M : Mesh) (g : ℕ) (field : List ℕ) (k : Call)
    (a : Called s M field k) (b : Called s (turned_mesh M g) field (turned_call M g k)) : Type 0 where
  pub answers : step_said b.answer ≡ step_said a.answer
  pub next_masses : b.next ≡ a.next
  pub moved_masses : b.moved ≡ granted (step_said a.answer) (set a.moved g (neg_ℤ (amount_in a.moved g))) k.moveds

abbrev pub TurnedCalls : Scheme → Type 0
TurnedCalls s = (M : Mesh) → mesh_verdict M ≡ fine → (g : ℕ) → g < M.faces → second M g ≢ rim → (field : List ℕ) (k : Call)
    → (a : Called s M field k) (b : Called s (turned_mesh M g) field (turned_call M g k)) → TurnedAgrees s M g field k a b
