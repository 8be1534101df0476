-- The run's step by a record as a call of a list: what it owes by its contract.
use Prim.Native.Nat.{ℕ, ◌≤◌}
use mathlib.Core.Path.{◌≡◌, refl, sym, ◌∙◌}
use mathlib.Core.List.{List}
use native.Mathlib.Omega.{arith}
use lib.ListN.{length, length-append}
use Rattle.lists.specs.Table.{table, over}
use Rattle.lists.proofs.Tables.{length-table, length_over, get_d_over}
use Rattle.model.specs.Mesh.{Mesh}
use Rattle.model.specs.Step.{StepInput, released_mass, moved, next}
use Rattle.model.specs.Accepted.{Ready}
use Rattle.model.specs.Causes.{accepted, refused, Verdict, fine, ◌and_then◌, Call, input_of, mesh_verdict}
use Rattle.model.specs.Calls.{mass_in, Bounded, Left, crossing_of, lent_masses}
use Rattle.model.proofs.Verdicts.{accepted-of, refused-of}
use Rattle.model.proofs.Accepted.{ready, counted, mesh-fit}
use Rattle.model.proofs.Next.{moved_keeps}
use Rattle.model.proofs.Lists.{Fair, amounts-fair, raised-total, lent_same}
use Rattle.model.proofs.Agree.{field-agrees, fair-agree}
use Rattle.model.specs.declared.Printed.{Printed}
use Rattle.model.specs.StepTaken.{taken_said}
use Rattle.taking.specs.Taking.{step_in, printed_of, step_judged, StepTaking}
use Rattle.taking.proofs.StepLaws.{step-says}
use Rattle.promises.specs.Steps.{RunMade, run_left, water_in}
use Rattle.promises.proofs.Held.{within, passes}

left-with : (v : Verdict) (p : Printed) (masses : List ℕ)
    → run_left (v and_then accepted p) masses ≡ (v and_then accepted
    (record { field = masses; crossing = record { entered = p.entered; gone = p.gone; released = p.released } }))
unfolding ◌and_then◌
left-with (accepted u) p masses = refl
left-with (refused i j) p masses = refl

module _ (M : Mesh) (field : List ℕ) (m : RunMade) where
  abbrev lent : List ℕ
  lent = lent_masses M m.past field

  abbrev k : Call
  k = step_in M m.step

  abbrev S : StepInput
  S = input_of M lent k

  abbrev left : Left
  left = record { field = m.masses; crossing = crossing_of M lent k }

  module _ (p : StepTaking m.width M lent m.step m.answer m.masses) where
    comes : run_left (taken_said m.answer) m.masses ≡ (step_judged m.width M lent m.step and_then accepted left)
    comes = rw p.answer (left-with (step_judged m.width M lent m.step) (printed_of M lent k) m.masses)

    lent-long : M.cells ≤ length lent
    lent-long = omega (arith, length-append (table M.cells (mass_in field)) m.past, length-table M.cells (mass_in field))

    module _ (ok : step_judged m.width M lent m.step ≡ fine) where
      step-ready : Ready S
      step-ready = ready M lent k (step-says m.width M lent m.step ok).1

      masses_are : m.masses ≡ over (table M.cells (next S)) lent
      masses_are = p.masses-after ∙ rw ok

      lent-fair : Fair M (Bounded S m.masses) lent left
      unfolding next
      lent-fair = amounts-fair S step-ready (moved S) (moved_keeps S step-ready.sound) lent (released_mass M.cells k.releases) (raised-total M lent k)
          m.masses (rw (masses_are, length_over M.cells (next S) lent lent-long) lent-long)
          (λ c h. rw masses_are (get_d_over M.cells (next S) lent 0 c h)) left refl refl

      left-fair : mesh_verdict M ≡ fine → Fair M (Bounded (input_of M field k) m.masses) field left
      left-fair mesh_fine = fair-agree M M field lent k k (field-agrees M k field lent (lent_same M m.past field))
          (counted M (within M mesh_fine)).few_cells (mesh-fit M (passes M mesh_fine)) left lent-fair

    pub run-fair : mesh_verdict M ≡ fine → (l : Left) → run_left (taken_said m.answer) m.masses ≡ accepted l
        → Fair M (Bounded (input_of M field (water_in M m.step)) l.field) field l
    run-fair mesh_fine l e =
        let b = accepted-of (step_judged m.width M lent m.step) left l (sym e ∙ comes) in
        rw b.1 (left-fair b.0 mesh_fine)

    pub run-refused : (i j : ℕ) → run_left (taken_said m.answer) m.masses ≡ refused i j → m.masses ≡ lent
    run-refused i j e =
        let r = refused-of (step_judged m.width M lent m.step) left i j (sym e ∙ comes) in
        p.masses-after ∙ rw r
