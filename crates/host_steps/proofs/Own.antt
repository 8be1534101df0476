-- The engine's own steps are accepted: from the promises of two calls from C.
use Prim.Native.Nat.{ℕ}
use mathlib.Core.Path.{◌≡◌, sym, ap, ◌∙◌}
use mathlib.Core.List.{List}
use lib.IntN.{ℤ, pos}
use lib.ListN.{get_or}
use Rattle.model.specs.Mesh.{Mesh}
use Rattle.model.specs.Causes.{Outcome, accepted, fine, Call}
use Rattle.model.specs.Calls.{mass_in, Crossing, crossing_of, Scheme, corrected, plain, judged, step_answer}
use Rattle.model.specs.OwnSteps.{OwnAccepted, HandedIn}
use Rattle.model.proofs.Verdicts.{past}
use Rattle.model.proofs.Claims.{own-steps}
use Rattle.host_answer.specs.Number.{number_of}
use Rattle.host_answer.specs.Found.{found_by}
use Rattle.host_answer.specs.Steps.{crossed}
use Rattle.host_answer.proofs.Small.{Small}
use Rattle.host_answer.proofs.Tables.{verdict-small}
use Rattle.promises.proofs.Numbers.{said-giving}
use Rattle.host_steps.specs.Own.{OwnFromC}

own-from-c : (s : Scheme) → OwnAccepted s → ((M : Mesh) (field : List ℕ) (k : Call) → Small (s.finds M field k)) → OwnFromC s
unfolding step_answer
own-from-c s own small M M' field field' k k' told next moved work told' p h found r next' found' q =
    let e : s.finds M field k ≡ fine = sym (said-giving (s.finds M field k) (crossing_of M field k) 0 p.answer.number (small M field k)) in
    let i : HandedIn s M M' field field' k k' = record {
      same_step = h.same_step;
      mesh_lent = h.mesh_lent;
      masses_long = h.masses_long;
      claim_lent = h.claim_lent;
      as_moved = λ f l. h.as_moved f l ∙ ap (λ (xs : List ℤ). get_or xs f (pos 0)) p.moved_masses;
    } in
    let c = own M M' field field' k k' e i in
    let same : step_answer judged M' k' field' ≡ accepted (crossing_of M field k) = c.same_answer ∙ past _ e in
    record {
      accepted_too = q.answer.number ∙ ap number_of same;
      same_told = q.answer.found-after ∙ ap (λ (o : Outcome Crossing). found_by crossed o found) same;
      same_next = λ j l. ap (λ (xs : List ℕ). mass_in xs j) q.next_masses ∙ c.same_next j l ∙ sym (ap (λ (xs : List ℕ). mass_in xs j) p.next_masses);
    }

pub own-corrected-from-c : OwnFromC corrected
own-corrected-from-c = own-from-c corrected own-steps.corrected_accepted verdict-small

pub own-plain-from-c : OwnFromC plain
own-plain-from-c = own-from-c plain own-steps.plain_accepted verdict-small
