-- The engine's own steps are accepted: from the promises of two calls.
use Prim.Native.Nat.{ℕ}
use mathlib.Core.Path.{◌≡◌, sym, ap, ◌∙◌}
use mathlib.Core.List.{List}
use lib.IntN.{ℤ, pos}
use lib.ListN.{get_or}
use Rattle.model.specs.Causes.{fine}
use Rattle.model.specs.Calls.{mass_in, Scheme, corrected, plain, step_answer}
use Rattle.model.specs.OwnSteps.{OwnAccepted, HandedIn}
use Rattle.model.proofs.Verdicts.{both-fine}
use Rattle.model.proofs.Claims.{own-steps}
use Rattle.judging.specs.Own.{OwnCalls}

own-calls : (s : Scheme) → OwnAccepted s → OwnCalls s
unfolding step_answer
own-calls s own M M' field field' k k' r r' next next' moved work p q h =
    let e : s.finds M field k ≡ fine = (both-fine _ _ (sym p.answer ∙ h.stepped)).0 in
    let i : HandedIn s M M' field field' k k' = record {
      same_step = h.same_step;
      mesh_lent = h.mesh_lent;
      masses_long = h.masses_long;
      claim_lent = h.claim_lent;
      as_moved = λ f l. h.as_moved f l ∙ ap (λ (xs : List ℤ). get_or xs f (pos 0)) p.moved_masses;
    } in
    let c = own M M' field field' k k' e i in (
      q.answer ∙ c.same_answer ∙ sym p.answer,
      λ j l. ap (λ (xs : List ℕ). mass_in xs j) q.next_masses ∙ c.same_next j l ∙ sym (ap (λ (xs : List ℕ). mass_in xs j) p.next_masses),
    )

pub own-corrected : OwnCalls corrected
own-corrected = own-calls corrected own-steps.corrected_accepted

pub own-plain : OwnCalls plain
own-plain = own-calls plain own-steps.plain_accepted
