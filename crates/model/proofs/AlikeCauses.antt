-- The causes of two calls that are alike: they find the same number, and the same place where every cell and face keeps its number. So one law
-- says what renumbering changes (document 02, S-9) and that entries past the counts mean nothing.
use Prim.Native.Nat.{ℕ, zero, suc, ◌+◌, ◌≤◌, ◌<◌}
use mathlib.Core.Path.{◌≡◌, refl, sym, ap, ◌∙◌}
use mathlib.Core.Bool.{Bool, true, false, cond, ◌&&◌}
use mathlib.Core.List.{List}
use native.Mathlib.Omega.{arith}
use borrow.Author.Tests.{eq-eqb, ne_eqb}
use lib.Dec.{eqb, leb}
use lib.ListN.{get_or}
use Rattle.lists.specs.Fold.{sum}
use Rattle.lists.specs.Renumbering.{Renumbering}
use Rattle.lists.proofs.Tests.{Same, same, other, same?}
use Rattle.lists.proofs.Renumbered.{sum-renumbered}
use Rattle.signed.specs.Sign.{is_negative, turn}
use Rattle.signed.proofs.Turns.{size-turn}
use Rattle.model.specs.Mesh.{Mesh, volume, second, at_rim, rim, incoming, outgoing, max_concentration, ceiling}
use Rattle.model.specs.Step.{StepInput, flux, outside, mass, concentration, released_mass}
use Rattle.model.specs.Causes.{Outcome, accepted, refused, Verdict, fine, ◌and_then◌, need, each, Call, input_of, release, counts, mesh_tables, mesh_values, field_table, salt_good, field_values, step_tables, raised_good, raised_values, outside_good, flux_good, balance_good, outflow_good, step_values, verdict}
use Rattle.model.specs.Calls.{Crossing, crossing_of}
use Rattle.model.specs.Accepted.{Joined, MeshFit}
use Rattle.model.specs.Alike.{Facing, turned, AlikeMesh, Alike, AlikeCall, unplaced}
use Rattle.model.proofs.Verdicts.{both-fine, each-cong}
use Rattle.model.proofs.Accepted.{few, mesh-fit, ready}
use Rattle.model.proofs.Raised.{raised_at}
use Rattle.model.proofs.Rounded.{rounded-same}
use Rattle.model.proofs.AlikeFaces.{rim-same, incoming-alike, outgoing-alike}
use Rattle.model.proofs.AlikeStages.{joined, in-mass-alike, out-mass-alike}

-- an outcome with its place, or without it
abbrev pub with_place : {A : Type 0} → Bool → Outcome A → Outcome A
with_place true v = v
with_place false v = unplaced v

-- places are shown where each thing keeps its number
abbrev pub NumbersKept : Bool → (n : ℕ) → Renumbering n → Type 0
NumbersKept p n r = p ≡ true → (i : ℕ) → i < n → r.new i ≡ i

place-and_then : {A : Type 0} (p : Bool) (v : Verdict) (w : Outcome A) → with_place p (v and_then w) ≡ (with_place p v and_then with_place p w)
unfolding ◌and_then◌
place-and_then true v w = refl
place-and_then false (accepted t) w = refl
place-and_then false (refused k i) w = refl

-- two tests in turn, the second after a first that found nothing
pub in-turn : {A : Type 0} (p : Bool) (v v' : Verdict) (w w' : Outcome A) → with_place p v' ≡ with_place p v → (v ≡ fine → with_place p w' ≡ with_place p w)
    → with_place p (v' and_then w') ≡ with_place p (v and_then w)
unfolding ◌and_then◌
in-turn p v v' w w' e d = place-and_then p v' w' ∙ rw e (go p v d) ∙ sym (place-and_then p v w)
  where
    go : (b : Bool) (u : Verdict) → (u ≡ fine → with_place p w' ≡ with_place p w) → (with_place b u and_then with_place p w') ≡ (with_place b u and_then with_place p w)
    go true (accepted t) h = h refl
    go false (accepted t) h = h refl
    go true (refused k i) h = refl
    go false (refused k i) h = refl

-- a scan refuses where it counts something bad, and the count is the same in every order
bad : (ℕ → Bool) → ℕ → ℕ
bad good i = cond (good i) 0 1

each-unplaced : (k n : ℕ) (good : ℕ → Bool) → unplaced (each k n good) ≡ need k 0 (eqb (sum n (bad good)) 0)
unfolding each sum bad need ◌and_then◌
each-unplaced k zero good = refl
each-unplaced k (suc n) good =
    place-and_then false (each k n good) (need k n (good n)) ∙ rw (each-unplaced k n good) (go (good n) (eqb (sum n (bad good)) 0) (same? (sum n (bad good)) 0))
  where
    go : (b s : Bool) → Same (sum n (bad good)) 0 s → (need k 0 s and_then unplaced (need k n b)) ≡ need k 0 (eqb (sum n (bad good) + cond b 0 1) 0)
    go true true (same e) = rw (eq-eqb (sum n (bad good) + 0) 0 (omega arith))
    go false true (same e) = rw (ne_eqb (sum n (bad good) + 1) 0 (omega arith))
    go true false (other d) = rw (ne_eqb (sum n (bad good) + 0) 0 (omega arith))
    go false false (other d) = rw (ne_eqb (sum n (bad good) + 1) 0 (omega arith))

pub each-alike : (p : Bool) (k n : ℕ) {n' : ℕ} (r : Renumbering n) → NumbersKept p n r → (good good' : ℕ → Bool) → n' ≡ n
    → ((i : ℕ) → i < n → good' (r.new i) ≡ good i) → with_place p (each k n' good') ≡ with_place p (each k n good)
unfolding bad
each-alike p k n r kept good good' e h = ap (λ (m : ℕ). with_place p (each k m good')) e ∙ go p kept
  where
    go : (b : Bool) → NumbersKept b n r → with_place b (each k n good') ≡ with_place b (each k n good)
    go true stays = each-cong k n good' good (λ i l. ap good' (sym (stays refl i l)) ∙ h i l)
    go false stays =
        each-unplaced k n good'
        ∙ ap (λ (s : ℕ). need k 0 (eqb s 0)) (sum-renumbered n r (bad good') (bad good) (λ i l. rw (h i l)))
        ∙ sym (each-unplaced k n good)

-- cause 6
pub field-values-alike : (p : Bool) (M M' : Mesh) (cell : Renumbering M.cells) → NumbersKept p M.cells cell → (field field' : List ℕ) → M'.cells
    ≡ M.cells
    → ((c : ℕ) → c < M.cells → volume M' (cell.new c) ≡ volume M c) → ((c : ℕ) → c < M.cells → get_or field' (cell.new c) 0 ≡ get_or field c 0)
    → with_place p (field_values M' field') ≡ with_place p (field_values M field)
unfolding field_values salt_good
field-values-alike p M M' cell kept field field' e volumes masses =
    each-alike p 6 M.cells cell kept (salt_good M field) (salt_good M' field') e (λ c h. rw (masses c h, volumes c h))

-- fields that are alike, raised by releases that are
module _ (M M' : Mesh) (cell : Renumbering M.cells) (face : Renumbering M.faces) (turns : ℕ → Bool) (field field' : List ℕ) (k k' : Call)
    (a : AlikeCall M M' field field' k k' cell face turns) where
  pub raised-alike : (c : ℕ) → c < M.cells → mass (input_of M' field' k') (cell.new c) ≡ mass (input_of M field k) c
  raised-alike c h =
      let n : cell.new c < M'.cells = omega (arith, a.mesh_alike.ends_alike.cells_same, cell.new_in c h) in
      raised_at M'.cells field' k'.releases (cell.new c) n ∙ rw (a.mass_same c h, a.release_same c h, raised_at M.cells field k.releases c h)

  pub q-alike : (c : ℕ) → c < M.cells → concentration (input_of M' field' k') (cell.new c) ≡ concentration (input_of M field k) c
  q-alike c h = rounded-same M M' _ _ c (cell.new c) (a.mesh_alike.volume_same c h) (raised-alike c h)

  pub inputs-alike : Alike (input_of M field k) (input_of M' field' k') cell face turns
  inputs-alike = record { mesh_alike = a.mesh_alike; mass_same = raised-alike; q_same = q-alike; flux_same = a.flux_same; outside_same = a.outside_same }

  released-alike : released_mass M'.cells k'.releases ≡ released_mass M.cells k.releases
  unfolding released_mass
  released-alike = ap (λ (n : ℕ). sum n (release k')) a.mesh_alike.ends_alike.cells_same
      ∙ sum-renumbered M.cells cell (release k') (release k) a.release_same

  pub crossing-alike : M.cells ≤ rim → MeshFit M → crossing_of M' field' k' ≡ crossing_of M field k
  crossing-alike few fit = rw (in-mass-alike _ _ few fit cell face turns inputs-alike, out-mass-alike _ _ few fit cell face turns inputs-alike, released-alike)

module _ (p : Bool) (M M' : Mesh) (cell : Renumbering M.cells) (face : Renumbering M.faces) (turns : ℕ → Bool)
    (cells_kept : NumbersKept p M.cells cell) (faces_kept : NumbersKept p M.faces face)
    (field field' : List ℕ) (k k' : Call) (a : AlikeCall M M' field field' k k' cell face turns) where
  abbrev S : StepInput
  S = input_of M field k

  abbrev S' : StepInput
  S' = input_of M' field' k'

  abbrev m : AlikeMesh M M' cell face turns
  m = a.mesh_alike

  by-cells : (i : ℕ) (good good' : ℕ → Bool) → ((c : ℕ) → c < M.cells → good' (cell.new c) ≡ good c)
      → with_place p (each i M'.cells good') ≡ with_place p (each i M.cells good)
  by-cells i good good' = each-alike p i M.cells cell cells_kept good good' m.ends_alike.cells_same

  by-faces : (i : ℕ) (good good' : ℕ → Bool) → ((f : ℕ) → f < M.faces → good' (face.new f) ≡ good f)
      → with_place p (each i M'.faces good') ≡ with_place p (each i M.faces good)
  by-faces i good good' = each-alike p i M.faces face faces_kept good good' m.ends_alike.faces_same

  -- cause 18
  raised-values-alike : with_place p (raised_values M' field' k') ≡ with_place p (raised_values M field k)
  unfolding raised_values raised_good
  raised-values-alike =
      by-cells 18 (raised_good M field k) (raised_good M' field' k') (λ c h. rw (a.mass_same c h, a.release_same c h, m.volume_same c h))

  -- causes 7 to 10, of a mesh whose faces join its cells
  module _ (j : Joined M) where
    outside-alike : (f : ℕ) → f < M.faces → outside_good M' field' k' (face.new f) ≡ outside_good M field k f
    unfolding outside_good
    outside-alike f l = rw (rim-same M M' j cell face turns m.ends_alike f l, a.flux_same f l, a.outside_same f l)
        (go (turns f) (m.ends_alike.facing f l) (at_rim M f) (same? (second M f) rim))
      where
        go : (t : Bool) → Facing M M' cell.new f (face.new f) t → (r : Bool) → Same (second M f) rim r
            → leb (outside S f) (cond (r && is_negative (turn t (flux S f))) max_concentration 0)
            ≡ leb (outside S f) (cond (r && is_negative (flux S f)) max_concentration 0)
        go t x false s = refl
        go false x true s = refl
        go true (turned d _ _) true (same e) = absurd (d e)

    flux-alike : (f : ℕ) → f < M.faces → flux_good ceiling M' field' k' (face.new f) ≡ flux_good ceiling M field k f
    unfolding flux_good
    flux-alike f l = rw (rim-same M M' j cell face turns m.ends_alike f l, a.flux_same f l, m.reach_same f l, size-turn (turns f) (flux S f))

    inflow-alike : (c : ℕ) → c < M.cells → incoming M' (flux S') (cell.new c) ≡ incoming M (flux S) c
    inflow-alike = incoming-alike M M' j cell face turns m.ends_alike (flux S) (flux S') a.flux_same

    outflow-alike : (c : ℕ) → c < M.cells → outgoing M' (flux S') (cell.new c) ≡ outgoing M (flux S) c
    outflow-alike = outgoing-alike M M' j cell face turns m.ends_alike (flux S) (flux S') a.flux_same

    step-values-alike : with_place p (step_values ceiling M' field' k') ≡ with_place p (step_values ceiling M field k)
    unfolding step_values balance_good outflow_good
    step-values-alike = in-turn p _ _ _ _ (in-turn p _ _ _ _ (in-turn p _ _ _ _
        (by-faces 7 (outside_good M field k) (outside_good M' field' k') outside-alike)
        (λ e. by-faces 8 (flux_good ceiling M field k) (flux_good ceiling M' field' k') flux-alike))
        (λ e. by-cells 9 (balance_good M field k) (balance_good M' field' k') (λ c h. rw (inflow-alike c h, outflow-alike c h))))
        (λ e. by-cells 10 (outflow_good M field k) (outflow_good M' field' k') (λ c h. rw (outflow-alike c h, m.volume_same c h)))

  counts-alike : counts M' ≡ counts M
  unfolding counts
  counts-alike = rw (m.ends_alike.cells_same, m.ends_alike.faces_same)

  -- All causes, where cause 2 and causes 3 to 5 find the same: in tables of the same lengths, of a mesh that is accepted or has the same entries.
  module _ (mesh_lent : mesh_tables M' ≡ mesh_tables M) (field-lent : field_table M' field' ≡ field_table M field)
      (call-lent : step_tables M' field' k' ≡ step_tables M field k)
      (values : with_place p (mesh_values ceiling M') ≡ with_place p (mesh_values ceiling M)) where
    pub verdict-alike : with_place p (verdict M' field' k') ≡ with_place p (verdict M field k)
    unfolding verdict
    verdict-alike = in-turn p _ _ _ _ (in-turn p _ _ _ _ (in-turn p _ _ _ _ (in-turn p _ _ _ _ (ap (with_place p) lent_alike)
        (λ e. values))
        (λ e. field-values-alike p M M' cell cells_kept field field' m.ends_alike.cells_same m.volume_same a.mass_same))
        (λ e. raised-values-alike))
        (λ e. let passed = (both-fine _ _ (both-fine _ _ e).0).0 in step-values-alike (joins (both-fine _ _ passed).0 (both-fine _ _ passed).1))
      where
        lent_alike : (counts M' and_then mesh_tables M' and_then field_table M' field' and_then step_tables M' field' k')
            ≡ (counts M and_then mesh_tables M and_then field_table M field and_then step_tables M field k)
        lent_alike = rw (mesh_lent, field-lent, call-lent, counts-alike)

        joins : (counts M and_then mesh_tables M and_then field_table M field and_then step_tables M field k) ≡ fine → mesh_values ceiling M ≡ fine → Joined M
        joins lent fine-values = joined M (few M field (both-fine _ _ lent).0).0 (mesh-fit M fine-values)

    pub answer-alike : with_place p (verdict M' field' k' and_then accepted (crossing_of M' field' k'))
        ≡ with_place p (verdict M field k and_then accepted (crossing_of M field k))
    answer-alike = in-turn p _ _ _ _ verdict-alike (λ e. let r = ready M field k e in
        ap (λ (x : Crossing). with_place p (accepted x)) (crossing-alike M M' cell face turns field field' k k' a r.counts_fit.few_cells r.fit))
