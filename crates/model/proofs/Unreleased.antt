-- Releases of 0 change nothing: 18 finds nothing that 6 has not found, and the raised field agrees with the field.
use Prim.Native.Nat.{ℕ, ◌/◌, ◌≤◌, ◌<◌}
use mathlib.Core.Path.{◌≡◌, refl, sym, ap, ◌∙◌}
use mathlib.Core.List.{List}
use native.Mathlib.Nat.{add-zero}
use borrow.Author.Tests.{le-leb}
use lib.Dec.{leb}
use lib.IntN.{ℤ, pos}
use lib.ListN.{length, get_or}
use Rattle.lists.specs.Table.{table, over}
use Rattle.lists.proofs.Sums.{sum-cong, sum_zeros}
use Rattle.lists.proofs.Tables.{table-cong}
use Rattle.model.specs.Mesh.{Mesh, volume, max_concentration, ceiling}
use Rattle.model.specs.Step.{StepInput, mass, released_mass, next, moved, in_mass, out_mass}
use Rattle.model.specs.Alike.{Agree}
use Rattle.model.specs.Causes.{accepted, refused, Verdict, fine, ◌and_then◌, in_turn, granted, Call, input_of, release, lengths01, step_tables, field_values, salt_good, raised_good, raised_values, step_values, verdict}
use Rattle.model.specs.Calls.{crossing_of, step_answer, next_table, moved_table, work_table}
use Rattle.model.specs.Accepted.{Ready}
use Rattle.model.specs.Unreleased.{unraised, verdict01, AsBefore, Unreleased}
use Rattle.model.proofs.Verdicts.{both-fine, need-met, each-fine, fine-each}
use Rattle.model.proofs.Accepted.{ready}
use Rattle.model.proofs.Agree.{same-mesh, in-agree, out-agree, next_agree, moved-agree}
use Rattle.model.proofs.Raised.{raised_at}
use Rattle.model.proofs.Rounded.{rounded-same}

-- a test that finds nothing wherever those before it find nothing can be left out
pub idle : (v w : Verdict) → (v ≡ fine → w ≡ fine) → (v and_then w) ≡ v
unfolding ◌and_then◌
idle (accepted t) w h = h refl
idle (refused i j) w h = refl

module _ (M : Mesh) (field : List ℕ) (k : Call) (long : M.cells ≤ length k.releases) (none : (c : ℕ) → c < M.cells → release k c ≡ 0) where
  abbrev S : StepInput
  S = input_of M field k

  abbrev S₀ : StepInput
  S₀ = unraised M field k

  lengths-same : step_tables M field k ≡ in_turn (lengths01 M.cells M.faces k)
  unfolding step_tables
  lengths-same = idle _ _ (λ e. need-met 2 14 (le-leb M.cells (length k.releases) long))

  pub raised-idle : field_values M field ≡ fine → raised_values M field k ≡ fine
  unfolding field_values salt_good raised_values raised_good
  raised-idle e = fine-each 18 M.cells (raised_good M field k)
      (λ c h. ap (λ (m : ℕ). leb (m / volume M c) max_concentration) (rw (none c h) (add-zero (get_or field c 0)))
      ∙ each-fine 6 M.cells (salt_good M field) e c h)

  verdict-same : verdict M field k ≡ verdict01 M field k
  unfolding verdict
  verdict-same = rw lengths-same (ap (λ (v : Verdict). v and_then step_values ceiling M field k) (idle _ _ (λ e. raised-idle (both-fine _ _ e).1)))

  pub unraised-mass : (c : ℕ) → c < M.cells → mass S₀ c ≡ mass S c
  unraised-mass c h = sym (raised_at M.cells field k.releases c h ∙ rw (none c h) (add-zero (get_or field c 0)))

  pub agrees : Agree S S₀
  agrees = record {
    mesh_agrees = same-mesh M;
    masses = unraised-mass;
    q_agrees = λ c h. rounded-same M M _ _ c c refl (unraised-mass c h);
    fluxes = λ f l. refl;
    outsides = λ f l. refl;
  }

  pub released-none : released_mass M.cells k.releases ≡ 0
  unfolding released_mass
  released-none = sum-cong M.cells (release k) (λ c. 0) none ∙ sum_zeros M.cells

  -- what an accepted call makes is the same, and a refused one makes nothing
  after_same : {A : Type 0} (x x' y : A) → (Ready S → x ≡ x') → granted (verdict M field k) x y ≡ granted (verdict01 M field k) x' y
  after_same x x' y same = go (verdict M field k) refl ∙ rw verdict-same
    where
      go : (v : Verdict) → verdict M field k ≡ v → granted v x y ≡ granted v x' y
      go (accepted t) e = same (ready M field k e)
      go (refused i j) e = refl

  answer-same : (v : Verdict) → verdict M field k ≡ v
      → (v and_then accepted (crossing_of M field k)) ≡ (v and_then accepted (record { entered = in_mass S₀; gone = out_mass S₀; released = 0 }))
  unfolding ◌and_then◌
  answer-same (accepted t) e =
      let r = ready M field k e in
      rw (in-agree S S₀ r.counts_fit.few_cells r.fit agrees, out-agree S S₀ r.counts_fit.few_cells r.fit agrees, released-none)
  answer-same (refused i j) e = refl

  next-same : Ready S → table M.cells (next S) ≡ table M.cells (next S₀)
  next-same r = table-cong 0 M.cells (next S) (next S₀) (λ c h. sym (next_agree S S₀ r.counts_fit.few_cells r.fit agrees c h))

  moved_same : Ready S → table M.faces (moved S) ≡ table M.faces (moved S₀)
  moved_same r = table-cong (pos 0) M.faces (moved S) (moved S₀) (λ f l. sym (moved-agree S S₀ r.counts_fit.few_cells r.fit agrees f l))

  pub as_before : AsBefore M field k
  unfolding step_answer next_table moved_table work_table next
  as_before = record {
    same_answer = answer-same (verdict M field k) refl
        ∙ ap (λ (v : Verdict). v and_then accepted (record { entered = in_mass S₀; gone = out_mass S₀; released = 0 })) verdict-same;
    same_next = after_same _ _ k.nexts (λ r. ap (λ (xs : List ℕ). over xs k.nexts) (next-same r));
    same_work = after_same _ _ k.work (λ r. refl);
    same_moved = after_same _ _ k.moveds (λ r. ap (λ (xs : List ℤ). over xs k.moveds) (moved_same r));
  }

pub unreleased : Unreleased
unreleased M field k long none = as_before M field k long none
