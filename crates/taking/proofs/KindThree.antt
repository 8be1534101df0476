-- In kinds 3 and 7 a release has no bits, and no bits spell 0.
use Prim.Native.Nat.{ℕ, ◌≤◌, ◌<◌}
use mathlib.Core.Path.{◌≡◌, refl, sym, ap, ◌∙◌}
use mathlib.Core.List.{List}
use native.Mathlib.Omega.{arith}
use lib.ListN.{length, get_or, take}
use lib.Seq.{take_at}
use Rattle.lists.specs.Table.{table, over}
use Rattle.lists.proofs.Sums.{sum-cong}
use Rattle.lists.proofs.Tables.{length-table, get_or-table}
use Rattle.model.specs.Mesh.{Mesh, total}
use Rattle.model.specs.Step.{StepInput, next, in_mass, out_mass}
use Rattle.model.specs.Causes.{accepted, refused, Verdict, fine, ◌and_then◌, granted, input_of, verdict}
use Rattle.model.specs.Calls.{Crossing, crossing_of, step_answer, next_table}
use Rattle.model.specs.Unreleased.{verdict01}
use Rattle.model.proofs.Unreleased.{unreleased}
use Rattle.record_bits.specs.Field.{bits_at}
use Rattle.record_sections.specs.Sections.{place, entry_in}
use Rattle.record_layouts.specs.Layouts.{water_kind, release_bits, step_shape}
use Rattle.record_heads.specs.Heads.{kind_in}
use Rattle.record_layouts.specs.declared.Width.{Width}
use Rattle.record_layouts.specs.declared.Width.TheVariants.{Narrow, Wide}
use Rattle.record_reading.specs.Reading.{step_shape_in, releases_in}
use Rattle.model.specs.declared.Printed.{Printed}
use Rattle.taking.specs.Taking.{step_in, printed_of, step_record_found, step_judged}
use Rattle.taking.specs.KindThree.{KindThree, step01, judged01, printed01, TakenAsBefore}
use Rattle.taking.proofs.StepLaws.{step-says}

no_bits : (bs : List ℕ) (at : ℕ) (w : Width) (kind : ℕ) → kind ≡ water_kind w → bits_at bs at (release_bits kind) ≡ 0
unfolding bits_at release_bits
no_bits bs at Narrow kind e = rw e
no_bits bs at Wide kind e = rw e

module _ (M : Mesh) (bs : List ℕ) where
  pub all_there : M.cells ≤ length (releases_in bs M.cells M.faces M.seconds)
  unfolding releases_in
  all_there = omega (arith, length-table M.cells (entry_in bs (step_shape_in bs M.cells M.faces M.seconds) 3 0))

  pub none : (w : Width) → kind_in bs ≡ water_kind w → (c : ℕ) → c < M.cells → get_or (releases_in bs M.cells M.faces M.seconds) c 0 ≡ 0
  unfolding releases_in
  none w e c h = get_or-table M.cells _ 0 c h ∙ no_bits bs (place (step_shape (kind_in bs) M.cells M.faces M.seconds) 3 0 c) w (kind_in bs) e

pub kind-three : KindThree
kind-three w M masses bs e = unreleased M masses (step_in M bs) (all_there M bs) (none M bs w e)

-- two answers that are the same: the same is found, and what is accepted is the same
same-found : {A : Type 0} (v w : Verdict) (x y : A) → (v and_then accepted x) ≡ (w and_then accepted y) → (v ≡ w) × (v ≡ fine → x ≡ y)
unfolding ◌and_then◌
same-found (accepted t) (accepted u) x y e = (refl, λ f. cc)
same-found (accepted t) (refused i j) x y e = let z : ◌≡◌ {A = ℕ} 0 1 = cc in absurd (omega arith)
same-found (refused i j) (accepted u) x y e = let z : ◌≡◌ {A = ℕ} 0 1 = cc in absurd (omega arith)
same-found (refused i j) (refused a b) x y e = (cc, λ f. let z : ◌≡◌ {A = ℕ} 0 1 = cc in absurd (omega arith))

-- a table written over the front of another is its front
front : (n : ℕ) (f : ℕ → ℕ) (ys : List ℕ) → take n (over (table n f) ys) ≡ table n f
unfolding over
front n f ys = take_at (table n f) _ n (length-table n f)

module _ (w told : Width) (M : Mesh) (masses bs : List ℕ) (e : kind_in bs ≡ water_kind w) where
  abbrev S : StepInput
  S = input_of M masses (step_in M bs)

  abbrev S₀ : StepInput
  S₀ = step01 M masses bs

  same : (verdict M masses (step_in M bs) ≡ verdict01 M masses (step_in M bs))
      × (verdict M masses (step_in M bs) ≡ fine → crossing_of M masses (step_in M bs) ≡ record { entered = in_mass S₀; gone = out_mass S₀; released = 0 })
  unfolding step_answer
  same = same-found _ _ _ _ (kind-three w M masses bs e).same_answer

  pub judged-same : step_judged told M masses bs ≡ judged01 told M masses bs
  unfolding step_judged
  judged-same = ap (λ (v : Verdict). step_record_found told M bs and_then v) same.0

  module _ (ok : step_judged told M masses bs ≡ fine) where
    found : verdict M masses (step_in M bs) ≡ fine
    found = (step-says told M masses bs ok).1

    pub next-same : table M.cells (next S) ≡ table M.cells (next S₀)
    unfolding next_table next
    next-same =
        let ys = (step_in M bs).nexts in
        let t : over (table M.cells (next S)) ys ≡ over (table M.cells (next S₀)) ys =
        rw (found, sym same.0 ∙ found) at (kind-three w M masses bs e).same_next in
        sym (front M.cells (next S) ys) ∙ ap (take M.cells) t ∙ front M.cells (next S₀) ys

    total-same : total M (next S) ≡ total M (next S₀)
    unfolding total
    total-same = sum-cong M.cells (next S) (next S₀)
        (λ c h. sym (get_or-table M.cells (next S) 0 c h) ∙ ap (λ (xs : List ℕ). get_or xs c 0) next-same ∙ get_or-table M.cells (next S₀) 0 c h)

    printed-same : printed_of M masses (step_in M bs) ≡ printed01 M masses bs
    printed-same =
        let c = same.1 found in
        let i = ap (λ (x : Crossing). x.entered) c in
        let o = ap (λ (x : Crossing). x.gone) c in
        let r = ap (λ (x : Crossing). x.released) c in
        rw (i, o, r, total-same)

  -- what an accepted call makes is the same, and a refused one makes nothing
  made-same : {A : Type 0} (x y z : A) → (step_judged told M masses bs ≡ fine → x ≡ y) → granted (step_judged told M masses bs) x z
      ≡ granted (judged01 told M masses bs) y z
  made-same x y z f = go (step_judged told M masses bs) refl ∙ ap (λ (v : Verdict). granted v y z) judged-same
    where
      go : (v : Verdict) → step_judged told M masses bs ≡ v → granted v x z ≡ granted v y z
      go (accepted t) q = f q
      go (refused i j) q = refl

  answer-same : (v : Verdict) → step_judged told M masses bs ≡ v → (v and_then accepted (printed_of M masses (step_in M bs)))
      ≡ (v and_then accepted (printed01 M masses bs))
  unfolding ◌and_then◌
  answer-same (accepted t) q = ap (λ (p : Printed). accepted p) (printed-same q)
  answer-same (refused i j) q = refl

pub taken-as-before : TakenAsBefore
taken-as-before w told M masses bs e r masses' p = record {
  answer = p.answer ∙ answer-same w told M masses bs e (step_judged told M masses bs) refl
      ∙ ap (λ (v : Verdict). v and_then accepted (printed01 M masses bs)) (judged-same w told M masses bs e);
  masses-after = p.masses-after ∙ made-same w told M masses bs e _ _ masses (λ ok. ap (λ (xs : List ℕ). over xs masses) (next-same w told M masses bs e ok));
}
