-- S-8's error, for one accepted plain call and for every list of them.
use Prim.Native.Nat.{ℕ, suc, ◌+◌, ◌*◌, ◌≤◌, ◌<◌}
use mathlib.Core.Path.{◌≡◌, refl, subst, ap}
use mathlib.Core.List.{List, [], ◌∷◌}
use native.Mathlib.Nat.{dvd-mul_left_of_dvd, div-mul_cancel, one-le-mul}
use native.Mathlib.Omega.{arith}
use Rattle.lists.proofs.Tables.{get_or-table}
use Rattle.model.specs.Mesh.{Mesh, volume}
use Rattle.model.specs.Step.{rounded, mass, concentration, low}
use Rattle.model.specs.Causes.{Outcome, accepted, refused, granted, fine, Call, release, input_of, verdict}
use Rattle.model.specs.Calls.{mass_in, Left, field_after, plain, lent_masses, step_on_tables, after_all, EachStep}
use Rattle.model.specs.Accepted.{Sound}
use Rattle.model.proofs.Raised.{raised_at}
use Rattle.model.proofs.Low.{low-is}
use Rattle.model.proofs.Accepted.{ready}
use Rattle.model.proofs.Rounded.{rounded-there, rounded_rest}
use Rattle.model.proofs.Lists.{plain-keeping, found-fine, left-mass, lent_same}
use Rattle.plain.specs.Unrounded.{product, Fractions, whole_masses, in_parts, finer, unrounded_input, unrounded_step}
use Rattle.plain.specs.Error.{accepted_of, unrounded_after, ErrorBelow, PlainCall, plain_comes, PlainError}
use Rattle.plain.proofs.Products.{product-some, product_each, get_or-times}
use Rattle.plain.proofs.Closer.{Within, Closer, weaker, released-both, as-fractions, step-closer}
use Rattle.plain.proofs.AnyParts.{same_low}

-- the water of an accepted step is as good in any parts
sound-in-parts : (M : Mesh) (lent : List ℕ) (k : Call) → verdict M lent k ≡ fine → (D : ℕ) (y : List ℕ) → Sound (input_of M y (in_parts D k))
sound-in-parts M lent k e D y =
    let s = (ready M lent k e).sound in
    record {
      joined = s.joined;
      roomy = s.roomy;
      salt_there = λ c h. rounded-there M _ c;
      rest_below = λ c h. rounded_rest M _ c (s.roomy c h);
      level = s.level;
      courant = s.courant;
    }

module _ (M : Mesh) (k : Call) (x : Fractions) where
  abbrev cut : ℕ
  cut = product M.cells (volume M)

  -- raised masses in any parts
  mass-in-parts : (D : ℕ) (y : List ℕ) (c : ℕ) → c < M.cells → mass (input_of M y (in_parts D k)) c ≡ mass_in y c + release k c * D
  mass-in-parts D y c h = rw (raised_at M.cells y (in_parts D k).releases c h, get_or-times D k.releases c)

  nothing_rounded : (c : ℕ) → c < M.cells → concentration (unrounded_input M k x) c * volume M c ≡ mass (unrounded_input M k x) c
  unfolding rounded finer
  nothing_rounded c h =
      let m : mass (unrounded_input M k x) c ≡ (mass_in x.tops c + release k c * x.parts) * cut
      = omega (arith, mass-in-parts (finer M x).parts (finer M x).tops c h, get_or-times cut x.tops c) in
      rw m (div-mul_cancel (volume M c) (dvd-mul_left_of_dvd (volume M c) (product_each M.cells (volume M) c h) _))

  fine-mass : (c : ℕ) → c < M.cells → mass (unrounded_input M k x) c ≡ mass_in x.tops c * cut + release k c * (x.parts * cut)
  unfolding finer
  fine-mass c h = rw (mass-in-parts (finer M x).parts (finer M x).tops c h, get_or-times cut x.tops c)

  -- the same masses y in E parts
  module _ (lent : List ℕ) (e : verdict M lent k ≡ fine) (E : ℕ) (y : List ℕ)
      (same : (c : ℕ) → c < M.cells → mass_in y c * x.parts ≡ mass_in x.tops c * E)
      (whole : (c : ℕ) → c < M.cells → concentration (input_of M y (in_parts E k)) c * volume M c ≡ mass (input_of M y (in_parts E k)) c) where
    any-parts : (c : ℕ) → c < M.cells → low (input_of M y (in_parts E k)) c * (unrounded_step M k x).parts ≡ mass_in (unrounded_step M k x).tops c * E
    unfolding unrounded_step finer
    any-parts c h = rw (get_or-table M.cells (low (unrounded_input M k x)) 0 c h)
        (same_low M k.fluxes _ _ _ _
        (sound-in-parts M lent k e E y) (sound-in-parts M lent k e (x.parts * cut) (finer M x).tops) E (x.parts * cut)
        (λ f. rw (get_or-times E k.outsides f, get_or-times (x.parts * cut) k.outsides f) (omega arith))
        (λ c h. rw (mass-in-parts E y c h, fine-mass c h) (omega (arith, ap (λ (t : ℕ). t * cut) (same c h))))
        whole nothing_rounded c h)

module _ (M : Mesh) where
  pub record AllWithin (n : ℕ) (field : List ℕ) (x : Fractions) : Type 0 where
    pub some : 1 ≤ x.parts
    pub each : (c : ℕ) → c < M.cells → Within n (volume M c) x.parts (mass_in field c) (mass_in x.tops c)

  pub record AllCloser (n : ℕ) (field : List ℕ) (x : Fractions) : Type 0 where
    pub roomy : (c : ℕ) → c < M.cells → 1 ≤ volume M c
    pub some : 1 ≤ x.parts
    pub each : (c : ℕ) → c < M.cells → Closer n (volume M c) x.parts (mass_in field c) (mass_in x.tops c)

-- an accepted call adds less than one
module _ (M : Mesh) (past : List ℕ) (k : Call) (field : List ℕ) (l : Left) (e : step_on_tables plain M k (lent_masses M past field) ≡ accepted l) where
  abbrev lent : List ℕ
  lent = lent_masses M past field

  fine-call : verdict M lent k ≡ fine
  fine-call = found-fine plain plain-keeping M k lent l e

  -- the masses that both steps start from
  raised-within : (n : ℕ) (x : Fractions) → AllWithin M n field x → (c : ℕ) → c < M.cells
      → Within n (volume M c) (x.parts * product M.cells (volume M)) (mass (input_of M lent k) c) (mass (unrounded_input M k x) c)
  raised-within n x w c h = rw (raised_at M.cells lent k.releases c h, lent_same M past field c h, fine-mass M k x c h)
      (released-both n (volume M c) x.parts (mass_in field c) (mass_in x.tops c) (release k c) (product M.cells (volume M)) (w.each c h))

  call-closer : (n : ℕ) (x : Fractions) → AllWithin M n field x → AllCloser M (suc n) l.field (unrounded_step M k x)
  unfolding unrounded_step finer low
  call-closer n x w =
      let ok = (ready M lent k fine-call).sound in
      let sound = sound-in-parts M lent k fine-call (finer M x).parts (finer M x).tops in
      let some = one-le-mul w.some (product-some M.cells (volume M) ok.roomy) in
      record {
        roomy = ok.roomy;
        some = some;
        each = λ c h. rw (left-mass plain plain-keeping M k lent l e c h, get_or-table M.cells (low (unrounded_input M k x)) 0 c h)
            (step-closer M k.fluxes _ k.outsides _ _ ok sound (finer M x).parts n some
            (get_or-times (finer M x).parts k.outsides) (nothing_rounded M k x) (raised-within n x w) c h);
      }

-- Calls of any kind that come, along a list, to what the plain scheme says.
module _ (M : Mesh) {K : Type 0} (past : K → List ℕ) (tables : K → Call) (comes : K → List ℕ → Outcome Left) where
  abbrev AsPlain : K → List ℕ → Left → Type 0
  AsPlain k field l = step_on_tables plain M (tables k) (lent_masses M (past k) field) ≡ accepted l

  abbrev AllPlain : List ℕ → List K → Type 0
  AllPlain = EachStep comes (λ k before. (l : Left) → comes k before ≡ accepted l → AsPlain k before l)

  abbrev accepts : List ℕ → List K → ℕ
  accepts = accepted_of M tables comes

  abbrev unrounded : Fractions → List ℕ → List K → Fractions
  unrounded = unrounded_after M tables comes

  after_one : (k : K) (field : List ℕ) (x : Fractions) (n : ℕ) → AllCloser M n field x
      → (o : Outcome Left) → ((l : Left) → o ≡ accepted l → AsPlain k field l)
      → AllCloser M (granted o 1 0 + n) (field_after o field) (granted o (unrounded_step M (tables k) x) x)
  after_one k field x n a (accepted l) e = subst (λ (j : ℕ). AllCloser M j l.field (unrounded_step M (tables k) x)) (omega arith)
      (call-closer M (past k) (tables k) field l (e l refl) n x (record { some = a.some; each = λ c h. weaker (a.each c h) }))
  after_one k field x n a (refused i j) e = subst (λ (j : ℕ). AllCloser M j field x) (omega arith) a

  -- with an error below n, each accepted call adds less than one
  grows : (ks : List K) (field : List ℕ) → AllPlain field ks → (x : Fractions) (n : ℕ) → AllCloser M n field x
      → AllCloser M (accepts field ks + n) (after_all comes field ks) (unrounded x field ks)
  unfolding accepted_of after_all unrounded_after
  grows [] field p x n a = subst (λ (j : ℕ). AllCloser M j field x) (omega arith) a
  grows (k ∷ ks) field p x n a =
      let o = comes k field in
      let left = field_after o field in
      let y = granted o (unrounded_step M (tables k) x) x in
      subst (λ (j : ℕ). AllCloser M j (after_all comes left ks) (unrounded y left ks)) (omega arith)
      (grows ks left p.1 y (granted o 1 0 + n) (after_one k field x n a o p.0))

  -- without error, the first accepted call brings one below 1
  begins : (ks : List K) (field : List ℕ) → AllPlain field ks → (x : Fractions) → AllWithin M 0 field x → 1 ≤ accepts field ks
      → AllCloser M (accepts field ks) (after_all comes field ks) (unrounded x field ks)
  unfolding accepted_of after_all unrounded_after
  begins [] field p x w h = absurd (omega arith)
  begins (k ∷ ks) field p x w h = go (comes k field) (λ q. begins ks field q x w) p.0 p.1 h
    where
      go : (o : Outcome Left)
          → (AllPlain field ks → 1 ≤ accepts field ks
          → AllCloser M (accepts field ks) (after_all comes field ks) (unrounded x field ks))
          → ((l : Left) → o ≡ accepted l → AsPlain k field l) → AllPlain (field_after o field) ks
          → 1 ≤ granted o 1 0 + accepts (field_after o field) ks
          → AllCloser M (granted o 1 0 + accepts (field_after o field) ks) (after_all comes (field_after o field) ks)
          (unrounded (granted o (unrounded_step M (tables k) x) x) (field_after o field) ks)
      go (accepted l) later e q h =
          subst (λ (j : ℕ). AllCloser M j (after_all comes l.field ks) (unrounded (unrounded_step M (tables k) x) l.field ks)) (omega arith)
          (grows ks l.field q (unrounded_step M (tables k) x) 1 (call-closer M (past k) (tables k) field l (e l refl) 0 x w))
      go (refused i j) later e q h =
          subst (λ (j : ℕ). AllCloser M j (after_all comes field ks) (unrounded x field ks)) (omega arith) (later q (omega arith))

  exact : (field : List ℕ) → AllWithin M 0 field (whole_masses field)
  exact field = record { some = omega arith; each = λ c h. record { above = omega arith; below = omega arith } }

  pub error-of : (field : List ℕ) (ks : List K) → AllPlain field ks → ErrorBelow M tables comes field ks
  error-of field ks p h c l =
      let a = begins ks field p (whole_masses field) (exact field) h in
      as-fractions (a.roomy c l) (a.each c l)

-- the calls of a list come to what they come to
themselves : (M : Mesh) (field : List ℕ) (calls : List PlainCall)
    → EachStep (plain_comes M) (λ p before. (l : Left) → plain_comes M p before ≡ accepted l → step_on_tables plain M p.tables (lent_masses M p.past before)
    ≡ accepted l) field calls
themselves M field [] = tt
themselves M field (p ∷ ps) = ((λ l e. e), themselves M (field_after (plain_comes M p field) field) ps)

pub plain-error : PlainError
plain-error = record {
  error_below = λ M field calls. error-of M (λ p. p.past) (λ p. p.tables) (plain_comes M) field calls (themselves M field calls);
  nothing_rounded = nothing_rounded;
  nothing_cut = λ M lent k e x c h. low-is (unrounded_input M k x) (sound-in-parts M lent k e (finer M x).parts (finer M x).tops) c h;
  in_any_parts = λ M lent k e x E y same whole c h. any-parts M k x lent e E y same whole c h;
}
