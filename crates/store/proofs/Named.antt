-- Names in a list of fields when a field comes after the others, and when one has gone.
use Prim.Native.Nat.{ℕ}
use mathlib.Core.Path.{◌≡◌, refl, sym, ap, ◌∙◌}
use mathlib.Core.Logic.{◌≢◌}
use mathlib.Core.Bool.{Bool, true, false, cond, ◌||◌, true≢false}
use mathlib.Core.List.{List, [], ◌∷◌, ◌++◌}
use borrow.Author.Tests.{eq-eqb, ne_eqb}
use lib.Dec.{eqb}
use Rattle.lists.proofs.Tests.{Same, same, same?}
use Rattle.store_kept.specs.Store.{Kept, is_kept, held_under, without}

module _ (name : ℕ) where
  -- a field after others: a name among them is meant before it, and its own name is meant where they lack it
  pub kept_append : (fs gs : List Kept) → is_kept name fs ≡ true → (is_kept name (fs ++ gs) ≡ true) × (held_under name (fs ++ gs) ≡ held_under name fs)
  unfolding is_kept held_under
  kept_append [] gs e = absurd (true≢false (sym e))
  kept_append (f ∷ fs) gs e = go (eqb f.name name) e (kept_append fs gs)
    where
      go : (b : Bool) → (b || is_kept name fs) ≡ true → (is_kept name fs ≡ true → (is_kept name (fs ++ gs) ≡ true)
          × (held_under name (fs ++ gs) ≡ held_under name fs))
          → ((b || is_kept name (fs ++ gs)) ≡ true) × (cond b f.masses (held_under name (fs ++ gs)) ≡ cond b f.masses (held_under name fs))
      go true e ih = (refl, refl)
      go false e ih = ih e

  pub new-kept : (fs : List Kept) (f : Kept) → f.name ≡ name → is_kept name (fs ++ (f ∷ [])) ≡ true
  unfolding is_kept
  new-kept [] f d = rw (eq-eqb f.name name d)
  new-kept (g ∷ fs) f d = go (eqb g.name name) (new-kept fs f d)
    where
      go : (b : Bool) → is_kept name (fs ++ (f ∷ [])) ≡ true → (b || is_kept name (fs ++ (f ∷ []))) ≡ true
      go true e = refl
      go false e = e

  pub new-held : (fs : List Kept) (f : Kept) → is_kept name fs ≡ false → f.name ≡ name → held_under name (fs ++ (f ∷ [])) ≡ f.masses
  unfolding is_kept held_under
  new-held [] f e d = rw (eq-eqb f.name name d)
  new-held (g ∷ fs) f e d = go (eqb g.name name) e (λ h. new-held fs f h d)
    where
      go : (b : Bool) → (b || is_kept name fs) ≡ false → (is_kept name fs ≡ false → held_under name (fs ++ (f ∷ [])) ≡ f.masses)
          → cond b g.masses (held_under name (fs ++ (f ∷ []))) ≡ f.masses
      go true e ih = absurd (true≢false e)
      go false e ih = ih e

  pub new-without : (fs : List Kept) (f : Kept) → is_kept name fs ≡ false → f.name ≡ name → without name (fs ++ (f ∷ [])) ≡ fs
  unfolding is_kept without
  new-without [] f e d = rw (eq-eqb f.name name d)
  new-without (g ∷ fs) f e d = go (eqb g.name name) e (λ h. new-without fs f h d)
    where
      go : (b : Bool) → (b || is_kept name fs) ≡ false → (is_kept name fs ≡ false → without name (fs ++ (f ∷ [])) ≡ fs)
          → cond b (fs ++ (f ∷ [])) (g ∷ without name (fs ++ (f ∷ []))) ≡ g ∷ fs
      go true e ih = absurd (true≢false e)
      go false e ih = ap (λ (gs : List Kept). g ∷ gs) (ih e)

  -- another name's field gone
  pub other-gone : (gone : ℕ) → gone ≢ name → (fs : List Kept) → (is_kept name (without gone fs) ≡ is_kept name fs)
      × (held_under name (without gone fs) ≡ held_under name fs)
  unfolding is_kept held_under without
  other-gone gone n [] = (refl, refl)
  other-gone gone n (f ∷ fs) = go (eqb f.name gone) (same? f.name gone) (other-gone gone n fs)
    where
      go : (b : Bool) → Same f.name gone b → (is_kept name (without gone fs) ≡ is_kept name fs) × (held_under name (without gone fs) ≡ held_under name fs)
          → (is_kept name (cond b fs (f ∷ without gone fs)) ≡ (eqb f.name name || is_kept name fs))
          × (held_under name (cond b fs (f ∷ without gone fs)) ≡ cond (eqb f.name name) f.masses (held_under name fs))
      go true (same d) ih = let m = ne_eqb f.name name (λ q. n (sym d ∙ q)) in (rw m, rw m)
      go false o ih = (rw ih.0, rw ih.1)
