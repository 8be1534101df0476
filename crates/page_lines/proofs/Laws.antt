-- The lines of the visible ones of some cells.
use Prim.Native.Nat.{ℕ, ◌+◌}
use mathlib.Core.Path.{◌≡◌, refl, ap, ◌∙◌}
use mathlib.Core.Bool.{Bool, true, false}
use mathlib.Core.List.{List, append-nil}
use native.Mathlib.Numerals.{add-one}
use lib.ListN.{length}
use Rattle.text.specs.Lines.{Puts, pieces}
use Rattle.text.proofs.Lines.{same_length, puts-more}
use Rattle.page_lines.specs.Lines.{line_of, line_if}

-- one cell more
module _ (lent₀ : List ℕ) (volumes masses : List ℕ) (visible : ℕ → Bool) (places first : ℕ) where
  pub line-more : (i : ℕ) {at r : ℕ} {lent lent' : List ℕ} (b : Bool) → b ≡ visible (first + i) → length lent ≡ length lent₀
      → Puts lent₀ 0 (pieces i (λ j. line_if volumes masses visible places (first + j))) at lent
      → (b ≡ true → Puts lent at (line_of volumes masses places (first + i)) r lent') × (b ≡ false → (r ≡ at) × (lent' ≡ lent))
      → (length lent' ≡ length lent₀) × Puts lent₀ 0 (pieces (i + 1) (λ j. line_if volumes masses visible places (first + j))) r lent'
  unfolding line_if pieces
  line-more i {at} {r} {lent} {lent'} true o l p k =
      let q : Puts lent at (line_if volumes masses visible places (first + i)) r lent' = rw (← o) (k.0 refl) in
      (same_length lent (k.0 refl) ∙ l, puts-more lent₀ (λ j. line_if volumes masses visible places (first + j)) i p q)
  line-more i {at} {r} {lent} {lent'} false o l p k =
      let s = k.1 refl in (
        ap length s.1 ∙ l,
        rw (add-one i, ← o, append-nil (pieces i (λ j. line_if volumes masses visible places (first + j))), s.0, s.1) p,
      )
