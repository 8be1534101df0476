-- The causes that end a run, by the tag of the enum, which counts the cases from 0.
use Prim.Native.Nat.{ℕ}
use mathlib.Core.Path.{◌≡◌, refl}
use mathlib.Core.Bool.{Bool, true, false, ◌||◌}
use mathlib.Core.List.{[], ◌∷◌}
use mathlib.Core.Logic.{⊎_elim}
use denote.Enum.Declared.{tag_of}
use types.Run.{OneOf}
use lib.Dec.{eqb}
use Rattle.model.specs.contracts.Cause.{the_type}
use Rattle.model.specs.declared.Cause.{Cause}
use Rattle.model.specs.declared.Cause.TheVariants.{Limits, Table, Volume, Ends, Spacing, Concentration, Outside, Flux, Balance, Outflow, Length, Bit, Head, Page, Name, Room, Unkept, Release, Coordinate, Ratio, Moved, Bounds, Label, Part, Bands, Period, Mark}
use Rattle.run_session.specs.Session.{ends_run}

abbrev tag_ends : ℕ → Bool
tag_ends t = eqb t 10 || eqb t 12

tag-ends : (c : Cause) → ends_run c ≡ tag_ends (tag_of the_type c)
tag-ends Limits = refl
tag-ends Table = refl
tag-ends Volume = refl
tag-ends Ends = refl
tag-ends Spacing = refl
tag-ends Concentration = refl
tag-ends Outside = refl
tag-ends Flux = refl
tag-ends Balance = refl
tag-ends Outflow = refl
tag-ends Length = refl
tag-ends Bit = refl
tag-ends Head = refl
tag-ends Page = refl
tag-ends Name = refl
tag-ends Room = refl
tag-ends Unkept = refl
tag-ends Release = refl
tag-ends Coordinate = refl
tag-ends Ratio = refl
tag-ends Moved = refl
tag-ends Bounds = refl
tag-ends Label = refl
tag-ends Part = refl
tag-ends Bands = refl
tag-ends Period = refl
tag-ends Mark = refl

yes : (t : ℕ) → OneOf (10 ∷ 12 ∷ []) t → true ≡ tag_ends t
yes t = ⊎_elim (λ e. rw e) (λ e. rw e)

no : (t : ℕ) → OneOf (0 ∷ 1 ∷ 2 ∷ 3 ∷ 4 ∷ 5 ∷ 6 ∷ 7 ∷ 8 ∷ 9 ∷ 11 ∷ 13 ∷ 14 ∷ 15 ∷ 16 ∷ 17 ∷ 18 ∷ 19 ∷ 20 ∷ 21 ∷ 22 ∷ 23 ∷ 24 ∷ 25 ∷ 26 ∷ []) t → false
    ≡ tag_ends t
no t =
    ⊎_elim (λ e. rw e) (⊎_elim (λ e. rw e) (⊎_elim (λ e. rw e) (⊎_elim (λ e. rw e) (⊎_elim (λ e. rw e) (⊎_elim (λ e. rw e)
    (⊎_elim (λ e. rw e) (⊎_elim (λ e. rw e) (⊎_elim (λ e. rw e) (⊎_elim (λ e. rw e) (⊎_elim (λ e. rw e) (⊎_elim (λ e. rw e)
    (⊎_elim (λ e. rw e) (⊎_elim (λ e. rw e) (⊎_elim (λ e. rw e) (⊎_elim (λ e. rw e) (⊎_elim (λ e. rw e) (⊎_elim (λ e. rw e)
    (⊎_elim (λ e. rw e) (⊎_elim (λ e. rw e) (⊎_elim (λ e. rw e) (⊎_elim (λ e. rw e) (⊎_elim (λ e. rw e) (⊎_elim (λ e. rw e)
    (λ e. rw e))))))))))))))))))))))))

pub ends-run : (c : Cause) → OneOf (10 ∷ 12 ∷ []) (tag_of the_type c) → true ≡ ends_run c
ends-run c h = rw (tag-ends c) (yes (tag_of the_type c) h)

pub run-goes-on : (c : Cause) → OneOf (0 ∷ 1 ∷ 2 ∷ 3 ∷ 4 ∷ 5 ∷ 6 ∷ 7 ∷ 8 ∷ 9 ∷ 11 ∷ 13 ∷ 14 ∷ 15 ∷ 16 ∷ 17 ∷ 18 ∷ 19 ∷ 20 ∷ 21 ∷ 22 ∷ 23 ∷ 24 ∷ 25 ∷ 26 ∷ [])
    (tag_of the_type c) → false ≡ ends_run c
run-goes-on c h = rw (tag-ends c) (no (tag_of the_type c) h)
