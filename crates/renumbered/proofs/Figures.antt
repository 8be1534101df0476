-- The channel numbered from its other end, with the face between its first two cells turned round: what the definitions say of it, computed.
use Prim.Native.Nat.{ℕ, ◌-◌}
use mathlib.Core.Path.{◌≡◌, refl}
use mathlib.Core.Bool.{Bool}
use mathlib.Core.List.{List, [], ◌∷◌}
use native.Mathlib.Omega.{arith}
use lib.Dec.{eqb}
use lib.IntN.{pos, negsuc}
use Rattle.lists.specs.Table.{table}
use Rattle.lists.specs.Renumbering.{Renumbering, carried_along}
use Rattle.model.specs.Mesh.{Mesh, rim}
use Rattle.model.specs.Step.{moved, next}
use Rattle.model.specs.Causes.{Call, input_of}
use Rattle.model.proofs.Figures.{channel, channel_call}
use Rattle.model.proofs.Unfolded.{the_step}
use Rattle.renumbered.specs.Renumbered.{renumbered_mesh, renumbered_field, renumbered_call}

-- cell c becomes cell 2 − c, face f becomes face 3 − f
abbrev from-the-end : Renumbering 3
from-the-end = record {
  new = λ c. 2 - c;
  old = λ c. 2 - c;
  new_in = λ c h. omega arith;
  old_in = λ c h. omega arith;
  old_new = λ c h. omega arith;
  new_old = λ c h. omega arith;
}

abbrev faces-too : Renumbering 4
faces-too = record {
  new = λ f. 3 - f;
  old = λ f. 3 - f;
  new_in = λ f h. omega arith;
  old_in = λ f h. omega arith;
  old_new = λ f h. omega arith;
  new_old = λ f h. omega arith;
}

-- face 1 is turned; the rim face 0 is named too, and stays
abbrev turned : ℕ → Bool
turned f = eqb (f - 1) 0

abbrev anew : Mesh
anew = renumbered_mesh channel from-the-end faces-too turned

abbrev field : List ℕ
field = renumbered_field channel from-the-end faces-too turned (100000 ∷ 0 ∷ 0 ∷ [])

abbrev call : Call
call = renumbered_call channel from-the-end faces-too turned channel_call channel_call.nexts channel_call.moveds channel_call.work

everything : Unit {0}
unfolding the_step carried_along
everything = tt

pub record NewFigures : Type 0 where
  pub new_firsts : anew.firsts ≡ 0 ∷ 1 ∷ 1 ∷ 2 ∷ []
  pub new_seconds : anew.seconds ≡ rim ∷ 0 ∷ 2 ∷ rim ∷ []
  pub new_fluxes : call.fluxes ≡ pos 50 ∷ pos 50 ∷ negsuc 49 ∷ negsuc 49 ∷ []
  pub new_field : field ≡ 0 ∷ 0 ∷ 100000 ∷ []
  -- channel step 1, 100099, 49901, 0, from the other end; and its moved masses, that of the turned face negated
  pub new_masses : table 3 (next (input_of anew field call)) ≡ 0 ∷ 49901 ∷ 100099 ∷ []
  pub new_moved : table 4 (moved (input_of anew field call)) ≡ pos 0 ∷ pos 0 ∷ negsuc 49900 ∷ negsuc 49999 ∷ []

pub new-figures : NewFigures
unfolding everything
new-figures = record { new_firsts = refl; new_seconds = refl; new_fluxes = refl; new_field = refl; new_masses = refl; new_moved = refl }
