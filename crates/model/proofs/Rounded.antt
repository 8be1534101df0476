-- q of document 01, for any masses on a mesh.
use Prim.Native.Nat.{ℕ, ◌+◌, ◌*◌, ◌≤◌, ◌<◌}
use mathlib.Core.Path.{◌≡◌}
use mathlib.Core.List.{List}
use native.Mathlib.Nat.{mul-div-le, lt-div-mul-add}
use native.Mathlib.Omega.{arith}
use lib.ListN.{get_or}
use Rattle.model.specs.Mesh.{Mesh, volume}
use Rattle.model.specs.Step.{rounded}

module _ (M : Mesh) (masses : List ℕ) (c : ℕ) where
  -- its salt is in the cell, and less than V more
  pub rounded-there : volume M c * rounded M.volumes masses c ≤ get_or masses c 0
  unfolding rounded
  rounded-there = mul-div-le (get_or masses c 0) (volume M c)

  pub rounded_rest : 1 ≤ volume M c → get_or masses c 0 < volume M c * rounded M.volumes masses c + volume M c
  unfolding rounded
  rounded_rest h = omega (arith, lt-div-mul-add {a = get_or masses c 0} h)

-- the same mass and the same V have the same q
pub rounded-same : (M M' : Mesh) (masses masses' : List ℕ) (c c' : ℕ) → volume M' c' ≡ volume M c → get_or masses' c' 0 ≡ get_or masses c 0
    → rounded M'.volumes masses' c' ≡ rounded M.volumes masses c
unfolding rounded
rounded-same M M' masses masses' c c' v m = rw (v, m)
