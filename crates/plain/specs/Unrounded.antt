-- Document 02, S-8, the error: the same steps without rounding, masses being fractions of whole numbers.
use Rattle.std.specs.Prelude.{ℕ, zero, suc, ◌*◌, List, map}
use Rattle.lists.specs.Table.{table}
use Rattle.model.specs.Mesh.{Mesh, volume}
use Rattle.model.specs.Step.{StepInput, low}
use Rattle.model.specs.Causes.{Call, call_of, input_of}

-- f 0 · .. · f (n − 1)
unfoldable pub product : ℕ → (ℕ → ℕ) → ℕ
product zero f = 1
product (suc n) f = product n f * f n

-- each entry D times
unfoldable pub each_times : ℕ → List ℕ → List ℕ
each_times D xs = map (λ x. x * D) xs

-- Masses as fractions with one denominator: a unit of mass is cut into `parts`, and cell c holds so many of them as `tops` has at c.
pub record Fractions : Type 0 where
  pub parts : ℕ
  pub tops : List ℕ

-- where both sides start
abbrev pub whole_masses : List ℕ → Fractions
whole_masses field = record { parts = 1; tops = field }

-- The same call, with the same releases, where masses are counted in parts, D to a unit: outside values and releases are D times as many; the
-- water is the same.
abbrev pub in_parts : ℕ → Call → Call
in_parts D k = call_of k.fluxes (each_times D k.outsides) k.nexts k.moveds k.work (each_times D k.releases)

module _ (M : Mesh) where
  -- The same masses in finer parts: each part is cut into as many as all volumes multiplied. Every cell then holds a multiple of its volume.
  unfoldable pub finer : Fractions → Fractions
  finer x = record { parts = x.parts * product M.cells (volume M); tops = each_times (product M.cells (volume M)) x.tops }

  -- What a step works on that counts in these parts. Its q = m / V, the model's own, leaves no rest: nothing is rounded.
  abbrev pub unrounded_input : Call → Fractions → StepInput
  unrounded_input k x = input_of M (finer x).tops (in_parts (finer x).parts k)

  -- stages 1 and 5 on it, the model's own
  unfoldable pub unrounded_step : Call → Fractions → Fractions
  unrounded_step k x = record { parts = (finer x).parts; tops = table M.cells (low (unrounded_input k x)) }
