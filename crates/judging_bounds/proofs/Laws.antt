-- What the gathered sums are, and what 22 and the next masses ask of them.
use Prim.Native.Nat.{ℕ, ◌+◌, ◌*◌, ◌^◌, ◌≤◌, ◌<◌}
use mathlib.Core.Path.{◌≡◌, ap, ◌∙◌}
use mathlib.Core.List.{List}
use native.Mathlib.Omega.{arith}
use lib.IntN.{ℤ, pos}
use mir.Val.{Fits}
use mir.Syntax.{w64}
use lib.ListN.{length, get_or, replicate, length-replicate, get_or-replicate}
use Rattle.lists.specs.Table.{table, over}
use Rattle.lists.proofs.Tables.{length-table, get_or-table, is-table, table-cong}
use Rattle.model.specs.Mesh.{max_cells, max_faces}
use Rattle.model.specs.Causes.{each, faces_only}
use Rattle.model.specs.Claims.{max_claim}
use Rattle.model.proofs.Sizes.{incoming-most}
use Rattle.model.proofs.Verdicts.{each-cong}
use Rattle.check_flows.specs.Flows.{inflow, outflow, FacesFit}
use Rattle.judging_bounds.specs.Bounds.{holds, bounds_at, next_at, entry, Salted, Summed, Bordered, Affords, bounds_verdict}

pub zeros : (n : ℕ) → replicate {A = ℕ} n 0 ≡ table n (λ c. 0)
zeros n = is-table {A = ℕ} 0 (replicate n 0) n (λ c. 0) (length-replicate n 0) (λ k l. get_or-replicate n k 0 0 l)

-- the gathered sums
module _ (cells faces : ℕ) (firsts seconds : List ℕ) (claim : List ℤ) (few : cells ≤ max_cells) (few_faces : faces ≤ max_faces)
    (fit : FacesFit faces firsts seconds claim)
    (xs ys : List ℕ) (e : xs ≡ table (max_cells + 1) (inflow faces firsts seconds claim))
    (d : ys ≡ table (max_cells + 1) (outflow faces firsts seconds claim)) where
  abbrev into : ℕ → ℕ
  into = inflow faces firsts seconds claim

  abbrev out_of : ℕ → ℕ
  out_of = outflow faces firsts seconds claim

  enters_is : (c : ℕ) → c < cells → entry xs c ≡ into c
  enters_is c h = rw e (get_or-table (max_cells + 1) into 0 c (omega arith))

  leaves-is : (c : ℕ) → c < cells → entry ys c ≡ out_of c
  leaves-is c h = rw d (get_or-table (max_cells + 1) out_of 0 c (omega arith))

  pub summed : Summed cells xs ys
  summed = record {
    enters_long = omega (arith, ap length e ∙ length-table _ _);
    leaves_long = omega (arith, ap length d ∙ length-table _ _);
    enters_small = λ c h. omega (
      arith,
      enters_is c h,
      incoming-most (faces_only faces firsts seconds) (λ f. get_or claim f (pos 0)) max_claim few_faces
          (λ f l. (fit f l).2) c,
    );
  }

  pub bounds-read : (volumes masses releases work : List ℕ)
      → each 22 cells (bounds_at volumes masses releases work (entry xs) (entry ys))
      ≡ bounds_verdict cells faces volumes firsts seconds masses claim releases work
  bounds-read volumes masses releases work = each-cong 22 cells _ _ (λ c h. rw (enters_is c h, leaves-is c h))

  pub affords-read : (masses releases : List ℕ) → Affords cells masses releases into out_of → Affords cells masses releases (entry xs) (entry ys)
  affords-read masses releases a c h = rw (enters_is c h, leaves-is c h) (a c h)

  pub next-read : (masses releases next : List ℕ)
      → over (table cells (next_at masses releases (entry xs) (entry ys))) next ≡ over (table cells (next_at masses releases into out_of)) next
  next-read masses releases next = ap (λ (t : List ℕ). over t next) (table-cong 0 cells _ _ (λ c h. rw (enters_is c h, leaves-is c h)))

-- what one cell asks for
module _ {cells c : ℕ} {masses releases : List ℕ} (s : Salted cells masses releases) (h : c < cells) where
  pub holds-asks : (c < length masses) × (c < length releases) × (holds masses releases c < 2 ^ 64)
  holds-asks = (omega (arith, s.masses_long), omega (arith, s.releases_long), omega (arith, s.small c h))

  pub cell-next : Fits w64 (c + 1)
  cell-next = record { fits = omega (arith, s.few) }

  pub cell-bytes : Fits w64 (c * 8)
  cell-bytes = record { fits = omega (arith, s.few) }

  pub work-fits : (j : ℕ) → j ≤ 3 → Fits w64 (4 * c) × Fits w64 (4 * c + j) × Fits w64 ((4 * c + j) * 8)
  work-fits j l = (record { fits = omega (arith, s.few) }, record { fits = omega (arith, s.few) }, record { fits = omega (arith, s.few) })

  module _ {enters leaves : List ℕ} (t : Summed cells enters leaves) {m : ℕ} (e : m ≡ holds masses releases c) where
    pub has-fits : m + entry enters c < 2 ^ 64
    has-fits = omega (arith, s.small c h, t.enters_small c h)

    pub sum_fits : Fits w64 (m + entry enters c)
    sum_fits = record { fits = has-fits }

-- each entry of a cell stands in its table
module _ {cells c : ℕ} (h : c < cells) where
  pub volume-in : {volumes work : List ℕ} → Bordered cells volumes work → c < length volumes
  volume-in b = omega (arith, b.volumes_long)

  pub work_in : {volumes work : List ℕ} → Bordered cells volumes work → (j : ℕ) → j ≤ 3 → 4 * c + j < length work
  work_in b j l = omega (arith, b.work_long)

  pub enters-in : {enters leaves : List ℕ} → Summed cells enters leaves → c < length enters
  enters-in t = omega (arith, t.enters_long)

  pub leaves_in : {enters leaves : List ℕ} → Summed cells enters leaves → c < length leaves
  leaves_in t = omega (arith, t.leaves_long)
