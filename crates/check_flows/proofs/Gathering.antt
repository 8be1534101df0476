-- How inflow and outflow are gathered: a table of sums over the faces passed, and one more face.
use Prim.Native.Nat.{ℕ, ◌+◌, ◌*◌, ◌^◌, ◌≤◌, ◌<◌}
use mathlib.Core.Path.{◌≡◌, refl, ap, ◌∙◌}
use mathlib.Core.Bool.{Bool, true, false, cond}
use mathlib.Core.List.{List}
use native.Mathlib.Omega.{arith}
use borrow.Author.Tests.{eq-eqb}
use lib.Dec.{eqb, leb}
use lib.IntN.{ℤ, pos}
use lib.ListN.{length, get_or, set, replicate, length-set, length-replicate, get_or-replicate}
use Rattle.lists.specs.Fold.{sum}
use Rattle.lists.specs.Table.{table}
use Rattle.lists.proofs.Tests.{Same, same, other, same?, cond_same}
use Rattle.lists.proofs.Sums.{sum_more, sum-term}
use Rattle.lists.proofs.Tables.{length-table, get_or-table, is-table, get_d_set}
use Rattle.signed.specs.Sign.{is_negative, size}
use Rattle.signed.proofs.Laws.{forward-is, backward-is}
use Rattle.model.specs.Mesh.{Mesh, first, second, rim, max_cells, max_faces, entering, leaving, incoming, outgoing}
use Rattle.model.specs.Causes.{each, faces_only}
use Rattle.model.specs.Claims.{max_claim}
use Rattle.model.proofs.Sizes.{incoming-most, outgoing-most}
use Rattle.model.proofs.Verdicts.{each-cong}
use Rattle.check_flows.specs.Flows.{inflow, outflow, FacesFit}

pub zeros : (n : ℕ) → replicate {A = ℕ} n 0 ≡ table n (λ c. 0)
zeros n = is-table {A = ℕ} 0 (replicate n 0) n (λ c. 0) (length-replicate n 0) (λ k l. get_or-replicate n k 0 0 l)

-- one turn of a loop that adds s at place i, where g c f is what the turn f adds at c
module _ (n f i s : ℕ) (g : ℕ → ℕ → ℕ) (l : i < n) (lands : (c : ℕ) → cond (eqb i c) s 0 ≡ g c f) (xs : List ℕ) (e : xs ≡ table n (λ c. sum f (g c))) where
  so_far : (c : ℕ) → c < n → get_or xs c 0 ≡ sum f (g c)
  so_far c h = rw e (get_or-table n (λ c. sum f (g c)) 0 c h)

  turn-asks : (k b : ℕ) → f < k → sum k (g i) ≤ b → b < 2 ^ 64 → (i < length xs) × (get_or xs i 0 + s < 2 ^ 64)
  turn-asks k b h m small =
      let q : s ≡ g i f = rw (eq-eqb i i refl) at (lands i) in
      (omega (arith, ap length e ∙ length-table n (λ c. sum f (g c))), omega (arith, so_far i l, sum-term f k (g i) h))

  added : (c : ℕ) → c < n → cond (eqb i c) (get_or xs i 0 + s) (get_or xs c 0) ≡ sum f (g c) + cond (eqb i c) s 0
  added c h = go (eqb i c) (same? i c)
    where
      go : (b : Bool) → Same i c b → cond b (get_or xs i 0 + s) (get_or xs c 0) ≡ sum f (g c) + cond b s 0
      go true (same q) = rw q (omega (arith, so_far c h))
      go false (other q) = omega (arith, so_far c h)

  turn : (ys : List ℕ) → ys ≡ set xs i (get_or xs i 0 + s) → ys ≡ table n (λ c. sum (f + 1) (g c))
  turn ys q =
      let m : length xs ≡ n = ap length e ∙ length-table n (λ c. sum f (g c)) in
      is-table 0 ys n (λ c. sum (f + 1) (g c)) (rw q (simp length-set m))
      (λ c h. rw q (omega (arith, get_d_set xs i c (get_or xs i 0 + s) 0 (omega arith), added c h, lands c, sum_more f (g c))))

-- of a face's flux the receiver gets all, and the giver loses all
arrives : (b : Bool) (l k s c : ℕ) → cond (eqb (cond b l k) c) s 0 ≡ cond (eqb k c) (cond b 0 s) 0 + cond (eqb l c) (cond b s 0) 0
arrives true l k s c = omega (arith, cond_same {A = ℕ} (eqb k c) 0)
arrives false l k s c = omega (arith, cond_same {A = ℕ} (eqb l c) 0)

module _ (M : Mesh) (x : ℕ → ℤ) (f : ℕ) {b : Bool} {i s : ℕ} (n : b ≡ is_negative (x f)) (z : s ≡ size (x f)) where
  enters : i ≡ cond b (first M f) (second M f) → (c : ℕ) → cond (eqb i c) s 0 ≡ entering M x c f
  unfolding entering
  enters e c = rw (e, forward-is (x f), backward-is (x f), n, z) (arrives (is_negative (x f)) (first M f) (second M f) (size (x f)) c)

  leaves : i ≡ cond b (second M f) (first M f) → (c : ℕ) → cond (eqb i c) s 0 ≡ leaving M x c f
  unfolding leaving
  leaves e c = rw (e, forward-is (x f), backward-is (x f), n, z) (arrives (is_negative (x f)) (second M f) (first M f) (size (x f)) c)

either_end : (b : Bool) (l k : ℕ) → l ≤ rim → k ≤ rim → cond b l k < max_cells + 1
either_end true l k h m = omega arith
either_end false l k h m = omega arith

-- the turn of face f, over the tables lent
module _ (faces : ℕ) (firsts seconds : List ℕ) (fluxes : List ℤ) (few : faces ≤ max_faces) (fit : FacesFit faces firsts seconds fluxes)
    (f : ℕ) (l : f < faces) (b : Bool) (s : ℕ) (n : b ≡ is_negative (get_or fluxes f (pos 0))) (z : s ≡ size (get_or fluxes f (pos 0))) (i : ℕ) (xs : List ℕ) where
  abbrev M : Mesh
  M = faces_only faces firsts seconds

  abbrev x : ℕ → ℤ
  x k = get_or fluxes k (pos 0)

  module _ (r : i ≡ cond b (first M f) (second M f)) (e : xs ≡ table (max_cells + 1) (λ c. sum f (entering M x c))) where
    reached : i < max_cells + 1
    reached = rw r (either_end b (first M f) (second M f) (fit f l).0 (fit f l).1)

    pub in-asks : (i < length xs) × (get_or xs i 0 + s < 2 ^ 64)
    unfolding incoming
    in-asks = turn-asks (max_cells + 1) f i s (entering M x) reached (enters M x f n z r) xs e faces (max_faces * (max_claim + max_claim)) l
        (incoming-most M x max_claim few (λ g h. (fit g h).2) i) (omega arith)

    pub in-turn : (ys : List ℕ) → ys ≡ set xs i (get_or xs i 0 + s) → ys ≡ table (max_cells + 1) (λ c. sum (f + 1) (entering M x c))
    in-turn = turn (max_cells + 1) f i s (entering M x) reached (enters M x f n z r) xs e

  module _ (r : i ≡ cond b (second M f) (first M f)) (e : xs ≡ table (max_cells + 1) (λ c. sum f (leaving M x c))) where
    left : i < max_cells + 1
    left = rw r (either_end b (second M f) (first M f) (fit f l).1 (fit f l).0)

    pub out-asks : (i < length xs) × (get_or xs i 0 + s < 2 ^ 64)
    unfolding outgoing
    out-asks = turn-asks (max_cells + 1) f i s (leaving M x) left (leaves M x f n z r) xs e faces (max_faces * (max_claim + max_claim)) l
        (outgoing-most M x max_claim few (λ g h. (fit g h).2) i) (omega arith)

    pub out-turn : (ys : List ℕ) → ys ≡ set xs i (get_or xs i 0 + s) → ys ≡ table (max_cells + 1) (λ c. sum (f + 1) (leaving M x c))
    out-turn = turn (max_cells + 1) f i s (leaving M x) left (leaves M x f n z r) xs e

-- causes 9 and 10 read off the tables gathered
module _ (cells faces : ℕ) (volumes firsts seconds : List ℕ) (fluxes : List ℤ) (few : cells ≤ max_cells) (xs ys : List ℕ)
    (e : xs ≡ table (max_cells + 1) (inflow faces firsts seconds fluxes)) (d : ys ≡ table (max_cells + 1) (outflow faces firsts seconds fluxes)) where
  abbrev into : ℕ → ℕ
  into = inflow faces firsts seconds fluxes

  abbrev out_of : ℕ → ℕ
  out_of = outflow faces firsts seconds fluxes

  pub long-enough : (cells ≤ length xs) × (cells ≤ length ys)
  long-enough = (omega (arith, ap length e ∙ length-table _ _), omega (arith, ap length d ∙ length-table _ _))

  inflow-is : (c : ℕ) → c < cells → get_or xs c 0 ≡ into c
  inflow-is c h = rw e (get_or-table (max_cells + 1) into 0 c (omega arith))

  outflow-is : (c : ℕ) → c < cells → get_or ys c 0 ≡ out_of c
  outflow-is c h = rw d (get_or-table (max_cells + 1) out_of 0 c (omega arith))

  pub balance-read : each 9 cells (λ c. eqb (get_or xs c 0) (get_or ys c 0)) ≡ each 9 cells (λ c. eqb (into c) (out_of c))
  balance-read = each-cong 9 cells _ _ (λ c h. rw (inflow-is c h, outflow-is c h))

  pub outflow-read : each 10 cells (λ c. leb (get_or ys c 0) (get_or volumes c 0)) ≡ each 10 cells (λ c. leb (out_of c) (get_or volumes c 0))
  outflow-read = each-cong 10 cells _ _ (λ c h. rw (outflow-is c h))
