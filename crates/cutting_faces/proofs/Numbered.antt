-- What a part's tables have of a face that touches it, where cells are numbered by how many of the part come before them.
use Prim.Native.Nat.{ℕ, ◌+◌, ◌/◌, ◌<◌}
use mathlib.Core.Path.{◌≡◌, refl, sym, ap, ◌∙◌}
use mathlib.Core.Bool.{Bool, true, false, not, cond, ◌&&◌, ◌||◌, true≢false}
use mathlib.Core.List.{List}
use native.Mathlib.Omega.{arith}
use lib.Dec.{eqb}
use lib.IntN.{ℤ, pos}
use Rattle.signed.specs.Sign.{is_negative, turn}
use Rattle.model.specs.Step.{raised, rounded}
use Rattle.model.proofs.Raised.{raised_at}
use lib.ListN.{length, get_or, set, length-set}
use lib.Seq.{get_or-set_same, get_or-set_other}
use Rattle.lists.specs.Table.{table, over}
use Rattle.lists.specs.Marked.{count, old, picked}
use Rattle.lists.proofs.Tests.{Same, same, other, same?}
use Rattle.lists.proofs.Tables.{length_over, get_d_over, table-cong}
use Rattle.lists.proofs.Marked.{old-marked}
use Rattle.model.specs.Mesh.{rim}
use Rattle.cutting_pieces.specs.Pieces.{has_label, touching_at, number_at, second_at, outside_at, new_first_at, new_second_at, new_outside_at, FacesLent, EndsIn, JoinedFaces}

-- entries that are the same of all marked things
pub picked-cong : {A : Type 0} (d : A) (n : ℕ) (marked : ℕ → Bool) (x y : ℕ → A) → ((i : ℕ) → i < n → marked i ≡ true → x i ≡ y i) → picked n marked x
    ≡ picked n marked y
unfolding picked
picked-cong d n marked x y h = table-cong d (count n marked) _ _ (λ i l. let a = old-marked marked n i l in h (old n marked i) a.0 a.1)

module _ (cells faces : ℕ) (labels : List ℕ) (p : ℕ) (firsts seconds : List ℕ) (j : JoinedFaces cells faces labels firsts seconds) where
  pub faces-lent : FacesLent faces labels firsts seconds
  faces-lent = record {
    firsts_long = j.firsts_long;
    seconds_long = j.seconds_long;
    first-in = λ f l. omega (arith, j.first-in f l, j.labels_long);
    second_in = λ f l d. omega (arith, j.second_in f l d, j.labels_long);
  }

  -- a table with an entry for every cell and one at the rim's mark
  pub ends-in : (xs : List ℕ) → rim < length xs → EndsIn faces xs firsts seconds
  ends-in xs h = record {
    first_there = λ f l. omega (arith, j.first-in f l, j.few);
    second_there =
        λ f l. at-second f l (eqb (get_or seconds f 0) rim) (same? (get_or seconds f 0) rim);
  }
    where
      at-second : (f : ℕ) → f < faces → (b : Bool) → Same (get_or seconds f 0) rim b → get_or seconds f 0 < length xs
      at-second f l true (same e) = omega arith
      at-second f l false (other d) = omega (arith, j.second_in f l d, j.few)

  module _ (ys numbers : List ℕ) (long : rim < length ys) (written : numbers ≡ set (over (table cells (λ c. count c (has_label labels p))) ys) rim rim) where
    abbrev front : List ℕ
    front = over (table cells (λ c. count c (has_label labels p))) ys

    front_long : length front ≡ length ys
    front_long = length_over cells _ ys (omega (arith, j.few))

    pub numbers-long : rim < length numbers
    numbers-long = rw written (omega (arith, length-set front rim rim, front_long))

    number-of : (c : ℕ) → c < cells → get_or numbers c 0 ≡ count c (has_label labels p)
    number-of c h = rw written (get_or-set_other front rim c rim 0 (λ e. absurd (omega (arith, j.few)))
        ∙ get_d_over cells (λ c. count c (has_label labels p)) ys 0 c h)

    number-of-rim : get_or numbers rim 0 ≡ rim
    number-of-rim = rw written (get_or-set_same front rim rim 0 (omega (arith, front_long)))

    first-same : (f : ℕ) → f < faces → touching_at labels p firsts seconds f ≡ true → number_at labels p firsts seconds numbers f
        ≡ new_first_at labels p firsts seconds f
    first-same f l t = go (has_label labels p (get_or firsts f 0)) (eqb (get_or seconds f 0) rim) (same? (get_or seconds f 0) rim) t
      where
        go : (a r : Bool) → Same (get_or seconds f 0) rim r → (a || (not r && has_label labels p (get_or seconds f 0))) ≡ true
            → get_or numbers (cond (not a) (get_or seconds f 0) (get_or firsts f 0)) 0 ≡ count (cond (not a) (get_or seconds f 0) (get_or firsts f 0)) (has_label labels p)
        go true r s t = number-of (get_or firsts f 0) (j.first-in f l)
        go false true s t = absurd (true≢false (sym t))
        go false false (other d) t = number-of (get_or seconds f 0) (j.second_in f l d)

    second-same : (f : ℕ) → f < faces → touching_at labels p firsts seconds f ≡ true → second_at labels p firsts seconds numbers f
        ≡ new_second_at labels p firsts seconds f
    second-same f l t = go (eqb (get_or seconds f 0) rim) (same? (get_or seconds f 0) rim) (has_label labels p (get_or firsts f 0))
        (has_label labels p (get_or seconds f 0)) t
      where
        go : (r : Bool) → Same (get_or seconds f 0) rim r → (a b : Bool) → (a || (not r && b)) ≡ true
            → cond (not r && not (a && (not r && b))) rim (get_or numbers (get_or seconds f 0) 0)
            ≡ cond (r || (not r && not (a && (not r && b)))) rim (count (cond (not a) (get_or firsts f 0) (get_or seconds f 0)) (has_label labels p))
        go true (same e) a b t = ap (λ (k : ℕ). get_or numbers k 0) e ∙ number-of-rim
        go false (other d) true true t = number-of (get_or seconds f 0) (j.second_in f l d)
        go false (other d) true false t = refl
        go false (other d) false b t = refl

    pub firsts-are : picked faces (touching_at labels p firsts seconds) (number_at labels p firsts seconds numbers)
        ≡ picked faces (touching_at labels p firsts seconds) (new_first_at labels p firsts seconds)
    firsts-are = picked-cong 0 faces _ _ _ first-same

    pub seconds-are : picked faces (touching_at labels p firsts seconds) (second_at labels p firsts seconds numbers)
        ≡ picked faces (touching_at labels p firsts seconds) (new_second_at labels p firsts seconds)
    seconds-are = picked-cong 0 faces _ _ _ second-same

  -- raised concentrations in a table, beside their definition
  module _ (volumes masses releases ys q : List ℕ) (long : rim < length ys)
      (written : q ≡ over (table cells (λ c. (get_or masses c 0 + get_or releases c 0) / get_or volumes c 0)) ys) where
    pub q-long : rim < length q
    q-long = rw written (omega (arith, length_over cells (λ c. (get_or masses c 0 + get_or releases c 0) / get_or volumes c 0) ys (omega (arith, j.few))))

    q-of : (c : ℕ) → c < cells → get_or q c 0 ≡ rounded volumes (raised cells masses releases) c
    unfolding rounded
    q-of c h = rw (written, raised_at cells masses releases c h) (get_d_over cells (λ c. (get_or masses c 0 + get_or releases c 0) / get_or volumes c 0) ys 0 c h)

    outside_same : (amounts : List ℤ) (values : List ℕ) (f : ℕ) → f < faces
        → outside_at labels p firsts seconds q amounts values f
        ≡ new_outside_at labels p firsts seconds (rounded volumes (raised cells masses releases)) amounts values f
    outside_same amounts values f l = go (eqb (get_or seconds f 0) rim) (same? (get_or seconds f 0) rim) (has_label labels p (get_or firsts f 0))
        (has_label labels p (get_or seconds f 0))
      where
        u : Bool → Bool
        u a = is_negative (turn (not a) (get_or amounts f (pos 0)))

        go : (r : Bool) → Same (get_or seconds f 0) rim r → (a b : Bool)
            → cond (not r && not (a && (not r && b))) (cond (u a) (get_or q (cond (not a) (get_or firsts f 0) (get_or seconds f 0)) 0) 0) (get_or values f 0)
            ≡ cond (not r && not (a && (not r && b))) (cond (u a)
            (rounded volumes (raised cells masses releases) (cond (not a) (get_or firsts f 0) (get_or seconds f 0))) 0) (get_or values f 0)
        go true s a b = refl
        go false (other d) true true = refl
        go false (other d) true false = rw (q-of (get_or seconds f 0) (j.second_in f l d))
        go false (other d) false b = rw (q-of (get_or firsts f 0) (j.first-in f l))

    pub outsides-are : (amounts : List ℤ) (values : List ℕ) → picked faces (touching_at labels p firsts seconds)
        (outside_at labels p firsts seconds q amounts values)
        ≡ picked faces (touching_at labels p firsts seconds) (new_outside_at labels p firsts seconds (rounded volumes (raised cells masses releases)) amounts
        values)
    outsides-are amounts values = picked-cong 0 faces _ _ _ (λ f l t. outside_same amounts values f l)
