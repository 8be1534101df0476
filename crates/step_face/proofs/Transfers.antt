-- Masses after an amount has passed through a face, from its giver to its receiver.
use Prim.Native.Nat.{ℕ, ◌+◌, ◌-◌, ◌^◌, ◌≤◌, ◌<◌}
use mathlib.Core.Path.{◌≡◌, refl, sym, ap, ◌∙◌}
use mathlib.Core.Logic.{◌≢◌}
use mathlib.Core.Bool.{Bool, true, false, cond}
use mathlib.Core.List.{List}
use native.Mathlib.Omega.{arith}
use borrow.Author.Tests.{ne_eqb}
use lib.Dec.{eqb}
use lib.IntN.{ℤ}
use lib.ListN.{length, get_or, set, length-set}
use Rattle.signed.specs.Sign.{forward, backward, with_sign}
use Rattle.signed.proofs.Laws.{forward-with_sign, backward-with_sign}
use Rattle.lists.proofs.Tests.{Same, same, same?, cond_same, own, apart}
use Rattle.lists.proofs.Tables.{get_d_set}
use Rattle.model.specs.Mesh.{rim}
use Rattle.step_face.specs.Exchange.{brings, takes, Lost, Gained, Transferred, EndsIn}

-- one entry with more, one with less
pub more-at : (xs : List ℕ) (r n c : ℕ) → r < length xs → get_or (set xs r (get_or xs r 0 + n)) c 0 ≡ get_or xs c 0 + cond (eqb r c) n 0
more-at xs r n c h = get_d_set xs r c _ 0 h ∙ go (eqb r c) (same? r c)
  where
    go : (b : Bool) → Same r c b → cond b (get_or xs r 0 + n) (get_or xs c 0) ≡ get_or xs c 0 + cond b n 0
    go true (same e) = rw e
    go false o = omega arith

less-at : (xs : List ℕ) (g n c : ℕ) → g < length xs → n ≤ get_or xs g 0 → get_or (set xs g (get_or xs g 0 - n)) c 0 + cond (eqb g c) n 0 ≡ get_or xs c 0
less-at xs g n c h k = rw (get_d_set xs g c (get_or xs g 0 - n) 0 h) (go (eqb g c) (same? g c))
  where
    go : (b : Bool) → Same g c b → cond b (get_or xs g 0 - n) (get_or xs c 0) + cond b n 0 ≡ get_or xs c 0
    go true (same e) = let d : get_or xs g 0 ≡ get_or xs c 0 = ap (λ (i : ℕ). get_or xs i 0) e in omega arith
    go false o = omega arith

-- an amount comes from its giver and goes to its receiver
pub brings-is : (p : Bool) (l k n c : ℕ) → brings l k (with_sign p n) c ≡ cond (eqb (cond p l k) c) n 0
brings-is true l k n c = rw (forward-with_sign true n, backward-with_sign true n) (omega (arith, cond_same {A = ℕ} (eqb k c) 0))
brings-is false l k n c = omega (arith, cond_same {A = ℕ} (eqb l c) 0)

pub takes-is : (p : Bool) (l k n c : ℕ) → takes l k (with_sign p n) c ≡ cond (eqb (cond p k l) c) n 0
takes-is true l k n c = rw (forward-with_sign true n, backward-with_sign true n) (omega (arith, cond_same {A = ℕ} (eqb l c) 0))
takes-is false l k n c = omega (arith, cond_same {A = ℕ} (eqb k c) 0)

-- the rim is no entry of the table
module _ (xs : List ℕ) (few : length xs ≤ rim) (e : ℕ) (n : ℕ) where
  over-rim : e ≡ rim → (c : ℕ) → c < length xs → cond (eqb e c) n 0 ≡ 0
  over-rim d c h = apart e c n (λ (q : e ≡ c). omega arith)

  pub none-lost : e ≡ rim → Lost xs e n xs
  none-lost d = record { same_length = refl; at = λ c h. omega (arith, over-rim d c h) }

  pub none-gained : e ≡ rim → Gained xs e n xs
  none-gained d = record { same_length = refl; at = λ c h. omega (arith, over-rim d c h) }

pub one-lost : (xs : List ℕ) (g n : ℕ) → (g < length xs) × (n ≤ get_or xs g 0) → Lost xs g n (set xs g (get_or xs g 0 - n))
one-lost xs g n h = record { same_length = length-set xs g _; at = λ c l. less-at xs g n c h.0 h.1 }

pub one-gained : (xs : List ℕ) (r n : ℕ) → (r < length xs) × (get_or xs r 0 + n < 2 ^ 64) → Gained xs r n (set xs r (get_or xs r 0 + n))
one-gained xs r n h = record { same_length = length-set xs r _; at = λ c l. more-at xs r n c h.0 }

pub transferred : (xs : List ℕ) (l k : ℕ) (p : Bool) (n : ℕ) (ys zs : List ℕ) → Lost xs (cond p k l) n ys → Gained ys (cond p l k) n zs
    → Transferred xs l k (with_sign p n) zs
transferred xs l k p n ys zs t u = record {
  same_length = u.same_length ∙ t.same_length;
  at = λ c h. omega (arith, u.at c (rw t.same_length h), t.at c h, brings-is p l k n c, takes-is p l k n c);
}

-- nothing passes
pub none-transferred : (xs : List ℕ) (l k : ℕ) (p : Bool) → Transferred xs l k (with_sign p 0) xs
none-transferred xs l k p = transferred xs l k p 0 xs xs
    (record { same_length = refl; at = λ c h. omega (arith, cond_same {A = ℕ} (eqb (cond p k l) c) 0) })
    (record { same_length = refl; at = λ c h. omega (arith, cond_same {A = ℕ} (eqb (cond p l k) c) 0) })

-- an amount goes out over the rim, or comes in
pub transferred-out : (xs : List ℕ) (l n : ℕ) (ys : List ℕ) → length xs ≤ rim → Lost xs l n ys → Transferred xs l rim (with_sign false n) ys
transferred-out xs l n ys few t = transferred xs l rim false n ys ys t (none-gained ys (rw t.same_length few) rim n refl)

pub transferred-in : (xs : List ℕ) (l n : ℕ) (ys : List ℕ) → length xs ≤ rim → Gained xs l n ys → Transferred xs l rim (with_sign true n) ys
transferred-in xs l n ys few t = transferred xs l rim true n xs ys (none-lost xs few rim n refl) t

-- what the cell at the rim can afford, and has room for
pub affords-out : (xs : List ℕ) (l k n : ℕ) → l < length xs → ((c : ℕ) → c < length xs → takes l k (with_sign false n) c ≤ get_or xs c 0) → n ≤ get_or xs l 0
affords-out xs l k n h afford = omega (arith, takes-is false l k n l, own l n, afford l h)

pub has-room-in : (xs : List ℕ) (l k n : ℕ) → l < length xs → ((c : ℕ) → c < length xs → get_or xs c 0 + brings l k (with_sign true n) c < 2 ^ 63)
    → get_or xs l 0 + n < 2 ^ 64
has-room-in xs l k n h room = omega (arith, brings-is true l k n l, own l n, room l h)

module _ (xs : List ℕ) (l k : ℕ) (p : Bool) (n : ℕ) (ends : EndsIn (length xs) l k)
    (afford : (c : ℕ) → c < length xs → takes l k (with_sign p n) c ≤ get_or xs c 0)
    (room : (c : ℕ) → c < length xs → get_or xs c 0 + brings l k (with_sign p n) c < 2 ^ 64) (inside : k ≢ rim) where
  abbrev giver : ℕ
  giver = cond p k l

  abbrev receiver : ℕ
  receiver = cond p l k

  giver-in : giver < length xs
  giver-in = go p
    where
      go : (b : Bool) → cond b k l < length xs
      go true = ends.second_in inside
      go false = ends.first-in

  receiver-in : receiver < length xs
  receiver-in = go p
    where
      go : (b : Bool) → cond b l k < length xs
      go true = ends.first-in
      go false = ends.second_in inside

  pub giver-affords : (giver < length xs) × (n ≤ get_or xs giver 0)
  giver-affords = (giver-in, omega (arith, afford giver giver-in, takes-is p l k n giver, own giver n))

  pub receiver-has-room : (ys : List ℕ) → Lost xs giver n ys → (receiver < length ys) × (get_or ys receiver 0 + n < 2 ^ 64)
  receiver-has-room ys t =
      rw t.same_length (receiver-in, omega (arith, t.at receiver receiver-in, room receiver receiver-in, brings-is p l k n receiver, own receiver n))

-- an amount of either sign: the first cell has so much less, then the second so much more
module _ (xs : List ℕ) (l k : ℕ) (z : ℤ) (ends : EndsIn (length xs) l k) (inside : k ≢ rim) where
  other-end : eqb l k ≡ false
  other-end = ne_eqb l k ends.apart

  back_end : eqb k l ≡ false
  back_end = ne_eqb k l (λ (e : k ≡ l). ends.apart (sym e))

  pub first-affords : ((c : ℕ) → c < length xs → takes l k z c ≤ get_or xs c 0) → ((c : ℕ) → c < length xs → get_or xs c 0 + brings l k z c < 2 ^ 63)
      → (forward z ≤ get_or xs l 0) × (get_or xs l 0 + backward z < 2 ^ 63)
  first-affords afford room = (
    omega (arith, afford l ends.first-in, own l (forward z)),
    omega (arith, room l ends.first-in, own l (backward z)),
  )

  module _ (left : ℕ) where
    abbrev met : List ℕ
    met = set xs l left

    second-stays : get_or met k 0 ≡ get_or xs k 0
    second-stays = get_d_set xs l k left 0 ends.first-in ∙ ap (λ (b : Bool). cond b left (get_or xs k 0)) other-end

    pub second-in-met : k < length met
    second-in-met = rw (length-set xs l left) (ends.second_in inside)

    pub second-affords : ((c : ℕ) → c < length xs → takes l k z c ≤ get_or xs c 0) → ((c : ℕ) → c < length xs → get_or xs c 0 + brings l k z c < 2 ^ 63)
        → (backward z ≤ get_or met k 0) × (get_or met k 0 + forward z < 2 ^ 63)
    second-affords afford room =
        rw second-stays (
          omega (arith, afford k (ends.second_in inside), own k (backward z)),
          omega (arith, room k (ends.second_in inside), own k (forward z)),
        )

    pub passed : (grown : ℕ) → left + forward z ≡ get_or xs l 0 + backward z → grown + backward z ≡ get_or met k 0 + forward z
        → Transferred xs l k z (set met k grown)
    passed grown d e = record {
      same_length = length-set met k grown ∙ length-set xs l left;
      at = λ c h. rw (get_d_set met k c grown 0 second-in-met, get_d_set xs l c left 0 ends.first-in) (go c (eqb l c) (same? l c) (eqb k c) (same? k c));
    }
      where
        go : (c : ℕ) (p : Bool) → Same l c p → (q : Bool) → Same k c q
            → cond q grown (cond p left (get_or xs c 0)) + (cond p (forward z) 0 + cond q (backward z) 0)
            ≡ get_or xs c 0 + (cond q (forward z) 0 + cond p (backward z) 0)
        go c true (same i) true (same j) = absurd (ends.apart (i ∙ sym j))
        go c true (same i) false o = let f : get_or xs l 0 ≡ get_or xs c 0 = ap (λ (n : ℕ). get_or xs n 0) i in omega arith
        go c false o true (same j) = let f : get_or xs k 0 ≡ get_or xs c 0 = ap (λ (n : ℕ). get_or xs n 0) j in omega (arith, second-stays)
        go c false o false u = omega arith
