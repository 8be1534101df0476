-- One face of the second pass, from what its calls have done.
use Prim.Native.Nat.{ℕ, ◌+◌, ◌*◌, ◌≤◌}
use mathlib.Core.Path.{◌≡◌, refl, sym, ap, ◌∙◌}
use mathlib.Core.Logic.{◌≢◌}
use mathlib.Core.Bool.{true, false}
use mathlib.Core.List.{List}
use native.Mathlib.Nat.{zero-mul}
use native.Mathlib.Omega.{arith}
use borrow.Author.Tests.{eq-eqb, ne_eqb}
use lib.IntN.{ℤ, pos}
use lib.ListN.{length, set}
use mir.Syntax.{w64}
use mir.Val.{SFits, to_z, of_z}
use mir.ValLaws.{to_z-of_z}
use Rattle.signed.specs.Sign.{size, is_negative, with_sign}
use Rattle.signed.proofs.Laws.{with_sign-of, size-with_sign, size-zero}
use Rattle.model.specs.Mesh.{rim}
use Rattle.step_face.specs.Correction.{decoded, correction_of}
use Rattle.step_face.specs.Exchange.{Transferred, Lost, Gained}
use Rattle.step_face.proofs.Corrections.{correction_none}
use Rattle.step_face.proofs.Transfers.{none-transferred, transferred-in, transferred-out}
use Rattle.step_cell.specs.Work.{widened as widened_by, widened_across}
use Rattle.step_cell.proofs.BoundLaws.{across-still, across-inside, across-in, across-out}
use Rattle.step_carrying_face.specs.OneFace.{carried_by, FaceAsks, FaceDone}

-- one face's calls: water that comes in over the rim, water that goes out, water inside, and no water
pub in-done : (f l a o n u : ℕ) (next next' : List ℕ) (moved moved' : List ℤ) (work met work' : List ℕ) → u ≢ 0 → length next ≤ rim
    → Gained next l (u * o) next' → moved' ≡ set moved f (with_sign true (u * o)) → met ≡ widened_by work l o → work' ≡ set met (4 * n + f) 0
    → FaceDone f l rim 0 0 a o n (u * o) (with_sign true u) (with_sign true (u * o)) next next' moved moved' work work'
in-done f l a o n u next next' moved moved' work met work' h few t m w q = record {
  amount = sym (size-with_sign true (u * o));
  flowed = transferred-in next l (u * o) next' few t;
  carries = m;
  code = 0;
  code_is = refl;
  worked = rw (q, w, across-in work l rim a o u h refl);
}

pub out-done : (f l a o n u : ℕ) (next next' : List ℕ) (moved moved' : List ℤ) (work work' : List ℕ) → length next ≤ rim
    → Lost next l (u * a) next' → moved' ≡ set moved f (with_sign false (u * a)) → work' ≡ set work (4 * n + f) 0
    → FaceDone f l rim 0 0 a o n (u * a) (with_sign false u) (with_sign false (u * a)) next next' moved moved' work work'
out-done f l a o n u next next' moved moved' work work' few t m q = record {
  amount = sym (size-with_sign false (u * a));
  flowed = transferred-out next l (u * a) next' few t;
  carries = m;
  code = 0;
  code_is = refl;
  worked = rw (q, across-out work l rim a o u refl);
}

pub wet-done : (f l k s r a b n c : ℕ) (z y : ℤ) (next next' : List ℕ) (moved moved' : List ℤ) (work met both work' : List ℕ) → k ≢ rim → size z ≢ 0
    → y ≡ carried_by z a b → Transferred next l k y next' → moved' ≡ set moved f y → met ≡ widened_by work l b → both ≡ widened_by met k a
    → decoded c ≡ correction_of z a b s r → work' ≡ set both (4 * n + f) c
    → FaceDone f l k s r a b n (size (carried_by z a b)) z (carried_by z a b) next next' moved moved' work work'
wet-done f l k s r a b n c z y next next' moved moved' work met both work' i h y-is t m w x d q = record {
  amount = refl;
  flowed = rw y-is at t;
  carries = rw y-is at m;
  code = c;
  code_is = rw (ne_eqb k rim i) d;
  worked =
      let e : widened_across work l k z a b ≡ widened_by (widened_by work l b) k a =
      ap (λ (y : ℤ). widened_across work l k y a b) (sym (with_sign-of z)) ∙ across-inside work l k a b (is_negative z) (size z) h i in
      rw (q, x, w, e);
}

pub still-done : (f l k s r a b n : ℕ) (z : ℤ) (next : List ℕ) (moved moved' : List ℤ) (work work' : List ℕ) → k ≢ rim → z ≡ pos 0
    → moved' ≡ set moved f (pos 0) → work' ≡ set work (4 * n + f) 0
    → FaceDone f l k s r a b n (size (carried_by z a b)) z (carried_by z a b) next next moved moved' work work'
still-done f l k s r a b n z next moved moved' work work' i e m q = record {
  amount = refl;
  flowed = rw (e, zero-mul a) (none-transferred next l k false);
  carries = rw (e, zero-mul a) m;
  code = 0;
  code_is = rw (ne_eqb k rim i, e, correction_none (pos 0) a b s r refl);
  worked = rw (e, across-still work l k a b false) q;
}

-- a flux of 0 is the word 0
pub still-flux : (z : ℤ) → SFits w64 z → of_z w64 z ≡ 0 → z ≡ pos 0
still-flux z f e = sym (to_z-of_z w64 z f) ∙ ap (to_z w64) e

pub some-flux : (z : ℤ) → of_z w64 z ≢ 0 → size z ≢ 0
some-flux z h e = h (ap (of_z w64) (size-zero z e))

-- at the rim neither share nor reach counts
pub rim-asks : (f l k u s r a b n : ℕ) (z : ℤ) (next : List ℕ) (moved : List ℤ) (work : List ℕ) → k ≡ rim
    → FaceAsks f l k u s r a b n z next moved work → FaceAsks f l rim u 0 0 a b n z next moved work
rim-asks f l k u s r a b n z next moved work e h = record {
  ends = rw e at h.ends;
  next_long = h.next_long;
  in_moved = h.in_moved;
  in_work = h.in_work;
  first_most = h.first_most;
  beyond_most = h.beyond_most;
  size_most = h.size_most;
  within_reach = λ d. absurd (d refl);
  share_most = omega arith;
  reach_some = λ d. absurd (d refl);
  reach_most = omega arith;
  afford = rw e at h.afford;
  room = rw e at h.room;
}

pub rim-done : (f l k s r a b n m : ℕ) (u z : ℤ) (next next' : List ℕ) (moved moved' : List ℤ) (work work' : List ℕ) → k ≡ rim
    → FaceDone f l rim 0 0 a b n m u z next next' moved moved' work work' → FaceDone f l k s r a b n m u z next next' moved moved' work work'
rim-done f l k s r a b n m u z next next' moved moved' work work' e d = record {
  amount = d.amount;
  flowed = rw e d.flowed;
  carries = d.carries;
  code = d.code;
  code_is = rw (eq-eqb k rim e) d.code_is;
  worked = rw e d.worked;
}
