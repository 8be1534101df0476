-- The fifth pass, face by face: limited corrections join the moved masses and the next masses.
use Prim.Native.Nat.{ℕ, ◌+◌, ◌*◌, ◌/◌, ◌%◌, ◌^◌, ◌≤◌, ◌<◌}
use mathlib.Core.Path.{◌≡◌, refl, ◌∙◌}
use mathlib.Core.Logic.{◌≢◌}
use mathlib.Core.Bool.{Bool, true, false, cond}
use mathlib.Core.List.{List}
use native.Mathlib.Nat.{le_trans}
use native.Mathlib.Omega.{arith}
use borrow.Author.Count.{below_none, below_more}
use borrow.Author.Tests.{eq-eqb, ne_eqb}
use lib.Dec.{eqb}
use lib.IntN.{ℤ, pos, ◌+ℤ◌, +ℤ_idr}
use lib.ListN.{length, get_or, set, length-set}
use Rattle.signed.specs.Sign.{is_negative, with_sign}
use Rattle.signed.proofs.Laws.{negative-with_sign, size-zero}
use Rattle.lists.proofs.Tests.{Same, same, other, same?, cond_same}
use Rattle.lists.proofs.Tables.{get_d_set}
use Rattle.model.specs.Mesh.{Mesh, first, second, incoming, outgoing}
use Rattle.model.specs.Step.{receiver, giver, limited_by}
use Rattle.model.proofs.Limit.{incoming-limited, outgoing-limited, limited-zero}
use Rattle.step_face.specs.Exchange.{Transferred}
use Rattle.step_face.proofs.Flows.{flow-start, flow-afford, flow-room, flow-turn}
use Rattle.step_cell.specs.Work.{of_cell}
use Rattle.step_cell.proofs.Places.{cell_in}
use Rattle.step_smoothing.specs.Corrections.{enters, leaves, corrections}
use Rattle.step_limiter.specs.Limiter.{cut_of, limited_of, limited_in, CutAsks, CutDone, LimitAsks, Limited}
use Rattle.step_smoothing.proofs.CorrectionLaws.{code, size_is, inside, enters-in, leaves_in}
use Rattle.step_face.specs.Correction.{over_sign}

pub limited-start : (M : Mesh) (work next : List ℕ) (moved : List ℤ) → length next ≡ M.cells → Limited M work next moved 0 next moved
limited-start M work next moved e =
    record {
      flowing = flow-start M (limited_in M work) (λ c. get_or next c 0) next e (λ c h. refl);
      moved_long = refl;
      moved_at = below_none _;
      moved_rest =
          λ g h. refl;
    }

-- of a face without a correction nothing is asked and nothing moves
pub no_cut : (f l k code : ℕ) (work next : List ℕ) (moved : List ℤ) → code / over_sign ≡ 0 → CutDone f l k code work next next moved moved
unfolding limited_of
no_cut f l k code work next moved e = record {
  flowed = rw (eq-eqb (code / over_sign) 0 e)
      (record { same_length = refl; at = λ c h. omega (arith, cond_same {A = ℕ} (eqb l c) 0, cond_same {A = ℕ} (eqb k c) 0) });
  moved_long = refl;
  moved_at = λ g. rw (eq-eqb (code / over_sign) 0 e, +ℤ_idr (get_or moved f (pos 0))) (either g (eqb f g) (same? f g));
}
  where
    either : (g : ℕ) (b : Bool) → Same f g b → get_or moved g (pos 0) ≡ cond b (get_or moved f (pos 0)) (get_or moved g (pos 0))
    either g true (same e) = rw e
    either g false o = refl

-- a correction cut
pub cut-done : (f l k code : ℕ) (work next next' : List ℕ) (moved moved' : List ℤ) (n : ℕ) → code / over_sign ≢ 0 → n
    ≡ cut_of work code (enters code l k) (leaves code l k) → f < length moved
    → Transferred next l k (with_sign (eqb (code % 2) 1) n) next' → moved' ≡ set moved f (get_or moved f (pos 0) +ℤ with_sign (eqb (code % 2) 1) n)
    → CutDone f l k code work next next' moved moved'
unfolding limited_of
cut-done f l k code work next next' moved moved' n d e h t q =
    let z-is : limited_of work code l k ≡ with_sign (eqb (code % 2) 1) n = rw (ne_eqb (code / over_sign) 0 d, e) in
    record {
      flowed = rw z-is t;
      moved_long = rw q (length-set moved f _);
      moved_at = λ g. rw (q, z-is) (get_d_set moved f g (get_or moved f (pos 0) +ℤ with_sign (eqb (code % 2) 1) n) (pos 0) h);
    }

positive : (n : ℕ) → n ≢ 0 → 0 < n
positive n d = omega arith

module _ (M : Mesh) (work next₀ : List ℕ) (moved₀ : List ℤ) (asks : LimitAsks M next₀ moved₀ work) (f : ℕ) (h : f < M.faces)
    (next : List ℕ) (moved : List ℤ) (s : Limited M work next₀ moved₀ f next moved) where
  abbrev k : ℕ
  k = code M work asks.coded_in f h

  abbrev to : ℕ
  to = enters k (first M f) (second M f)

  abbrev from : ℕ
  from = leaves k (first M f) (second M f)

  to_in : k / over_sign ≢ 0 → to < M.cells
  to_in = enters-in M work asks.coded_in f h

  from_in : k / over_sign ≢ 0 → from < M.cells
  from_in = leaves_in M work asks.coded_in f h

  sign-is : k / over_sign ≢ 0 → is_negative (corrections M.cells work f) ≡ eqb (k % 2) 1
  sign-is d = negative-with_sign (eqb (k % 2) 1) (k / over_sign) (positive (k / over_sign) d)

  cut-is : k / over_sign ≢ 0 → limited_in M work f ≡ with_sign (eqb (k % 2) 1) (cut_of work k to from)
  unfolding limited_by receiver giver
  cut-is d = rw (sign-is d, size_is M work asks.coded_in f h, asks.p_is to (to_in d), asks.n_is from (from_in d))

  lim_is : limited_in M work f ≡ limited_of work k (first M f) (second M f)
  unfolding limited_of
  lim_is = go (eqb (k / over_sign) 0) (same? (k / over_sign) 0)
    where
      go : (b : Bool) → Same (k / over_sign) 0 b → limited_in M work f ≡ cond b (pos 0) (with_sign (eqb (k % 2) 1) (cut_of work k to from))
      go true (same e) = limited-zero M _ _ (corrections M.cells work) f
          (size-zero (corrections M.cells work f) (size_is M work asks.coded_in f h ∙ e))
      go false (other d) = cut-is d

  afford : (c : ℕ) → c < M.cells → outgoing M (limited_in M work) c ≤ get_or next₀ c 0
  afford c l = le_trans (outgoing-limited M _ _ (corrections M.cells work) c) (asks.loss_most c l)

  room : (c : ℕ) → c < M.cells → get_or next₀ c 0 + incoming M (limited_in M work) c < 2 ^ 64
  room c l = omega (
    arith,
    incoming-limited M (λ c. of_cell work c 2) (λ c. of_cell work c 1) (corrections M.cells work) c,
    asks.gain_most c l,
    asks.next_most c l,
  )

  slots-in : {c : ℕ} → c < M.cells → 4 * c + 3 < length work
  slots-in {c} l = cell_in c M.cells M.faces (length work) l asks.coded_in.work_long

  pub cut-asks : CutAsks f (first M f) (second M f) k next moved work
  cut-asks = record {
    ends = rw s.flowing.long (asks.coded_in.ends f h);
    inside = λ d.
        let i = inside M work asks.coded_in f h d in
        (slots-in i.0, slots-in i.1, omega (arith, asks.coded_in.few_cells), omega (arith, asks.coded_in.few_cells));
    size_most = rw (size_is M work asks.coded_in f h) at (asks.coded_in.size_most f h);
    in_moved = rw (s.moved_long, asks.moved_long) h;
    moved_most = rw (s.moved_rest f (omega arith)) (asks.moved_most f h);
    afford = rw (← lim_is, s.flowing.long) (flow-afford M (limited_in M work) (λ c. get_or next₀ c 0) f h next s.flowing afford);
    room = rw (← lim_is, s.flowing.long) (flow-room M (limited_in M work) (λ c. get_or next₀ c 0) f h next s.flowing (2 ^ 64) room);
  }

  pub limited-turn : (next' : List ℕ) (moved' : List ℤ) → CutDone f (first M f) (second M f) k work next next' moved moved'
      → Limited M work next₀ moved₀ (f + 1) next' moved'
  limited-turn next' moved' d = record {
    flowing = flow-turn M (limited_in M work) (λ c. get_or next₀ c 0) f h next s.flowing next' (rw lim_is d.flowed);
    moved_long = d.moved_long ∙ s.moved_long;
    moved_at = below_more (λ g. get_or moved' g (pos 0) ≡ get_or moved₀ g (pos 0) +ℤ limited_in M work g) f
        (λ g l. d.moved_at g ∙ rw (ne_eqb f g (λ (e : f ≡ g). omega arith)) (s.moved_at g l))
        (d.moved_at f ∙ rw (eq-eqb f f refl, s.moved_rest f (omega arith), lim_is));
    moved_rest = λ g l. d.moved_at g ∙ rw (ne_eqb f g (λ (e : f ≡ g). omega arith)) (s.moved_rest g (omega arith));
  }
