-- Past a face without a correction, the amount is the correction cut as the limiter says, and what was asked of the limited correction holds of it.
use Rattle.std.proofs.Common.{ℕ, ◌≤◌, ◌/◌, ◌%◌, ◌≡◌, ◌≢◌, List, arith, eqb, ne_eqb}
use Rattle.signed.specs.Sign.{with_sign}
use Rattle.model.specs.Accepted.{max_carried}
use Rattle.model.proofs.Sizes.{portion-le}
use Rattle.step_face.specs.Correction.{over_sign}
use Rattle.step_cell.specs.Work.{of_cell, entering_in}
use Rattle.step_smoothing.specs.Corrections.{enters, leaves}
use Rattle.step_limiter.specs.Limiter.{cut_of, limited_of}
use Rattle.step_limiter.proofs.LimiterLaws.{no_cut, cut-done}
use Rattle.step_limiter.proofs.limit_face.Goals as goal

module _ (w : List ℕ) (code l k n : ℕ) (e : n ≡ cut_of w code (enters code l k) (leaves code l k)) where
  -- the amount is no more than the correction, and with its sign the limited one
  amount-small : code / over_sign ≤ max_carried → n ≤ max_carried
  amount-small h = let r = enters code l k in omega (arith, e, portion-le (code / over_sign) (of_cell w r 2) (entering_in w r), h)

  limited-is : code / over_sign ≢ 0 → limited_of w code l k ≡ with_sign (eqb (code % 2) 1) n
  unfolding limited_of
  limited-is d = rw (ne_eqb _ 0 d, e)

pub returns-then-size-eq0 : goal.returns-then-size-eq0
returns-then-size-eq0 c = no_cut _ _ _ _ _ _ _ c.if-size-eq0.true

pub add_at-requires : goal.add_at-requires
add_at-requires c =
    let e = rw (c.end_to-receiver.ensures, c.end_to-giver.ensures) at c.cut-amount.ensures in
    (c.requires.in_moved, omega (arith, c.requires.moved_most, amount-small _ _ _ _ _ e c.requires.size_most))

pub transfer-requires-clause-by_index : goal.transfer-requires-clause-by_index
transfer-requires-clause-by_index c =
    let e = rw (c.end_to-receiver.ensures, c.end_to-giver.ensures) at c.cut-amount.ensures in
    rw (limited-is _ _ _ _ _ e c.if-size-eq0.false) at c.requires.afford

pub transfer-requires-clause-by_index_2 : goal.transfer-requires-clause-by_index_2
transfer-requires-clause-by_index_2 c =
    let e = rw (c.end_to-receiver.ensures, c.end_to-giver.ensures) at c.cut-amount.ensures in
    rw (limited-is _ _ _ _ _ e c.if-size-eq0.false) at c.requires.room

pub returns : goal.returns
returns c =
    let e = rw (c.end_to-receiver.ensures, c.end_to-giver.ensures) at c.cut-amount.ensures in
    cut-done _ _ _ _ _ _ _ _ _ _ c.if-size-eq0.false e c.requires.in_moved c.transfer.ensures c.add_at.ensures
