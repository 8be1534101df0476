-- The passes work on the counted parts; what they leave is written over the front of the lent tables.
use Rattle.std.proofs.Common.{refl}
use Rattle.lists.proofs.Tables.{over-part}
use Rattle.transport.proofs.advance.Goals as goal

pub returns : goal.returns
returns c =
    let a = c.advance_whole.ensures in
    record {
      entered_is = a.entered_is;
      gone_is = a.gone_is;
      next_is = over-part _ _ _ _ refl a.next_is;
      moved_is = over-part _ _ _ _ refl a.moved_is;
      work_is = λ e. over-part _ _ _ _ refl (a.work_is e);
    }
