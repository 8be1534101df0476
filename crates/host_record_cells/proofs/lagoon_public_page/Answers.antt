-- What the public page answers is small.
use Rattle.std.proofs.Common.{arith, length}
use Rattle.host_record_promises.proofs.Pages.{public-fits}
use Rattle.host_record_cells.proofs.lagoon_public_page.Goals as goal

pub page_answered-requires : goal.page_answered-requires
page_answered-requires c =
    rw c.public_page_of-answer.ensures.answer
    (public-fits c.args.mesh.now c.args.field.now c.args.page (omega arith) c.args.marks.now (length c.args.bytes.now))
