-- What the page answers is small.
use Rattle.std.proofs.Common.{arith, length}
use Rattle.host_record_promises.proofs.Pages.{page-fits}
use Rattle.host_record_cells.proofs.lagoon_page.Goals as goal

pub page_answered-requires : goal.page_answered-requires
page_answered-requires c =
    rw c.page_of-answer.ensures.answer
    (page-fits c.args.mesh.now c.args.field.now c.args.page (omega arith) (length c.args.bytes.now))
