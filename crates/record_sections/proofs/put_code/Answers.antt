-- Below 2^width there is the size, and the sign is whether there is more.
use Rattle.record_sections.specs.Codes.{coded}
use Rattle.record_sections.proofs.put_code.Goals as goal

pub returns : goal.returns
unfolding coded
returns c = rw (c.put.ensures, c.pow2-unit.ensures)
