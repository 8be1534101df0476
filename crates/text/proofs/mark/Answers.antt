-- One letter appended.
use Rattle.text.specs.Lines.{mark}
use Rattle.text.proofs.mark.Goals as goal

pub returns : goal.returns
unfolding mark
returns c = c.append.ensures
