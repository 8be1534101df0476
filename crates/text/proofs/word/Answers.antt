-- A column as wide as the number is the number alone (`word-is`).
use Rattle.text.proofs.Columns.{word-is}
use Rattle.text.proofs.word.Goals as goal

pub returns : goal.returns
returns c = rw (word-is c.args.n c.args.after) at c.column.ensures
