-- Each kind of a step by that of its narrow record.
use borrow.Author.Rules.{rules}
use Rattle.record_layouts.proofs.kind_number.Statement.{statement}
use Rattle.record_layouts.proofs.kind_number.Tie as tie

returns : tie.Need-returns-in-Water
returns c = rw c.before.in-Water.is c.of_width.ensures

returns-2 : tie.Need-returns-in-Outfalls
returns-2 c = rw c.before.in-Outfalls.is c.of_width-in-Outfalls.ensures

pub kind_number_spec : {M : Type 1} → statement M
kind_number_spec = tie.close (tie.spec (search rules) (search rules) (search rules) (search rules) returns returns-2)
