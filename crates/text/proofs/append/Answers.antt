-- The bytes copied are those that there is room for; the law `appended` says what is lent afterwards.
use Rattle.std.proofs.Common.{◌≡◌, length, take, length-take, arith}
use Rattle.text.proofs.Lines.{appended}
use Rattle.text.proofs.append.Goals as goal

pub returns : goal.returns
returns c =
    let start = c.args in
    let count = c.least-count.result in
    let all : length (take count start.bytes.now) ≡ count = simp length-take (omega arith) in
    appended start.lent.now start.at c.least-start.result count start.bytes.now c.least-start.ensures
    c.least-count.ensures _ all c.copy.ensures
