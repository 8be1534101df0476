-- A refusal is told by its number; else the board is found.
use Rattle.std.proofs.Common.{ap}
use Rattle.model.specs.Answers.{said}
use Rattle.host_answer.proofs.Answers.{refusal-of, answered-refused, answered-found}
use Rattle.host_field_promises.specs.Board.{shown_numbers}
use Rattle.host_field_promises.proofs.Boards.{board-refused, board-shown}
use Rattle.host_board.proofs.answered.Goals as goal

pub number_of-requires : goal.number_of-requires
number_of-requires c =
    let a = c.args.answer in
    refusal-of (board-refused a.verdict (record { used = a.used; entries = a.entries }) (ap said c.in-Err.is)) c.requires

pub returns-in-Err : goal.returns-in-Err
returns-in-Err c =
    let a = c.args.answer in
    answered-refused shown_numbers _ (board-refused a.verdict (record { used = a.used; entries = a.entries }) (ap said c.in-Err.is)) c.number_of.ensures

pub returns : goal.returns
returns c =
    let a = c.args.answer in
    answered-found shown_numbers _ (board-shown a.verdict (record { used = a.used; entries = a.entries }) (ap said c.in_default.is)) c.fill_board.ensures
