-- The growers' board: the counted parts of the tables are the cells and the field that the records hold.
use borrow.Author.Rules.{rules}
use Rattle.host_answer.proofs.Answers.{refusal-of, answered-refused, answered-as}
use Rattle.host_answer.proofs.Small.{small-number}
use Rattle.host_field_promises.specs.Board.{shown_numbers}
use Rattle.host_tested.proofs.Small.{field-tested-small}
use Rattle.host_taking.proofs.Held.{untaken, volumes-fit, volumes_long, masses_fit, masses_long}
use Rattle.host_record_promises.proofs.Boards.{board-untaken, board-made, board-fits}
use Rattle.host_record_board.proofs.lagoon_board.Statement.{statement}
use Rattle.host_record_board.proofs.lagoon_board.Tie as tie

-- from where the counts are known back to the taking of the cells, and from there to the start
abbrev taking : tie.In-Ok → tie.After-take_cells-a
taking k = k.before.before.before

abbrev start : tie.After-take_cells-a → tie.Start
start t = t.before.before.before.before.before.before

number-of-requires : tie.Need-number_of-requires
number-of-requires c κs =
    let t = c.before.before.before in
    let a = (start t).args in
    refusal-of (untaken a.mesh.now a.field.now t.take_cells-a.ensures.answer c.in-Err.is)
    (small-number _ (field-tested-small a.mesh.now a.field.now))

answered-requires : tie.Need-answered-requires
answered-requires c κs =
    let k = c.before.before.before.before in
    let a = (start (taking k)).args in
    rw (board-made a.mesh.now a.field.now (taking k).take_cells-a.ensures k.in-Ok.is c.before.board-shown.ensures)
    (board-fits a.mesh.now a.field.now)

returns : tie.Need-returns-in-Err
returns c =
    let t = c.before.before.before.before in
    let a = (start t).args in
    let e = untaken a.mesh.now a.field.now t.take_cells-a.ensures.answer c.before.in-Err.is in
    answered-refused shown_numbers a.found.now (board-untaken a.mesh.now a.field.now e) c.number_of.ensures

returns-2 : tie.Need-returns-in-Ok
returns-2 c =
    let board = c.before.before.before.before in
    let k = board.before.before.before in
    let a = (start (taking k)).args in
    answered-as shown_numbers a.found.now
    (board-made a.mesh.now a.field.now (taking k).take_cells-a.ensures k.in-Ok.is board.board-shown.ensures)
    c.before.before.answered.ensures

pub lagoon_board_spec : {M : Type 1} → statement M
lagoon_board_spec =
    tie.close
    (tie.spec (search rules) (search rules) (search rules) (search rules) number-of-requires (search rules)
    (λ c. let k = c in volumes-fit _ _ (taking k).take_cells-a.ensures k.in-Ok.is)
    (λ c. let k = c.before in volumes_long _ _ (taking k).take_cells-a.ensures k.in-Ok.is)
    (λ c. let k = c.before in masses_fit _ _ (taking k).take_cells-a.ensures k.in-Ok.is)
    (λ c. let k = c.before.before in masses_long _ _ (taking k).take_cells-a.ensures k.in-Ok.is)
    (search rules) answered-requires returns (search rules) returns-2)
