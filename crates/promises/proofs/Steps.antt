-- DEMAND 3, proved for every mesh, every first field and every list of step calls as they were made. Its parts are defined in
-- specs/Steps.antt and, for calls of any kind, in model/specs/Calls.antt (`ListClaim`).
--
-- In plain words: take any mesh that causes 1 to 5 accept, any first field that 2 and 6 accept, and any list of calls that were made one after
-- another, each lent the mesh and the field as the one before it left them, and each keeping the contract of its function: `step`, corrected or
-- plain, and `judge` with any other tables, from Rattle or from C; `take_step` with any bytes as step record; `lagoon_step`,
-- `lagoon_plain_step` and `lagoon_judge` with any bytes as step record, any claim and any bytes lent for the next field, and with a mesh and a
-- field record of one width that hold the mesh and the field, whichever records these are; the next call may bring records of the other
-- width. Then
--   budget           the total of the last field, plus all that the accepted calls answered as out-mass, is the total of the first field plus
--                    all that they answered as in-mass and as released mass; a refused call counts nothing and leaves the field as it was;
--   each-call        after each accepted call every cell's concentration lies between the least and the greatest that stood in its
--                    neighbourhood before that call, once its releases were added; a next field record holds the field, so that the next
--                    call can be lent it; a host that asks is told the in-, out- and released mass that the budget counts; a refused call
--                    has left the tables and the bytes that it was to write as they were;
--   field-accepted   the last field is accepted again, so that the list may go on.
use Prim.Native.Nat.{ℕ}
use mathlib.Core.Path.{◌≡◌}
use mathlib.Core.List.{List}
use Rattle.model.specs.Mesh.{Mesh}
use Rattle.model.specs.Causes.{Outcome, accepted, refused, fine, mesh_verdict, field_verdict}
use Rattle.model.specs.Calls.{Left, judged, stepping}
use Rattle.model.proofs.Lists.{Fair, Owes, list-claim}
use Rattle.model.proofs.Claims.{judged-keeping}
use Rattle.model.proofs.Figures.{Figures, figures}
use Rattle.transport.specs.Promise.{scheme_of}
use Rattle.transport.proofs.Promises.{way-keeping}
use Rattle.host_answer.proofs.Tables.{verdict-small, claim-small}
use Rattle.promises.specs.Steps.{StepCall, by_step, by_judge, by_take_step, by_host, by_host_plain, by_host_judge, by_table_step, by_table_judge, came_to, StepContract, StepOwed, Demand3}
use Rattle.promises.proofs.OnTables.{made-fair, made-refused, as_step, as-step}
use Rattle.promises.proofs.OnTaking.{run-fair, run-refused}
use Rattle.promises.proofs.Hosts.{host-fair, host-refused, plain-fair, plain-refused, judge-fair, judge-refused}
use Rattle.promises.proofs.FromC.{table-fair, table-refused, step-refused}

-- the bounds alone are owed of calls that leave no record
bounds-alone : {M : Mesh} {P : Type 0} {field : List ℕ} {l : Left} → Fair M P field l → Fair M (P × Unit {0}) field l
bounds-alone f = record { budget = f.budget; holds = (f.holds, tt); field_accepted = f.field_accepted }

module _ (M : Mesh) (mesh_fine : mesh_verdict M ≡ fine) where
  pub owes : (call : StepCall) (field : List ℕ) → StepContract M call field → field_verdict M field ≡ fine → (o : Outcome Left) → came_to M call field ≡ o
      → Owes M (StepOwed M call field o) field (stepping o)
  owes (by_step way m) field p g (accepted l) e = bounds-alone (made-fair (scheme_of way) M field m p (way-keeping way) mesh_fine l e)
  owes (by_step way m) field p g (refused i j) e = made-refused (scheme_of way) M field m p i j e
  owes (by_judge m) field p g (accepted l) e = bounds-alone (made-fair judged M field (as_step M field m) (as-step M field m p) judged-keeping mesh_fine l e)
  owes (by_judge m) field p g (refused i j) e = (made-refused judged M field (as_step M field m) (as-step M field m p) i j e).0
  owes (by_take_step m) field p g (accepted l) e = bounds-alone (run-fair M field m p mesh_fine l e)
  owes (by_take_step m) field p g (refused i j) e = run-refused M field m p i j e
  owes (by_host m) field p g (accepted l) e = host-fair M mesh_fine field m p.0 p.1 l e
  owes (by_host m) field p g (refused i j) e = host-refused M mesh_fine field m p.0 p.1 i j e
  owes (by_host_plain m) field p g (accepted l) e = plain-fair M mesh_fine field m p.0 p.1 l e
  owes (by_host_plain m) field p g (refused i j) e = plain-refused M mesh_fine field m p.0 p.1 i j e
  owes (by_host_judge m) field p g (accepted l) e = judge-fair M mesh_fine field m p.0 p.1 l e
  owes (by_host_judge m) field p g (refused i j) e = judge-refused M mesh_fine field m p.0 p.1 i j e
  owes (by_table_step way m) field p g (accepted l) e =
      table-fair (scheme_of way) M field m (verdict-small M _ m.tables) p.answer p.next_masses (way-keeping way) mesh_fine l e
  owes (by_table_step way m) field p g (refused i j) e = step-refused (scheme_of way) M field m (verdict-small M _ m.tables) p i j e
  owes (by_table_judge m) field p g (accepted l) e =
      table-fair judged M field m (claim-small M _ m.tables) p.answer p.next_masses judged-keeping mesh_fine l e
  owes (by_table_judge m) field p g (refused i j) e = table-refused judged M field m (claim-small M _ m.tables) p.answer p.next_masses i j e

pub demand-3 : Demand3
demand-3 M mesh_fine field field_fine calls made = list-claim M (came_to M) (StepContract M) (StepOwed M) (owes M mesh_fine) field field_fine calls made

-- Beside it, "Figures by hand": all lines marked P, in one record.
pub figures-by-hand : Figures
figures-by-hand = figures
