-- Counts and tables that passed bound the record's length; bytes and values follow in the order of the causes.
use Rattle.std.proofs.Common.{sym, ◌∙◌, [], ◌∷◌}
use Rattle.std.proofs.lemmas.Result.{err_from_is_err_and}
use Rattle.model.proofs.Verdicts.{refused-at, fine-all, both-fine, past}
use Rattle.model.proofs.Accepted.{counted, mesh-long}
use Rattle.record_causes.specs.Verdicts.{mesh_write_verdict}
use Rattle.record_causes.proofs.mesh.Goals as goal

pub returns-in_err-mesh_lent : goal.returns-in_err-mesh_lent
unfolding mesh_write_verdict
returns-in_err-mesh_lent c =
    let p = err_from_is_err_and c.from_residual.result c.from_residual.ensures.1 in
    rw (p.1, p.2) (sym (refused-at [] (_ ∷ _ ∷ []) tt (sym c.in_err-mesh_lent.ensures)))

pub mesh_bytes-requires : goal.mesh_bytes-requires
mesh_bytes-requires c =
    let n = counted _ (both-fine _ _ (sym c.in_ok-mesh_lent.ensures)).0 in
    (n.few_cells, n.few_faces)

pub returns-in_err-long : goal.returns-in_err-long
unfolding mesh_write_verdict
returns-in_err-long c =
    let p = err_from_is_err_and c.from_residual-in_err-long.result c.from_residual-in_err-long.ensures.1 in
    rw (p.1, p.2) (sym (refused-at (_ ∷ []) (_ ∷ []) ((sym c.in_ok-mesh_lent.ensures), tt) (sym (rw c.mesh_bytes.ensures at c.in_err-long.ensures))))

pub values-requires : goal.values-requires
values-requires c = mesh-long _ (sym c.in_ok-mesh_lent.ensures)

pub returns : goal.returns
unfolding mesh_write_verdict
returns c =
    let v = rw c.most_of.ensures at c.values.ensures in
    v ∙ sym (past _ (fine-all (_ ∷ _ ∷ []) ((sym c.in_ok-mesh_lent.ensures), ((sym (rw c.mesh_bytes.ensures at c.in_ok-long.ensures)), tt))))
