-- A head that passed says how many cells and faces there are, and that they are within the limits; the body's tests ask no more.
use Rattle.std.proofs.Common.{sym, [], ◌∷◌, arith}
use Rattle.std.proofs.lemmas.Result.{err_from_is_err_and}
use Rattle.model.proofs.Verdicts.{out, past, fine-all, refused-at}
use Rattle.record_heads.proofs.HeadLaws.{mesh-head-says}
use Rattle.record_reading.specs.Reading.{mesh_read}
use Rattle.record_reading.proofs.verdicts.mesh.Goals as goal

pub returns-in_err-mesh : goal.returns-in_err-mesh
unfolding mesh_read
returns-in_err-mesh c =
    let p = err_from_is_err_and c.from_residual.result c.from_residual.ensures.1 in
    rw (p.1, p.2) (sym (out _ (out _ (sym c.in_err-mesh.ensures))))

pub cells-cells-requires : goal.cells-cells-requires
cells-cells-requires c = let h = mesh-head-says _ _ _ (sym c.in_ok-mesh.ensures) in omega (arith, h.long)

pub faces-faces-requires : goal.faces-faces-requires
faces-faces-requires c = (mesh-head-says _ _ _ (sym c.in_ok-mesh.ensures)).long

pub mesh_width-width-requires : goal.mesh_width-width-requires
mesh_width-width-requires c = let h = mesh-head-says _ _ _ (sym c.in_ok-mesh.ensures) in (omega (arith, h.long), h.kind)

pub mesh_body-requires : goal.mesh_body-requires
mesh_body-requires c =
    let h = mesh-head-says _ _ _ (sym c.in_ok-mesh.ensures) in
    (c.cells-cells.ensures, c.faces-faces.ensures, rw c.cells-cells.ensures h.few_cells, rw c.faces-faces.ensures h.few_faces, c.mesh_width-width.ensures.0)

pub returns-in_err-mesh_body : goal.returns-in_err-mesh_body
unfolding mesh_read
returns-in_err-mesh_body c =
    let p = err_from_is_err_and c.from_residual-in_err-mesh_body.result c.from_residual-in_err-mesh_body.ensures.1 in
    rw (p.1, p.2) (sym (out _ (refused-at (_ ∷ []) [] (sym c.in_ok-mesh.ensures, tt) (sym c.in_err-mesh_body.ensures))))

pub returns : goal.returns
unfolding mesh_read
returns c =
    rw (c.cells-cells.ensures, c.faces-faces.ensures, c.mesh_width-width.ensures.1)
    (sym (past _ (fine-all (_ ∷ _ ∷ []) (sym c.in_ok-mesh.ensures, (sym c.in_ok-mesh_body.ensures, tt)))))
