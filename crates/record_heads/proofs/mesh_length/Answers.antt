-- A head that passed says counts within the limits, so the length can be summed up.
use Rattle.std.proofs.Common.{sym, arith}
use Rattle.std.proofs.lemmas.Result.{err_from_is_err_and}
use Rattle.model.proofs.Verdicts.{past, out}
use Rattle.record_heads.specs.Heads.{mesh_measured}
use Rattle.record_heads.proofs.HeadLaws.{mesh-head-says}
use Rattle.record_heads.proofs.mesh_length.Goals as goal

pub returns-in_err-mesh : goal.returns-in_err-mesh
unfolding mesh_measured
returns-in_err-mesh c =
    let p = err_from_is_err_and c.from_residual.result c.from_residual.ensures.1 in
    rw (p.1, p.2) (sym (out _ (sym c.in_err-mesh.ensures)))

pub cells-c-requires : goal.cells-c-requires
cells-c-requires c = let h = mesh-head-says _ _ _ (sym c.in_ok-mesh.ensures) in omega (arith, h.long)

pub faces-f-requires : goal.faces-f-requires
faces-f-requires c = (mesh-head-says _ _ _ (sym c.in_ok-mesh.ensures)).long

pub mesh_width-width-requires : goal.mesh_width-width-requires
mesh_width-width-requires c = let h = mesh-head-says _ _ _ (sym c.in_ok-mesh.ensures) in (omega (arith, h.long), h.kind)

pub mesh_bytes-requires : goal.mesh_bytes-requires
mesh_bytes-requires c =
    let h = mesh-head-says _ _ _ (sym c.in_ok-mesh.ensures) in
    (rw c.cells-c.ensures h.few_cells, rw c.faces-f.ensures h.few_faces)

pub returns : goal.returns
unfolding mesh_measured
returns c =
    rw (
      c.mesh_bytes.ensures,
      c.mesh_width-width.ensures.0,
      c.mesh_width-width.ensures.1,
      c.faces-f.ensures,
      c.cells-c.ensures,
    ) (sym (past _ (sym c.in_ok-mesh.ensures)))
