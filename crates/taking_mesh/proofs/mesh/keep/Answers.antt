-- `keep`: where nothing is found the lent tables hold the mesh, and each copy fills one of them.
use Rattle.std.proofs.Common.{ℕ, ◌≡◌, ◌≤◌, refl, sym, ◌∙◌, arith}
use Rattle.std.proofs.lemmas.Result.{err_from_is_err_and}
use Rattle.model.specs.Mesh.{mesh_of, run_cells, run_faces}
use Rattle.model.specs.Meshes.{at_counts}
use Rattle.model.specs.Causes.{mesh_tables}
use Rattle.model.proofs.Verdicts.{past, out}
use Rattle.model.proofs.Accepted.{mesh_lent}
use Rattle.model.proofs.Parts.{laid-over}
use Rattle.taking_mesh.proofs.MeshLaws.{kept-refused, kept-accepted}
use Rattle.taking_mesh.proofs.mesh.keep.Goals as goal

fits : {m n k : ℕ} → n ≡ m → n ≤ k → m ≤ k
fits e l = omega (arith, e, l)

pub returns-in_err-holds : goal.returns-in_err-holds
unfolding mesh_tables
returns-in_err-holds c =
    let p = err_from_is_err_and c.from_residual.result c.from_residual.ensures.1 in
    let s = c.args in
    let read = mesh_of s.cells s.faces s.read_volumes.now s.read_firsts.now s.read_seconds.now s.read_shares.now s.read_reaches.now in
    let lent = mesh_of run_cells run_faces s.volumes.now s.firsts.now s.seconds.now s.shares.now s.reaches.now in
    rw (p.1, p.2) (kept-refused s.width read lent _ _ _ (out _ (sym c.in_err-holds.ensures)) refl)

pub returns-in_err-check_mesh : goal.returns-in_err-check_mesh
unfolding mesh_tables
returns-in_err-check_mesh c =
    let p = err_from_is_err_and c.from_residual-in_err-check_mesh.result c.from_residual-in_err-check_mesh.ensures.1 in
    let s = c.args in
    let read = mesh_of s.cells s.faces s.read_volumes.now s.read_firsts.now s.read_seconds.now s.read_shares.now s.read_reaches.now in
    let lent = mesh_of run_cells run_faces s.volumes.now s.firsts.now s.seconds.now s.shares.now s.reaches.now in
    rw (p.1, p.2) (kept-refused s.width read lent _ _ _ (past _ (sym c.in_ok-holds.ensures) ∙ sym c.in_err-check_mesh.ensures) refl)

pub copy-requires : goal.copy-requires
unfolding mesh_tables
copy-requires c =
    let s = c.args in
    let read = mesh_of s.cells s.faces s.read_volumes.now s.read_firsts.now s.read_seconds.now s.read_shares.now s.read_reaches.now in
    let lent = mesh_of run_cells run_faces s.volumes.now s.firsts.now s.seconds.now s.shares.now s.reaches.now in
    fits c.requires.volumes_cut (mesh_lent (at_counts read lent) (sym c.in_ok-holds.ensures)).volumes_long

pub copy-requires-2 : goal.copy-requires-2
unfolding mesh_tables
copy-requires-2 c =
    let s = c.args in
    let read = mesh_of s.cells s.faces s.read_volumes.now s.read_firsts.now s.read_seconds.now s.read_shares.now s.read_reaches.now in
    let lent = mesh_of run_cells run_faces s.volumes.now s.firsts.now s.seconds.now s.shares.now s.reaches.now in
    fits c.requires.firsts_cut (mesh_lent (at_counts read lent) (sym c.in_ok-holds.ensures)).firsts_long

pub copy-requires-3 : goal.copy-requires-3
unfolding mesh_tables
copy-requires-3 c =
    let s = c.args in
    let read = mesh_of s.cells s.faces s.read_volumes.now s.read_firsts.now s.read_seconds.now s.read_shares.now s.read_reaches.now in
    let lent = mesh_of run_cells run_faces s.volumes.now s.firsts.now s.seconds.now s.shares.now s.reaches.now in
    fits c.requires.seconds_cut (mesh_lent (at_counts read lent) (sym c.in_ok-holds.ensures)).seconds_long

pub copy-requires-4 : goal.copy-requires-4
unfolding mesh_tables
copy-requires-4 c =
    let s = c.args in
    let read = mesh_of s.cells s.faces s.read_volumes.now s.read_firsts.now s.read_seconds.now s.read_shares.now s.read_reaches.now in
    let lent = mesh_of run_cells run_faces s.volumes.now s.firsts.now s.seconds.now s.shares.now s.reaches.now in
    fits c.requires.shares_cut (mesh_lent (at_counts read lent) (sym c.in_ok-holds.ensures)).shares_long

pub copy-requires-5 : goal.copy-requires-5
unfolding mesh_tables
copy-requires-5 c =
    let s = c.args in
    let read = mesh_of s.cells s.faces s.read_volumes.now s.read_firsts.now s.read_seconds.now s.read_shares.now s.read_reaches.now in
    let lent = mesh_of run_cells run_faces s.volumes.now s.firsts.now s.seconds.now s.shares.now s.reaches.now in
    fits c.requires.reaches_cut (mesh_lent (at_counts read lent) (sym c.in_ok-holds.ensures)).reaches_long

pub returns : goal.returns
unfolding mesh_tables
returns c =
    let s = c.args in
    let read = mesh_of s.cells s.faces s.read_volumes.now s.read_firsts.now s.read_seconds.now s.read_shares.now s.read_reaches.now in
    let lent = mesh_of run_cells run_faces s.volumes.now s.firsts.now s.seconds.now s.shares.now s.reaches.now in
    kept-accepted s.width read lent (past _ (sym c.in_ok-holds.ensures) ∙ sym c.in_ok-check_mesh.ensures)
    (laid-over read lent c.copy.ensures c.copy-2.ensures c.copy-3.ensures c.copy-4.ensures c.copy-5.ensures)
