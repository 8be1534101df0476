-- The bits of a mesh are bounded (`mesh-most`), so the bytes that hold them can be reckoned.
use native.Mathlib.Omega.{arith}
use borrow.Author.Rules.{rules}
use Rattle.record_layouts.specs.Layouts.{mesh_kind, mesh_length}
use Rattle.record_layouts.proofs.Layouts.{mesh-most}
use Rattle.record_layouts.proofs.lengths.mesh_bytes.Statement.{statement}
use Rattle.record_layouts.proofs.lengths.mesh_bytes.Tie as tie

bytes-for-requires : tie.Need-bytes_for-requires
bytes-for-requires c κs =
    let s = c.before in
    omega (arith, c.mesh_bits.ensures, mesh-most (mesh_kind s.args.width) s.args.cells s.args.faces s.requires.0 s.requires.1)

returns : tie.Need-returns
unfolding mesh_length
returns c = rw (c.bytes_for.ensures, c.before.mesh_bits.ensures)

pub mesh_bytes_spec : {M : Type 1} → statement M
mesh_bytes_spec = tie.close (tie.spec (search rules) bytes-for-requires returns)
