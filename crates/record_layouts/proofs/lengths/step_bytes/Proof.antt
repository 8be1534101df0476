-- The bits of a step are bounded (`step-most`), so the bytes that hold them can be reckoned.
use native.Mathlib.Omega.{arith}
use borrow.Author.Rules.{rules}
use Rattle.record_layouts.specs.Layouts.{kind_number, step_length}
use Rattle.record_layouts.proofs.Layouts.{step-most}
use Rattle.record_layouts.proofs.lengths.step_bytes.Statement.{statement}
use Rattle.record_layouts.proofs.lengths.step_bytes.Tie as tie

bytes-for-requires : tie.Need-bytes_for-requires
bytes-for-requires c κs =
    let s = c.before.before in
    omega (
      arith,
      c.step_bits.ensures,
      step-most (kind_number s.args.width s.args.kind) s.args.cells s.args.faces s.args.seconds.now
          s.requires.0 s.requires.1,
    )

returns : tie.Need-returns
unfolding step_length
returns c = rw (c.bytes_for.ensures, c.before.step_bits.ensures)

pub step_bytes_spec : {M : Type 1} → statement M
step_bytes_spec = tie.close (tie.spec (search rules) bytes-for-requires returns)
