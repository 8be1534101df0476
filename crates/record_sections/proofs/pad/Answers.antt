-- From the last field's end to the end of its byte, zero bits; a record that ends a byte gets none.
use Rattle.std.proofs.Common.{arith}
use lib.Pow.{pow_pos}
use Rattle.record_bits.proofs.Layouts.{bytes-hold, bytes_most}
use Rattle.record_sections.proofs.pad.Goals as goal

pub overflow_mul-end : goal.overflow_mul-end
overflow_mul-end c = rw c.bytes_for-length.ensures (omega (arith, bytes_most c.args.at, c.requires.1))

pub overflow_sub-end : goal.overflow_sub-end
overflow_sub-end c = rw c.bytes_for-length.ensures (omega (arith, bytes-hold c.args.at))

pub write_bits-requires : goal.write_bits-requires
write_bits-requires c =
    let h = bytes-hold c.args.at in
    let m = bytes_most c.args.at in
    rw c.bytes_for-length.ensures (omega arith, omega arith, omega arith, pow_pos _)
