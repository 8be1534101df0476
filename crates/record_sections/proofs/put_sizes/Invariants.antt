-- A column of sizes; that each fits its width is asked of the caller.
use Rattle.std.proofs.Common.{true, ◌+◌, ◌*◌, pos, get_or}
use Rattle.signed.specs.Sign.{size}
use Rattle.record_sections.specs.Columns.{PutColumn}
use Rattle.record_sections.proofs.put_sizes.Given as goal

abbrev pub invariant-loop-i : goal.invariant-loop-i
invariant-loop-i l = PutColumn l.fn.bytes l.i (λ _. true) (λ k. l.first + k * l.stride) l.width (λ k. size (get_or l.values k (pos 0))) l.bytes
