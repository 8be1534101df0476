-- A column one bit wide; a sign is 0 or 1, so it fits.
use Rattle.std.proofs.Common.{true, cond, ◌+◌, ◌*◌, pos, get_or}
use Rattle.signed.specs.Sign.{is_negative}
use Rattle.record_sections.specs.Columns.{PutColumn}
use Rattle.record_sections.proofs.put_signs.Given as goal

abbrev pub invariant-loop-i : goal.invariant-loop-i
invariant-loop-i l = PutColumn l.fn.bytes l.i (λ _. true) (λ k. l.first + k * l.stride) 1
    (λ k. cond (is_negative (get_or l.values k (pos 0))) 1 0) l.bytes
