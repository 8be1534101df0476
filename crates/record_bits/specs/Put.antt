-- Document 01, "Causes": "Writing .. touches no byte past it". Of one field: it reads back, and no other bit changes.
use Rattle.std.specs.Prelude.{◌≡◌, List, ℕ, ◌+◌, ◌≤◌, ◌<◌, length}
use Rattle.record_bits.specs.Field.{bit_at, bits_at}

-- out is bs with the w bits from `at` on spelling v
pub record Put (bs : List ℕ) (at w v : ℕ) (out : List ℕ) : Type 0 where
  pub same_length : length out ≡ length bs
  pub inside : bits_at out at w ≡ v
  pub below : (i : ℕ) → i < at → bit_at out i ≡ bit_at bs i
  pub above : (i : ℕ) → at + w ≤ i → bit_at out i ≡ bit_at bs i
