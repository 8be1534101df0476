-- Document 01, "Causes", of writing: a column is put, and no bit beside it changes.
use Rattle.std.specs.Prelude.{◌≡◌, Bool, true, false, ◌⊎◌, List, ℕ, ◌+◌, ◌≤◌, ◌<◌, length}
use Rattle.record_bits.specs.Field.{bit_at, bits_at}
use Rattle.record_bits.specs.Put.{Put}

-- a field is put where there is one
pub record PutIf (here : Bool) (bs : List ℕ) (at w v : ℕ) (out : List ℕ) : Type 0 where
  pub put : here ≡ true → Put bs at w v out
  pub none : here ≡ false → out ≡ bs

-- out is bs with value i in the w bits at place i, for each i below n that the test names; no other bit changes
pub record PutColumn (bs : List ℕ) (n : ℕ) (test : ℕ → Bool) (place : ℕ → ℕ) (w : ℕ) (value : ℕ → ℕ) (out : List ℕ) : Type 0 where
  pub same_length : length out ≡ length bs
  pub inside : (i : ℕ) → i < n → test i ≡ true → bits_at out (place i) w ≡ value i
  pub others : (b : ℕ) → ((i : ℕ) → i < n → test i ≡ true → (b < place i) ⊎ (place i + w ≤ b)) → bit_at out b ≡ bit_at bs b
