-- Document 01, "The board and the run": what a record of the input is, how much of it is still to be read, and what is held of the input.
use Rattle.std.specs.Prelude.{ℕ, ◌+◌, ◌-◌, ◌*◌, ◌≤◌, ◌<◌, min, ◌≡◌, Bool, true, false, List, length, take, drop}
use Rattle.model.specs.Mesh.{run_cells, run_faces}
use Rattle.model.specs.Causes.{Outcome, accepted, refused}
use Rattle.record_bits.specs.Layout.{bytes_for}
use Rattle.record_layouts.specs.Layouts.{outfall_kind, step_head_bits, flux_bits, outside_bits, release_bits}
use Rattle.record_layouts.specs.declared.Width.TheVariants.{Wide}
use Rattle.run_intake.specs.declared.Held.{Held}

-- The longest record within the run's limits. Document 02, S-10: a step with outfalls in the wide kind, of all cells and faces, each face at
-- the rim.
abbrev pub record_bytes : ℕ
record_bytes = bytes_for (step_head_bits + run_faces * (flux_bits (outfall_kind Wide) + outside_bits) + run_cells * release_bits (outfall_kind Wide))

-- Of a record whose head asks for so many bytes, those not yet read: the head's own are among them, so that nothing is cut off. No head within
-- the limits asks for more than the longest record, and a refused one asks for none.
abbrev pub still_needed : Outcome ℕ → ℕ → ℕ
still_needed (accepted n) got = min n record_bytes - got
still_needed (refused _ _) got = 0

-- A record is its head and as many bytes as that asks for; where the input ends before, what there is, which is cause 11.
abbrev pub record_asks : ℕ → (List ℕ → Outcome ℕ) → List ℕ → ℕ
record_asks head needs input = length (take head input) + still_needed (needs (take head input)) (length (take head input))

unfoldable pub record_at : ℕ → (List ℕ → Outcome ℕ) → List ℕ → List ℕ
record_at head needs input = take (record_asks head needs input) input

-- Of a record no more bytes are counted than its head has and what that then asks for, and the head stays in front. That fewer come
-- only where the input ends is left to the system, and that of a mesh and a field none past them is taken from it.
pub record Asked (head : ℕ) (needs : List ℕ → Outcome ℕ) (bytes : List ℕ) (count : ℕ) : Type 0 where
  pub come : ℕ
  pub of_the_head : come ≤ head
  pub counted : come ≤ count
  pub no_more : count ≤ come + still_needed (needs (take come bytes)) come

-- What has come and is not yet taken: the bytes of a buffer from one place up to another.
abbrev pub held : List ℕ → ℕ → ℕ → List ℕ
held buffer from to = take (to - from) (drop from buffer)

-- After bytes were asked for, what was held is in front of what is held: none of it is lost or moved. Lines stay unwritten all or not at all,
-- and where bytes count as come, none does. How many have come is the system's to say.
pub record HeldAhead (buffer : List ℕ) (from to unwritten : ℕ) (buffer' : List ℕ) (r : Held) : Type 0 where
  pub begins : r.from ≤ r.end
  pub ends : r.end ≤ r.to
  pub within : r.to ≤ length buffer'
  pub front : take (to - from) (held buffer' r.from r.to) ≡ held buffer from to
  pub fewer : r.unwritten ≤ unwritten
  pub none_dropped : 0 < r.unwritten → r.unwritten ≡ unwritten
  pub lines_first : to - from < r.to - r.from → r.unwritten ≡ 0

-- What is held as it was, of which so many bytes are taken.
abbrev pub held_still : ℕ → ℕ → ℕ → ℕ → Held
held_still from taken to unwritten = record { from = from; end = from + taken; to = to; unwritten = unwritten; failed = false }

-- What is held after a read: as many bytes as have come, from the front of the buffer on, of which so many are wanted.
abbrev pub held_anew : ℕ → ℕ → Bool → Held
held_anew wanted come failed = record { from = 0; end = min wanted come; to = come; unwritten = 0; failed = failed }

-- So many bytes are taken of what is held then, or all. Where as many were held nothing is read, moved or written; and a failure leaves fewer.
pub record SomeTaken (wanted : ℕ) (buffer : List ℕ) (from to unwritten : ℕ) (buffer' : List ℕ) (r : Held) : Type 0 where
  pub taken : r.end ≡ min (r.from + wanted) r.to
  pub enough : wanted ≤ to - from → (buffer' ≡ buffer) × (r ≡ held_still from wanted to unwritten)
  pub short : r.failed ≡ true → r.to - r.from < wanted

-- The record that comes first among what is held then is taken, and no byte else. Where it was held whole nothing is read, moved or written.
pub record RecordTaken (head : ℕ) (needs : List ℕ → Outcome ℕ) (buffer : List ℕ) (from to unwritten : ℕ) (buffer' : List ℕ) (r : Held) : Type 0 where
  pub taken : held buffer' r.from r.end ≡ record_at head needs (held buffer' r.from r.to)
  pub whole : head ≤ to - from → record_asks head needs (held buffer from to) ≤ to - from
      → (buffer' ≡ buffer) × (r ≡ held_still from (record_asks head needs (held buffer from to)) to unwritten)
