-- A part that has been cut is the part of the definition, and what its writers said is said of that.
use Prim.Native.Nat.{ℕ}
use mathlib.Core.Path.{◌≡◌, ap, ◌∙◌}
use mathlib.Core.List.{List}
use Rattle.model.specs.Causes.{Verdict}
use Rattle.model.specs.Answers.{number}
use Rattle.model.proofs.Verdicts.{refused-of, accepted-of}
use Rattle.cutting_parts.specs.Cut.{Tables, Lagoon, lagoon_of}
use Rattle.cutting_tables.specs.Part.{PartFilled}
use Rattle.cutting_tables.specs.declared.PartCounts.{PartCounts}
use Rattle.record_layouts.specs.declared.Width.{Width}
use Rattle.record_writing.specs.Writing.{Writing}
use Rattle.host_taking.proofs.Taken.{unfine}
use Rattle.host_cut_promises.specs.Cut.{Records, own_part, piece}
use Rattle.host_cut_promises.specs.Inner.{writers_find, Wrote, PieceWritten}
use Rattle.host_cut_promises.specs.declared.PartLengths.{PartLengths}
use Rattle.std.specs.Prelude.{Result, Ok, Err}
use Rattle.std.specs.Result.{result_unwrap_or}
use Rattle.model.specs.declared.Refusal.{Refusal}

pub wrote : {v : Verdict} {n : ℕ} {written bytes : List ℕ} (o : Result ℕ Refusal) {bytes' : List ℕ} {k : ℕ} → Writing v n written bytes o bytes' → k ≡ result_unwrap_or o 0
    → Wrote v n written bytes k bytes'
wrote {v = v} {n = n} (Ok m) x e = record { takes = λ q. e ∙ (accepted-of v n m x.answer).1; left = x.bytes_written }
wrote {v = v} {n = n} (Err r) x e =
    record { takes = λ q. unfine (refused-of v n (number r.cause) r.place x.answer) q; left = x.bytes_written }

module _ (L : Lagoon) (labels : List ℕ) (p : ℕ) {n : PartCounts} {after : Tables} (q : PartFilled L labels p own_part n after) where
  piece_is : lagoon_of n.cells n.faces after ≡ piece L labels p
  piece_is = rw (q.cells_are, q.faces_are, q.tables_are)

  pub found_as : (w : Width) (kind m f s : ℕ) {v : Verdict} → v ≡ writers_find w kind (lagoon_of n.cells n.faces after) m f s
      → v ≡ writers_find w kind (piece L labels p) m f s
  found_as w kind m f s e = e ∙ ap (λ (P : Lagoon). writers_find w kind P m f s) piece_is

  pub written_as : (w : Width) (kind : ℕ) {lent : Records} {r : PartLengths} {left : Records}
      → PieceWritten w kind (lagoon_of n.cells n.faces after) lent r left → PieceWritten w kind (piece L labels p) lent r left
  written_as w kind x = rw piece_is at x
