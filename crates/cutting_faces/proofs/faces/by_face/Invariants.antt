-- How many of the part's faces were met, and their entries, whatever says what these are.
use Rattle.std.proofs.Common.{ℕ, ◌≡◌, ◌<◌, get_or}
use Rattle.lists.specs.Table.{over}
use Rattle.lists.specs.Marked.{count, picked}
use Rattle.cutting_pieces.specs.Pieces.{touching_at}
use Rattle.cutting_faces.proofs.faces.by_face.Given as goal

abbrev pub invariant-loop-f : goal.invariant-loop-f
invariant-loop-f g l = record {
  met : l.at ≡ count l.f (touching_at l.labels l.part l.firsts l.seconds);
  written : (entry_at : ℕ → _)
      → ((f : ℕ) → f < l.faces → (e : _) → goal.F-post g l.entry f (get_or l.firsts f 0) (get_or l.seconds f 0) e → e ≡ entry_at f)
      → l.out ≡ over (picked l.f (touching_at l.labels l.part l.firsts l.seconds) entry_at) l.initial.out;
}
