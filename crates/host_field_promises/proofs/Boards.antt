-- A board's numbers, put one entry after another.
use Prim.Native.Nat.{ℕ, zero, suc, ◌+◌, ◌*◌, min}
use mathlib.Core.Path.{◌≡◌, refl, ap, ◌∙◌}
use mathlib.Core.Bool.{Bool}
use mathlib.Core.List.{List, [], ◌∷◌, ◌++◌, append_assoc}
use native.Mathlib.Numerals.{add-one}
use native.Mathlib.Omega.{arith}
use lib.ListN.{length, set, get_or, replicate, length-append}
use Rattle.lists.specs.Marked.{count}
use Rattle.model.specs.Causes.{accepted, refused, Verdict, fine, ◌and_then◌, granted}
use Rattle.model.specs.Answers.{said}
use Rattle.board.specs.Board.{board_size, unused, board_verdict, board_entries, entries_of, BoardAfter, BoardIs}
use Rattle.board.specs.declared.Entry.{Entry}
use Rattle.board.specs.declared.BoardAnswer.{BoardAnswer}
use Rattle.host_answer.specs.Found.{filled}
use Rattle.host_answer.proofs.Fills.{filled_on}
use Rattle.host_field_promises.specs.Board.{entry_numbers, entries_put, Shown, board_said}
use Rattle.std.specs.Prelude.{Result}
use Rattle.model.specs.declared.Refusal.{Refusal}

-- three numbers more
three : (xs ys : List ℕ) (a b c at : ℕ) → at ≡ length xs
    → set (set (set (filled xs ys) at a) (at + 1) b) (at + 2) c ≡ filled (xs ++ (a ∷ b ∷ c ∷ [])) ys
three xs ys a b c at e =
    let p : at + 1 ≡ length (xs ++ (a ∷ [])) = simp length-append (omega arith) in
    let q : at + 2 ≡ length ((xs ++ (a ∷ [])) ++ (b ∷ [])) = simp length-append (omega arith) in
    rw (p, q, e, filled_on xs a ys, filled_on (xs ++ (a ∷ [])) b ys, filled_on ((xs ++ (a ∷ [])) ++ (b ∷ [])) c ys)
    (ap (λ zs. filled zs ys) (append_assoc (xs ++ (a ∷ [])) (b ∷ []) (c ∷ []) ∙ append_assoc xs (a ∷ []) (b ∷ c ∷ [])))

long : (n : ℕ) (es : List Entry) → length (entry_numbers n es) ≡ 3 * n
unfolding entry_numbers
long zero es = refl
long (suc n) es = simp length-append (omega (arith, long n es))

-- all of them fill the board's numbers
pub entries-fill : (used : ℕ) (es : List Entry) (n : ℕ) (ys : List ℕ) → entries_put n es (filled (used ∷ []) ys) ≡ filled (used ∷ entry_numbers n es) ys
unfolding entry_numbers entries_put
entries-fill used es zero ys = refl
entries-fill used es (suc n) ys = rw (entries-fill used es n ys)
    (three (used ∷ entry_numbers n es) ys (get_or es n unused).cell (get_or es n unused).q (get_or es n unused).rest (3 * n + 1) (omega (arith, long n es)))

-- a loop that puts one entry after another
pub entries-start : (es : List Entry) (ys : List ℕ) → ys ≡ entries_put 0 es ys
unfolding entries_put
entries-start es ys = refl

pub entries-step : (es : List Entry) (n : ℕ) (ys : List ℕ) {s t : List ℕ} → s ≡ entries_put n es ys
    → t ≡ set (set (set s (3 * n + 1) (get_or es n unused).cell) (3 * n + 1 + 1) (get_or es n unused).q) (3 * n + 1 + 2) (get_or es n unused).rest
    → t ≡ entries_put (n + 1) es ys
unfolding entries_put
entries-step es n ys e q = rw (q, e, add-one n)

pub entries-done : (es : List Entry) (ys : List ℕ) (n : ℕ) {s : List ℕ} → s ≡ entries_put n es ys → n ≡ board_size → s ≡ entries_put board_size es ys
entries-done es ys n e q = rw q at e

-- a board's answer: refused or shown
pub board-refused : (a : Result (Unit {0}) Refusal) (x : Shown) {k i : ℕ} → said a ≡ refused k i → (said a and_then accepted x) ≡ refused k i
unfolding ◌and_then◌
board-refused a x e = rw e

pub board-shown : (a : Result (Unit {0}) Refusal) (x : Shown) → said a ≡ fine → (said a and_then accepted x) ≡ accepted x
unfolding ◌and_then◌
board-shown a x e = rw e

-- where nothing is refused, used and entries are what the board shows
abbrev shown : ℕ → List Entry → Shown
shown used entries = record { used = used; entries = entries }

pub board-said : (v w : Verdict) (used used' : ℕ) (es es' none : List Entry) → v ≡ w → used ≡ granted w used' 0 → es ≡ granted w es' none
    → (v and_then accepted (shown used es)) ≡ (w and_then accepted (shown used' es'))
unfolding ◌and_then◌
board-said v (accepted t) used used' es es' none e u n = rw (e, u, n)
board-said v (refused k i) used used' es es' none e u n = rw e

-- what each board answers
pub board-is : {cells : ℕ} {volumes masses : List ℕ} {r : BoardAnswer} → BoardIs cells volumes masses r
    → board_said r ≡ (board_verdict volumes masses cells and_then accepted (shown (min board_size cells) (board_entries volumes masses cells)))
board-is {cells = cells} {volumes = volumes} {masses = masses} {r = r} h =
    board-said (said r.verdict) (board_verdict volumes masses cells) r.used (min board_size cells) r.entries (board_entries volumes masses cells)
    (replicate board_size unused) h.verdict_is h.used_is h.entries_are

pub board-after : {v : Verdict} {volumes masses : List ℕ} {visible : ℕ → Bool} {cells : ℕ} {r : BoardAnswer} → BoardAfter v volumes masses visible cells r
    → board_said r ≡ (v and_then accepted (shown (min board_size (count cells visible)) (entries_of volumes masses visible cells)))
board-after {v = v} {volumes = volumes} {masses = masses} {visible = visible} {cells = cells} {r = r} h =
    board-said (said r.verdict) v r.used (min board_size (count cells visible)) r.entries (entries_of volumes masses visible cells)
    (replicate board_size unused) h.verdict_is h.used_is h.entries_are
