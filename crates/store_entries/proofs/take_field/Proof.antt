-- From the field to the end of the used part, moved down: the later fields, and zeros.
use Prim.Native.Nat.{ℕ, ◌+◌, ◌-◌, ◌≤◌}
use mathlib.Core.List.{List, ◌++◌}
use mathlib.Core.Path.{ap, ◌∙◌}
use native.Mathlib.Omega.{arith}
use lib.ListN.{take, drop, set, length-set}
use Rattle.store_kept.specs.Store.{count, used, fields_in}
use Rattle.store_kept.specs.Found.{fields_before}
use Rattle.store_entries.specs.Moved.{moved_down}
use Rattle.store_kept.proofs.Judged.{kept_less, kept-within}
use Rattle.store_entries.proofs.Taken.{taken_out}
use borrow.Author.Rules.{rules}
use Rattle.store_entries.proofs.take_field.Statement.{statement}
use Rattle.store_entries.proofs.take_field.Tie as tie

used-requires : tie.Need-used-at-requires
used-requires c κs =
    let s = c.before.before.before in
    let w = kept-within s.args.cells s.args.store.now s.args.name s.requires.1 s.requires.2 in
    (s.requires.0, rw c.before-i.ensures (omega (arith, w, s.requires.1)))

abbrev begun : tie.After-used-end → tie.Start
begun c = c.before.before.before.before.before

-- the field's place, before the end of the used part
within : (c : tie.After-used-end) → used (begun c).args.cells c.before.before.before-i.result
    ≤ used (begun c).args.cells (count (begun c).args.store.now)
within c =
    let s = begun c in
    let place = ap (used s.args.cells) c.before.before.before-i.ensures in
    omega (arith, place, kept-within s.args.cells s.args.store.now s.args.name s.requires.1 s.requires.2)

mul-move-down : tie.Need-offset_bounds-store-at
mul-move-down c = omega (arith, within c, c.used-end.ensures, c.before.used-at.ensures)

sub-move-down : tie.Need-slice_bounds-move_down-count
sub-move-down c = omega (arith, within c, c.used-end.ensures, c.before.used-at.ensures)

part-move-down-start : tie.Need-slice_bounds-move_down-start
part-move-down-start c = omega (arith, within c, c.used-end.ensures, c.before.used-at.ensures)

sub-store : tie.Need-overflow_sub-store
sub-store c =
    let at-used = c.before.before.before.before in
    let s = at-used.before.before.before.before.before in
    omega (arith, kept_less s.args.cells s.args.store.now s.args.name s.requires.1 s.requires.2)

same_length : tie.Need-shape_of-store
same_length c = simp length-set c.before.store-1.given.1

returns : tie.Need-returns
returns c =
    let at-move-down = c.before.before in
    let at-used = at-move-down.before.before in
    let at-used2 = at-used.before in
    let at_before = at-used2.before in
    let s = at_before.before.before.before in
    let cells = s.args.cells in
    let store = s.args.store.now in
    let at = at-used2.used-at.result in
    let end = at-used.used-end.result in
    let u = at-used2.used-at.ensures ∙ ap (used cells) at_before.before-i.ensures in
    let place = used cells (fields_before s.args.name (fields_in cells store)) in
    ap (λ (p : List ℕ). set (take at store ++ (p ++ drop (end - at) (drop at store))) 0 (count store - 1)) at-move-down.move_down.ensures
    ∙ ap (λ (j : ℕ). set (take j store ++ (moved_down (cells + 1) (take (end - j) (drop j store)) ++ drop (end - j) (drop j store))) 0 (count store - 1)) u
    ∙ ap (λ (j : ℕ). set (take place store ++ (moved_down (cells + 1) (take (j - place) (drop place store)) ++ drop (j - place) (drop place store))) 0
    (count store - 1)) at-used.used-end.ensures
    ∙ taken_out cells store s.args.name s.requires.1 s.requires.2

pub take_field_spec : {M : Type 1} → statement M
take_field_spec =
    tie.close
    (tie.spec (search rules) (search rules) used-requires (search rules) (search rules) mul-move-down sub-move-down part-move-down-start
    (search rules) (search rules) sub-store (search rules) same_length returns)
