-- The field is written past the used part, then the count.
use Prim.Native.Nat.{ℕ, suc, ◌+◌, ◌-◌}
use mathlib.Core.List.{List, ◌∷◌, ◌++◌}
use mathlib.Core.Path.{◌≡◌, ap, ◌∙◌}
use native.Mathlib.Omega.{arith}
use lib.ListN.{length, take, drop, set, length-set}
use Rattle.lists.specs.Table.{over}
use Rattle.store_kept.specs.Store.{count, used}
use Rattle.store_entries.proofs.Written.{put_written}
use Rattle.store_kept.proofs.Named.{used-more}
use borrow.Author.Rules.{rules}
use Rattle.store_entries.proofs.put_field.Statement.{statement}
use Rattle.store_entries.proofs.put_field.Tie as tie

same_length : tie.Need-shape_of-store
same_length c = simp length-set c.before.store-1.given.1

returns : tie.Need-returns
returns c =
    let at-write-field = c.before.before in
    let at-used = at-write-field.before.before in
    let s = at-used.before.before.before.before in
    let store = s.args.store.now in
    let at = at-used.used-at.result in
    let u : at ≡ used s.args.cells (count store) = at-used.used-at.ensures in
    ap (λ (p : List ℕ). set (take at store ++ (p ++ drop (length store - at) (drop at store))) 0 (count store + 1)) at-write-field.write_field.ensures
    ∙ ap (λ (j : ℕ). set (take j store ++ (over (s.args.name ∷ take s.args.cells s.args.masses.now)
    (take (length store - j) (drop j store)) ++ drop (length store - j) (drop j store))) 0 (count store + 1)) u
    ∙ put_written s.args.cells s.args.name (take s.args.cells s.args.masses.now) store
    (omega (arith, used-more s.args.cells (count store) (suc (count store)) (omega arith)))

pub put_field_spec : {M : Type 1} → statement M
put_field_spec =
    tie.close
    (tie.spec (search rules) (search rules) (search rules) (search rules) (search rules) (search rules) (search rules) (search rules) (search rules)
    same_length returns)
