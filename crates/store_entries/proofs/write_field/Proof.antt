-- The masses after the name.
use Prim.Native.Nat.{ℕ, ◌-◌}
use mathlib.Core.List.{List, ◌++◌}
use mathlib.Core.Path.{sym, ap, ◌∙◌}
use native.Mathlib.Omega.{arith}
use lib.ListN.{length, take, drop, set, length-set}
use lib.Seq.{length-take-le}
use Rattle.store_entries.proofs.Written.{room_after, field_written}
use borrow.Author.Rules.{rules}
use Rattle.store_entries.proofs.write_field.Statement.{statement}
use Rattle.store_entries.proofs.write_field.Tie as tie

slice-aggregate-copy : tie.Need-slice_bounds-copy-end
slice-aggregate-copy c = sym (length-take-le _ _ c.before.before.requires.0)

copy-requires : tie.Need-copy-requires
copy-requires c κs =
    let s = c.before.before.before in
    room_after s.args.cells s.args.masses.now s.args.part.now s.requires.1

same_length : tie.Need-shape_of-part
same_length c = simp length-set c.before.part-1.given.1

returns : tie.Need-returns
returns c =
    let at_copy = c.before.before in
    let s = at_copy.before.before.before.before in
    ap (λ (p : List ℕ). set (take 1 s.args.part.now ++ (p ++ drop (length s.args.part.now - 1) (drop 1 s.args.part.now))) 0 s.args.name)
    at_copy.copy.ensures
    ∙ field_written s.args.name (take s.args.cells s.args.masses.now) s.args.part.now (omega arith)

pub write_field_spec : {M : Type 1} → statement M
write_field_spec =
    tie.close
    (tie.spec slice-aggregate-copy (search rules) (search rules) (search rules) copy-requires (search rules) same_length returns)
