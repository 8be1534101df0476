-- The first cell has less before the second has more: what each affords is asked of the masses at entry.
use Prim.Native.Nat.{◌+◌, ◌<◌}
use mathlib.Core.Path.{◌≡◌}
use borrow.Author.Rules.{rules}
use lib.ListN.{length, get_or, set}
use mir.Syntax.{w64}
use mir.ValLaws.{to_z-of_z}
use Rattle.signed.specs.Sign.{forward, backward}
use Rattle.step_face.proofs.Places.{cell-bytes}
use Rattle.step_face.proofs.Transfers.{first-affords, second-in-met, second-affords, passed}
use Rattle.step_face.proofs.exchange.pass.Statement.{statement}
use Rattle.step_face.proofs.exchange.pass.Tie as tie

-- the first cell's new mass is known
abbrev start : tie.After-less-left → tie.Start
start c = c.before.before.before

left_is : (c : tie.After-less-left) → let s = start c in
    c.less-left.result + forward s.args.amount ≡ get_or s.args.next.now s.args.first 0 + backward s.args.amount
left_is c = let s = start c in rw (to_z-of_z w64 s.args.amount s.ranges.amount) at c.less-left.ensures

less-requires : tie.Need-less-left-requires
less-requires c κs =
    let s = c.before.before in
    rw (to_z-of_z w64 s.args.amount s.ranges.amount)
    (first-affords s.args.next.now s.args.first s.args.second s.args.amount s.requires.0.0 s.requires.0.1 s.requires.1.0 s.requires.1.1)

more-requires : tie.Need-more-grown-requires
more-requires c κs =
    let s = start c.before in
    rw (to_z-of_z w64 s.args.amount s.ranges.amount)
    (second-affords s.args.next.now s.args.first s.args.second s.args.amount s.requires.0.0 s.requires.0.1 c.before.less-left.result
    s.requires.1.0 s.requires.1.1)

returns : tie.Need-returns
returns c =
    let w = c.before.before in
    let s = start w in
    passed s.args.next.now s.args.first s.args.second s.args.amount s.requires.0.0 s.requires.0.1 w.less-left.result c.more-grown.result
    (left_is w) (rw (to_z-of_z w64 s.args.amount s.ranges.amount) at c.more-grown.ensures)

second_in : (c : tie.After-less-left) → let s = start c in s.args.second < length (set s.args.next.now s.args.first c.less-left.result)
second_in c = let s = start c in
    second-in-met s.args.next.now s.args.first s.args.second s.args.amount s.requires.0.0 s.requires.0.1 c.less-left.result

pub pass_spec : {M : Type 1} → statement M
pass_spec =
    tie.close
    (tie.spec (search rules) (search rules) less-requires (search rules) (search rules)
    (λ c. let s = start c in cell-bytes (s.requires.0.0.second_in s.requires.0.1) s.requires.0.0.few)
    (λ c. second_in c.before) more-requires
    (λ c. let s = start c.before.before in cell-bytes (s.requires.0.0.second_in s.requires.0.1) s.requires.0.0.few)
    (λ c. second_in c.before.before) (search rules) returns)
