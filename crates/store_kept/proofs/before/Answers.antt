-- A search for a name goes on, ends at it, or past the last field.
use Rattle.std.proofs.Common.{◌≡◌, ◌∙◌, rules, arith}
use Rattle.store_kept.specs.Store.{count}
use Rattle.store_kept.proofs.Named.{search-start, search-on, search-hit, search-end}
use Rattle.store_kept.proofs.before.Goals as goal

pub loop-i-init : goal.loop-i-init
loop-i-init c = search-start _ _ _

pub returns-then-store-used : goal.returns-then-store-used
returns-then-store-used c = search-hit _ _ _ c.loop-i.i (search rules) (rw c.used.ensures at c.if-store-used.true) c.loop-i.invariant

pub loop-i-preserved : goal.loop-i-preserved
loop-i-preserved c = search-on _ _ _ c.loop-i.i (search rules) (rw c.used.ensures at c.if-store-used.false) c.loop-i.invariant

pub returns : goal.returns
returns c = let all : count c.args.store.now ≡ c.loop-i.i = omega arith in all ∙ search-end _ _ _ c.loop-i.i (search rules) c.loop-i.invariant
