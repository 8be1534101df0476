-- The masses summed are the first of the table; that their sum fits is asked for, not tested.
use Rattle.std.proofs.Common.{◌≡◌, ◌≤◌, ℕ, zero, suc, List, arith, rules, length, take, sum, refl, sym, ap, ◌∙◌, add-one}
use Rattle.std.proofs.lemmas.List.Sums.{sum_by_more}
use Rattle.lists.specs.Fold.{sum as sum_below}
use Rattle.model.specs.Calls.{mass_in}
use Rattle.checks.proofs.field.sum_of.Goals as goal

-- the sum of the first entries, as the standard library has it
same_sum : (xs : List ℕ) (n : ℕ) → n ≤ length xs → sum (take n xs) ≡ sum_below n (mass_in xs)
unfolding sum_below
same_sum xs zero h = refl
same_sum xs (suc n) h =
    ap (λ (k : ℕ). sum (take k xs)) (sym (add-one n)) ∙ sum_by_more (λ x. x) xs n 0 (omega arith) ∙ rw (same_sum xs n (omega arith))

pub sum-requires-clause-fits : goal.sum-requires-clause-fits
sum-requires-clause-fits c = let e = same_sum c.args.masses.now c.args.cells c.requires.0 in search rules

pub returns : goal.returns
returns c = let e = same_sum c.args.masses.now c.args.cells c.requires.0 in search rules
