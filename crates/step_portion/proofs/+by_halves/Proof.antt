-- Half of the product, doubled, and one g more where a is odd. The number that falls is a.
use Prim.Native.Nat.{ℕ, ◌<◌}
use native.Mathlib.Nat.{div-add-mod', mod-lt}
use native.Mathlib.Omega.{arith}
use borrow.Fn.Kinds.{In}
use borrow.Fn.PlainCycle.{Measures, is, falls, and}
use Rattle.step_portion.proofs.Laws.{half-less, half-asks, odd-asks, even_is, odd_is, product-fits}
use Rattle.step_portion.proofs.by_halves.Reads as by-halves
use Rattle.step_portion.proofs.by_halves.Kinds as by-halves-kinds
use Rattle.step_portion.proofs.+by_halves.Lts-by_halves as by-halves-lts
use Rattle.step_portion.proofs.doubled.Reads as doubled-reads
use Rattle.step_portion.proofs.increased.Reads as increased-reads
use Rattle.step_portion.proofs.+by_halves.{statement}
use Rattle.step_portion.proofs.+by_halves.Tie.{close}

abbrev μ-by-halves : Measures 0 by-halves-kinds.ps ℕ
μ-by-halves κs a = a.0

abbrev by-halves-at : ℕ → In 0 by-halves-kinds.ps
by-halves-at t = and 0 by-halves-kinds.ps (is 0 by-halves-kinds.ps μ-by-halves t) by-halves.Pre

abbrev by-halves-below : ℕ → In 0 by-halves-kinds.ps
by-halves-below t = and 0 by-halves-kinds.ps (falls 0 by-halves-kinds.ps ◌<◌ μ-by-halves t) by-halves.Pre

pub +by_halves_spec : {M : Type 1} → statement M
+by_halves_spec = close μ-by-halves λ t. by-halves-lts.spec (
  by-halves-below t,
  by-halves.Post,
  doubled-reads.Asked,
  doubled-reads.Learnt,
  increased-reads.Asked,
  increased-reads.Learnt,
)
    (by-halves-at t)
    by-halves.Post
    (λ c. record { fits = product-fits _ _ _ c.if-a-few.true c.before.requires.1.1 })
    (λ c. omega (arith, c.before.requires.1.0))
    (λ c. record { fits = product-fits _ _ _ c.if-a-few.true c.before.requires.1.1 })
    (λ c. omega (arith, c.before.requires.1.0))
    (λ c. (div-add-mod' _ _, mod-lt _ (omega (arith, c.before.requires.1.0))))
    (λ c κs. (rw (← c.before.requires.0) (half-less _ _ c.if-a-few.false), c.before.requires.1))
    (λ c κs. let s = c.before.before in half-asks _ _ _ s.args.a _ s.ranges.a.fits s.requires.1.0 c.by_halves.ensures)
    (λ c. (even_is _ _ _ _ c.before.doubled-twice.ensures.0 c.before.before.by_halves.ensures.0 c.if-a-eq0.true, c.before.doubled-twice.ensures.1))
    (λ c κs.
    let s = c.before.before.before.before in
    odd-asks _ _ _ _ _ s.args.a _ s.ranges.a.fits s.requires.1.0 c.if-a-eq0.false c.before.before.by_halves.ensures.0 c.before.doubled-twice.ensures)
    (λ c. (
      odd_is _ _ _ _ _ c.increased.ensures.0 c.before.before.doubled-twice.ensures.0 c.before.before.before.by_halves.ensures.0
          c.before.if-a-eq0.false,
      c.increased.ensures.1,
    ))
