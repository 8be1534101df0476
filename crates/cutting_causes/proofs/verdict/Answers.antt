-- Lengths, then values: a refusal of the first is the answer.
use Rattle.std.proofs.Common.{sym, ◌∙◌}
use Rattle.std.proofs.lemmas.Result.{err_from_is_err_and}
use Rattle.model.proofs.Verdicts.{out, past}
use Rattle.cutting_causes.proofs.Asks.{step-lent}
use Rattle.cutting_causes.proofs.verdict.Goals as goal

pub returns-in_err-lengths : goal.returns-in_err-lengths
returns-in_err-lengths c =
    let p = err_from_is_err_and c.from_residual.result c.from_residual.ensures.1 in
    rw (p.1, p.2) (sym (out _ (sym c.in_err-lengths.ensures)))

pub values-requires : goal.values-requires
values-requires c =
    let s = c.args in
    step-lent s.cells s.faces s.volumes.now s.firsts.now s.seconds.now s.shares.now s.reaches.now s.masses.now s.fluxes.now s.outsides.now s.releases.now s.labels.now
    s.v0 s.v1 s.f0 s.f1 s.s0 s.s1 s.h0 s.h1 s.k0 s.k1 s.m0 s.m1 s.u0 s.u1 s.o0 s.o1 s.r0 s.r1
    (sym c.in_ok-lengths.ensures)

pub returns : goal.returns
returns c = c.values.ensures ∙ sym (past _ (sym c.in_ok-lengths.ensures))
