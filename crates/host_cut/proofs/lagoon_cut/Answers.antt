-- The labels first; then the records, and the number of their answer.
use Rattle.model.proofs.Verdicts.{passes}
use Rattle.host_cut_promises.specs.Cut.{records_of}
use Rattle.host_cut.proofs.Number.{labels-fit, number_fits, cut-number, cut-unlabelled}
use Rattle.host_cut.proofs.lagoon_cut.Goals as goal

pub number_of-requires : goal.number_of-requires
number_of-requires c =
    let a = c.args in
    labels-fit a.mesh.now a.field.now a.step.now a.labels.now c.labels_found.ensures c.in-Err.is

pub returns-in-Err : goal.returns-in-Err
returns-in-Err c =
    let a = c.args in
    cut-unlabelled a.mesh.now a.field.now a.step.now a.labels.now (records_of a.mesh0.now a.field0.now a.step0.now)
    (records_of a.mesh1.now a.field1.now a.step1.now) c.labels_found.ensures c.in-Err.is c.number_of.ensures

pub answered-requires : goal.answered-requires
answered-requires c =
    let a = c.args in
    number_fits a.mesh.now a.field.now a.step.now a.labels.now c.on_records-b.ensures

pub returns : goal.returns
returns c =
    let a = c.args in
    cut-number a.mesh.now a.field.now a.step.now a.labels.now c.on_records-b.ensures (passes c.labels_found.ensures c.in_default.is) c.answered.ensures
