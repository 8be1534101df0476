-- `take_field`: the counted part of the call's own table is what was read, so its total is that of the field in the record.
use Rattle.std.proofs.Common.{ℕ, ◌≡◌, List, length, refl, sym, ap, ◌∙◌, Result, Err}
use Rattle.std.proofs.lemmas.Result.{err_from_is_err_and}
use Rattle.model.specs.Mesh.{run_cells}
use Rattle.model.specs.Causes.{long, mesh_field_verdict, cells_only}
use Rattle.model.specs.Answers.{said}
use Rattle.model.specs.declared.Refusal.{Refusal}
use Rattle.model.proofs.Verdicts.{past, out}
use Rattle.model.proofs.Parts.{part-long}
use Rattle.record_layouts.specs.declared.Width.{Width}
use Rattle.record_reading.specs.Reading.{masses_in, field_read}
use Rattle.record_reading.specs.Answers.{FieldReading}
use Rattle.taking.specs.Taking.{field_judged, FieldTaking}
use Rattle.taking.proofs.FieldLaws.{field-unread, masses-part, copy-asks, salt-refused, field_taken}
use Rattle.taking_records.proofs.field.take_field.Goals as goal

-- a record that reading refuses
unread : {w : Width} {cells : ℕ} {bs own own' : List ℕ} {a : Result (Unit {0}) Refusal} {r : Refusal} (volumes masses : List ℕ)
    → FieldReading (field_read w cells bs (length own)) cells bs own a own' → length own ≡ run_cells → a ≡ Err r
    → FieldTaking w cells volumes bs masses (Err r) masses
unfolding field_judged
unread {cells = cells} {bs = bs} volumes masses s run d =
    let e = rw run at s.answer in
    let o = out (mesh_field_verdict (cells_only cells volumes) (masses_in bs cells)) (out (long 5 cells (length masses)) (sym e ∙ ap said d)) in
    record { answer = sym (out _ o); masses-after = rw o }

pub returns-in_err-read_field : goal.returns-in_err-read_field
returns-in_err-read_field c =
    let p = err_from_is_err_and c.from_residual.result c.from_residual.ensures.1 in
    let s = c.args in
    rw (p.1, p.2) (unread s.volumes.now s.masses.now c.read_field.ensures refl c.in_err-read_field.was)

pub returns-in_err-long : goal.returns-in_err-long
returns-in_err-long c =
    let p = err_from_is_err_and c.from_residual-in_err-long.result c.from_residual-in_err-long.ensures.1 in
    let s = c.args in
    rw (p.1, p.2) (field-unread s.width s.volumes.now s.masses.now c.read_field.ensures refl c.long.result c.long.result c.long.ensures
    (sym (past _ (ap said c.in_ok-read_field.was))) c.in_err-long.was)

pub slice_bounds-read-end : goal.slice_bounds-read-end
slice_bounds-read-end c =
    let s = c.args in
    (masses-part s.width s.volumes.now s.masses.now c.read_field.ensures refl c.long.result c.long.result c.long.ensures
    (sym (past _ (ap said c.in_ok-read_field.was))) c.in_ok-long.was).fits

pub slice_bounds-counted-end : goal.slice_bounds-counted-end
slice_bounds-counted-end c =
    let s = c.args in
    part-long (masses-part s.width s.volumes.now s.masses.now c.read_field.ensures refl c.long.result c.long.result c.long.ensures
    (sym (past _ (ap said c.in_ok-read_field.was))) c.in_ok-long.was)

pub returns-in_err-total : goal.returns-in_err-total
returns-in_err-total c =
    let p = err_from_is_err_and c.from_residual-in_err-total.result c.from_residual-in_err-total.ensures.1 in
    let s = c.args in
    rw (p.1, p.2, ← c.in_err-total.was)
    (salt-refused s.width s.volumes.now s.masses.now c.read_field.ensures refl c.long.result c.long.result c.long.ensures
    (sym (past _ (ap said c.in_ok-read_field.was))) c.in_ok-long.was _ c.total.ensures c.in_err-total.was)

pub copy-requires : goal.copy-requires
copy-requires c =
    let s = c.args in
    copy-asks s.width s.volumes.now s.masses.now c.read_field.ensures refl c.long.result c.long.result c.long.ensures
    (sym (past _ (ap said c.in_ok-read_field.was))) c.in_ok-long.was

pub returns : goal.returns
returns c =
    let s = c.args in
    rw (← c.in_ok-total.was)
    (field_taken s.width s.volumes.now s.masses.now c.read_field.ensures refl c.long.result c.long.result c.long.ensures
    (sym (past _ (ap said c.in_ok-read_field.was))) c.in_ok-long.was _ c.total.ensures c.in_ok-total.was c.copy.ensures)
