-- What a field record comes to, from what the calls that `take_field` makes promise.
use Prim.Native.Nat.{ℕ, ◌≤◌}
use mathlib.Core.Path.{◌≡◌, sym, ap, ◌∙◌}
use mathlib.Core.List.{List, [], ◌∷◌}
use native.Mathlib.Omega.{arith}
use lib.ListN.{length, take}
use Rattle.lists.specs.Table.{over}
use Rattle.lists.specs.Fold.{sum}
use Rattle.lists.proofs.Tables.{length-table}
use Rattle.model.specs.Mesh.{total, run_cells}
use Rattle.model.specs.Causes.{accepted, Verdict, fine, ◌and_then◌, long, mesh_field_verdict, cells_only}
use Rattle.model.specs.Answers.{number, said}
use Rattle.model.specs.Calls.{mass_in}
use Rattle.model.specs.declared.Refusal.{Refusal}
use Rattle.model.proofs.Verdicts.{all-fine, past, out, refused-of, accepted-of, long-fine}
use Rattle.checks.specs.Total.{total_said}
use Rattle.record_reading.specs.Reading.{masses_in, field_read}
use Rattle.record_reading.proofs.ReadLaws.{field-read-says}
use Rattle.record_layouts.specs.declared.Width.{Width}
use Rattle.record_reading.specs.Answers.{FieldReading}
use Rattle.taking.specs.Taking.{field_judged_causes, field_judged, FieldTaking}
use Rattle.model.proofs.Parts.{PartRead, read-part}
use Rattle.std.specs.Prelude.{Result, Ok, Err}

-- what a field of which nothing is found has passed
pub record FieldSays (w : Width) (cells : ℕ) (volumes bs : List ℕ) (masses : ℕ) : Type 0 where
  pub reads : field_read w cells bs run_cells ≡ fine
  pub room : cells ≤ masses
  pub values : mesh_field_verdict (cells_only cells volumes) (masses_in bs cells) ≡ fine

pub field-says : (w : Width) (cells : ℕ) (volumes bs : List ℕ) (masses : ℕ) → field_judged w cells volumes bs masses ≡ fine
    → FieldSays w cells volumes bs masses
unfolding field_judged
field-says w cells volumes bs masses e =
    let p = all-fine (field_judged_causes w cells volumes bs masses) e in
    record { reads = p.0; room = long-fine 5 _ _ p.1.0; values = p.1.1.0 }

module _ (w : Width) (volumes masses : List ℕ) {cells : ℕ} {bs own own' : List ℕ} {a : Result (Unit {0}) Refusal}
    (s : FieldReading (field_read w cells bs (length own)) cells bs own a own') (run : length own ≡ run_cells)
    (l b : Result (Unit {0}) Refusal) (lent : said l ≡ long 5 cells (length masses)) (both : said b ≡ (said a and_then said l)) where
  -- found before the values are judged
  found : said b ≡ (field_read w cells bs run_cells and_then long 5 cells (length masses))
  found = let q : said b ≡ (field_read w cells bs (length own) and_then long 5 cells (length masses)) = both ∙ rw (s.answer, lent) in rw run at q

  pub field-unread : {r : Refusal} → b ≡ Err r → FieldTaking w cells volumes bs masses (Err r) masses
  unfolding field_judged
  field-unread d =
      let o = out (mesh_field_verdict (cells_only cells volumes) (masses_in bs cells)) (sym found ∙ ap said d) in
      record { answer = sym (out _ o); masses-after = rw o }

  module _ (d : b ≡ Ok tt) where
    passed : (field_read w cells bs run_cells and_then long 5 cells (length masses)) ≡ fine
    passed = sym found ∙ ap said d

    parts : (field_read w cells bs run_cells ≡ fine) × (long 5 cells (length masses) ≡ fine)
    parts = let p = all-fine (_ ∷ _ ∷ []) passed in (p.0, p.1.0)

    masses-room : cells ≤ length masses
    masses-room = long-fine 5 _ _ parts.1

    own_room : cells ≤ length own
    own_room = omega (arith, (field-read-says w cells bs run_cells parts.0).tables.masses_long, run)

    pub masses-part : PartRead cells (masses_in bs cells) own'
    unfolding masses_in
    masses-part = let v : field_read w cells bs (length own) ≡ fine = rw run parts.0 in read-part cells _ own own' v own_room s.masses_read

    counted-long : length (masses_in bs cells) ≡ cells
    unfolding masses_in
    counted-long = length-table _ _

    pub copy-asks : length (take cells own') ≤ length masses
    copy-asks = rw masses-part.part (omega (arith, counted-long, masses-room))

    module _ (t : Result ℕ Refusal) (q : total_said t ≡ (mesh_field_verdict (cells_only cells volumes) (take cells own')
        and_then accepted (sum cells (mass_in (take cells own'))))) where
      abbrev values : Verdict
      values = mesh_field_verdict (cells_only cells volumes) (masses_in bs cells)

      judged : total_said t ≡ (values and_then accepted (sum cells (mass_in (masses_in bs cells))))
      judged = rw masses-part.part at q

      pub salt-refused : {r : Refusal} → t ≡ Err r → FieldTaking w cells volumes bs masses t masses
      unfolding field_judged
      salt-refused {r = r} f =
          let o = past values passed ∙ refused-of values _ (number r.cause) r.place (sym (ap total_said f) ∙ judged) in
          record { answer = ap total_said f ∙ sym (out _ o); masses-after = rw o }

      pub field_taken : {n : ℕ} {masses' : List ℕ} → t ≡ Ok n → masses' ≡ over (take cells own') masses
          → FieldTaking w cells volumes bs masses t masses'
      unfolding field_judged total
      field_taken {n = n} {masses' = masses'} f m =
          let v = accepted-of values _ n (sym (ap total_said f) ∙ judged) in
          let o = past values passed ∙ v.0 in
          let e : masses' ≡ over (masses_in bs cells) masses = rw masses-part.part at m in
          record {
            answer = judged ∙ sym (ap (λ (v : Verdict). v and_then accepted (sum cells (mass_in (masses_in bs cells)))) (past values passed));
            masses-after = rw o e;
          }
