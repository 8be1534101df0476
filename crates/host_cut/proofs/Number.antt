-- What a cutting of records refuses has a small place, so that its number fits; and the promise, from what the calls below have found.
use Prim.Native.Nat.{ℕ, ◌^◌, ◌<◌}
use mathlib.Core.Path.{◌≡◌, ap, ◌∙◌}
use mathlib.Core.List.{List}
use native.Mathlib.Omega.{arith}
use Rattle.model.specs.Causes.{Outcome, accepted, refused, Verdict, fine, ◌and_then◌, granted}
use Rattle.model.specs.Answers.{number, told, said}
use Rattle.model.specs.declared.Refusal.{Refusal}
use Rattle.model.proofs.Verdicts.{out, refuses}
use Rattle.cutting_parts.specs.Cut.{Lagoon, lagoon_of}
use Rattle.cutting_parts.specs.Refusals.{parts, label_causes, label_values, cut_answer}
use Rattle.record_layouts.specs.declared.Width.{Width}
use Rattle.record_heads.specs.Heads.{kind_in, width_in}
use Rattle.record_reading.specs.Reading.{mesh_in}
use Rattle.taking_mesh.specs.MeshTaking.{mesh_judged_in_run}
use Rattle.host_answer.specs.Number.{refusal_number, number_of}
use Rattle.host_answer.specs.Found.{Answered}
use Rattle.host_answer.proofs.Small.{Small, small-and, small-need, small-each, small-turn, small-giving, small-number}
use Rattle.host_answer.proofs.Answers.{refusal-of, answered-refused, answered-as}
use Rattle.host_read_promises.proofs.WriteSmall.{mesh-write-small, field-write-small, step-write-small}
use Rattle.host_parts.proofs.Small.{cut-answer-small}
use Rattle.host_tested.specs.Tested.{field_in}
use Rattle.host_tested.proofs.Small.{few, field-tested-small, step-record-small}
use Rattle.host_cut_promises.specs.Cut.{Records, own_part, both_lengths, rooms_find, piece, records_over, labels_find, labelled, lagoon_in, lengths_found, cut_tested, cut_found, CutFromC}
use Rattle.host_cut_promises.specs.Inner.{writers_find, records_find, cut_said, cut_finds, cut_judged, cut_taken, CutWritten, CutTaking}
use Rattle.host_cut_promises.proofs.Cut.{cut-past}
use Rattle.host_cut_promises.proofs.Room.{rooms-left}
use Rattle.host_cut_promises.proofs.Order.{cut-as-step}
use Rattle.std.specs.Prelude.{Result, Err}
use Rattle.host_cut_promises.specs.declared.CutLengths.{CutLengths}

-- the first of two
small-first : {A : Type 0} (v : Verdict) (w : Outcome A) → Small (v and_then w) → Small v
unfolding ◌and_then◌
small-first (accepted t) w s = record { parts = tt }
small-first (refused k i) w s = record { parts = s.parts }

writers-small : (w : Width) (kind : ℕ) (P : Lagoon) (m f s : ℕ) → Small (writers_find w kind P m f s)
writers-small w kind P m f s = small-and (small-and (mesh-write-small w _ m) (field-write-small w _ f _)) (step-write-small w _ s kind _ _ _)

cut_small : (L : Lagoon) (labels : List ℕ) → Small (cut_finds L labels)
unfolding cut_answer
cut_small L labels = small-first (cut_finds L labels) _ (cut-answer-small L labels own_part own_part)

module _ (mesh field step labels : List ℕ) where
  labels-small : Small (labels_find (mesh_in mesh).cells labels)
  unfolding labels_find label_values
  labels-small = small-and (small-need 2 15 _ (omega arith)) (small-turn (label_causes (lagoon_of (mesh_in mesh).cells 0 own_part) labels)
      (small-each 23 _ _ (omega (arith, few mesh)), (small-each 24 parts _ (omega arith), tt)))

  labelled-small : Small (labelled mesh labels)
  labelled-small = small-and (small-first (mesh_judged_in_run mesh) _ (field-tested-small mesh field)) labels-small

  judged-small : Small (cut_judged (width_in mesh) (mesh_in mesh) (field_in mesh field) step labels)
  unfolding cut_judged
  judged-small = small-and (step-record-small mesh step) (cut_small (lagoon_in mesh field step) labels)

  records-small : (lent₀ lent₁ : Records) → Small (records_find (width_in mesh) (kind_in step) (lagoon_in mesh field step) labels lent₀ lent₁)
  records-small lent₀ lent₁ = small-and (writers-small _ _ _ _ _ _) (writers-small _ _ _ _ _ _)

  -- where the labels are refused
  pub labels-fit : {a : Result (Unit {0}) Refusal} {r : Refusal} → said a ≡ labelled mesh labels → a ≡ Err r → refusal_number (number r.cause) r.place < 2 ^ 64
  labels-fit e d = refusal-of {o = labelled mesh labels} (refuses e d) (small-number _ labelled-small)

  module _ {lent₀ lent₁ : Records} {a : Result CutLengths Refusal} {after₀ after₁ : Records} (p : CutTaking mesh field step labels lent₀ lent₁ a after₀ after₁) where
    pub number_fits : number_of (cut_said a) < 2 ^ 64
    number_fits = rw p.answer
        (small-number _ (small-giving _ (small-and (small-and (field-tested-small mesh field) judged-small) (records-small lent₀ lent₁))))

    pub cut-number : labelled mesh labels ≡ fine → {found : List ℕ} {r : ℕ} {found' : List ℕ} → Answered lengths_found (cut_said a) found r found'
        → CutFromC mesh field step labels lent₀ lent₁ found r after₀ after₁ found'
    cut-number e {found = found} n =
        let q : CutWritten (cut_taken mesh field step labels) (width_in mesh) (kind_in step) (lagoon_in mesh field step) labels lent₀ lent₁ a after₀ after₁ =
        cut-past e p in
        let l = rooms-left mesh field step labels lent₀ lent₁ ∙ ap (λ (v : Verdict). v and_then rooms_find (width_in mesh) (kind_in step) (lagoon_in mesh field step)
        labels lent₀ lent₁) (cut-as-step mesh field step labels) in
        let b = both_lengths (width_in mesh) (kind_in step) (lagoon_in mesh field step) labels in
        record {
          answer = answered-as lengths_found found (q.answer ∙ ap (λ (v : Verdict). v and_then accepted b) l) n;
          part_0 = q.part_0 ∙ ap
              (λ (v : Verdict). granted v (records_over (width_in mesh) (kind_in step) (piece (lagoon_in mesh field step) labels 0) lent₀) lent₀) l;
          part_1 = q.part_1 ∙ ap
              (λ (v : Verdict). granted v (records_over (width_in mesh) (kind_in step) (piece (lagoon_in mesh field step) labels 1) lent₁) lent₁) l;
        }

  pub cut-unlabelled : (lent₀ lent₁ : Records) {a : Result (Unit {0}) Refusal} {r : Refusal} → said a ≡ labelled mesh labels → a ≡ Err r → {found : List ℕ} {k : ℕ}
      → k ≡ refusal_number (number r.cause) r.place → CutFromC mesh field step labels lent₀ lent₁ found k lent₀ lent₁ found
  cut-unlabelled lent₀ lent₁ {r = r} e d {found = found} n =
      let t : cut_tested mesh field step labels ≡ told r = out _ (refuses e d) in
      let g : cut_found mesh field step labels lent₀ lent₁ ≡ told r = out _ t in
      record {
        answer = answered-refused lengths_found found (out (accepted (both_lengths (width_in mesh) (kind_in step) (lagoon_in mesh field step) labels)) g) n;
        part_0 = rw g;
        part_1 = rw g;
      }
