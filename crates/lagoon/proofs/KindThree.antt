-- The host's call on a record of kind 3 or 7: what is found and made is what the run finds and makes.
use Prim.Native.Nat.{ℕ}
use mathlib.Core.Path.{◌≡◌, refl, ap, ◌∙◌}
use mathlib.Core.List.{List}
use lib.ListN.{length}
use Rattle.lists.specs.Table.{over}
use Rattle.model.specs.Causes.{accepted, refused, Verdict, ◌and_then◌, granted, bytes_long}
use Rattle.record_layouts.specs.Layouts.{field_kind, water_kind, field_record, field_length}
use Rattle.record_heads.specs.Heads.{kind_in, width_in}
use Rattle.record_layouts.specs.declared.Width.{Width}
use Rattle.record_reading.specs.Reading.{mesh_in, masses_in}
use Rattle.taking.proofs.KindThree.{judged-same, next-same}
use Rattle.host_answer.specs.Number.{number_of}
use Rattle.host_tested.specs.Tested.{field_tested}
use Rattle.lagoon.specs.Host.{host_verdict, host_bytes}
use Rattle.lagoon.specs.KindThree.{host_verdict01, next_record01, HostAsBefore}
use Rattle.lagoon.proofs.Stages.{host-says}

module _ (w : Width) (mesh field step : List ℕ) (e : kind_in step ≡ water_kind w) where
  verdict-same : (room : ℕ) → host_verdict mesh field step room ≡ host_verdict01 mesh field step room
  unfolding host_verdict
  verdict-same room = ap (λ (v : Verdict). field_tested mesh field and_then v
      and_then bytes_long (field_length (field_kind (width_in mesh)) (mesh_in mesh).cells) room)
      (judged-same w (width_in mesh) (mesh_in mesh) (masses_in field (mesh_in mesh).cells) step e)

  bytes_same : (bytes : List ℕ) (v : Verdict) → host_verdict mesh field step (length bytes) ≡ v → host_bytes mesh field step bytes
      ≡ granted v (over (next_record01 mesh field step) bytes) bytes
  unfolding host_bytes
  bytes_same bytes (accepted t) q = rw q (ap (λ (xs : List ℕ). over (field_record (field_kind (width_in mesh)) (mesh_in mesh).cells xs) bytes)
      (next-same w (width_in mesh) (mesh_in mesh) (masses_in field (mesh_in mesh).cells) step e (host-says mesh field step (length bytes) q).step_fine))
  bytes_same bytes (refused i j) q = rw q

pub host-as-before : HostAsBefore
host-as-before w mesh field step bytes e r bytes' p = (
  p.number ∙ ap number_of (verdict-same w mesh field step e (length bytes)),
  p.next_field ∙ bytes_same w mesh field step e bytes (host_verdict mesh field step (length bytes)) refl
      ∙ ap (λ (v : Verdict). granted v (over (next_record01 mesh field step) bytes) bytes) (verdict-same w mesh field step e (length bytes)),
)
