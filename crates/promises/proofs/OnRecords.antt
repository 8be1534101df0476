-- A call on records that hold a mesh and a field, by whatever scheme it steps, as a call of a list: what it owes. The records hold the counted
-- entries, so the step is one on tables trimmed to the counts, which agrees with the step on the whole tables.
use Prim.Native.Nat.{ℕ}
use mathlib.Core.Path.{◌≡◌, refl, sym, ap, ◌∙◌}
use mathlib.Core.List.{List}
use native.Mathlib.Omega.{arith}
use lib.ListN.{length, drop}
use lib.Seq.{take_at}
use Rattle.lists.specs.Table.{table, over}
use Rattle.lists.proofs.Tables.{length-table, get_or-table, table-cong}
use Rattle.model.specs.Mesh.{Mesh, second, updated}
use Rattle.model.specs.Step.{StepInput, mass, released_mass}
use Rattle.model.specs.Causes.{accepted, refused, Verdict, fine, ◌and_then◌, granted, Call, input_of, mesh_values, mesh_verdict}
use Rattle.model.specs.Calls.{mass_in, Bounded, Left, crossing_of, Scheme}
use Rattle.model.proofs.Verdicts.{accepted-of, refused-of}
use Rattle.model.proofs.Accepted.{counted, mesh-fit}
use Rattle.model.proofs.Lists.{Fair, Keeping, amounts-fair, raised-total}
use Rattle.model.proofs.Agree.{in-agree, out-agree, inputs-agree, fair-agree}
use Rattle.record_layouts.specs.Layouts.{field_kind, field_record, field_length}
use Rattle.record_heads.specs.Heads.{width_in}
use Rattle.record_layouts.specs.declared.Width.{Width}
use Rattle.record_writing.specs.Writing.{most_of}
use Rattle.record_reading.specs.Reading.{mesh_in, masses_in, outsides_in, releases_in}
use Rattle.record_writing.proofs.Back.{field-record-length}
use Rattle.host_record_promises.specs.Next.{next_by}
use Rattle.promises.specs.Held.{trimmed, trimmed_field, HoldsField}
use Rattle.promises.specs.Steps.{HostMade, host_said, next_record, Brought, NextHeld}
use Rattle.promises.proofs.Counted.{outsides-same, releases-same, trimmed-agrees}
use Rattle.promises.proofs.Held.{within, passes, width-held, holds-within, field-holds}

-- a step record holds the same outside values and releases on a mesh trimmed to its counts
pub record_same : (M : Mesh) (step : List ℕ) {A : Type 0} (F : List ℕ → List ℕ → A)
    → F (outsides_in step M.faces (trimmed M).seconds) (releases_in step M.cells M.faces (trimmed M).seconds)
    ≡ F (outsides_in step M.faces M.seconds) (releases_in step M.cells M.faces M.seconds)
record_same M step F =
    let same = get_or-table M.faces (second M) 0 in
    rw (
      outsides-same step M.cells M.faces M.seconds (table M.faces (second M)) same,
      releases-same step M.cells M.faces M.seconds (table M.faces (second M)) same,
    )

-- the call that a step record makes on a mesh, the same on one that is trimmed
module _ (s : Scheme) (keeping : Keeping s) (M : Mesh) (mesh_fine : mesh_verdict M ≡ fine) (field : List ℕ) (m : HostMade) (brought : Brought M m field)
    (call_in : Mesh → Call) (call_same : call_in (trimmed M) ≡ call_in M) where
  abbrev w : Width
  w = m.width

  -- the mesh is within the ceilings of its records
  fits : mesh_values (most_of w) M ≡ fine
  fits = holds-within w M mesh_fine m.mesh brought.0

  abbrev k : Call
  k = call_in M

  -- whatever is said of what the records hold is said of the counted entries
  carry : {A : Type 0} (F : Mesh → List ℕ → Call → A)
      → F (mesh_in m.mesh) (masses_in m.field (mesh_in m.mesh).cells) (call_in (mesh_in m.mesh)) ≡ F (trimmed M) (trimmed_field M field) k
  carry F = ap (λ (N : Mesh). F N (masses_in m.field N.cells) (call_in N)) brought.0.mesh_held
      ∙ ap (λ (x : List ℕ). F (trimmed M) x (call_in (trimmed M))) brought.1.field_held
      ∙ ap (λ (c : Call). F (trimmed M) (trimmed_field M field) c) call_same

  -- the step that the records hold, and the masses after it
  abbrev trimmed_step : StepInput
  trimmed_step = input_of (trimmed M) (trimmed_field M field) k

  abbrev whole : StepInput
  whole = input_of M field k

  abbrev next_mass : ℕ → ℕ
  next_mass = updated (trimmed M) (mass trimmed_step) (s.moves (trimmed M) (trimmed_field M field) k)

  abbrev after : List ℕ
  after = next_by s (trimmed M) (trimmed_field M field) k

  abbrev left : Left
  left = record { field = after; crossing = crossing_of M field k }

  -- as much comes in and goes out
  crossing-same : crossing_of (trimmed M) (trimmed_field M field) k ≡ crossing_of M field k
  crossing-same =
      let few_cells = (counted M (within M mesh_fine)).few_cells in
      let fit = mesh-fit M (passes M mesh_fine) in
      let g = inputs-agree M (trimmed M) field (trimmed_field M field) k k (trimmed-agrees M field k) in
      rw (in-agree whole trimmed_step few_cells fit g, out-agree whole trimmed_step few_cells fit g)

  pub records-crossing : crossing_of (mesh_in m.mesh) (masses_in m.field (mesh_in m.mesh).cells) (call_in (mesh_in m.mesh)) ≡ crossing_of M field k
  records-crossing = carry crossing_of ∙ crossing-same

  module _ (found : s.finds (trimmed M) (trimmed_field M field) k ≡ fine) where
    trimmed-fair : Fair (trimmed M) (Bounded trimmed_step after) (trimmed_field M field) left
    trimmed-fair = amounts-fair trimmed_step (keeping.readies (trimmed M) (trimmed_field M field) k found)
        (s.moves (trimmed M) (trimmed_field M field) k) (keeping.keeps (trimmed M) (trimmed_field M field) k found) (trimmed_field M field)
        (released_mass M.cells k.releases) (raised-total (trimmed M) (trimmed_field M field) k) after
        (omega (arith, length-table M.cells next_mass)) (λ c h. get_or-table M.cells next_mass 0 c h) left refl (sym crossing-same)

    left-fair : Fair M (Bounded whole after) field left
    left-fair = fair-agree M (trimmed M) field (trimmed_field M field) k k (trimmed-agrees M field k)
        (counted M (within M mesh_fine)).few_cells (mesh-fit M (passes M mesh_fine)) left trimmed-fair

    after_holds : HoldsField w M after (field_record (field_kind w) M.cells after)
    after_holds = field-holds w M mesh_fine fits after left-fair.field_accepted

    read_back : masses_in (field_record (field_kind w) M.cells after) M.cells ≡ after
    read_back = after_holds.field_held ∙ table-cong 0 M.cells (mass_in after) next_mass (λ c h. get_or-table M.cells next_mass 0 c h)

  record-long : length (field_record (field_kind w) M.cells after) ≡ field_length (field_kind w) M.cells
  unfolding field_length
  record-long = field-record-length (field_kind w) M.cells after

  -- what was found, as the number says it; where it is nothing the scheme finds nothing, and the bytes are the next field record
  module _ (v : Verdict) (says : host_said m.number ≡ v)
      (finds : v ≡ fine → s.finds (mesh_in m.mesh) (masses_in m.field (mesh_in m.mesh).cells) (call_in (mesh_in m.mesh)) ≡ fine)
      (bytes-are : m.bytes ≡ granted v (over (field_record (field_kind (width_in m.mesh)) (mesh_in m.mesh).cells
      (next_by s (mesh_in m.mesh) (masses_in m.field (mesh_in m.mesh).cells) (call_in (mesh_in m.mesh)))) m.room) m.room) where
    module _ (ok : v ≡ fine) where
      found : s.finds (trimmed M) (trimmed_field M field) k ≡ fine
      found = sym (carry s.finds) ∙ finds ok

      next-record-is : next_record M m ≡ field_record (field_kind w) M.cells after
      unfolding over
      next-record-is =
          rw (
            bytes-are,
            ok,
            ← width-held w M m.mesh brought.0,
            carry (λ N x c. field_record (field_kind w) N.cells (next_by s N x c)),
          )
          (take_at (field_record (field_kind w) M.cells after) (drop (length (field_record (field_kind w) M.cells after)) m.room)
          (field_length (field_kind w) M.cells) record-long)

      masses_are : masses_in (next_record M m) M.cells ≡ after
      masses_are = ap (λ (r : List ℕ). masses_in r M.cells) next-record-is ∙ read_back found

      next-holds : NextHeld M m left
      next-holds = rw next-record-is (after_holds found)

      left-kept : Fair M (Bounded whole after × NextHeld M m left) field left
      left-kept = let f = left-fair found in record { budget = f.budget; holds = (f.holds, next-holds); field_accepted = f.field_accepted }

    abbrev came : Left
    came = record { field = masses_in (next_record M m) M.cells; crossing = crossing_of M field k }

    pub records-fair : (l : Left) → (host_said m.number and_then accepted came) ≡ accepted l
        → Fair M (Bounded whole l.field × NextHeld M m l) field l
    records-fair l e =
        let b = accepted-of (host_said m.number) came l (sym e) in
        let ok : v ≡ fine = sym says ∙ b.0 in
        let same : l ≡ left = b.1 ∙ ap (λ (x : List ℕ). record { field = x; crossing = crossing_of M field k }) (masses_are ok) in
        rw same (left-kept ok)

    -- refused: the bytes are as they were
    pub records-refused : (i j : ℕ) → (host_said m.number and_then accepted came) ≡ refused i j → (v ≡ refused i j) × (m.bytes ≡ m.room)
    records-refused i j e =
        let r : v ≡ refused i j = sym says ∙ refused-of (host_said m.number) came i j (sym e) in
        (r, bytes-are ∙ rw r)
