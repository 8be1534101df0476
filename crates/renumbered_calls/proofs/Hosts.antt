-- Two calls of the host on records: both find the same cause, and the second's next field record is the first's, numbered anew.
use Prim.Native.Nat.{ℕ, ◌+◌, ◌*◌, ◌/◌, ◌^◌, ◌<◌}
use mathlib.Core.Path.{◌≡◌, refl, sym, ap, ◌∙◌}
use mathlib.Core.Bool.{Bool, false, cond}
use mathlib.Core.List.{List}
use native.Mathlib.Nat.{mul-le-mul}
use native.Mathlib.Omega.{arith}
use borrow.Author.Tests.{ne_eqb}
use lib.Dec.{eqb}
use lib.ListN.{length, take, drop}
use lib.Seq.{take_at}
use Rattle.lists.specs.Renumbering.{Renumbering}
use Rattle.lists.specs.Table.{table, over}
use Rattle.lists.proofs.Tables.{length-table, get_or-table}
use Rattle.model.specs.Mesh.{Mesh, ceiling}
use Rattle.model.specs.Step.{StepInput, next}
use Rattle.model.specs.Causes.{accepted, refused, Verdict, fine, granted, bytes_long, input_of, verdict}
use Rattle.model.specs.Alike.{unplaced}
use Rattle.model.proofs.Verdicts.{both-fine}
use Rattle.model.proofs.Accepted.{ready, hi-most, volumes-within}
use Rattle.model.specs.Accepted.{Ready}
use Rattle.model.proofs.Next.{next-bounds}
use Rattle.model.proofs.AlikeCauses.{in-turn}
use Rattle.record_layouts.specs.Layouts.{field_kind, width_of, mass_width, mass_bits, field_record, field_length}
use Rattle.record_heads.specs.Heads.{width_in, cells_in, faces_in}
use Rattle.record_layouts.specs.declared.Width.{Width}
use Rattle.record_layouts.specs.declared.Width.TheVariants.{Narrow, Wide}
use Rattle.record_layouts.proofs.Layouts.{field-mass}
use Rattle.record_reading.specs.Reading.{mesh_in, masses_in}
use Rattle.record_writing.proofs.WidthLaws.{field_fits}
use Rattle.record_writing.proofs.Back.{field-record-length, masses-back}
use Rattle.taking_mesh.proofs.MeshLaws.{mesh-small}
use Rattle.taking.specs.Taking.{step_in}
use Rattle.lagoon.specs.Host.{host_verdict, host_bytes}
use Rattle.lagoon.proofs.Small.{taken-apart}
use Rattle.host_answer.specs.Number.{cause_step, number_of}
use Rattle.host_answer.proofs.Small.{Parts}
use Rattle.renumbered.specs.Renumbered.{renumbered_field}
use Rattle.renumbered.proofs.TwoSteps.{fine-values}
use Rattle.renumbered_calls.specs.Anew.{mesh_anew, field_anew, step_anew, Reads, HeldAnew}
use Rattle.renumbered_calls.specs.Hosts.{TwoHosts}
use Rattle.renumbered_calls.proofs.Judged.{mesh_fine, judged, judged-is, few, judged-alike, as-held, next-anew}
use Rattle.renumbered_calls.proofs.Anew.{exact, held}

-- the number of a verdict: 0 of none, and else its cause and its place taken apart
numbers-agree : (v v' : Verdict) → ((c p : ℕ) → v ≡ refused c p → Parts c p) → ((c p : ℕ) → v' ≡ refused c p → Parts c p)
    → unplaced v' ≡ unplaced v → number_of v' / cause_step ≡ number_of v / cause_step
numbers-agree (accepted t) (accepted t') a b e = refl
numbers-agree (refused c p) (refused c' p') a b e = let q : c' ≡ c = cc in omega (arith, a c p refl, b c' p' refl)
numbers-agree (accepted t) (refused c' p') a b e = let z : ◌≡◌ {A = ℕ} 0 1 = cc in absurd (omega arith)
numbers-agree (refused c p) (accepted t') a b e = let z : ◌≡◌ {A = ℕ} 0 1 = cc in absurd (omega arith)

module _ (mesh : List ℕ) (cell : Renumbering (cells_in mesh)) (face : Renumbering (faces_in mesh)) (turns : ℕ → Bool) (field step : List ℕ)
    (reads : Reads mesh field step) (lent lent' : List ℕ) (same-room : length lent' ≡ length lent) where
  abbrev mesh' : List ℕ
  mesh' = mesh_anew mesh cell face turns

  abbrev field' : List ℕ
  field' = field_anew mesh cell face turns field

  abbrev step' : List ℕ
  step' = step_anew mesh cell face turns step

  abbrev v : Verdict
  v = host_verdict mesh field step (length lent)

  abbrev v' : Verdict
  v' = host_verdict mesh' field' step' (length lent')

  abbrev S : StepInput
  S = input_of (mesh_in mesh) (masses_in field (cells_in mesh)) (step_in (mesh_in mesh) step)

  abbrev n : ℕ
  n = cells_in mesh

  h : HeldAnew mesh cell face turns field step
  h = held mesh cell face turns field step reads

  abbrev w : Width
  w = width_in mesh

  width_same : width_in mesh' ≡ w
  width_same = ap width_of h.mesh-kind

  cells_same : cells_in mesh' ≡ n
  cells_same = ap (λ (N : Mesh). N.cells) h.mesh_held

  found_alike : unplaced v' ≡ unplaced v
  unfolding host_verdict
  found_alike = in-turn false (judged mesh field step) (judged mesh' field' step')
      (bytes_long (field_length (field_kind w) n) (length lent)) (bytes_long (field_length (field_kind (width_in mesh')) (cells_in mesh')) (length lent'))
      (judged-alike mesh cell face turns field step reads h) (λ e. rw (width_same, cells_same, same-room))

  causes-agree : number_of v' / cause_step ≡ number_of v / cause_step
  causes-agree = numbers-agree v v' (taken-apart mesh field step (length lent)) (taken-apart mesh' field' step' (length lent')) found_alike

  module _ (ok : v ≡ fine) where
    passed : judged mesh field step ≡ fine
    unfolding host_verdict
    passed = (both-fine _ _ ok).0

    mass_fits : (c : ℕ) → c < n → next S c < 2 ^ mass_bits (field_kind w)
    mass_fits c l = rw (field-mass w) (go (width_in mesh) refl)
      where
        found : verdict (mesh_in mesh) (masses_in field n) (step_in (mesh_in mesh) step) ≡ fine
        found = (both-fine _ _ (sym (judged-is mesh field step reads) ∙ passed)).1

        r : Ready S
        r = ready (mesh_in mesh) (masses_in field n) (step_in (mesh_in mesh) step) found

        go : (u : Width) → width_in mesh ≡ u → next S c < 2 ^ mass_width u
        go Narrow e = let small = (mesh-small mesh e).small_volumes c l in
            omega (arith, (next-bounds S r.sound c l).1, small, mul-le-mul small (hi-most S r c l))
        go Wide e = let most = (volumes-within ceiling (mesh_in mesh) (fine-values (mesh_in mesh) (mesh_fine mesh field step reads)) c l).1 in
            omega (arith, (next-bounds S r.sound c l).1, most, mul-le-mul most (hi-most S r c l))

    -- the masses that the first's next field record holds
    masses_are : masses_in (field_record (field_kind w) n (table n (next S))) n ≡ table n (next S)
    masses_are = masses-back (field_kind w) n (table n (next S))
        (field_fits w n (table n (next S)) (omega (arith, few mesh field step reads)) (λ c l. rw (get_or-table n (next S) 0 c l) (mass_fits c l)))
        ∙ exact 0 n (table n (next S)) (length-table n (next S))

    record_is : take (field_length (field_kind w) n) (host_bytes mesh field step lent) ≡ field_record (field_kind w) n (table n (next S))
    unfolding host_bytes over field_length
    record_is =
        let R = field_record (field_kind w) n (table n (next S)) in
        rw ok (take_at R (drop (length R) lent) (field_length (field_kind w) n) (field-record-length (field_kind w) n (table n (next S))))

    fine-anew : v' ≡ fine
    fine-anew = go v' (found_alike ∙ ap unplaced ok)
      where
        go : (u : Verdict) → unplaced u ≡ fine → u ≡ fine
        go (accepted t) e = refl
        go (refused i j) e = let z : ◌≡◌ {A = ℕ} 0 1 = cc in absurd (omega arith)

    bytes-anew : host_bytes mesh' field' step' lent' ≡ over (field_anew mesh cell face turns
        (take (field_length (field_kind w) n) (host_bytes mesh field step lent))) lent'
    unfolding host_bytes
    bytes-anew = rw (fine-anew, width_same)
        (ap (λ (bs : List ℕ). over bs lent')
        (as-held mesh cell face turns field step reads h (λ N m k. field_record (field_kind w) N.cells (table N.cells (next (input_of N m k))))
        ∙ ap (field_record (field_kind w) n) (next-anew mesh cell face turns field step reads h passed
        ∙ ap (renumbered_field (mesh_in mesh) cell face turns) (sym (ap (λ (bs : List ℕ). masses_in bs n) record_is ∙ masses_are)))))

  -- a refused call leaves what was lent
  bytes-kept : (c p : ℕ) → v ≡ refused c p → host_bytes mesh' field' step' lent' ≡ lent'
  unfolding host_bytes
  bytes-kept c p e = go v' (found_alike ∙ ap unplaced e) _
    where
      go : (u : Verdict) → unplaced u ≡ refused c 0 → (x : List ℕ) → granted u x lent' ≡ lent'
      go (accepted t) d x = let z : ◌≡◌ {A = ℕ} 0 1 = cc in absurd (omega arith)
      go (refused i j) d x = refl

  bytes-are : host_bytes mesh' field' step' lent'
      ≡ cond (eqb (number_of v) 0) (over (field_anew mesh cell face turns (take (field_length (field_kind w) n) (host_bytes mesh field step lent))) lent') lent'
  bytes-are = go v refl
    where
      go : (u : Verdict) → v ≡ u → host_bytes mesh' field' step' lent'
          ≡ cond (eqb (number_of v) 0) (over (field_anew mesh cell face turns (take (field_length (field_kind w) n) (host_bytes mesh field step lent))) lent') lent'
      go (accepted t) e = bytes-anew e ∙ rw e
      go (refused c p) e = bytes-kept c p e ∙ rw (e, ne_eqb (cause_step * c + p) 0 (omega (arith, taken-apart mesh field step (length lent) c p e)))

pub two-hosts : TwoHosts
two-hosts mesh cell face turns field step reads lent lent' after after' r r' same-room first second = record {
  anew_held = held mesh cell face turns field step reads;
  cause_same = rw (first.number, second.number) (causes-agree mesh cell face turns field step reads lent lent' same-room);
  next_field = second.next_field ∙ rw (first.number, first.next_field) (bytes-are mesh cell face turns field step reads lent lent' same-room);
}
