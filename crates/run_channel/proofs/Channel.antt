-- Document 01, "The board and the run", the channel session: what a run prints of its bytes, and the run that the program makes of them, put
-- together from what `Printed` computes.
use Prim.Native.Nat.{ℕ}
use mathlib.Core.Path.{◌≡◌, refl, sym, ap, subst, ◌∙◌}
use mathlib.Core.List.{List, [], ◌++◌}
use Rattle.model.specs.Mesh.{Mesh, run_cells}
use Rattle.model.proofs.Verdicts.{accepted-of}
use Rattle.record_layouts.specs.declared.Width.{Width}
use Rattle.record_layouts.specs.declared.Width.TheVariants.{Narrow}
use Rattle.run_session.specs.Session.{start_text}
use Rattle.run_printed.specs.Run.{in_table, in_tables, run_mesh, steps_printed}
use Rattle.run_printed.specs.Run.{field_printed, printed}
use Rattle.run_printed.specs.Program.{StepsPrint, FieldPrints, Prints}
use Rattle.run_printed.proofs.Prints.{prints}
use Rattle.run_printed.proofs.Accepted.{field-run, mesh-run}
use Rattle.run_channel.proofs.Printed.{M, board-is, board-last, call, call-is, channel_field, channel_input, channel_lines, channel_mesh, channel_step, channel_text, field-asks, field-front, field-said, field_is, field₀, field₁, field₂, from-field, from-mesh, made-steps, mesh-asks, mesh-front, mesh-is, mesh-said, moves₁, moves₂, printed₁, printed₂, read-fine, step-at, step-printed, steps_text, text-is, verdict₁, verdict₂, width_is}

lines : printed channel_input ≡ channel_lines
lines =
    let steps = channel_step ++ channel_step in
    let last = board-last Narrow M 29 3 field₂ ∙ board-is in
    let step₂ = step-printed Narrow M channel_step call read-fine call-is field₁ field₂ _ verdict₂ printed₂ moves₂ 30 2 48 _ [] _ (step-at []) refl last in
    let step₁ = step-printed Narrow M channel_step call read-fine call-is field₀ field₁ _ verdict₁ printed₁ moves₁ 31 1 48 _ channel_step _ (step-at channel_step)
    refl step₂ in
    let first = ap (λ (ms : List ℕ). steps_printed Narrow M 32 1 (in_table run_cells ms) (channel_step ++ channel_step)) field_is ∙ step₁ in
    let field = from-field Narrow M (channel_field ++ steps) channel_field steps _ 100000 field-front refl field-said first in
    from-mesh channel_input channel_mesh (channel_field ++ steps) _ _ mesh-front refl mesh-said
    (ap (λ (N : Mesh). field_printed Narrow (in_tables N) (channel_field ++ steps)) mesh-is ∙ field)

pub channel-printed : printed channel_input ≡ channel_text
channel-printed = lines ∙ text-is

made-run : Prints channel_input (start_text 100000 ++ steps_text)
made-run =
    let rest = channel_field ++ (channel_step ++ channel_step) in
    let steps = subst (λ (ms : List ℕ). StepsPrint Narrow M 1 (in_table run_cells ms) (channel_step ++ channel_step) steps_text) (sym field_is) made-steps in
    let field = field-run Narrow M field-asks field-front refl field-said steps in
    mesh-run mesh-asks mesh-front refl (accepted-of _ _ _ (sym mesh-said)).0
    (subst (λ (u : Width). FieldPrints u (run_mesh channel_mesh) rest (start_text 100000 ++ steps_text)) (sym width_is)
    (subst (λ (N : Mesh). FieldPrints Narrow (in_tables N) rest (start_text 100000 ++ steps_text)) (sym mesh-is) field))

pub channel-run : Prints channel_input channel_text
channel-run = subst (λ (out : List ℕ). Prints channel_input out) (prints made-run ∙ channel-printed) made-run
