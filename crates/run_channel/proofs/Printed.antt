-- Document 01, "The board and the run", the channel session, and document 02, S-10, sessions of wide records: their bytes, and what a run prints
-- of them. Each record, each answer and each field is computed from the definitions; the laws before them, of either width, put the parts
-- together as `printed` does.
use Prim.Native.Nat.{ℕ, suc, ◌+◌, ◌≤◌}
use mathlib.Core.Path.{◌≡◌, refl, ap, ◌∙◌}
use mathlib.Core.Bool.{cond}
use mathlib.Core.List.{List, [], ◌∷◌, ◌++◌}
use lib.IntN.{ℤ, pos, negsuc}
use native.Mathlib.Omega.{arith}
use lib.ListN.{length, get_or, take, drop, length-append, length-drop, length-replicate}
use lib.Seq.{drop-append_seam}
use Rattle.lists.specs.Fold.{sum}
use Rattle.lists.specs.Table.{table, over}
use Rattle.lists.proofs.Tables.{length-table}
use Rattle.model.specs.Mesh.{Mesh, run_cells, run_faces, rim, total, ceiling}
use Rattle.model.specs.Step.{StepInput}
use Rattle.model.specs.Step.{next, in_mass, out_mass, released_mass}
use Rattle.model.specs.Causes.{Outcome, accepted, Verdict, fine, in_turn, long, Call, input_of, work_entries, ◌and_then◌, need, counts, mesh_tables, mesh_values}
use Rattle.model.specs.Causes.{field_table, field_values, step_tables, raised_values, step_values, verdict}
use Rattle.model.proofs.Figures.{channel, large_strait}
use Rattle.record_bits.specs.Field.{bit_at, bits_at}
use Rattle.record_bits.specs.Layout.{bytes_for}
use Rattle.record_sections.specs.Sections.{those}
use Rattle.record_layouts.specs.Layouts.{mesh_head_bits, field_head_bits, step_head_bits, value_bits, mass_bits, release_bits, mesh_length, field_length, step_length}
use Rattle.record_layouts.specs.declared.Width.{Width}
use Rattle.record_layouts.specs.declared.Width.TheVariants.{Narrow, Wide}
use Rattle.record_zeros.specs.Zeros.{zero_bit_good, minus_zero}
use Rattle.record_reading.specs.Reading.{mesh_in, counts_in, volumes_in, firsts_in, seconds_in, shares_in, reaches_in, masses_in, fluxes_in, outsides_in, releases_in, mesh_bit_good, step_bit_good}
use Rattle.record_heads.specs.Heads.{kind_in, mesh_head_verdict, field_head_verdict, step_head_verdict, mesh_measured, mesh_needs, field_needs, step_needs}
use Rattle.record_reading.specs.Reading.{mesh_body_verdict, field_body_verdict, step_body_verdict, field_read}
use Rattle.record_reading.specs.declared.MeshCounts.{MeshCounts}
use Rattle.board_order.specs.Order.{ranked_of, fuller, as_full, comes_before, insert_in_order, in_order}
use Rattle.board.specs.Board.{entry_of, entry_at, ranked_at, cell_before, listed_of, board_verdict}
use Rattle.taking_mesh.specs.MeshTaking.{mesh_record_found, mesh_judged}
use Rattle.taking.specs.Taking.{field_judged, step_record_found, step_judged, step_in, own_tables, blank, printed_of, masses_after}
use Rattle.model.specs.declared.Printed.{Printed}
use Rattle.model.proofs.Unfolded.{of-sums, of-faces, of-stages, of-causes}
use Rattle.text.specs.Digits.{digits}
use Rattle.text.specs.Lines.{word, mark}
use Rattle.run_intake.specs.Intake.{still_needed, record_at}
use Rattle.run_board.specs.BoardLines.{board_lines}
use Rattle.run_lines.specs.Lines.{refusal_line, step_line, refused_step_line, board_line}
use Rattle.run_session.specs.Session.{step_text, goes_on_after}
use Rattle.run_printed.specs.Run.{mesh_at, field_at, step_at, following, in_table, in_tables, run_mesh, board_printed, step_comes_to, field_then, steps_printed, field_said, from_field}
use Rattle.run_printed.specs.Run.{field_printed, mesh_said_of, from_mesh, printed}
use Rattle.run_printed.specs.Program.{StepsPrint}
use Rattle.run_printed.proofs.Accepted.{board-run, step_run}

-- an accepted mesh, an accepted field and an accepted step: what is printed after them
pub from-mesh : (input bs rest text : List ℕ) (counts : MeshCounts) → mesh_at input ≡ bs → following bs input ≡ rest → mesh_said_of bs ≡ accepted counts
    → field_printed counts.width (run_mesh bs) rest ≡ text → printed input ≡ text
unfolding printed
from-mesh input bs rest text counts a r s e =
    ap (λ (x : List ℕ). from_mesh (mesh_said_of x) (run_mesh x) (following x input)) a ∙ ap (λ (x : List ℕ). from_mesh (mesh_said_of bs) (run_mesh bs) x) r
    ∙ ap (λ (o : Outcome MeshCounts). from_mesh o (run_mesh bs) rest) s ∙ e

module _ (w : Width) (M : Mesh) where
  pub from-field : (input bs rest text : List ℕ) (sum : ℕ) → field_at w M input ≡ bs → following bs input ≡ rest → field_said w M bs ≡ accepted sum
      → steps_printed w M (length rest) 1 (in_table run_cells (masses_in bs M.cells)) rest ≡ text → field_printed w M input ≡ step_line 0 0 0 sum 0 ++ text
  unfolding field_printed
  from-field input bs rest text sum a r s e =
      ap (λ (x : List ℕ). from_field w M (field_said w M x) (in_table run_cells (masses_in x M.cells)) (following x input)) a
      ∙ ap (λ (x : List ℕ). from_field w M (field_said w M bs) (in_table run_cells (masses_in bs M.cells)) x) r
      ∙ ap (λ (o : Outcome ℕ). from_field w M o (in_table run_cells (masses_in bs M.cells)) rest) s ∙ ap (λ (x : List ℕ). step_line 0 0 0 sum 0 ++ x) e

  from_step : (most step b : ℕ) (masses masses' input bs rest text : List ℕ) (p : Printed) → step_at w M (b ∷ input) ≡ bs → following bs (b ∷ input) ≡ rest
      → step_comes_to w M masses bs ≡ accepted p → field_then w M masses bs ≡ masses' → steps_printed w M most (step + 1) masses' rest ≡ text
      → steps_printed w M (suc most) step masses (b ∷ input) ≡ step_line step p.entered p.gone p.total p.released ++ text
  unfolding steps_printed
  from_step most step b masses masses' input bs rest text p a r s m e =
      ap (λ (x : List ℕ). step_text step (step_comes_to w M masses x)
      ++ cond (goes_on_after (step_comes_to w M masses x)) (steps_printed w M most (step + 1) (field_then w M masses x) (following x (b ∷ input)))
      (board_printed M (field_then w M masses x))) a
      ∙ ap (λ (o : Outcome Printed). step_text step o ++ cond (goes_on_after o)
      (steps_printed w M most (step + 1) (field_then w M masses bs) (following bs (b ∷ input)))
      (board_printed M (field_then w M masses bs))) s
      ∙ ap (λ (x : List ℕ). step_line step p.entered p.gone p.total p.released ++ steps_printed w M most (step + 1) x (following bs (b ∷ input))) m
      ∙ ap (λ (x : List ℕ). step_line step p.entered p.gone p.total p.released ++ steps_printed w M most (step + 1) masses' x) r
      ∙ ap (λ (x : List ℕ). step_line step p.entered p.gone p.total p.released ++ x) e

  -- after the last step the board is printed
  pub board-last : (most step : ℕ) (masses : List ℕ) → steps_printed w M (suc most) step masses [] ≡ board_printed M masses
  unfolding steps_printed
  board-last most step masses = refl

  -- what a step's head says: how many bytes its record has, and so which bytes of the input it is
  step-needs : (head : List ℕ) (kind n : ℕ) → step_head_verdict w M.cells M.faces M.seconds head ≡ fine → kind_in head ≡ kind
      → step_length kind M.cells M.faces M.seconds ≡ n → step_needs w M.cells M.faces M.seconds head ≡ accepted n
  unfolding step_needs ◌and_then◌
  step-needs head kind n h k l = rw (h, k, l)

  step-front : (a b c d n : ℕ) (rest : List ℕ) → step_needs w M.cells M.faces M.seconds (a ∷ b ∷ c ∷ d ∷ []) ≡ accepted n
      → step_at w M (a ∷ b ∷ c ∷ d ∷ rest) ≡ take (4 + still_needed (accepted n) 4) (a ∷ b ∷ c ∷ d ∷ rest)
  unfolding record_at bytes_for
  step-front a b c d n rest e = ap (λ (o : Outcome ℕ). take (4 + still_needed o 4) (a ∷ b ∷ c ∷ d ∷ rest)) e

  step-found : (bs : List ℕ) → step_head_verdict w M.cells M.faces M.seconds bs ≡ fine
      → step_body_verdict M.cells M.faces M.seconds bs run_faces run_faces run_cells ≡ fine → step_record_found w M bs ≡ fine
  unfolding step_record_found ◌and_then◌
  step-found bs h b = rw (h, b)

-- a step record, the call that it makes, and what that call does to a field
module _ (w : Width) (M : Mesh) (bs : List ℕ) (call : Call) (found : step_record_found w M bs ≡ fine) (made : step_in M bs ≡ call)
    (masses masses' : List ℕ) (p : Printed) (v : verdict M masses call ≡ fine) (said : printed_of M masses call ≡ p)
    (moves : over (table M.cells (next (input_of M masses call))) masses ≡ masses') where
  judged : step_judged w M masses bs ≡ fine
  unfolding step_judged ◌and_then◌
  judged =
      ap (λ (u : Verdict). u and_then verdict M masses (step_in M bs)) found ∙ ap (λ (k : Call). verdict M masses k) made ∙ v

  step-said : step_comes_to w M masses bs ≡ accepted p
  unfolding ◌and_then◌
  step-said =
      ap (λ (u : Verdict). u and_then accepted (printed_of M masses (step_in M bs))) judged
      ∙ ap (λ (k : Call). accepted (printed_of M masses k)) made ∙ ap (λ (x : Printed). accepted x) said

  field-then : field_then w M masses bs ≡ masses'
  field-then =
      ap (λ (u : Verdict). masses_after M masses u (step_in M bs)) judged
      ∙ ap (λ (k : Call). over (table M.cells (next (input_of M masses k))) masses) made ∙ moves

  -- at the front of the input
  pub step-printed : (most step b : ℕ) (input rest text : List ℕ) → step_at w M (b ∷ input) ≡ bs → following bs (b ∷ input) ≡ rest
      → steps_printed w M most (step + 1) masses' rest ≡ text
      → steps_printed w M (suc most) step masses (b ∷ input) ≡ step_line step p.entered p.gone p.total p.released ++ text
  step-printed most step b input rest text a r e = from_step w M most step b masses masses' input bs rest text p a r step-said field-then e

-- the tables are long enough: their lengths by law, since to count their entries takes long
table-long : (n : ℕ) (xs : List ℕ) → length xs ≤ n → length (in_table n xs) ≡ n
unfolding over
table-long n xs h = rw (length-append, length-drop, length-table {A = ℕ} n (λ i. 0)) (omega arith)

blank-long : {A : Type 0} (n : ℕ) (x : A) → length (blank n x) ≡ n
unfolding blank
blank-long n x = length-replicate n x

mesh-long : (N : Mesh) → length N.volumes ≤ run_cells → length N.firsts ≤ run_faces → length N.seconds ≤ run_faces → length N.shares ≤ run_faces
    → length N.reaches ≤ run_faces
    → in_turn (long 0 N.cells run_cells ∷ long 1 N.faces run_faces ∷ long 2 N.faces run_faces ∷ long 3 N.faces run_faces ∷ long 4 N.faces run_faces
    ∷ []) ≡ fine
    → mesh_tables (in_tables N) ≡ fine
unfolding mesh_tables
mesh-long N v a b s k e =
    rw (
      table-long run_cells N.volumes v,
      table-long run_faces N.firsts a,
      table-long run_faces N.seconds b,
      table-long run_faces N.shares s,
      table-long run_faces N.reaches k,
    ) e

field-long : (M : Mesh) (xs : List ℕ) → length xs ≤ run_cells → long 5 M.cells run_cells ≡ fine → field_table M (in_table run_cells xs) ≡ fine
unfolding field_table
field-long M xs h e = rw (table-long run_cells xs h) e

step-long : (M : Mesh) (field : List ℕ) (fluxes : List ℤ) (outsides releases : List ℕ)
    → in_turn (long 6 M.faces (length fluxes) ∷ long 7 M.faces (length outsides) ∷ long 8 M.cells run_cells ∷ long 9 M.faces run_faces
    ∷ long 10 (work_entries M.cells M.faces) (work_entries run_cells run_faces) ∷ long 14 M.cells (length releases) ∷ []) ≡ fine
    → step_tables M field (own_tables fluxes outsides releases) ≡ fine
unfolding step_tables
step-long M field fluxes outsides releases e =
    rw (blank-long {A = ℕ} run_cells 0, blank-long {A = ℤ} run_faces (pos 0), blank-long {A = ℕ} (work_entries run_cells run_faces) 0) e

-- a field written over another of as many cells
over-field : (xs ys : List ℕ) → length xs ≡ length ys → over xs (in_table run_cells ys) ≡ in_table run_cells xs
unfolding over
over-field xs ys e = ap (λ (t : List ℕ). xs ++ t) (rw e (drop-append_seam ys (drop (length ys) (table run_cells (λ i. 0)))))

-- a step with none of its causes
verdict-fine : (M : Mesh) (field : List ℕ) (call : Call) → counts M ≡ fine → mesh_tables M ≡ fine → field_table M field ≡ fine → step_tables M field call ≡ fine
    → mesh_values ceiling M ≡ fine → field_values M field ≡ fine → raised_values M field call ≡ fine → step_values ceiling M field call ≡ fine
    → verdict M field call ≡ fine
unfolding verdict ◌and_then◌
verdict-fine M field call c t f k m s r w = rw (c, t, f, k, m, s, r, w)

-- names for all that is computed through: to unfold one is to unfold what it names
of-bits : Unit {0}
unfolding bit_at bits_at bytes_for those value_bits mass_bits release_bits mesh_length field_length step_length
of-bits = tt

of_values : Unit {0}
unfolding volumes_in firsts_in seconds_in shares_in reaches_in masses_in fluxes_in outsides_in releases_in zero_bit_good minus_zero mesh_bit_good step_bit_good
of_values = tt

of-reading : Unit {0}
unfolding mesh_head_verdict field_head_verdict step_head_verdict mesh_measured mesh_needs field_needs step_needs mesh_body_verdict field_body_verdict step_body_verdict
    field_read
of-reading = tt

of-board : Unit {0}
unfolding entry_of ranked_of fuller as_full comes_before insert_in_order in_order entry_at ranked_at cell_before listed_of
of-board = tt

of-taking : Unit {0}
unfolding mesh_record_found mesh_judged field_judged step_record_found step_judged
of-taking = tt

of-lines : Unit {0}
unfolding digits word mark refusal_line step_line refused_step_line board_line
of-lines = tt

of-run : Unit {0}
unfolding record_at board_lines board_printed steps_printed field_printed printed
of-run = tt

everything : Unit {0}
unfolding of-sums of-faces of-stages of-causes of-bits of_values of-reading of-board of-taking of-lines of-run
everything = tt

-- three cells of V 100; faces 0 to rim, 0 to 1, 1 to 2, 2 to rim; s 128, K 100
abbrev pub channel_mesh : List ℕ
channel_mesh = 16 ∷ 3 ∷ 0 ∷ 32 ∷ 6 ∷ 64 ∷ 100 ∷ 6 ∷ 64 ∷ 0 ∷ 255 ∷ 240 ∷ 0 ∷ 0 ∷ 0 ∷ 0 ∷ 1 ∷ 128 ∷ 6 ∷ 64 ∷ 1 ∷ 0 ∷ 40 ∷ 0 ∷ 100 ∷ 0 ∷ 47 ∷ 255 ∷ 0 ∷ 0 ∷ 0 ∷ []

-- masses 100000, 0, 0
abbrev pub channel_field : List ℕ
channel_field = 32 ∷ 3 ∷ 0 ∷ 1 ∷ 134 ∷ 160 ∷ 0 ∷ 0 ∷ 0 ∷ 0 ∷ 0 ∷ 0 ∷ 0 ∷ 0 ∷ []

-- U −50, 50, 50, 50; outside value 1000 at face 0
abbrev pub channel_step : List ℕ
channel_step = 48 ∷ 2 ∷ 0 ∷ 0 ∷ 129 ∷ 144 ∷ 12 ∷ 128 ∷ 100 ∷ 3 ∷ 32 ∷ 3 ∷ 232 ∷ 0 ∷ 0 ∷ 0 ∷ []

abbrev pub channel_input : List ℕ
channel_input = channel_mesh ++ (channel_field ++ (channel_step ++ channel_step))

abbrev pub M : Mesh
M = in_tables channel

-- the field at first, after step 1 and after step 2
abbrev pub field₀ : List ℕ
field₀ = in_table run_cells (100000 ∷ 0 ∷ 0 ∷ [])

abbrev pub field₁ : List ℕ
field₁ = in_table run_cells (100099 ∷ 49901 ∷ 0 ∷ [])

abbrev pub field₂ : List ℕ
field₂ = in_table run_cells (100099 ∷ 81188 ∷ 18713 ∷ [])

seconds_long : length M.seconds ≡ run_faces
seconds_long = table-long run_faces channel.seconds (omega arith)

pub mesh-is : mesh_in channel_mesh ≡ channel
unfolding everything
mesh-is = refl

pub mesh-said : mesh_said_of channel_mesh ≡ accepted (record { cells = 3; faces = 4; width = Narrow })
unfolding everything
mesh-said = refl

pub mesh-front : mesh_at channel_input ≡ channel_mesh
unfolding everything
mesh-front = refl

pub field-front : field_at Narrow M (channel_field ++ (channel_step ++ channel_step)) ≡ channel_field
unfolding everything
field-front = refl

pub field_is : masses_in channel_field 3 ≡ 100000 ∷ 0 ∷ 0 ∷ []
unfolding everything
field_is = refl

pub field-said : field_said Narrow M channel_field ≡ accepted 100000
unfolding everything
field-said = refl

-- the head of the step record, alone and before its body; the record's length
abbrev step_head : List ℕ
step_head = 48 ∷ 2 ∷ 0 ∷ 0 ∷ []

step-head : step_head_verdict Narrow 3 4 M.seconds step_head ≡ fine
unfolding of-causes of-bits of-reading
step-head = rw seconds_long

step-headed : step_head_verdict Narrow 3 4 M.seconds channel_step ≡ fine
unfolding of-causes of-bits of-reading
step-headed = rw seconds_long

step_kind : kind_in step_head ≡ 3
unfolding of-bits
step_kind = refl

step-length : step_length 3 3 4 M.seconds ≡ 16
unfolding everything
step-length = refl

pub step-at : (rest : List ℕ) → step_at Narrow M (channel_step ++ rest) ≡ channel_step
unfolding of-bits
step-at rest = step-front Narrow M 48 2 0 0 16 (drop 4 channel_step ++ rest) (step-needs Narrow M step_head 3 16 step-head step_kind step-length)

-- the call that the step record makes
abbrev pub call : Call
call = own_tables (negsuc 49 ∷ pos 50 ∷ pos 50 ∷ pos 50 ∷ []) (1000 ∷ 0 ∷ 0 ∷ 0 ∷ []) (0 ∷ 0 ∷ 0 ∷ [])

fluxes-are : fluxes_in channel_step 4 ≡ negsuc 49 ∷ pos 50 ∷ pos 50 ∷ pos 50 ∷ []
unfolding everything
fluxes-are = refl

outsides-are : outsides_in channel_step 4 M.seconds ≡ 1000 ∷ 0 ∷ 0 ∷ 0 ∷ []
unfolding everything
outsides-are = refl

releases-are : releases_in channel_step 3 4 M.seconds ≡ 0 ∷ 0 ∷ 0 ∷ []
unfolding everything
releases-are = refl

body-fine : step_body_verdict 3 4 M.seconds channel_step run_faces run_faces run_cells ≡ fine
unfolding everything
body-fine = refl

pub read-fine : step_record_found Narrow M channel_step ≡ fine
read-fine = step-found Narrow M channel_step step-headed body-fine

pub call-is : step_in M channel_step ≡ call
call-is = rw (fluxes-are, outsides-are, releases-are)

abbrev S₁ : StepInput
S₁ = input_of M field₀ call

abbrev S₂ : StepInput
S₂ = input_of M field₁ call

mesh-tables : mesh_tables M ≡ fine
unfolding need ◌and_then◌
mesh-tables = mesh-long channel (omega arith) (omega arith) (omega arith) (omega arith) (omega arith) refl

step-tables : (field : List ℕ) → step_tables M field call ≡ fine
unfolding need ◌and_then◌
step-tables field = step-long M field _ _ _ refl

counts_fine : counts M ≡ fine
unfolding everything
counts_fine = refl

mesh-values : mesh_values ceiling M ≡ fine
unfolding everything
mesh-values = refl

field-table : (a b c : ℕ) → field_table M (in_table run_cells (a ∷ b ∷ c ∷ [])) ≡ fine
unfolding need
field-table a b c = field-long M (a ∷ b ∷ c ∷ []) (omega arith) refl

field-values₁ : field_values M field₀ ≡ fine
unfolding everything
field-values₁ = refl

field-values₂ : field_values M field₁ ≡ fine
unfolding everything
field-values₂ = refl

raised-values₁ : raised_values M field₀ call ≡ fine
unfolding everything
raised-values₁ = refl

raised-values₂ : raised_values M field₁ call ≡ fine
unfolding everything
raised-values₂ = refl

step-values₁ : step_values ceiling M field₀ call ≡ fine
unfolding everything
step-values₁ = refl

step-values₂ : step_values ceiling M field₁ call ≡ fine
unfolding everything
step-values₂ = refl

pub verdict₁ : verdict M field₀ call ≡ fine
verdict₁ = verdict-fine M field₀ call counts_fine mesh-tables (field-table 100000 0 0) (step-tables field₀) mesh-values field-values₁ raised-values₁
    step-values₁

pub verdict₂ : verdict M field₁ call ≡ fine
verdict₂ = verdict-fine M field₁ call counts_fine mesh-tables (field-table 100099 49901 0) (step-tables field₁) mesh-values field-values₂ raised-values₂
    step-values₂

next₁ : table 3 (next S₁) ≡ 100099 ∷ 49901 ∷ 0 ∷ []
unfolding everything
next₁ = refl

next₂ : table 3 (next S₂) ≡ 100099 ∷ 81188 ∷ 18713 ∷ []
unfolding everything
next₂ = refl

-- the total is that of the three masses
total_of : (f : ℕ → ℕ) (a b c : ℕ) → table 3 f ≡ a ∷ b ∷ c ∷ [] → total M f ≡ a + b + c
unfolding total sum table
total_of f a b c e = rw (ap (λ (xs : List ℕ). get_or xs 0 0) e, ap (λ (xs : List ℕ). get_or xs 1 0) e, ap (λ (xs : List ℕ). get_or xs 2 0) e) (omega arith)

total₁ : total M (next S₁) ≡ 150000
total₁ = total_of (next S₁) 100099 49901 0 next₁

total₂ : total M (next S₂) ≡ 200000
total₂ = total_of (next S₂) 100099 81188 18713 next₂

in₁ : in_mass S₁ ≡ 50000
unfolding everything
in₁ = refl

in₂ : in_mass S₂ ≡ 50000
unfolding everything
in₂ = refl

out₁ : out_mass S₁ ≡ 0
unfolding everything
out₁ = refl

out₂ : out_mass S₂ ≡ 0
unfolding everything
out₂ = refl

released-none : released_mass 3 (0 ∷ 0 ∷ 0 ∷ []) ≡ 0
unfolding everything
released-none = refl

pub printed₁ : printed_of M field₀ call ≡ record { entered = 50000; gone = 0; total = 150000; released = 0 }
printed₁ = rw (in₁, out₁, total₁, released-none)

pub printed₂ : printed_of M field₁ call ≡ record { entered = 50000; gone = 0; total = 200000; released = 0 }
printed₂ = rw (in₂, out₂, total₂, released-none)

pub moves₁ : over (table 3 (next S₁)) field₀ ≡ field₁
moves₁ = ap (λ (xs : List ℕ). over xs field₀) next₁ ∙ over-field (100099 ∷ 49901 ∷ 0 ∷ []) (100000 ∷ 0 ∷ 0 ∷ []) refl

pub moves₂ : over (table 3 (next S₂)) field₁ ≡ field₂
moves₂ = ap (λ (xs : List ℕ). over xs field₁) next₂ ∙ over-field (100099 ∷ 81188 ∷ 18713 ∷ []) (100099 ∷ 49901 ∷ 0 ∷ []) refl

pub board-is : board_printed M field₂ ≡ board_line 0 1000 99 ++ (board_line 1 811 88 ++ board_line 2 187 13)
unfolding everything
board-is = refl

abbrev pub channel_lines : List ℕ
channel_lines = step_line 0 0 0 100000 0
    ++ (step_line 1 50000 0 150000 0 ++ (step_line 2 50000 0 200000 0 ++ (board_line 0 1000 99 ++ (board_line 1 811 88 ++ board_line 2 187 13))))

-- the six lines, byte by byte
abbrev pub channel_text : List ℕ
channel_text =
    -- 0 0 0 100000 0
    48 ∷ 32 ∷ 48 ∷ 32 ∷ 48 ∷ 32 ∷ 49 ∷ 48 ∷ 48 ∷ 48 ∷ 48 ∷ 48 ∷ 32 ∷ 48 ∷ 10 ∷
    -- 1 50000 0 150000 0
    49 ∷ 32 ∷ 53 ∷ 48 ∷ 48 ∷ 48 ∷ 48 ∷ 32 ∷ 48 ∷ 32 ∷ 49 ∷ 53 ∷ 48 ∷ 48 ∷ 48 ∷ 48 ∷ 32 ∷ 48 ∷ 10 ∷
    -- 2 50000 0 200000 0
    50 ∷ 32 ∷ 53 ∷ 48 ∷ 48 ∷ 48 ∷ 48 ∷ 32 ∷ 48 ∷ 32 ∷ 50 ∷ 48 ∷ 48 ∷ 48 ∷ 48 ∷ 48 ∷ 32 ∷ 48 ∷ 10 ∷
    -- B 0 1000 99
    66 ∷ 32 ∷ 48 ∷ 32 ∷ 49 ∷ 48 ∷ 48 ∷ 48 ∷ 32 ∷ 57 ∷ 57 ∷ 10 ∷
    -- B 1 811 88
    66 ∷ 32 ∷ 49 ∷ 32 ∷ 56 ∷ 49 ∷ 49 ∷ 32 ∷ 56 ∷ 56 ∷ 10 ∷
    -- B 2 187 13
    66 ∷ 32 ∷ 50 ∷ 32 ∷ 49 ∷ 56 ∷ 55 ∷ 32 ∷ 49 ∷ 51 ∷ 10 ∷
    []

pub text-is : channel_lines ≡ channel_text
unfolding everything
text-is = refl

-- the run that the program makes of it, call by call
pub mesh-asks : mesh_needs run_cells run_faces (take (bytes_for mesh_head_bits) channel_input) ≡ accepted (length channel_mesh)
unfolding everything
mesh-asks = refl

pub field-asks : field_needs Narrow 3 (take (bytes_for field_head_bits) (channel_field ++ (channel_step ++ channel_step))) ≡ accepted (length channel_field)
unfolding everything
field-asks = refl

step-asks : (rest : List ℕ) → step_needs Narrow 3 4 M.seconds (take (bytes_for step_head_bits) (channel_step ++ rest)) ≡ accepted 16
unfolding of-bits
step-asks rest = step-needs Narrow M step_head 3 16 step-head step_kind step-length

pub width_is : (counts_in channel_mesh).width ≡ Narrow
unfolding everything
width_is = refl

board-fine : board_verdict M.volumes field₂ 3 ≡ fine
unfolding everything
board-fine = refl

abbrev pub steps_text : List ℕ
steps_text = step_line 1 50000 0 150000 0 ++ (step_line 2 50000 0 200000 0 ++ board_printed M field₂)

pub made-steps : StepsPrint Narrow M 1 field₀ (channel_step ++ channel_step) steps_text
made-steps =
    let said₁ = step-said Narrow M channel_step call read-fine call-is field₀ field₁ _ verdict₁ printed₁ moves₁ in
    let then₁ = field-then Narrow M channel_step call read-fine call-is field₀ field₁ _ verdict₁ printed₁ moves₁ in
    let said₂ = step-said Narrow M channel_step call read-fine call-is field₁ field₂ _ verdict₂ printed₂ moves₂ in
    let then₂ = field-then Narrow M channel_step call read-fine call-is field₁ field₂ _ verdict₂ printed₂ moves₂ in
    let last = board-run Narrow M {step = 3} {masses = field₂} board-fine in
    let second = step_run Narrow M {step = 2} _ (step-asks []) (step-at []) (omega arith) refl said₂ then₂ last in
    step_run Narrow M {step = 1} _ (step-asks channel_step) (step-at channel_step) (omega arith) refl said₁ then₁ second

-- Document 02, S-10: a lagoon of one cell of V 65,535, and its field of kind 6
abbrev pub wide_mesh : List ℕ
wide_mesh = 80 ∷ 1 ∷ 0 ∷ 0 ∷ 255 ∷ 255 ∷ []

pub wide-printed : printed (wide_mesh ++ (96 ∷ 1 ∷ 15 ∷ 66 ∷ 48 ∷ 189 ∷ 192 ∷ [])) ≡ step_line 0 0 0 65535000000 0 ++ board_line 0 1000000 0
unfolding everything
wide-printed = refl

-- a field of kind 2 after it: F 13 0
pub narrow-after-wide : printed (wide_mesh ++ (32 ∷ 1 ∷ 0 ∷ 0 ∷ 0 ∷ 99 ∷ [])) ≡ 70 ∷ 32 ∷ 49 ∷ 51 ∷ 32 ∷ 48 ∷ 10 ∷ []
unfolding everything
narrow-after-wide = refl

-- A session of kinds 5, 6, 7 and 8: a cell of V 65,535 with two faces over the rim
abbrev pub strait_mesh : List ℕ
strait_mesh = 80 ∷ 1 ∷ 0 ∷ 16 ∷ 255 ∷ 255 ∷ 0 ∷ 15 ∷ 255 ∷ 0 ∷ 0 ∷ 0 ∷ 0 ∷ 15 ∷ 255 ∷ 0 ∷ 0 ∷ 0 ∷ []

-- a mass of 2^32
abbrev pub strait_field : List ℕ
strait_field = 96 ∷ 1 ∷ 1 ∷ 0 ∷ 0 ∷ 0 ∷ 0 ∷ []

-- U −40000, 40000; outside value 1000000 at face 0
abbrev pub strait_step : List ℕ
strait_step = 112 ∷ 1 ∷ 0 ∷ 0 ∷ 206 ∷ 32 ∷ 39 ∷ 16 ∷ 61 ∷ 9 ∷ 0 ∷ 0 ∷ 0 ∷ 0 ∷ []

-- the same water with a release of 5000000000
abbrev pub strait_outfall : List ℕ
strait_outfall = 128 ∷ 1 ∷ 0 ∷ 0 ∷ 206 ∷ 32 ∷ 39 ∷ 16 ∷ 61 ∷ 9 ∷ 0 ∷ 0 ∷ 0 ∷ 0 ∷ 74 ∷ 129 ∷ 124 ∷ 128 ∷ 0 ∷ []

abbrev pub strait_input : List ℕ
strait_input = strait_mesh ++ (strait_field ++ (strait_step ++ strait_outfall))

abbrev strait : Mesh
strait = in_tables (large_strait 65535)

-- the field at first, after step 1 and after step 2
abbrev strait₀ : List ℕ
strait₀ = in_table run_cells (4294967296 ∷ [])

abbrev strait₁ : List ℕ
strait₁ = in_table run_cells (41673487296 ∷ [])

abbrev strait₂ : List ℕ
strait₂ = in_table run_cells (58185847296 ∷ [])

-- the calls that the step records make: this water with a release
abbrev through : ℕ → Call
through r = own_tables (negsuc 39999 ∷ pos 40000 ∷ []) (1000000 ∷ 0 ∷ []) (r ∷ [])

abbrev water : Call
water = through 0

abbrev outfall : Call
outfall = through 5000000000

strait-mesh-is : mesh_in strait_mesh ≡ large_strait 65535
unfolding everything
strait-mesh-is = refl

strait-mesh-said : mesh_said_of strait_mesh ≡ accepted (record { cells = 1; faces = 2; width = Wide })
unfolding everything
strait-mesh-said = refl

strait-mesh-front : mesh_at strait_input ≡ strait_mesh
unfolding everything
strait-mesh-front = refl

strait-field-front : field_at Wide strait (strait_field ++ (strait_step ++ strait_outfall)) ≡ strait_field
unfolding everything
strait-field-front = refl

strait-field-is : masses_in strait_field 1 ≡ 4294967296 ∷ []
unfolding everything
strait-field-is = refl

strait-field-said : field_said Wide strait strait_field ≡ accepted 4294967296
unfolding everything
strait-field-said = refl

strait-seconds : length strait.seconds ≡ run_faces
strait-seconds = table-long run_faces (rim ∷ rim ∷ []) (omega arith)

-- kind 7
water-head : step_head_verdict Wide 1 2 strait.seconds (take 4 strait_step) ≡ fine
unfolding of-causes of-bits of-reading
water-head = rw strait-seconds

water-headed : step_head_verdict Wide 1 2 strait.seconds strait_step ≡ fine
unfolding of-causes of-bits of-reading
water-headed = rw strait-seconds

water-kind : kind_in (take 4 strait_step) ≡ 7
unfolding of-bits
water-kind = refl

water-length : step_length 7 1 2 strait.seconds ≡ 14
unfolding everything
water-length = refl

water-at : step_at Wide strait (strait_step ++ strait_outfall) ≡ strait_step
unfolding of-bits
water-at = step-front Wide strait 112 1 0 0 14 (drop 4 strait_step ++ strait_outfall)
    (step-needs Wide strait (take 4 strait_step) 7 14 water-head water-kind water-length)

water-body : step_body_verdict 1 2 strait.seconds strait_step run_faces run_faces run_cells ≡ fine
unfolding everything
water-body = refl

water-fluxes : fluxes_in strait_step 2 ≡ negsuc 39999 ∷ pos 40000 ∷ []
unfolding everything
water-fluxes = refl

water-outsides : outsides_in strait_step 2 strait.seconds ≡ 1000000 ∷ 0 ∷ []
unfolding everything
water-outsides = refl

water-releases : releases_in strait_step 1 2 strait.seconds ≡ 0 ∷ []
unfolding everything
water-releases = refl

water-call : step_in strait strait_step ≡ water
water-call = rw (water-fluxes, water-outsides, water-releases)

-- kind 8
outfall-head : step_head_verdict Wide 1 2 strait.seconds (take 4 strait_outfall) ≡ fine
unfolding of-causes of-bits of-reading
outfall-head = rw strait-seconds

outfall-headed : step_head_verdict Wide 1 2 strait.seconds strait_outfall ≡ fine
unfolding of-causes of-bits of-reading
outfall-headed = rw strait-seconds

outfall-kind : kind_in (take 4 strait_outfall) ≡ 8
unfolding of-bits
outfall-kind = refl

outfall-length : step_length 8 1 2 strait.seconds ≡ 19
unfolding everything
outfall-length = refl

outfall-at : step_at Wide strait strait_outfall ≡ strait_outfall
unfolding of-bits
outfall-at = step-front Wide strait 128 1 0 0 19 (drop 4 strait_outfall)
    (step-needs Wide strait (take 4 strait_outfall) 8 19 outfall-head outfall-kind outfall-length)

outfall-body : step_body_verdict 1 2 strait.seconds strait_outfall run_faces run_faces run_cells ≡ fine
unfolding everything
outfall-body = refl

outfall-fluxes : fluxes_in strait_outfall 2 ≡ negsuc 39999 ∷ pos 40000 ∷ []
unfolding everything
outfall-fluxes = refl

outfall-outsides : outsides_in strait_outfall 2 strait.seconds ≡ 1000000 ∷ 0 ∷ []
unfolding everything
outfall-outsides = refl

outfall-releases : releases_in strait_outfall 1 2 strait.seconds ≡ 5000000000 ∷ []
unfolding everything
outfall-releases = refl

outfall-call : step_in strait strait_outfall ≡ outfall
outfall-call = rw (outfall-fluxes, outfall-outsides, outfall-releases)

-- the causes of both steps, and what they do
strait-tables : mesh_tables strait ≡ fine
unfolding need ◌and_then◌
strait-tables = mesh-long (large_strait 65535) (omega arith) (omega arith) (omega arith) (omega arith) (omega arith) refl

strait-counts : counts strait ≡ fine
unfolding everything
strait-counts = refl

strait-values : mesh_values ceiling strait ≡ fine
unfolding everything
strait-values = refl

strait-step-tables : (field : List ℕ) (r : ℕ) → step_tables strait field (through r) ≡ fine
unfolding need ◌and_then◌
strait-step-tables field r = step-long strait field _ _ _ refl

strait-field-table : (m : ℕ) → field_table strait (in_table run_cells (m ∷ [])) ≡ fine
unfolding need
strait-field-table m = field-long strait (m ∷ []) (omega arith) refl

water-verdict : verdict strait strait₀ water ≡ fine
unfolding everything
water-verdict = verdict-fine strait strait₀ water strait-counts strait-tables (strait-field-table 4294967296) (strait-step-tables strait₀ 0) strait-values refl
    refl refl

outfall-verdict : verdict strait strait₁ outfall ≡ fine
unfolding everything
outfall-verdict =
    verdict-fine strait strait₁ outfall strait-counts strait-tables (strait-field-table 41673487296) (strait-step-tables strait₁ 5000000000) strait-values refl
    refl refl

water-printed : printed_of strait strait₀ water ≡ record { entered = 40000000000; gone = 2621480000; total = 41673487296; released = 0 }
unfolding everything
water-printed = refl

outfall-printed : printed_of strait strait₁ outfall ≡ record { entered = 40000000000; gone = 28487640000; total = 58185847296; released = 5000000000 }
unfolding everything
outfall-printed = refl

water-next : table 1 (next (input_of strait strait₀ water)) ≡ 41673487296 ∷ []
unfolding everything
water-next = refl

outfall_next : table 1 (next (input_of strait strait₁ outfall)) ≡ 58185847296 ∷ []
unfolding everything
outfall_next = refl

water-moves : over (table 1 (next (input_of strait strait₀ water))) strait₀ ≡ strait₁
water-moves = ap (λ (xs : List ℕ). over xs strait₀) water-next ∙ over-field (41673487296 ∷ []) (4294967296 ∷ []) refl

outfall-moves : over (table 1 (next (input_of strait strait₁ outfall))) strait₁ ≡ strait₂
outfall-moves = ap (λ (xs : List ℕ). over xs strait₁) outfall_next ∙ over-field (58185847296 ∷ []) (41673487296 ∷ []) refl

strait-board : board_printed strait strait₂ ≡ board_line 0 887859 7731
unfolding everything
strait-board = refl

pub strait-printed : printed strait_input
    ≡ step_line 0 0 0 4294967296 0
    ++ (step_line 1 40000000000 2621480000 41673487296 0 ++ (step_line 2 40000000000 28487640000 58185847296 5000000000 ++ board_line 0 887859 7731))
strait-printed =
    let steps = strait_step ++ strait_outfall in
    let last = board-last Wide strait 30 3 strait₂ ∙ strait-board in
    let found₂ = step-found Wide strait strait_outfall outfall-headed outfall-body in
    let step₂ = step-printed Wide strait strait_outfall outfall found₂ outfall-call strait₁ strait₂ _ outfall-verdict outfall-printed outfall-moves 31 2 128 _ []
    _ outfall-at refl last in
    let found₁ = step-found Wide strait strait_step water-headed water-body in
    let step₁ = step-printed Wide strait strait_step water found₁ water-call strait₀ strait₁ _ water-verdict water-printed water-moves 32 1 112 _ strait_outfall _
    water-at refl step₂ in
    let first = ap (λ (ms : List ℕ). steps_printed Wide strait 33 1 (in_table run_cells ms) steps) strait-field-is ∙ step₁ in
    let field = from-field Wide strait (strait_field ++ steps) strait_field steps _ 4294967296 strait-field-front refl strait-field-said first in
    from-mesh strait_input strait_mesh (strait_field ++ steps) _ _ strait-mesh-front refl strait-mesh-said
    (ap (λ (N : Mesh). field_printed Wide (in_tables N) (strait_field ++ steps)) strait-mesh-is ∙ field)
