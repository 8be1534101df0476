-- Document 01, "Figures by hand": the lines marked P, gathered and proved together, those of document 02's S-5 and S-6, and figures that hold
-- the slips off which those lines leave open.
use Prim.Native.Nat.{ℕ, suc, ◌+◌, ◌<◌}
use mathlib.Core.Path.{◌≡◌, refl, ◌∙◌}
use mathlib.Core.Bool.{true}
use mathlib.Core.List.{List, [], ◌∷◌}
use native.Mathlib.Nat.{add-zero}
use native.Mathlib.Omega.{arith}
use lib.IntN.{ℤ, pos, negsuc}
use lib.ListN.{replicate}
use Rattle.lists.specs.Table.{table}
use Rattle.signed.specs.Sign.{is_negative}
use Rattle.model.specs.Mesh.{Mesh, mesh_of, second, rim, ceiling, old_ceiling}
use Rattle.model.specs.Step.{StepInput, rounded_input, released_mass, flux, outside, out_mass, next, moved, concentration, low, correction, low_concentration, kept, lo, hi, max_loss, limited}
use Rattle.model.specs.Causes.{Call, release, input_of, fine, refused, mesh_values, field_verdict, verdict}
use Rattle.model.specs.Calls.{mass_in, corrected, step_on_tables, after_all, total_in, total_released}
use Rattle.model.proofs.Accepted.{ready}
use Rattle.model.proofs.Raised.{raised_at}
use Rattle.model.proofs.Uniform.{uniform, no-faces}
use Rattle.model.proofs.Unfolded.{the_step}

-- "The board and the run", the channel session: its mesh, the call of its two steps, and what that works on
abbrev pub channel : Mesh
channel = record {
  cells = 3;
  faces = 4;
  volumes = 100 ∷ 100 ∷ 100 ∷ [];
  firsts = 0 ∷ 0 ∷ 1 ∷ 2 ∷ [];
  seconds = rim ∷ 1 ∷ 2 ∷ rim ∷ [];
  shares = 0 ∷ 128 ∷ 128 ∷ 0 ∷ [];
  reaches = 0 ∷ 100 ∷ 100 ∷ 0 ∷ [];
}

abbrev pub channel_call : Call
channel_call = record {
  fluxes = negsuc 49 ∷ pos 50 ∷ pos 50 ∷ pos 50 ∷ [];
  outsides = 1000 ∷ 0 ∷ 0 ∷ 0 ∷ [];
  nexts = 7 ∷ 7 ∷ 7 ∷ [];
  moveds = pos 0 ∷ pos 0 ∷ pos 0 ∷ pos 0 ∷ [];
  work = replicate 16 0;
  releases = 0 ∷ 0 ∷ 0 ∷ [];
}

abbrev pub channel_step : List ℕ → StepInput
channel_step masses = input_of channel masses channel_call

-- one face between two cells of V 1 with concentrations a and b
abbrev pub between : ℕ → ℕ → ℤ → ℕ → ℕ → StepInput
between a b u s k = rounded_input
    (record { cells = 2; faces = 1; volumes = 1 ∷ 1 ∷ []; firsts = 0 ∷ []; seconds = 1 ∷ []; shares = s ∷ []; reaches = k ∷ [] })
    (a ∷ b ∷ []) (u ∷ []) (0 ∷ [])

-- two cells of V 10 and two faces from 0 to 1, s 128, K 10
abbrev pub pair : Mesh
pair = record { cells = 2; faces = 2; volumes = 10 ∷ 10 ∷ []; firsts = 0 ∷ 0 ∷ []; seconds = 1 ∷ 1 ∷ []; shares = 128 ∷ 128 ∷ []; reaches = 10 ∷ 10 ∷ [] }

abbrev pub exchange_call : Call
exchange_call = record {
  fluxes = pos 10 ∷ negsuc 9 ∷ [];
  outsides = 0 ∷ 0 ∷ [];
  nexts = 0 ∷ 0 ∷ [];
  moveds = pos 0 ∷ pos 0 ∷ [];
  work = replicate 10 0;
  releases = 0 ∷ 0 ∷ [];
}

-- one cell of volume v, no faces
abbrev pub lake : ℕ → Mesh
lake v = record { cells = 1; faces = 0; volumes = v ∷ []; firsts = []; seconds = []; shares = []; reaches = [] }

abbrev pub lake_call : Call
lake_call = record { fluxes = []; outsides = []; nexts = 0 ∷ []; moveds = []; work = replicate 4 0; releases = 0 ∷ [] }

-- one cell of V 100 with two faces over the rim
abbrev pub strait : Mesh
strait = record { cells = 1; faces = 2; volumes = 100 ∷ []; firsts = 0 ∷ 0 ∷ []; seconds = rim ∷ rim ∷ []; shares = 0 ∷ 0 ∷ []; reaches = 0 ∷ 0 ∷ [] }

abbrev pub through : ℕ → Call
through u = record {
  fluxes = pos (suc u) ∷ negsuc u ∷ [];
  outsides = 0 ∷ 0 ∷ [];
  nexts = 0 ∷ [];
  moveds = pos 0 ∷ pos 0 ∷ [];
  work = replicate 6 0;
  releases =
      0 ∷ [];
}

-- The lines marked P, in document 01's order. Each step is accepted; 4 and 5 are corrections of one face, and no steps.
pub record Figures : Type 0 where
  -- 1: channel step 1, with its cut correction
  pub channel_1_accepted : verdict channel (100000 ∷ 0 ∷ 0 ∷ []) channel_call ≡ fine
  pub channel_1 : table 3 (next (channel_step (100000 ∷ 0 ∷ 0 ∷ []))) ≡ 100099 ∷ 49901 ∷ 0 ∷ []
  pub channel_1_moved : table 4 (moved (channel_step (100000 ∷ 0 ∷ 0 ∷ []))) ≡ negsuc 49999 ∷ pos 49901 ∷ pos 0 ∷ pos 0 ∷ []
  pub channel_1_correction : correction (channel_step (100000 ∷ 0 ∷ 0 ∷ [])) 1 ≡ negsuc 12499
  pub channel_1_cut : limited (channel_step (100000 ∷ 0 ∷ 0 ∷ [])) 1 ≡ negsuc 98
  -- 2: channel step 2
  pub channel_2_accepted : verdict channel (100099 ∷ 49901 ∷ 0 ∷ []) channel_call ≡ fine
  pub channel_2 : table 3 (next (channel_step (100099 ∷ 49901 ∷ 0 ∷ []))) ≡ 100099 ∷ 81188 ∷ 18713 ∷ []
  -- 3: two cells of V 10 that exchange their water over two faces
  pub exchange_accepted : verdict pair (93 ∷ 15 ∷ []) exchange_call ≡ fine
  pub exchange : table 2 (next (input_of pair (93 ∷ 15 ∷ []) exchange_call)) ≡ 13 ∷ 95 ∷ []
  -- 4 and 5: the correction of one face, of size 0 and of size 49609: the quotient, before document 02's S-5
  pub correction_none : correction (between 3 0 (pos 1) 128 2) 0 ≡ pos 0
  pub correction_downwind : correction (between 1000 0 (pos 100) 1 100) 0 ≡ pos 49609
  -- 6: one concentration everywhere, for every mesh and every concentration: no mass changes but by its release
  pub unchanged : (M : Mesh) (field : List ℕ) (k : Call) (q : ℕ) → verdict M field k ≡ fine
      → ((c : ℕ) → c < M.cells → concentration (input_of M field k) c ≡ q)
      → ((f : ℕ) → f < M.faces → second M f ≡ rim → is_negative (flux (input_of M field k) f) ≡ true → outside (input_of M field k) f ≡ q)
      → (c : ℕ) → c < M.cells → next (input_of M field k) c ≡ mass_in field c + release k c
  -- 7: the fullest cell of V 4,095, and one too full
  pub fullest : field_verdict (lake 4095) (4095004094 ∷ []) ≡ fine
  pub too_full : field_verdict (lake 4095) (4095004095 ∷ []) ≡ refused 6 0
  -- 8: as much outflow as V 100, and one more
  pub outflow_100 : verdict strait (0 ∷ []) (through 99) ≡ fine
  pub outflow_101 : verdict strait (0 ∷ []) (through 100) ≡ refused 10 0
  -- 9: one cell, no faces, for every volume and every mass; accepted where both are within their ranges, as the example record's are
  pub alone_accepted : verdict (lake 100) (99 ∷ []) lake_call ≡ fine
  pub alone : (v m : ℕ) → next (input_of (lake v) (m ∷ []) lake_call) 0 ≡ m

channel-1-accepted-is : verdict channel (100000 ∷ 0 ∷ 0 ∷ []) channel_call ≡ fine
unfolding the_step
channel-1-accepted-is = refl

channel-1-is : table 3 (next (channel_step (100000 ∷ 0 ∷ 0 ∷ []))) ≡ 100099 ∷ 49901 ∷ 0 ∷ []
unfolding the_step
channel-1-is = refl

channel-1-moved-is : table 4 (moved (channel_step (100000 ∷ 0 ∷ 0 ∷ []))) ≡ negsuc 49999 ∷ pos 49901 ∷ pos 0 ∷ pos 0 ∷ []
unfolding the_step
channel-1-moved-is = refl

channel-1-correction-is : correction (channel_step (100000 ∷ 0 ∷ 0 ∷ [])) 1 ≡ negsuc 12499
unfolding the_step
channel-1-correction-is = refl

channel-1-cut-is : limited (channel_step (100000 ∷ 0 ∷ 0 ∷ [])) 1 ≡ negsuc 98
unfolding the_step
channel-1-cut-is = refl

channel-2-accepted-is : verdict channel (100099 ∷ 49901 ∷ 0 ∷ []) channel_call ≡ fine
unfolding the_step
channel-2-accepted-is = refl

channel-2-is : table 3 (next (channel_step (100099 ∷ 49901 ∷ 0 ∷ []))) ≡ 100099 ∷ 81188 ∷ 18713 ∷ []
unfolding the_step
channel-2-is = refl

exchange-accepted-is : verdict pair (93 ∷ 15 ∷ []) exchange_call ≡ fine
unfolding the_step
exchange-accepted-is = refl

exchange-is : table 2 (next (input_of pair (93 ∷ 15 ∷ []) exchange_call)) ≡ 13 ∷ 95 ∷ []
unfolding the_step
exchange-is = refl

correction-none-is : correction (between 3 0 (pos 1) 128 2) 0 ≡ pos 0
unfolding the_step
correction-none-is = refl

correction-downwind-is : correction (between 1000 0 (pos 100) 1 100) 0 ≡ pos 49609
unfolding the_step
correction-downwind-is = refl

fullest-is : field_verdict (lake 4095) (4095004094 ∷ []) ≡ fine
unfolding the_step
fullest-is = refl

too-full-is : field_verdict (lake 4095) (4095004095 ∷ []) ≡ refused 6 0
unfolding the_step
too-full-is = refl

outflow-100-is : verdict strait (0 ∷ []) (through 99) ≡ fine
unfolding the_step
outflow-100-is = refl

outflow-101-is : verdict strait (0 ∷ []) (through 100) ≡ refused 10 0
unfolding the_step
outflow-101-is = refl

alone-accepted-is : verdict (lake 100) (99 ∷ []) lake_call ≡ fine
unfolding the_step
alone-accepted-is = refl

pub figures : Figures
figures = record {
  channel_1_accepted = channel-1-accepted-is;
  channel_1 = channel-1-is;
  channel_1_moved = channel-1-moved-is;
  channel_1_correction = channel-1-correction-is;
  channel_1_cut = channel-1-cut-is;
  channel_2_accepted = channel-2-accepted-is;
  channel_2 = channel-2-is;
  exchange_accepted = exchange-accepted-is;
  exchange = exchange-is;
  correction_none = correction-none-is;
  correction_downwind = correction-downwind-is;
  unchanged = λ M field k q e alike outside-alike c h.
      uniform (input_of M field k) (ready M field k e).sound q alike outside-alike c h ∙ raised_at M.cells field k.releases c h;
  fullest = fullest-is;
  too_full = too-full-is;
  outflow_100 = outflow-100-is;
  outflow_101 = outflow-101-is;
  alone_accepted = alone-accepted-is;
  alone = λ v m. no-faces (input_of (lake v) (m ∷ []) lake_call) refl 0 ∙ raised_at 1 (m ∷ []) (0 ∷ []) 0 (omega arith) ∙ add-zero m;
}

-- Document 02, S-5. Two cells of V 100 in a row, with line 5's face between them; U through them, and 1000 outside.
abbrev pub sluice : Mesh
sluice = record {
  cells = 2;
  faces = 3;
  volumes = 100 ∷ 100 ∷ [];
  firsts = 0 ∷ 0 ∷ 1 ∷ [];
  seconds = rim ∷ 1 ∷ rim ∷ [];
  shares = 0 ∷ 1 ∷ 0 ∷ [];
  reaches = 0
      ∷ 100 ∷ 0 ∷ [];
}

abbrev pub sluice_call : ℕ → Call
sluice_call u = record {
  fluxes = negsuc u ∷ pos (suc u) ∷ pos (suc u) ∷ [];
  outsides = 1000 ∷ 0 ∷ 0 ∷ [];
  nexts = 0 ∷ 0 ∷ [];
  moveds = pos 0 ∷ pos 0 ∷ pos 0 ∷ [];
  work = replicate 11 0;
  releases = 0 ∷ 0 ∷ [];
}

abbrev pub sluice_step : ℕ → List ℕ → StepInput
sluice_step u masses = input_of sluice masses (sluice_call u)

-- line 3's two cells with K 20, so that each face has a correction
abbrev pub wide_pair : Mesh
wide_pair = record { cells = 2; faces = 2; volumes = 10 ∷ 10 ∷ []; firsts = 0 ∷ 0 ∷ []; seconds = 1 ∷ 1 ∷ []; shares = 128 ∷ 128 ∷ []; reaches = 20 ∷ 20 ∷ [] }

abbrev pub wide_step : StepInput
wide_step = input_of wide_pair (93 ∷ 15 ∷ []) exchange_call

-- the channel with s 1, and U 80 through it from fresh water
abbrev pub steep : Mesh
steep = mesh_of 3 4 channel.volumes channel.firsts channel.seconds (0 ∷ 1 ∷ 1 ∷ 0 ∷ []) channel.reaches

abbrev pub steep_call : Call
steep_call = record {
  fluxes = negsuc 79 ∷ pos 80 ∷ pos 80 ∷ pos 80 ∷ [];
  outsides = 0 ∷ 0 ∷ 0 ∷ 0 ∷ [];
  nexts = 0 ∷ 0 ∷ 0 ∷ [];
  moveds = pos 0 ∷ pos 0 ∷ pos 0 ∷ pos 0 ∷ [];
  work = replicate 16 0;
  releases = 0 ∷ 0 ∷ 0 ∷ [];
}

abbrev pub steep_step : StepInput
steep_step = input_of steep (0 ∷ 50000 ∷ 0 ∷ []) steep_call

pub record KeptFigures : Type 0 where
  -- cancelled: U 90 leaves low-order q 1000 and 900, and the correction would run from 1000 to 900
  pub cancelled_accepted : verdict sluice (100000 ∷ 0 ∷ []) (sluice_call 89) ≡ fine
  pub cancelled_low : table 2 (low_concentration (sluice_step 89 (100000 ∷ 0 ∷ []))) ≡ 1000 ∷ 900 ∷ []
  pub cancelled_correction : correction (sluice_step 89 (100000 ∷ 0 ∷ [])) 1 ≡ pos 40148
  pub cancelled : kept (sluice_step 89 (100000 ∷ 0 ∷ [])) 1 ≡ pos 0
  pub cancelled_next : table 2 (next (sluice_step 89 (100000 ∷ 0 ∷ []))) ≡ 100000 ∷ 90000 ∷ []
  -- equal: U 100 leaves 1000 in both cells; line 5's 49609 is kept, and the limiter cuts it to 99
  pub equal_accepted : verdict sluice (100000 ∷ 0 ∷ []) (sluice_call 99) ≡ fine
  pub equal_low : table 2 (low_concentration (sluice_step 99 (100000 ∷ 0 ∷ []))) ≡ 1000 ∷ 1000 ∷ []
  pub equal_correction : correction (sluice_step 99 (100000 ∷ 0 ∷ [])) 1 ≡ pos 49609
  pub equal_kept : kept (sluice_step 99 (100000 ∷ 0 ∷ [])) 1 ≡ pos 49609
  pub equal_next : table 2 (next (sluice_step 99 (100000 ∷ 0 ∷ []))) ≡ 99901 ∷ 100099 ∷ []
  -- rounded: the same with a rest of 50 in the giver, so that low-order masses are 100050 and 100000, and low-order q equal
  pub rounded_accepted : verdict sluice (100050 ∷ 0 ∷ []) (sluice_call 99) ≡ fine
  pub rounded_masses : table 2 (low (sluice_step 99 (100050 ∷ 0 ∷ []))) ≡ 100050 ∷ 100000 ∷ []
  pub rounded_low : table 2 (low_concentration (sluice_step 99 (100050 ∷ 0 ∷ []))) ≡ 1000 ∷ 1000 ∷ []
  pub rounded_kept : kept (sluice_step 99 (100050 ∷ 0 ∷ [])) 1 ≡ pos 49609
  pub rounded_next : table 2 (next (sluice_step 99 (100050 ∷ 0 ∷ []))) ≡ 99951 ∷ 100099 ∷ []
  -- against the water: both corrections run from cell 1, at 9, to cell 0, at 1; the water of face 0 runs from cell 0 to cell 1
  pub against_accepted : verdict wide_pair (93 ∷ 15 ∷ []) exchange_call ≡ fine
  pub against_low : table 2 (low_concentration wide_step) ≡ 1 ∷ 9 ∷ []
  pub against_corrections : table 2 (correction wide_step) ≡ negsuc 19 ∷ negsuc 19 ∷ []
  pub against_kept : table 2 (kept wide_step) ≡ pos 0 ∷ pos 0 ∷ []
  pub against_next : table 2 (next wide_step) ≡ 13 ∷ 95 ∷ []
  -- in neither P nor N: cell 1, at 100, gives to cell 0, at 0, and to cell 2, at 400. Only the second counts in N, so all of L goes there.
  pub uncounted_accepted : verdict steep (0 ∷ 50000 ∷ 0 ∷ []) steep_call ≡ fine
  pub uncounted_low : table 3 (low_concentration steep_step) ≡ 0 ∷ 100 ∷ 400 ∷ []
  pub uncounted_corrections : table 4 (correction steep_step) ≡ pos 0 ∷ negsuc 15842 ∷ pos 15843 ∷ pos 0 ∷ []
  pub uncounted_kept : table 4 (kept steep_step) ≡ pos 0 ∷ pos 0 ∷ pos 15843 ∷ pos 0 ∷ []
  pub uncounted_room : max_loss steep_step 1 ≡ 10000
  pub uncounted_next : table 3 (next steep_step) ≡ 0 ∷ 0 ∷ 50000 ∷ []
  -- against the water too, and kept: channel step 1, from cell 1, at 500, to cell 0, at 1000
  pub channel_low : table 3 (low_concentration (channel_step (100000 ∷ 0 ∷ 0 ∷ []))) ≡ 1000 ∷ 500 ∷ 0 ∷ []
  pub channel_kept : kept (channel_step (100000 ∷ 0 ∷ 0 ∷ [])) 1 ≡ negsuc 12499

pub kept-figures : KeptFigures
unfolding the_step
kept-figures = record {
  cancelled_accepted = refl;
  cancelled_low = refl;
  cancelled_correction = refl;
  cancelled = refl;
  cancelled_next = refl;
  equal_accepted = refl;
  equal_low = refl;
  equal_correction = refl;
  equal_kept = refl;
  equal_next = refl;
  rounded_accepted = refl;
  rounded_masses = refl;
  rounded_low = refl;
  rounded_kept = refl;
  rounded_next = refl;
  against_accepted = refl;
  against_low = refl;
  against_corrections = refl;
  against_kept = refl;
  against_next = refl;
  uncounted_accepted = refl;
  uncounted_low = refl;
  uncounted_corrections = refl;
  uncounted_kept = refl;
  uncounted_room = refl;
  uncounted_next = refl;
  channel_low = refl;
  channel_kept = refl;
}

-- Document 02, S-6. The strait with U 10 through it from fresh water, and a release.
abbrev pub outfall_call : ℕ → Call
outfall_call r = record {
  fluxes = pos 10 ∷ negsuc 9 ∷ [];
  outsides = 0 ∷ 0 ∷ [];
  nexts = 0 ∷ [];
  moveds = pos 0 ∷ pos 0 ∷ [];
  work = replicate 6 0;
  releases = r
      ∷ [];
}

-- too much released, and an outside value where water leaves
abbrev pub bad_outfall : Call
bad_outfall = record {
  fluxes = pos 10 ∷ negsuc 9 ∷ [];
  outsides = 5 ∷ 0 ∷ [];
  nexts = 0 ∷ [];
  moveds = pos 0 ∷ pos 0 ∷ [];
  work = replicate 6 0;
  releases = 100000100 ∷ [];
}

-- the channel without salt, and step 1's first mass as a release
abbrev pub channel_outfall : Call
channel_outfall = record {
  fluxes = channel_call.fluxes;
  outsides = channel_call.outsides;
  nexts = channel_call.nexts;
  moveds = channel_call.moveds;
  work = channel_call.work;
  releases = 100000 ∷ 0 ∷ 0 ∷ [];
}

-- the same with more than a cell of V 100 holds
abbrev pub too_much : Call
too_much = record {
  fluxes = channel_call.fluxes;
  outsides = channel_call.outsides;
  nexts = channel_call.nexts;
  moveds = channel_call.moveds;
  work = channel_call.work;
  releases = 0 ∷ 100000100 ∷ 0 ∷ [];
}

-- one cell, no faces, and a release
abbrev pub lake_outfall : ℕ → Call
lake_outfall r = record { fluxes = []; outsides = []; nexts = 0 ∷ []; moveds = []; work = replicate 4 0; releases = r ∷ [] }

pub record ReleaseFigures : Type 0 where
  -- added first: m 5000 and a release of 5000 leave at q 100, so U 10 takes 1000 out
  pub outfall_accepted : verdict strait (5000 ∷ []) (outfall_call 5000) ≡ fine
  pub outfall_next : table 1 (next (input_of strait (5000 ∷ []) (outfall_call 5000))) ≡ 9000 ∷ []
  pub outfall_out : out_mass (input_of strait (5000 ∷ []) (outfall_call 5000)) ≡ 1000
  pub outfall_released : released_mass 1 (5000 ∷ []) ≡ 5000
  -- bounds of the raised field: what channel step 1 gives of masses 100000, 0, 0, it gives of releases 100000, 0, 0 into fresh water
  pub raised_accepted : verdict channel (0 ∷ 0 ∷ 0 ∷ []) channel_outfall ≡ fine
  pub raised_next : table 3 (next (input_of channel (0 ∷ 0 ∷ 0 ∷ []) channel_outfall)) ≡ 100099 ∷ 49901 ∷ 0 ∷ []
  -- 18: the fullest raised cell of V 4,095, and one too full; 7 after it, 6 before it
  pub raised_fullest : verdict (lake 4095) (4095004093 ∷ []) (lake_outfall 1) ≡ fine
  pub raised_too_full : verdict (lake 4095) (4095004093 ∷ []) (lake_outfall 2) ≡ refused 18 0
  pub raised_before_water : verdict strait (0 ∷ []) bad_outfall ≡ refused 18 0
  pub too_full_before : verdict (lake 4095) (4095004095 ∷ []) (lake_outfall 1) ≡ refused 6 0

pub release-figures : ReleaseFigures
unfolding the_step
release-figures = record {
  outfall_accepted = refl;
  outfall_next = refl;
  outfall_out = refl;
  outfall_released = refl;
  raised_accepted = refl;
  raised_next = refl;
  raised_fullest = refl;
  raised_too_full = refl;
  raised_before_water = refl;
  too_full_before = refl;
}

-- Besides the lines marked P.
-- the second cell upwind: U −100, K 100, s 1, so t is 255; the correction runs with the water, toward cell 0
second-upwind : correction (between 1000 0 (negsuc 99) 1 100) 0 ≡ negsuc 49608
unfolding the_step
second-upwind = refl

-- a still face does not widen the bounds
still-face : (lo (between 1000 0 (pos 0) 1 100) 0 ≡ 1000) × (hi (between 1000 0 (pos 0) 1 100) 1 ≡ 0)
unfolding the_step
still-face = (refl, refl)

-- a negative quotient is rounded toward zero: U 1, K 2, s 128, d 3 gives 384 / 512, d −3 gives −384 / 512
toward_zero : (correction (between 0 3 (pos 1) 128 2) 0 ≡ pos 0) × (correction (between 3 0 (pos 1) 128 2) 0 ≡ pos 0)
unfolding the_step
toward_zero = (refl, refl)

-- the channel session as a list of two calls
session : after_all (step_on_tables corrected channel) (100000 ∷ 0 ∷ 0 ∷ []) (channel_call ∷ channel_call ∷ []) ≡ 100099 ∷ 81188 ∷ 18713 ∷ []
unfolding the_step
session = refl

session-in : total_in (step_on_tables corrected channel) (100000 ∷ 0 ∷ 0 ∷ []) (channel_call ∷ channel_call ∷ []) ≡ 100000
unfolding the_step
session-in = refl

-- a release of 100000 into fresh water, one that is refused by 18, and the channel's own step
session-released : total_released (step_on_tables corrected channel) (0 ∷ 0 ∷ 0 ∷ []) (channel_outfall ∷ too_much ∷ channel_call ∷ []) ≡ 100000
unfolding the_step
session-released = refl

session-after : after_all (step_on_tables corrected channel) (0 ∷ 0 ∷ 0 ∷ []) (channel_outfall ∷ too_much ∷ channel_call ∷ []) ≡ 100099 ∷ 81188 ∷ 18713 ∷ []
unfolding the_step
session-after = refl

-- all V 7, all m 30, outside 4, on the channel
all-30 : table 3 (next (rounded_input
    (record {
      cells = 3;
      faces = 4;
      volumes = 7 ∷ 7 ∷ 7 ∷ [];
      firsts = 0 ∷ 0 ∷ 1 ∷ 2 ∷ [];
      seconds = rim ∷ 1 ∷ 2 ∷ rim ∷ [];
      shares = 0 ∷ 128 ∷ 128 ∷ 0 ∷ [];
      reaches = 0 ∷ 7 ∷ 7 ∷ 0 ∷ [];
    })
    (30 ∷ 30 ∷ 30 ∷ []) (negsuc 4 ∷ pos 5 ∷ pos 5 ∷ pos 5 ∷ []) (4 ∷ 0 ∷ 0 ∷ 0 ∷ [])))
    ≡ 30 ∷ 30 ∷ 30 ∷ []
unfolding the_step
all-30 = refl

-- Document 02, S-10: one cell of V v with two faces over the rim; two cells of V 65,535 and two faces from 0 to 1, s 255 and 128, K 65,535 or one more
abbrev pub large_strait : ℕ → Mesh
large_strait v = record { cells = 1; faces = 2; volumes = v ∷ []; firsts = 0 ∷ 0 ∷ []; seconds = rim ∷ rim ∷ []; shares = 0 ∷ 0 ∷ []; reaches = 0 ∷ 0 ∷ [] }

abbrev pub large_pair : ℕ → Mesh
large_pair k = record {
  cells = 2;
  faces = 2;
  volumes = 65535 ∷ 65535 ∷ [];
  firsts = 0 ∷ 0 ∷ [];
  seconds = 1 ∷ 1 ∷ [];
  shares = 255 ∷ 128 ∷ [];
  reaches = 65535
      ∷ k ∷ [];
}

abbrev pub large_call : Call
large_call = record {
  fluxes = pos 30000 ∷ negsuc 29999 ∷ [];
  outsides = 0 ∷ 0 ∷ [];
  nexts = 0 ∷ 0 ∷ [];
  moveds = pos 0 ∷ pos 0 ∷ [];
  work = replicate 10 0;
  releases = 0 ∷ 0 ∷ [];
}

abbrev pub large_masses : List ℕ
large_masses = 39321000000 ∷ 6553500000 ∷ []

pub record LargeFigures : Type 0 where
  -- the last good and the first bad value of each ceiling, and of the old ones
  pub volume_last : mesh_values ceiling (lake 65535) ≡ fine
  pub volume_beyond : mesh_values ceiling (lake 65536) ≡ refused 3 0
  pub volume_old : mesh_values old_ceiling (lake 4096) ≡ refused 3 0
  pub reach_beyond : mesh_values ceiling (large_pair 65536) ≡ refused 5 1
  pub flux_last : verdict (large_strait 65535) (0 ∷ []) (through 65534) ≡ fine
  pub flux_beyond : verdict (large_strait 65535) (0 ∷ []) (through 65535) ≡ refused 8 0
  pub fullest_large : field_verdict (lake 65535) (65535065534 ∷ []) ≡ fine
  pub too_full_large : field_verdict (lake 65535) (65535065535 ∷ []) ≡ refused 6 0
  -- corrections of 11508126323 and 4066720073 toward cell 0 are cut to 15000000000 of 15574846396, by products of more than 64 bits
  pub large_accepted : verdict (large_pair 65535) large_masses large_call ≡ fine
  pub large_next : table 2 (next (input_of (large_pair 65535) large_masses large_call)) ≡ 39320999999 ∷ 6553500001 ∷ []
  pub large_moved : table 2 (moved (input_of (large_pair 65535) large_masses large_call)) ≡ pos 6916622967 ∷ negsuc 6916622965 ∷ []

pub large-figures : LargeFigures
unfolding the_step
large-figures = record {
  volume_last = refl;
  volume_beyond = refl;
  volume_old = refl;
  reach_beyond = refl;
  flux_last = refl;
  flux_beyond = refl;
  fullest_large = refl;
  too_full_large = refl;
  large_accepted = refl;
  large_next = refl;
  large_moved = refl;
}
