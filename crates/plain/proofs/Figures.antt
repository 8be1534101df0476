-- Figures of plain and unrounded steps, computed by the definitions.
use Prim.Native.Nat.{ℕ}
use mathlib.Core.Path.{◌≡◌, refl}
use mathlib.Core.List.{List, [], ◌∷◌}
use lib.IntN.{pos, negsuc}
use lib.ListN.{replicate}
use Rattle.model.specs.Mesh.{Mesh, mesh_of, rim}
use Rattle.model.specs.Causes.{Call, call_of}
use Rattle.model.specs.Calls.{after_all}
use Rattle.model.proofs.Figures.{channel, channel_call}
use Rattle.model.proofs.Unfolded.{the_step}
use Rattle.plain.specs.Unrounded.{product, each_times, Fractions, whole_masses, finer, unrounded_step}
use Rattle.plain.specs.Error.{accepted_of, unrounded_after, PlainCall, plain_comes}

-- a name for all that a figure computes through
computed : Unit {0}
unfolding the_step accepted_of unrounded_after unrounded_step finer each_times product
computed = tt

-- calls of a list, with 9 past the field in their tables of masses
abbrev listed : Call → PlainCall
listed k = record { past = 9 ∷ []; tables = k }

abbrev last_of : Mesh → List ℕ → List PlainCall → List ℕ
last_of M = after_all (plain_comes M)

abbrev unrounded_of : Mesh → List ℕ → List PlainCall → Fractions
unrounded_of M field = unrounded_after M (λ p. p.tables) (plain_comes M) (whole_masses field) field

-- Document 01's channel session by plain steps. Every q in it is whole, and nothing is lost by rounding.
channel-plain : last_of channel (100000 ∷ 0 ∷ 0 ∷ []) (listed channel_call ∷ listed channel_call ∷ []) ≡ 100000 ∷ 75000 ∷ 25000 ∷ []
unfolding computed
channel-plain = refl

-- Two cells of V 2 and 3 that hold 1 each, and one unit of water through both. Rounded down every q is 0, and a plain step moves nothing. Not
-- rounded, 1/2 leaves the first cell and 1/3 the second: 1/2 = 3/6 and 7/6 are left.
abbrev strait : Mesh
strait = mesh_of 2 3 (2 ∷ 3 ∷ []) (0 ∷ 0 ∷ 1 ∷ []) (rim ∷ 1 ∷ rim ∷ []) (0 ∷ 128 ∷ 0 ∷ []) (0 ∷ 2 ∷ 0 ∷ [])

abbrev through : List ℕ → Call
through releases = call_of (negsuc 0 ∷ pos 1 ∷ pos 1 ∷ []) (0 ∷ 0 ∷ 0 ∷ []) (7 ∷ 7 ∷ []) (pos 0 ∷ pos 0 ∷ pos 0 ∷ []) (replicate 11 0) releases

strait-plain : last_of strait (1 ∷ 1 ∷ []) (listed (through (0 ∷ 0 ∷ [])) ∷ []) ≡ 1 ∷ 1 ∷ []
unfolding computed
strait-plain = refl

strait-unrounded : unrounded_step strait (through (0 ∷ 0 ∷ [])) (whole_masses (1 ∷ 1 ∷ [])) ≡ record { parts = 6; tops = 3 ∷ 7 ∷ [] }
unfolding computed
strait-unrounded = refl

-- once more, after a release of 1 into the first cell: 3/2 − 3/4 = 27/36, and 7/6 + 3/4 − 7/18 = 55/36
strait-released : unrounded_step strait (through (1 ∷ 0 ∷ [])) (record { parts = 6; tops = 3 ∷ 7 ∷ [] }) ≡ record { parts = 36; tops = 27 ∷ 55 ∷ [] }
unfolding computed
strait-released = refl

-- Two cells of V 3 that exchange all their water: 2 and 0, then 1 and 2 released. A call in between is refused, and changes neither side. After
-- two accepted steps the first cell holds 0, and not rounded 324/81 = 4: m/V differs by 4/3, which is below 2 and not below 1.
abbrev exchange : Mesh
exchange = mesh_of 2 2 (3 ∷ 3 ∷ []) (0 ∷ 0 ∷ []) (1 ∷ 1 ∷ []) (128 ∷ 128 ∷ []) (3 ∷ 3 ∷ [])

abbrev exchanging : List ℕ → PlainCall
exchanging releases = listed (call_of (pos 3 ∷ negsuc 2 ∷ []) (0 ∷ 0 ∷ []) (0 ∷ 0 ∷ []) (pos 0 ∷ pos 0 ∷ []) (replicate 10 0) releases)

abbrev exchanges : List PlainCall
exchanges = exchanging (0 ∷ 0 ∷ []) ∷ exchanging [] ∷ exchanging (1 ∷ 2 ∷ []) ∷ []

two-accepted : accepted_of exchange (λ p. p.tables) (plain_comes exchange) (2 ∷ 0 ∷ []) exchanges ≡ 2
unfolding computed
two-accepted = refl

two-plain : last_of exchange (2 ∷ 0 ∷ []) exchanges ≡ 0 ∷ 5 ∷ []
unfolding computed
two-plain = refl

two-unrounded : unrounded_of exchange (2 ∷ 0 ∷ []) exchanges ≡ record { parts = 81; tops = 324 ∷ 81 ∷ [] }
unfolding computed
two-unrounded = refl
