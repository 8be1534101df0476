-- The channel cut between its first cell and the others, with a release in that cell: what the definitions say of it, computed.
use Prim.Native.Nat.{ℕ}
use mathlib.Core.Path.{◌≡◌, refl}
use mathlib.Core.List.{List, [], ◌∷◌}
use lib.IntN.{ℤ, pos, negsuc}
use lib.ListN.{replicate}
use Rattle.model.specs.Mesh.{rim}
use Rattle.model.specs.Causes.{fine, refused, accepted}
use Rattle.model.proofs.Figures.{channel, channel_call}
use Rattle.model.proofs.Unfolded.{the_step}
use Rattle.lists.specs.Marked.{count, old, picked}
use Rattle.cutting_parts.specs.Cut.{Tables, tables_of, Lagoon, lagoon_of, part_tables, part_of}
use Rattle.cutting_parts.specs.Refusals.{label_good, part_good, label_values, cut_tables, cut_verdict}
use Rattle.cutting_parts.specs.Parts.{plain_answer, plain_next, plain_moved}

-- the channel with masses 100000, 0, 0; of 500000 the q of cell 0 is too high
abbrev with_mass : ℕ → Lagoon
with_mass m = lagoon_of 3 4
    (tables_of channel.volumes channel.firsts channel.seconds channel.shares channel.reaches (m ∷ 0 ∷ 0 ∷ [])
    channel_call.fluxes channel_call.outsides (5000 ∷ 0 ∷ 0 ∷ []))

abbrev lagoon : Lagoon
lagoon = with_mass 100000

-- tables lent for a part at the whole's counts, all 7 before
abbrev lent : Tables
lent = let by-cell : List ℕ = 7 ∷ 7 ∷ 7 ∷ [] in let by-face : List ℕ = 7 ∷ 7 ∷ 7 ∷ 7 ∷ [] in
    tables_of by-cell by-face by-face by-face by-face by-cell (pos 7 ∷ pos 7 ∷ pos 7 ∷ pos 7 ∷ []) by-face by-cell

abbrev labels : List ℕ
labels = 0 ∷ 1 ∷ 1 ∷ []

abbrev part : ℕ → Lagoon
part p = part_of lagoon labels p lent

-- what a step on it is lent to fill
abbrev nexts : List ℕ
nexts = 7 ∷ 7 ∷ 7 ∷ []

abbrev moveds : List ℤ
moveds = pos 7 ∷ pos 7 ∷ pos 7 ∷ pos 7 ∷ []

abbrev work : List ℕ
work = replicate 16 0

everything : Unit {0}
unfolding the_step cut_verdict cut_tables label_values label_good part_good count old picked
everything = tt

pub record CutFigures : Type 0 where
  pub is_cut : cut_verdict lagoon labels lent lent ≡ fine
  -- one cell with two rim faces, the second a cut through which water leaves
  pub counts_0 : ((part 0).cells ≡ 1) × ((part 0).faces ≡ 2)
  pub part_0 : part_tables lagoon labels 0 lent ≡ tables_of (100 ∷ 7 ∷ 7 ∷ []) (0 ∷ 0 ∷ 7 ∷ 7 ∷ []) (rim ∷ rim ∷ 7 ∷ 7 ∷ []) (0 ∷ 0 ∷ 7 ∷ 7 ∷ [])
      (0 ∷ 0 ∷ 7 ∷ 7 ∷ [])
      (100000 ∷ 7 ∷ 7 ∷ []) (negsuc 49 ∷ pos 50 ∷ pos 7 ∷ pos 7 ∷ []) (1000 ∷ 0 ∷ 7 ∷ 7 ∷ []) (5000 ∷ 7 ∷ 7 ∷ [])
  -- two cells; the cut face is turned, and the raised 1050 of cell 0 enters through it
  pub counts_1 : ((part 1).cells ≡ 2) × ((part 1).faces ≡ 3)
  pub part_1 : part_tables lagoon labels 1 lent ≡ tables_of (100 ∷ 100 ∷ 7 ∷ []) (0 ∷ 0 ∷ 1 ∷ 7 ∷ []) (rim ∷ 1 ∷ rim ∷ 7 ∷ []) (0 ∷ 128 ∷ 0 ∷ 7 ∷ [])
      (0 ∷ 100 ∷ 0 ∷ 7 ∷ [])
      (0 ∷ 0 ∷ 7 ∷ []) (negsuc 49 ∷ pos 50 ∷ pos 50 ∷ pos 7 ∷ []) (1050 ∷ 0 ∷ 0 ∷ 7 ∷ []) (0 ∷ 0 ∷ 7 ∷ [])
  -- the plain step of the whole, and of each part
  pub whole_next : plain_next lagoon nexts moveds work ≡ 102500 ∷ 52500 ∷ 0 ∷ []
  pub whole_moved : plain_moved lagoon nexts moveds work ≡ negsuc 49999 ∷ pos 52500 ∷ pos 0 ∷ pos 0 ∷ []
  pub answer_0 : plain_answer (part 0) nexts moveds work ≡ accepted (record { entered = 50000; gone = 52500; released = 5000 })
  pub next_0 : plain_next (part 0) nexts moveds work ≡ 102500 ∷ 7 ∷ 7 ∷ []
  pub moved_0 : plain_moved (part 0) nexts moveds work ≡ negsuc 49999 ∷ pos 52500 ∷ pos 7 ∷ pos 7 ∷ []
  pub answer_1 : plain_answer (part 1) nexts moveds work ≡ accepted (record { entered = 52500; gone = 0; released = 0 })
  pub next_1 : plain_next (part 1) nexts moveds work ≡ 52500 ∷ 0 ∷ 7 ∷ []
  pub moved_1 : plain_moved (part 1) nexts moveds work ≡ negsuc 52499 ∷ pos 0 ∷ pos 0 ∷ pos 7 ∷ []
  -- refusals: the first label that is no label, the first part without cells, and both before a q that is too high
  pub other_label : cut_verdict lagoon (0 ∷ 2 ∷ 3 ∷ []) lent lent ≡ refused 23 1
  pub no_part_0 : cut_verdict (with_mass 100000100) (1 ∷ 1 ∷ 1 ∷ []) lent lent ≡ refused 24 0
  pub no_part_1 : cut_verdict (with_mass 100000100) (0 ∷ 0 ∷ 0 ∷ []) lent lent ≡ refused 24 1
  pub too_high : cut_verdict (with_mass 100000100) labels lent lent ≡ refused 6 0
  pub labels_short : cut_verdict lagoon (0 ∷ 1 ∷ []) lent lent ≡ refused 2 15

pub cut-figures : CutFigures
unfolding everything
cut-figures = record {
  is_cut = refl;
  counts_0 = (refl, refl);
  part_0 = refl;
  counts_1 = (refl, refl);
  part_1 = refl;
  whole_next = refl;
  whole_moved = refl;
  answer_0 = refl;
  next_0 = refl;
  moved_0 = refl;
  answer_1 = refl;
  next_1 = refl;
  moved_1 = refl;
  other_label = refl;
  no_part_0 = refl;
  no_part_1 = refl;
  too_high = refl;
  labels_short = refl;
}
