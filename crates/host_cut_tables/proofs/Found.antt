-- What is found of a cutting whose parts stand in tables of the call's own; where it is nothing, each part can be cut.
use Prim.Native.Nat.{ℕ}
use mathlib.Core.Path.{◌≡◌, sym, ◌∙◌}
use mathlib.Core.List.{List}
use lib.IntN.{ℤ, pos}
use lib.ListN.{length}
use Rattle.model.specs.Mesh.{run_cells, run_faces}
use Rattle.model.specs.Causes.{Verdict, fine, ◌and_then◌, counts}
use Rattle.cutting_parts.specs.Cut.{Lagoon}
use Rattle.cutting_parts.specs.Refusals.{cut_tables}
use Rattle.cutting_causes.specs.Lengths.{values_found, lengths_found}
use Rattle.cutting_causes.proofs.Groups.{lengths-first}
use Rattle.cutting_tables.specs.Part.{Cuttable}
use Rattle.cutting.proofs.Promised.{cuttable, room_0}
use Rattle.host_cut_promises.specs.Cut.{own_part}
use Rattle.host_cut_promises.specs.Inner.{cut_finds}
use Rattle.host_cut_promises.proofs.Room.{length-blank}

module _ (L : Lagoon) (labels : List ℕ) where
  pub found-own : {v : Verdict} → v ≡ (lengths_found L.cells L.faces (length L.tables.volumes) run_cells run_cells
      (length L.tables.firsts) run_faces run_faces (length L.tables.seconds) run_faces run_faces (length L.tables.shares) run_faces run_faces
      (length L.tables.reaches) run_faces run_faces (length L.tables.masses) run_cells run_cells (length L.tables.fluxes) run_faces run_faces
      (length L.tables.outsides) run_faces run_faces (length L.tables.releases) run_cells run_cells (length labels) and_then values_found L labels)
      → v ≡ cut_finds L labels
  unfolding counts cut_tables
  found-own e = e ∙ sym (lengths-first L labels own_part own_part ∙ rw (
    length-blank {A = ℕ} run_cells 0,
    length-blank {A = ℕ} run_faces 0,
    length-blank {A = ℤ} run_faces (pos 0),
  ))

  pub cuttable-own : cut_finds L labels ≡ fine → Cuttable L labels own_part
  cuttable-own e = cuttable L labels own_part own_part e own_part (room_0 L labels own_part own_part e)
