-- A mesh as one value: what a record holds of it, and what a reading leaves in lent tables.
use Rattle.std.specs.Prelude.{◌≡◌, length, take}
use Rattle.lists.specs.Table.{table, over}
use Rattle.model.specs.Mesh.{Mesh, mesh_of, volume, first, second, share, reach}

-- a mesh with its tables cut to the counts
abbrev pub trimmed : Mesh → Mesh
trimmed M = mesh_of M.cells M.faces (table M.cells (volume M)) (table M.faces (first M)) (table M.faces (second M))
    (table M.faces (share M)) (table M.faces (reach M))

-- the tables of a mesh laid over those of one that is lent: its entries come first
abbrev pub over_mesh : Mesh → Mesh → Mesh
over_mesh M lent = mesh_of lent.cells lent.faces (over M.volumes lent.volumes) (over M.firsts lent.firsts) (over M.seconds lent.seconds)
    (over M.shares lent.shares) (over M.reaches lent.reaches)

-- lent tables at the counts of M
abbrev pub at_counts : Mesh → Mesh → Mesh
at_counts M lent = mesh_of M.cells M.faces lent.volumes lent.firsts lent.seconds lent.shares lent.reaches

-- the counted parts of the tables, as they are lent on
abbrev pub parted : Mesh → Mesh
parted M = mesh_of M.cells M.faces (take M.cells M.volumes) (take M.faces M.firsts) (take M.faces M.seconds)
    (take M.faces M.shares) (take M.faces M.reaches)

-- a mesh in tables as long as its counts
pub record MeshCut (M : Mesh) : Type 0 where
  pub volumes_cut : M.cells ≡ length M.volumes
  pub firsts_cut : M.faces ≡ length M.firsts
  pub seconds_cut : M.faces ≡ length M.seconds
  pub shares_cut : M.faces ≡ length M.shares
  pub reaches_cut : M.faces ≡ length M.reaches
