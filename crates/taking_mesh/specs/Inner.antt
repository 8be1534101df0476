-- What the inner functions come to. Nothing here is promised to a caller.
use Rattle.model.specs.Mesh.{Mesh}
use Rattle.model.specs.Meshes.{at_counts}
use Rattle.model.specs.Causes.{Verdict, ◌and_then◌, mesh_tables, mesh_verdict}

-- what is found of a mesh M that has been read, with the tables that are lent to be filled
abbrev pub kept_found : Mesh → Mesh → Verdict
kept_found lent M = mesh_tables (at_counts M lent) and_then mesh_verdict M
