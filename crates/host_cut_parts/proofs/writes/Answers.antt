-- Each record as its writer left it.
use Rattle.host_cut_parts.proofs.Pieces.{wrote}
use Rattle.host_cut_parts.proofs.writes.Goals as goal

pub returns : goal.returns
returns c = record {
  mesh_wrote = wrote _ c.write_mesh-a.ensures c.unwrap_or.ensures;
  field_wrote = wrote _ c.write_field-b.ensures c.unwrap_or-2.ensures;
  step_wrote = wrote _ c.write_step-c.ensures c.unwrap_or-3.ensures;
}
