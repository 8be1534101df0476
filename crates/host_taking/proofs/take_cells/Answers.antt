-- The volumes are the first table of the mesh that is taken.
use Rattle.std.proofs.Common.{ap}
use Rattle.model.specs.Mesh.{Mesh}
use Rattle.host_taking.proofs.take_cells.Goals as goal

pub returns : goal.returns
returns c =
    let h = c.take_field.ensures in
    record {
      answer = h.answer;
      volumes_held = λ e. record { fits = (h.tables e).mesh-long.volumes_long; part = ap (λ (M : Mesh). M.volumes) (h.tables e).mesh_held };
      masses_held = λ e. (h.tables e).masses_held;
    }
