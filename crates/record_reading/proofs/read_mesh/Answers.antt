-- The tests answer with the counts; then the body's tables hold the record's columns (`mesh-filled`).
use Rattle.std.proofs.Common.{◌≡◌, ◌≤◌, sym, length}
use Rattle.model.specs.Mesh.{Mesh, mesh_of}
use Rattle.model.specs.Meshes.{at_counts}
use Rattle.model.specs.Causes.{accepted}
use Rattle.record_heads.specs.Heads.{kind_in}
use Rattle.record_sections.proofs.Bodies.{body_of}
use Rattle.record_reading.specs.declared.MeshCounts.{MeshCounts}
use Rattle.record_reading.specs.Reading.{mesh_in, mesh_read_into}
use Rattle.record_bodies.specs.Bodies.{MeshRoom}
use Rattle.record_reading.proofs.ReadLaws.{mesh-kind-is, read-says, mesh_accepted}
use Rattle.record_reading.proofs.BodyLaws.{mesh_head_bytes, mesh-room, mesh-filled}
use Rattle.record_reading.proofs.read_mesh.Goals as goal

-- a reading that passed has room for its body
room : (bs : _) (lent : Mesh) {n : MeshCounts} → mesh_read_into bs lent ≡ accepted n
    → (mesh_head_bytes ≤ length bs) × MeshRoom (kind_in bs) (body_of mesh_head_bytes bs) (at_counts (mesh_in bs) lent)
room bs lent e = let k = read-says _ _ _ _ _ _ _ _ e in mesh-room bs lent k.head.few_cells k.head.few_faces k.tables

pub slice_bounds-mesh-count : goal.slice_bounds-mesh-count
slice_bounds-mesh-count c =
    let s = c.args in
    (room s.bytes.now (mesh_of s.most_cells s.most_faces s.volumes.now s.firsts.now s.seconds.now s.shares.now s.reaches.now) (sym c.in_ok-n.ensures)).0

pub slice_bounds-mesh-start : goal.slice_bounds-mesh-start
slice_bounds-mesh-start c =
    let s = c.args in
    (room s.bytes.now (mesh_of s.most_cells s.most_faces s.volumes.now s.firsts.now s.seconds.now s.shares.now s.reaches.now) (sym c.in_ok-n.ensures)).0

pub mesh-requires-2 : goal.mesh-requires-2
mesh-requires-2 c =
    let s = c.args in
    let lent = mesh_of s.most_cells s.most_faces s.volumes.now s.firsts.now s.seconds.now s.shares.now s.reaches.now in
    let e = sym c.in_ok-n.ensures in
    let k = read-says _ _ _ _ _ _ _ _ e in
    rw (k.counts_are, mesh-kind-is (kind_in s.bytes.now) k.head.kind) (room s.bytes.now lent e).1

pub returns : goal.returns
returns c =
    let s = c.args in
    let lent = mesh_of s.most_cells s.most_faces s.volumes.now s.firsts.now s.seconds.now s.shares.now s.reaches.now in
    let e = sym c.in_ok-n.ensures in
    let k = read-says _ _ _ _ _ _ _ _ e in
    mesh_accepted e (mesh-filled s.bytes.now (at_counts (mesh_in s.bytes.now) lent) lent
    (rw (k.counts_are, mesh-kind-is (kind_in s.bytes.now) k.head.kind) at c.mesh-2.ensures))
