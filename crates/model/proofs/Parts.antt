-- Tables of one's own that a record is read into, and the counted entries of them; of a mesh, as one value.
use Prim.Native.Nat.{ℕ, ◌≤◌, ◌<◌}
use mathlib.Core.Path.{◌≡◌, refl, sym}
use mathlib.Core.List.{List}
use native.Mathlib.Omega.{arith}
use lib.ListN.{length, get_or, take, drop, length-append, get_or-append}
use lib.Seq.{take_at, length-take-le}
use Rattle.lists.specs.Table.{table, over}
use Rattle.lists.proofs.Tables.{length-table, over-table, length_over}
use Rattle.model.specs.Mesh.{Mesh, mesh_of}
use Rattle.model.specs.Meshes.{over_mesh, at_counts, parted, MeshCut}
use Rattle.model.specs.Accepted.{MeshLent}
use Rattle.model.specs.Alike.{AgreeMesh}
use Rattle.model.specs.Causes.{Outcome, accepted, granted}

-- the n entries that were read into ys
pub record PartRead {A : Type 0} (n : ℕ) (xs ys : List A) : Type 0 where
  pub fits : n ≤ length ys
  pub part : take n ys ≡ xs

pub part_of : {A : Type 0} (n : ℕ) (f : ℕ → A) (ys : List A) → take n (over (table n f) ys) ≡ table n f
part_of n f ys = rw (over-table n f ys) (take_at (table n f) (drop n ys) n (length-table n f))

pub read-part : {A B : Type 0} {b : B} {v : Outcome B} (n : ℕ) (f : ℕ → A) (ys ys' : List A) → v ≡ accepted b → n ≤ length ys → ys'
    ≡ granted v (over (table n f) ys) ys → PartRead n (table n f) ys'
read-part n f ys ys' e l q =
    let z : ys' ≡ over (table n f) ys = rw e at q in
    record { fits = rw z (omega (arith, length_over n f ys l)); part = rw z (part_of n f ys) }

-- a part that is lent is as long as its count
pub part-long : {A : Type 0} {n : ℕ} {xs ys : List A} → PartRead n xs ys → n ≡ length (take n ys)
part-long p = sym (length-take-le _ _ p.fits)

-- A list laid over another: it is there in whole, at the front.
over-holds : {A : Type 0} (xs ys : List A) {n : ℕ} → n ≡ length xs → n ≤ length (over xs ys)
unfolding over
over-holds xs ys e = simp length-append (omega (arith, e))

over-taken : {A : Type 0} (xs ys : List A) (n : ℕ) → n ≡ length xs → take n (over xs ys) ≡ xs
unfolding over
over-taken xs ys n e = take_at xs _ n (sym e)

over-entry : (xs ys : List ℕ) {n : ℕ} → n ≡ length xs → (i : ℕ) → i < n → get_or (over xs ys) i 0 ≡ get_or xs i 0
unfolding over
over-entry xs ys e i h = get_or-append xs _ 0 i (omega (arith, e, h))

-- a mesh laid over lent tables, from its columns
pub laid-over : (M lent : Mesh) {volumes firsts seconds shares reaches : List ℕ} → volumes ≡ over M.volumes lent.volumes
    → firsts ≡ over M.firsts lent.firsts → seconds ≡ over M.seconds lent.seconds → shares ≡ over M.shares lent.shares
    → reaches ≡ over M.reaches lent.reaches → mesh_of lent.cells lent.faces volumes firsts seconds shares reaches ≡ over_mesh M lent
laid-over M lent v f s g k = rw (v, f, s, g, k)

-- a mesh in tables as long as its counts is lent whole; the counted parts of lent tables are such a mesh
pub cut-lent : {M : Mesh} → MeshCut M → MeshLent M
cut-lent c = record {
  volumes_long = omega (arith, c.volumes_cut);
  firsts_long = omega (arith, c.firsts_cut);
  seconds_long = omega (arith, c.seconds_cut);
  shares_long = omega (arith, c.shares_cut);
  reaches_long = omega (arith, c.reaches_cut);
}

pub parted-cut : (M : Mesh) → MeshLent M → MeshCut (parted M)
parted-cut M l = record {
  volumes_cut = sym (length-take-le _ _ l.volumes_long);
  firsts_cut = sym (length-take-le _ _ l.firsts_long);
  seconds_cut = sym (length-take-le _ _ l.seconds_long);
  shares_cut = sym (length-take-le _ _ l.shares_long);
  reaches_cut = sym (length-take-le _ _ l.reaches_long);
}

-- such a mesh laid over lent tables: they are long enough, their counted parts are the mesh, and below the counts they agree with it
module _ (M lent : Mesh) (c : MeshCut M) where
  pub over-lent : MeshLent (at_counts M (over_mesh M lent))
  over-lent = record {
    volumes_long = over-holds _ lent.volumes c.volumes_cut;
    firsts_long = over-holds _ lent.firsts c.firsts_cut;
    seconds_long = over-holds _ lent.seconds c.seconds_cut;
    shares_long = over-holds _ lent.shares c.shares_cut;
    reaches_long = over-holds _ lent.reaches c.reaches_cut;
  }

  pub over-parted : parted (at_counts M (over_mesh M lent)) ≡ M
  over-parted = rw (
    over-taken _ lent.volumes _ c.volumes_cut,
    over-taken _ lent.firsts _ c.firsts_cut,
    over-taken _ lent.seconds _ c.seconds_cut,
    over-taken _ lent.shares _ c.shares_cut,
    over-taken _ lent.reaches _ c.reaches_cut,
  )

  pub over-agrees : AgreeMesh M (at_counts M (over_mesh M lent))
  over-agrees = record {
    cells_same = refl;
    faces_same = refl;
    volumes = over-entry _ lent.volumes c.volumes_cut;
    firsts = over-entry _ lent.firsts c.firsts_cut;
    seconds = over-entry _ lent.seconds c.seconds_cut;
    shares = over-entry _ lent.shares c.shares_cut;
    reaches = over-entry _ lent.reaches c.reaches_cut;
  }
