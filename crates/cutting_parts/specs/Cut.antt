-- Document 02, S-12: a lagoon whose cells have labels, and its two parts.
use Rattle.std.specs.Prelude.{ℕ, Bool, not, cond, ◌&&◌, ◌||◌, List, [], get_or, eqb, ℤ}
use Rattle.lists.specs.Table.{over}
use Rattle.signed.specs.Sign.{is_negative, turn}
use Rattle.model.specs.Mesh.{Mesh, mesh_of, volume, first, second, share, reach, at_rim, rim}
use Rattle.model.specs.Step.{StepInput, flux, outside, concentration}
use Rattle.model.specs.Causes.{Call, call_of, release, input_of}
use Rattle.lists.specs.Marked.{count, picked}

-- the tables of a lagoon: those of its mesh, and masses, fluxes, outside values and releases on it
pub record Tables : Type 0 where
  pub volumes : List ℕ
  pub firsts : List ℕ
  pub seconds : List ℕ
  pub shares : List ℕ
  pub reaches : List ℕ
  pub masses : List ℕ
  pub fluxes : List ℤ
  pub outsides : List ℕ
  pub releases : List ℕ

-- in the order in which they are lent
abbrev pub tables_of : List ℕ → List ℕ → List ℕ → List ℕ → List ℕ → List ℕ → List ℤ → List ℕ → List ℕ → Tables
tables_of volumes firsts seconds shares reaches masses fluxes outsides releases = record {
  volumes = volumes;
  firsts = firsts;
  seconds = seconds;
  shares = shares;
  reaches = reaches;
  masses = masses;
  fluxes = fluxes;
  outsides = outsides;
  releases = releases;
}

pub record Lagoon : Type 0 where
  pub cells : ℕ
  pub faces : ℕ
  pub tables : Tables

abbrev pub lagoon_of : ℕ → ℕ → Tables → Lagoon
lagoon_of cells faces tables = record { cells = cells; faces = faces; tables = tables }

module _ (L : Lagoon) where
  abbrev pub whole_mesh : Mesh
  whole_mesh = let t = L.tables in mesh_of L.cells L.faces t.volumes t.firsts t.seconds t.shares t.reaches

  -- a step on it, which is lent tables to be filled; cutting is lent none of them
  abbrev pub step_on : (nexts : List ℕ) (moveds : List ℤ) (work : List ℕ) → Call
  step_on nexts moveds work = let t = L.tables in call_of t.fluxes t.outsides nexts moveds work t.releases

  abbrev pub whole_water : Call
  whole_water = step_on [] [] []

  -- the raised field with its water
  abbrev pub step_input : StepInput
  step_input = input_of whole_mesh L.tables.masses whole_water

  module _ (labels : List ℕ) (p : ℕ) where
    -- the cells with label p
    abbrev pub in_part : ℕ → Bool
    in_part c = eqb (get_or labels c 0) p

    -- and the faces that touch one of them, with their first cell or with their second
    abbrev pub first_in : ℕ → Bool
    first_in f = in_part (first whole_mesh f)

    abbrev pub second_in : ℕ → Bool
    second_in f = not (at_rim whole_mesh f) && in_part (second whole_mesh f)

    abbrev pub touches : ℕ → Bool
    touches f = first_in f || second_in f

    abbrev pub part_cells : ℕ
    part_cells = count L.cells in_part

    abbrev pub part_faces : ℕ
    part_faces = count L.faces touches

    -- order kept: the new number of a cell is how many of its part come before it
    abbrev pub new_cell : ℕ → ℕ
    new_cell c = count c in_part

    -- Of a face that touches the part: whether it is a face between the parts; whether it is turned, being on the side of its second cell; the
    -- end that is in the part, and the other.
    abbrev pub is_cut : ℕ → Bool
    is_cut f = not (at_rim whole_mesh f) && not (first_in f && second_in f)

    abbrev pub is_turned : ℕ → Bool
    is_turned f = not (first_in f)

    abbrev pub near : ℕ → ℕ
    near f = cond (is_turned f) (second whole_mesh f) (first whole_mesh f)

    abbrev pub across : ℕ → ℕ
    across f = cond (is_turned f) (first whole_mesh f) (second whole_mesh f)

    -- what the part has of it: a cut face is a rim face with s and K 0; turned, its second cell becomes first and U is negated
    abbrev pub new_first : ℕ → ℕ
    new_first f = new_cell (near f)

    abbrev pub new_second : ℕ → ℕ
    new_second f = cond (at_rim whole_mesh f || is_cut f) rim (new_cell (across f))

    abbrev pub new_share : ℕ → ℕ
    new_share f = cond (is_cut f) 0 (share whole_mesh f)

    abbrev pub new_reach : ℕ → ℕ
    new_reach f = cond (is_cut f) 0 (reach whole_mesh f)

    abbrev pub new_flux : ℕ → ℤ
    new_flux f = turn (is_turned f) (flux step_input f)

    -- at a cut face q of the raised field across it, where water comes in there; 0 where none does
    abbrev pub new_outside : ℕ → ℕ
    new_outside f = cond (is_cut f) (cond (is_negative (new_flux f)) (concentration step_input (across f)) 0) (outside step_input f)

    -- a table of the part's cells or faces, written over the front of a lent one, whose other entries stay
    abbrev pub by_cell : {A : Type 0} → (ℕ → A) → List A → List A
    by_cell entry ys = over (picked L.cells in_part entry) ys

    abbrev pub by_face : {A : Type 0} → (ℕ → A) → List A → List A
    by_face entry ys = over (picked L.faces touches entry) ys

    -- the part, in tables that are lent for it
    abbrev pub part_tables : Tables → Tables
    part_tables lent = tables_of
        (by_cell (volume whole_mesh) lent.volumes)
        (by_face new_first lent.firsts)
        (by_face new_second lent.seconds)
        (by_face new_share lent.shares)
        (by_face new_reach lent.reaches)
        (by_cell (λ c. get_or L.tables.masses c 0) lent.masses)
        (by_face new_flux lent.fluxes)
        (by_face new_outside lent.outsides)
        (by_cell (release whole_water) lent.releases)

    abbrev pub part_of : Tables → Lagoon
    part_of lent = lagoon_of part_cells part_faces (part_tables lent)
