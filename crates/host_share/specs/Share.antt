-- Document 02, S-7, for a host in C: a face is surveyed by eight 64-bit floats, x before y: its two ends, and the centres of its cells.
use Rattle.std.specs.Prelude.{ℕ, ◌+◌, ◌*◌, List, Float}
use Rattle.survey_points.specs.declared.Face.{Face}
use Rattle.survey.specs.Survey.{face_share}
use Rattle.host_answer.specs.Found.{alone, Answered}

abbrev pub face_from : (x1 y1 x2 y2 first_x first_y second_x second_y : Float) → Face
face_from x1 y1 x2 y2 first_x first_y second_x second_y = record {
  end1 = record { x = x1; y = y1 };
  end2 = record { x = x2; y = y2 };
  centre1 = record { x = first_x; y = first_y };
  centre2 = record { x = second_x; y = second_y };
}

-- the share is found
abbrev pub ShareFromC : (face : Face) (found : List ℕ) (r : ℕ) (found' : List ℕ) → Type 0
ShareFromC face = Answered alone (face_share face)

-- A version as one number; its first part changes where a figure that was given before does.
abbrev pub version : (major minor patch : ℕ) → ℕ
version major minor patch = major * 1000000 + minor * 1000 + patch
