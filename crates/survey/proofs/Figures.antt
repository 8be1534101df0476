-- Faces by hand: half way, nearer to one centre, at the limits, and each that is refused.
use Prim.Native.Nat.{ℕ}
use mathlib.Core.Path.{◌≡◌, refl}
use mathlib.Core.Bool.{true, false}
use lib.IntN.{pos, negsuc}
use lib.Ieee.{Float, nan, inf, fin, add, sub, mul, div, eq}
use Rattle.model.specs.Causes.{accepted, refused, ◌and_then◌, need, each}
use Rattle.survey_points.specs.Points.{none, half, size_of, way, middle_of, dot, normal, first_side, second_side, ratio, allowed}
use Rattle.survey.specs.Survey.{coordinates_verdict, bad_at, found, largest, not_above, share, share_of, face_share}
use Rattle.survey_points.specs.declared.Point.{Point}
use Rattle.survey_points.specs.declared.Face.{Face}

everything : Unit {0}
unfolding add sub mul div eq size_of way middle_of dot normal first_side second_side ratio allowed ◌and_then◌ need each coordinates_verdict found largest not_above
    share share_of face_share
everything = tt

abbrev at : Float → Float → Point
at x y = record { x = x; y = y }

abbrev face : Point → Point → Point → Point → Face
face p q c d = record { end1 = p; end2 = q; centre1 = c; centre2 = d }

-- m quarters
abbrev quarters : ℕ → Float
quarters m = fin false m (negsuc 1)

abbrev one : Float
one = fin false 1 (pos 0)

abbrev million : Float
million = fin false 15625 (pos 6)

-- two square cells of side 1, and the face between them
pub square : face_share (face (at one none) (at one one) (at half half) (at (fin false 3 (negsuc 0)) half)) ≡ accepted 128
unfolding everything
square = refl

-- both centres moved by a quarter
pub quarter : face_share (face (at one none) (at one one) (at (quarters 3) half) (at (quarters 7) half)) ≡ accepted 64
unfolding everything
quarter = refl

-- coordinates at their limits
pub limits : face_share (face (at none million) (at none (fin true 15625 (pos 6))) (at (fin true 15625 (pos 6)) million) (at million (fin true 15625 (pos 6))))
    ≡ accepted 128
unfolding everything
limits = refl

-- 1 to 255 is 1/256, 255 to 1 is 255/256
pub least : face_share (face (at none none) (at none one) (at (fin true 1 (pos 0)) none) (at (fin false 255 (pos 0)) none)) ≡ accepted 1
unfolding everything
least = refl

pub most : face_share (face (at none none) (at none one) (at (fin true 255 (pos 0)) none) (at one none)) ≡ accepted 255
unfolding everything
most = refl

-- 1 to 256 is less than 1/256; and 1 to nothing is not below 1
pub too-near : face_share (face (at none none) (at none one) (at (fin true 1 (pos 0)) none) (at (fin false 1 (pos 8)) none)) ≡ refused 20 0
unfolding everything
too-near = refl

pub on-the-face : face_share (face (at none none) (at none one) (at (fin true 1 (pos 0)) none) (at none half)) ≡ refused 20 0
unfolding everything
on-the-face = refl

-- one point four times
pub one-point : face_share (face (at one one) (at one one) (at one one) (at one one)) ≡ refused 20 0
unfolding everything
one-point = refl

-- the coordinate that is not allowed, with its place and its value
pub not_finite : found (face (at one none) (at one one) (at half nan) (at (inf true) half)) ≡ bad_at 5 nan
unfolding everything
not_finite = refl

pub too_large : found (face (at one none) (at one (fin true 1000001 (pos 0))) (at half half) (at one half)) ≡ bad_at 3 (fin true 1000001 (pos 0))
unfolding everything
too_large = refl
