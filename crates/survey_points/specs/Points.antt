-- Document 02, S-7: a face by four survey points, in the logic's account of IEEE 754 (`lib.Ieee`): its sides, their ratio, and which coordinates are allowed.
use Rattle.std.specs.Prelude.{◌*◌, Bool, false, List, [], ◌∷◌, leb, pos, negsuc, Float}
use Rattle.std.specs.Float.{nan, inf, fin, binary64}
use Rattle.std.specs.Float.Ieee.{up, down, add, sub, mul, div}
use Rattle.survey_points.specs.declared.Point.{Point}
use Rattle.survey_points.specs.declared.Face.{Face}

-- The operations, each rounded once to a 64-bit float.
abbrev pub plus : Float → Float → Float
plus = add binary64

abbrev pub minus : Float → Float → Float
minus = sub binary64

abbrev pub times : Float → Float → Float
times = mul binary64

abbrev pub divided : Float → Float → Float
divided = div binary64

abbrev pub none : Float
none = fin false 0 (pos 0)

abbrev pub half : Float
half = fin false 1 (negsuc 0)

-- the size of a number: its sign is dropped, also that of a zero
unfoldable pub size_of : Float → Float
size_of nan = nan
size_of (inf s) = inf false
size_of (fin s m e) = fin false m e

-- the way from one point to another, and half the sum of two
unfoldable pub way : Point → Point → Point
way p q = record { x = minus q.x p.x; y = minus q.y p.y }

unfoldable pub middle_of : Point → Point → Point
middle_of p q = record { x = times (plus p.x q.x) half; y = times (plus p.y q.y) half }

-- a product sum, the x term first
unfoldable pub dot : Point → Point → Float
dot p q = plus (times p.x q.x) (times p.y q.y)

-- S, the normal (y2 − y1, x1 − x2)
unfoldable pub normal : Point → Point → Point
normal p q = record { x = minus q.y p.y; y = minus p.x q.x }

module _ (f : Face) where
  -- a, the size of S·(M − first centre), and b, that of S·(second centre − M)
  unfoldable pub first_side : Float
  first_side = size_of (dot (normal f.end1 f.end2) (way f.centre1 (middle_of f.end1 f.end2)))

  unfoldable pub second_side : Float
  second_side = size_of (dot (normal f.end1 f.end2) (way (middle_of f.end1 f.end2) f.centre2))

  unfoldable pub ratio : Float
  ratio = divided first_side (plus first_side second_side)

  -- the eight coordinates in the order given, x before y
  abbrev pub coordinates : List Float
  coordinates =
      f.end1.x ∷ f.end1.y ∷ f.end2.x ∷ f.end2.y
      ∷ f.centre1.x ∷ f.centre1.y ∷ f.centre2.x ∷ f.centre2.y ∷ []

-- 19: finite, and of size at most 1,000,000.
unfoldable pub allowed : Float → Bool
allowed nan = false
allowed (inf s) = false
allowed (fin s m e) = leb (m * up e) (1000000 * down e)
