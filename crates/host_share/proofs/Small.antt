-- A share is refused by 19 at one of eight places, or by 20.
use mathlib.Core.Bool.{Bool, true, false, not, cond, ◌&&◌}
use native.Mathlib.Omega.{arith}
use lib.Ieee.{Float, eq}
use Rattle.model.specs.Causes.{Outcome, accepted, refused, Verdict}
use Rattle.survey_points.specs.declared.Face.{Face}
use Rattle.survey_points.specs.Points.{plus, none, first_side, second_side, ratio}
use Rattle.survey.specs.Survey.{ratio_is, nothing, found_after, coordinates_verdict, found, not_above, share, share_of, share_found, face_share}
use Rattle.host_answer.proofs.Small.{Small, small-fine, small-each}

no-ratio : {A : Type 0} → Small {A = A} (refused 20 0)
no-ratio = record { parts = omega arith }

small-cond : {A : Type 0} (b : Bool) {v w : Outcome A} → Small v → Small w → Small (cond b v w)
small-cond true s t = s
small-cond false s t = t

share-of-small : (r : Float) → Small (share_of r)
unfolding share_of
share-of-small r = small-cond (not_above 1 r && not (not_above 256 r)) (small-fine (share r)) no-ratio

found-small : (b : Bool) (r : Float) → Small (share_found (cond b nothing (ratio_is r)))
found-small true r = no-ratio
found-small false r = share-of-small r

after_small : (f : Face) (v : Verdict) → Small v → Small (share_found (found_after f v))
after_small f (accepted t) s = found-small (eq (plus (first_side f) (second_side f)) none) (ratio f)
after_small f (refused k i) s = record { parts = omega (arith, s.parts) }

pub share-small : (f : Face) → Small (face_share f)
unfolding face_share found coordinates_verdict
share-small f = after_small f (coordinates_verdict f) (small-each 19 8 _ (omega arith))
