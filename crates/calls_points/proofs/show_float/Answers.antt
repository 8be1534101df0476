-- What does not differ from itself is a number, and has a pattern.
use mathlib.Core.Path.{◌≡◌}
use mathlib.Core.Bool.{false, not, true≢false}
use lib.Dec.{T}
use lib.Ieee.{Float, nan, inf, fin, ne, is_nan}
use Rattle.calls_points.proofs.show_float.Goals as goal

is_number : (v : Float) → ne v v ≡ false → T (not (is_nan v))
unfolding ne is_nan
is_number nan e = absurd (true≢false e)
is_number (inf s) e = tt
is_number (fin s m e) h = tt

pub float_to_bits-v : goal.float_to_bits-v
float_to_bits-v c = is_number c.args.v c.if-v.false
