-- A field without bits holds 0 alone; one of 32 bits, or of 40, what is below 2^32, or below 2^40.
use Prim.Native.Nat.{ℕ}
use mathlib.Core.Path.{◌≡◌, refl, sym}
use mathlib.Core.Bool.{Bool}
use native.Mathlib.Omega.{arith}
use borrow.Author.Rules.{rules}
use borrow.Author.Tests.{le-ltb}
use lib.Dec.{ltb}
use Rattle.lists.proofs.Tests.{Same, same, other, same?}
use Rattle.record_layouts.specs.Layouts.{water_kind, outfall_kind, mass_width, mass_bits, release_bits}
use Rattle.record_layouts.specs.declared.Width.{Width}
use Rattle.record_layouts.specs.declared.Width.TheVariants.{Narrow, Wide}
use Rattle.record_causes.proofs.releases.release_fits.Statement.{statement}
use Rattle.record_causes.proofs.releases.release_fits.Tie as tie

none-but-zero : (r : ℕ) {b : Bool} → Same r 0 b → b ≡ ltb r 1
none-but-zero r (same q) = rw q
none-but-zero r (other d) = sym (le-ltb r 1 (omega arith))

water-bits : (w : Width) → release_bits (water_kind w) ≡ 0
unfolding release_bits
water-bits Narrow = refl
water-bits Wide = refl

outfall-bits : (w : Width) → release_bits (outfall_kind w) ≡ mass_width w
unfolding release_bits mass_bits
outfall-bits Narrow = refl
outfall-bits Wide = refl

returns : tie.Need-returns-in-Water
returns c = let s = c.before in rw (c.in-Water.is, water-bits s.args.width)
    (none-but-zero s.args.release (same? s.args.release 0))

returns-2 : tie.Need-returns-in-Outfalls
returns-2 c = let told = c.before in let s = told.before in rw (told.in-Outfalls.is, outfall-bits s.args.width, c.release_end.ensures)

pub release_fits_spec : {M : Type 1} → statement M
release_fits_spec = tie.close (tie.spec (search rules) (search rules) (search rules) returns returns-2)
