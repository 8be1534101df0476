-- Kinds 3 and 7 have no bits for a release, kinds 4 and 8 those of a mass.
use mathlib.Core.Path.{◌≡◌, refl, sym, ◌∙◌}
use borrow.Author.Rules.{rules}
use Rattle.record_layouts.specs.declared.Width.{Width}
use Rattle.record_layouts.specs.declared.Width.TheVariants.{Narrow, Wide}
use Rattle.record_layouts.specs.declared.StepKind.TheVariants.{Water, Outfalls}
use Rattle.record_layouts.specs.Layouts.{kind_number, mass_width, mass_bits, release_bits}
use Rattle.record_layouts.proofs.lengths.release_width.Statement.{statement}
use Rattle.record_layouts.proofs.lengths.release_width.Tie as tie

none : (w : Width) → release_bits (kind_number w Water) ≡ 0
unfolding release_bits
none Narrow = refl
none Wide = refl

all : (w : Width) → release_bits (kind_number w Outfalls) ≡ mass_width w
unfolding release_bits mass_bits
all Narrow = refl
all Wide = refl

returns : tie.Need-returns-in-Water
returns c = rw c.in-Water.is (sym (none c.before.args.width))

returns-2 : tie.Need-returns-in-Outfalls
returns-2 c = rw c.before.in-Outfalls.is (c.mass_width.ensures ∙ sym (all c.before.before.args.width))

pub release_width_spec : {M : Type 1} → statement M
release_width_spec = tie.close (tie.spec (search rules) (search rules) (search rules) returns returns-2)
