-- A decimal number of a script, as far as it is read.
use Rattle.std.specs.Prelude.{ℕ, ◌+◌, ◌*◌, ◌^◌, Bool, true, false, ltb}
use Rattle.calls_numerals.specs.declared.Number.{Number}
use Rattle.calls_numerals.specs.declared.Token.{Token}
use Rattle.calls_numerals.specs.declared.Token.TheVariants.{Digits, TooLarge}

-- a size that 64 bits hold is a number so far, any other is refused
abbrev pub sized : Bool → Bool → ℕ → Token
sized true minus size = Digits (record { minus = minus; size = size })
sized false minus size = TooLarge

-- a number with one more digit
abbrev pub grown : Number → ℕ → Token
grown n digit = sized (ltb (n.size * 10 + digit) (2 ^ 64)) n.minus (n.size * 10 + digit)
