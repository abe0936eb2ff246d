-- Digits of decimal and hexadecimal numbers.
use Rattle.std.specs.Prelude.{ℕ, Bool}
use Rattle.names.specs.Placed.{is_digit}
use Rattle.charref.specs.declared.number.Base.{Base}
use Rattle.charref.specs.declared.number.Base.TheVariants.{Decimal, Hexadecimal}
use Rattle.charref.specs.Reference.{is_hex_digit}

abbrev pub is_digit_of : Base → ℕ → Bool
is_digit_of Decimal = is_digit
is_digit_of Hexadecimal = is_hex_digit

abbrev pub radix : Base → ℕ
radix Decimal = 10
radix Hexadecimal = 16

-- how many characters stand before the digits: `#`, or `#x`
abbrev pub sign_size : Base → ℕ
sign_size Decimal = 1
sign_size Hexadecimal = 2
