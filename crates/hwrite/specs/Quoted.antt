-- Texts between quotes, as they are printed.
use Rattle.std.specs.Prelude.{◌≡◌, ℕ, ◌/◌, ◌%◌, Bool, not, ◌&&◌, ◌||◌, List, [], ◌∷◌, ◌++◌, ◌==◌, nat_le, nat_lt, if◌then◌else◌, codes, String, string_bytes}
use Rattle.std.specs.Char.{digit_char}
use Rattle.std.specs.List.{flat_map}

-- A byte as it is between quotes: a quote, a backslash, LF and the other bytes below the space are escaped.
abbrev pub escaped_byte : ℕ → List ℕ
escaped_byte b =
    if b == 34 then codes "\\\""
    else (if b == 92 then codes "\\\\"
    else (if b == 10 then codes "\\n"
    else (if nat_lt b 32 then codes "\\x" ++ digit_char (b / 16) ∷ digit_char (b % 16) ∷ []
    else b ∷ [])))

abbrev pub quote_escaped : List ℕ → List ℕ
quote_escaped text = flat_map escaped_byte text

-- a text between quotes
abbrev pub quoted : List ℕ → List ℕ
quoted text = codes "\"" ++ quote_escaped text ++ codes "\""

-- whether a byte is there as it is
abbrev pub is_unescaped : ℕ → Bool
is_unescaped b = nat_le 32 b && not (b == 34 || b == 92)

-- these bytes were added at the end of a text
abbrev pub AddsToText : {A : Type 0} → String A → String A → List ℕ → Type 0
AddsToText old new bytes = string_bytes new ≡ string_bytes old ++ bytes
