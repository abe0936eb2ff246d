-- Words on texts: a text is a list of characters, each with the place of its first byte.
use Rattle.std.specs.Prelude.{◌≡◌, ℕ, ◌+◌, ◌%◌, Bool, true, false, not, ◌&&◌, ◌||◌, ◌==◌, nat_le, if◌then◌else◌, List, [], ◌∷◌, ◌++◌, map, encode_utf8_all}
use Rattle.std.specs.List.{flat_map}
use Rattle.std.specs.Char.{to_ascii_lowercase, len_utf8, is_ascii_whitespace, is_ascii_digit, is_ascii_alphabetic, is_ascii_alphanumeric}
use Rattle.names.specs.declared.error.ParseError.{ParseError}
use Rattle.names.specs.declared.error.ErrorCode.{ErrorCode}
use Rattle.names.specs.declared.error.ErrorCode.TheVariants.{UnexpectedNullCharacter}
use Rattle.names.specs.declared.placed.Placed.{Placed}

-- characters one after another in UTF-8, the first at the place `at`
abbrev pub placed : ℕ → List ℕ → List Placed
placed at [] = []
placed at (c ∷ cs) = record { ch = c; at = at } ∷ placed (at + len_utf8 c) cs

abbrev pub characters : List Placed → List ℕ
characters text = map (λ p. p.ch) text

-- the same with the letters A to Z lowered
abbrev pub lowered : List Placed → List ℕ
lowered text = map (λ p. to_ascii_lowercase p.ch) text

-- the place at which a text is: of its first character, or the input's end
abbrev pub place : ℕ → List Placed → ℕ
place end [] = end
place end (p ∷ ps) = p.at

-- whether the text begins with a character that passes; whether it does so or is empty; and whether it is empty
abbrev pub begins : (ℕ → Bool) → List Placed → Bool
begins test [] = false
begins test (p ∷ ps) = test p.ch

abbrev pub stops : (ℕ → Bool) → List Placed → Bool
stops test [] = true
stops test (p ∷ ps) = test p.ch

abbrev pub is_empty : List Placed → Bool
is_empty [] = true
is_empty (p ∷ ps) = false

-- whether the text begins with these characters; with these lower letters, in any case
abbrev pub spells : List ℕ → List Placed → Bool
spells [] text = true
spells (c ∷ cs) [] = false
spells (c ∷ cs) (p ∷ ps) = p.ch == c && spells cs ps

abbrev pub spells_in_any_case : List ℕ → List Placed → Bool
spells_in_any_case [] text = true
spells_in_any_case (c ∷ cs) [] = false
spells_in_any_case (c ∷ cs) (p ∷ ps) = to_ascii_lowercase p.ch == c && spells_in_any_case cs ps

-- whether all of the text is a beginning of these characters
abbrev pub is_front : List Placed → List ℕ → Bool
is_front [] cs = true
is_front (p ∷ ps) [] = false
is_front (p ∷ ps) (c ∷ cs) = p.ch == c && is_front ps cs

-- each character passes
abbrev pub all : (ℕ → Bool) → List Placed → Bool
all test [] = true
all test (p ∷ ps) = test p.ch && all test ps

-- "The text runs up to" the first character that passes, or to the end: `after` is what follows it.
pub record RunsTo (test : ℕ → Bool) (text after : List Placed) : Type 0 where
  pub passes_none : all (λ c. not (test c)) text ≡ true
  pub stops_after : stops test after ≡ true

-- "the earliest occurrence of": the text before the earliest place at which the mark is, and the text from there on
abbrev pub before : (List Placed → Bool) → List Placed → List Placed
before mark [] = []
before mark (p ∷ ps) = if mark (p ∷ ps) then [] else p ∷ before mark ps

abbrev pub from : (List Placed → Bool) → List Placed → List Placed
from mark [] = []
from mark (p ∷ ps) = if mark (p ∷ ps) then p ∷ ps else from mark ps

-- the mark is nowhere in the text, where `after` follows it
abbrev pub Avoids : (List Placed → Bool) → List Placed → List Placed → Type 0
Avoids mark [] after = Unit {0}
Avoids mark (p ∷ ps) after = (mark (p ∷ ps ++ after) ≡ false) × Avoids mark ps after

-- what follows a run of characters that pass
abbrev pub past : (ℕ → Bool) → List Placed → List Placed
past test text = from (begins (λ c. not (test c))) text

-- classes of characters: tab, LF, FF, CR and space; ASCII digits and letters
abbrev pub is_space : ℕ → Bool
is_space = is_ascii_whitespace

abbrev pub is_digit : ℕ → Bool
is_digit = is_ascii_digit

abbrev pub is_letter : ℕ → Bool
is_letter = is_ascii_alphabetic

abbrev pub is_alphanumeric : ℕ → Bool
is_alphanumeric = is_ascii_alphanumeric

abbrev pub is_equals : ℕ → Bool
is_equals c = c == 61

abbrev pub is_greater : ℕ → Bool
is_greater c = c == 62

abbrev pub is_quote : ℕ → Bool
is_quote c = c == 34 || c == 39

-- The text is `>`, or it is empty and nothing follows: how what runs to the first `>` ends.
abbrev pub is_greater_or_end : List Placed → List Placed → Bool
is_greater_or_end [] rest = is_empty rest
is_greater_or_end (p ∷ ps) rest = p.ch == 62 && is_empty ps

-- U+FDD0 to U+FDEF, and each code point that ends in FFFE or FFFF
abbrev pub is_noncharacter : ℕ → Bool
is_noncharacter c = (nat_le 0xFDD0 c && nat_le c 0xFDEF) || nat_le 0xFFFE (c % 0x10000)

abbrev pub error : ErrorCode → ℕ → ParseError
error code at = record { code = code; at = at }

-- an error at each character that passes; one or none, as a test says
abbrev pub errors_at : ErrorCode → (ℕ → Bool) → List Placed → List ParseError
errors_at code test text = flat_map (λ p. if test p.ch then error code p.at ∷ [] else []) text

abbrev pub error_if : Bool → ErrorCode → ℕ → List ParseError
error_if says code at = if says then error code at ∷ [] else []

-- NUL is read as U+FFFD, with an error
abbrev pub without_null : ℕ → ℕ
without_null c = if c == 0 then 0xFFFD else c

abbrev pub null_errors : List Placed → List ParseError
null_errors text = errors_at UnexpectedNullCharacter (λ c. c == 0) text

-- the bytes of a text, and of a name, whose letters A to Z are lowered
abbrev pub text_bytes : List Placed → List ℕ
text_bytes text = encode_utf8_all (map (λ p. without_null p.ch) text)

abbrev pub name_bytes : List Placed → List ℕ
name_bytes text = encode_utf8_all (map (λ p. to_ascii_lowercase (without_null p.ch)) text)
