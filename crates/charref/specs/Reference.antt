-- Character references (HTML Standard, #tokenization, from #character-reference-state on): `&` and what it stands for.
use Rattle.std.specs.Prelude.{◌≡◌, ℕ, ◌+◌, ◌-◌, ◌*◌, Bool, true, false, not, ◌&&◌, ◌||◌, ◌==◌, nat_eq, nat_lt, nat_le, if◌then◌else◌, List, [], ◌∷◌, ◌++◌}
use Rattle.std.specs.Prelude.{map, length, drop, codes, Option, Some, None, option_to_list, bytes_eq, Contains}
use Rattle.std.specs.List.{starts_with, list_all, IsDistinct, AllByRecursion}
use Rattle.names.specs.declared.error.ParseError.{ParseError}
use Rattle.names.specs.declared.error.ErrorCode.{ErrorCode}
use Rattle.names.specs.declared.error.ErrorCode.TheVariants.{AbsenceOfDigitsInNumericCharacterReference, CharacterReferenceOutsideUnicodeRange}
use Rattle.names.specs.declared.error.ErrorCode.TheVariants.{ControlCharacterReference, MissingSemicolonAfterCharacterReference}
use Rattle.names.specs.declared.error.ErrorCode.TheVariants.{NoncharacterCharacterReference, NullCharacterReference, SurrogateCharacterReference}
use Rattle.names.specs.declared.error.ErrorCode.TheVariants.{UnknownNamedCharacterReference}
use Rattle.names.specs.declared.placed.Placed.{Placed}
use Rattle.names.specs.Placed.{characters, lowered, place, begins, spells, is_empty, RunsTo, past, is_space, is_digit, is_alphanumeric, is_equals}
use Rattle.names.specs.Placed.{is_noncharacter, error, error_if}

abbrev pub is_empty_list : List ℕ → Bool
is_empty_list [] = true
is_empty_list (c ∷ cs) = false

-- a table of entities: keys, which begin with `&`, and the characters that they stand for
pub record Entry : Type 0 where
  pub key : List ℕ
  pub stands_for : List ℕ

abbrev pub Entities : Type 0
Entities = List Entry

-- a key: `&`, one or more alphanumerics, and at most one `;`, last
abbrev pub is_key_name : List ℕ → Bool
is_key_name [] = false
is_key_name (c ∷ cs) = is_alphanumeric c && (is_empty_list cs || bytes_eq cs (codes ";") || is_key_name cs)

abbrev pub is_key : List ℕ → Bool
is_key [] = false
is_key (c ∷ cs) = c == 38 && is_key_name cs

-- what a table is, whatever it was read from
pub record IsTable (table : Entities) : Type 0 where
  pub keys : list_all (λ entry. is_key entry.key) table ≡ true
  pub distinct : IsDistinct bytes_eq (map (λ entry. entry.key) table)
  pub characters : list_all (λ entry. not (is_empty_list entry.stands_for)) table ≡ true

-- the entries that the serializer relies on
abbrev pub core : Entities
core = record { key = codes "&amp;"; stands_for = 0x26 ∷ [] } ∷ record { key = codes "&gt;"; stands_for = 0x3E ∷ [] }
    ∷ record { key = codes "&lt;"; stands_for = 0x3C ∷ [] }
    ∷ record { key = codes "&nbsp;"; stands_for = 0xA0 ∷ [] } ∷ record { key = codes "&quot;"; stands_for = 0x22 ∷ [] } ∷ []

abbrev pub HasCore : Entities → Type 0
HasCore table = AllByRecursion (Contains table) core

-- the entry with the longest of all keys that the text begins with
abbrev pub longer_entry : Entry → Option Entry → Option Entry
longer_entry entry None = Some entry
longer_entry entry (Some other) = if nat_lt (length other.key) (length entry.key) then Some entry else Some other

abbrev pub longest : Entities → List ℕ → Option Entry
longest [] text = None
longest (entry ∷ entries) text = if starts_with nat_eq text entry.key then longer_entry entry (longest entries text) else longest entries text

-- a piece of a text: its characters, the characters that it gives, and its errors
pub record Piece : Type 0 where
  pub text : List Placed
  pub gives : List ℕ
  pub errors : List ParseError

-- NAMES

abbrev pub ends_in_semicolon : List ℕ → Bool
ends_in_semicolon [] = false
ends_in_semicolon (c ∷ []) = c == 59
ends_in_semicolon (c ∷ d ∷ cs) = ends_in_semicolon (d ∷ cs)

-- the rule for attribute values: without `;`, and before `=` or an alphanumeric, a key is no reference there (#named-character-reference-state)
abbrev pub is_kept_as_text : Bool → List ℕ → List Placed → Bool
is_kept_as_text in_value key after = in_value && not (ends_in_semicolon key) && begins (λ c. is_equals c || is_alphanumeric c) after

-- NUMBERS

abbrev pub is_hex_digit : ℕ → Bool
is_hex_digit c = is_digit c || (nat_le 65 c && nat_le c 70) || (nat_le 97 c && nat_le c 102)

abbrev pub digit_value : ℕ → ℕ
digit_value c = if is_digit c then c - 48 else (if nat_le c 70 then c - 55 else c - 87)

-- the number that the digits write, after those of `value` (#hexadecimal-character-reference-state,
-- #decimal-character-reference-state)
abbrev pub number_from : ℕ → ℕ → List Placed → ℕ
number_from value base [] = value
number_from value base (p ∷ ps) = number_from (value * base + digit_value p.ch) base ps

-- whether `#` and a digit, or `#x` and a hex digit, are here (#numeric-character-reference-state,
-- #decimal-character-reference-start-state, #hexadecimal-character-reference-start-state)
abbrev pub begins_number : List Placed → Bool
begins_number text = spells (codes "#") text
    && (begins is_digit (drop 1 text) || (begins (λ c. c == 120 || c == 88) (drop 1 text) && begins is_hex_digit (drop 2 text)))

-- the replacements of C1 controls (#numeric-character-reference-end-state)
abbrev pub replacements : List (ℕ × ℕ)
replacements = (0x80, 0x20AC) ∷ (0x82, 0x201A) ∷ (0x83, 0x0192) ∷ (0x84, 0x201E) ∷ (0x85, 0x2026) ∷ (0x86, 0x2020) ∷ (0x87, 0x2021)
    ∷ (0x88, 0x02C6) ∷ (0x89, 0x2030) ∷ (0x8A, 0x0160) ∷ (0x8B, 0x2039) ∷ (0x8C, 0x0152) ∷ (0x8E, 0x017D) ∷ (0x91, 0x2018)
    ∷ (0x92, 0x2019) ∷ (0x93, 0x201C) ∷ (0x94, 0x201D) ∷ (0x95, 0x2022) ∷ (0x96, 0x2013) ∷ (0x97, 0x2014) ∷ (0x98, 0x02DC)
    ∷ (0x99, 0x2122) ∷ (0x9A, 0x0161) ∷ (0x9B, 0x203A) ∷ (0x9C, 0x0153) ∷ (0x9E, 0x017E) ∷ (0x9F, 0x0178) ∷ []

abbrev pub replaced : List (ℕ × ℕ) → ℕ → ℕ
replaced [] value = value
replaced (pair ∷ pairs) value = if value == pair.0 then pair.1 else replaced pairs value

abbrev pub is_surrogate : ℕ → Bool
is_surrogate c = nat_le 0xD800 c && nat_le c 0xDFFF

abbrev pub is_control : ℕ → Bool
is_control c = nat_lt c 32 || (nat_le 127 c && nat_le c 159)

-- the character of a number, and what is wrong with it (#numeric-character-reference-end-state)
abbrev pub numbered : ℕ → ℕ
numbered value = if value == 0 || nat_lt 0x10FFFF value || is_surrogate value then 0xFFFD else replaced replacements value

abbrev pub number_fault : ℕ → Option ErrorCode
number_fault value =
    if value == 0 then Some NullCharacterReference
    else (if nat_lt 0x10FFFF value then Some CharacterReferenceOutsideUnicodeRange
    else (if is_surrogate value then Some SurrogateCharacterReference
    else (if is_noncharacter value then Some NoncharacterCharacterReference
    else (if value == 13 || (is_control value && not (is_space value)) then Some ControlCharacterReference
    else None))))

-- a `;`, or nothing where none follows
abbrev pub is_semicolon_if_any : List Placed → List Placed → Bool
is_semicolon_if_any [] rest = not (begins (λ c. c == 59) rest)
is_semicolon_if_any (p ∷ ps) rest = p.ch == 59 && is_empty ps

-- PRODUCTIONS

-- an `&` that is text
abbrev pub ampersand : Placed → List ParseError → Piece
ampersand amp errors = record { text = amp ∷ []; gives = 38 ∷ []; errors = errors }

abbrev pub named_piece : List Placed → Entry → Piece
named_piece text entry =
    record {
      text = text;
      gives = entry.stands_for;
      errors = error_if (not (ends_in_semicolon entry.key)) MissingSemicolonAfterCharacterReference (place 0 text);
    }

abbrev pub numeric_piece : ℕ → List Placed → List Placed → List Placed → Piece
numeric_piece base opening digits close =
    let value = number_from 0 base digits in
    let at = place 0 opening in
    record {
      text = opening ++ digits ++ close;
      gives = numbered value ∷ [];
      errors = error_if (is_empty close) MissingSemicolonAfterCharacterReference at
          ++ map (λ code. error code at) (option_to_list (number_fault value));
    }

-- The text at `&` is this piece where `rest` follows it. All errors are at the `&`.
pub data IsReference (table : Entities) (in_value : Bool) (rest : List Placed) (piece : Piece) : Type 0 where
  -- a key: the longest one that is here (#named-character-reference-state)
  named : (amp : Placed) (name : List Placed) (entry : Entry) → amp.ch ≡ 38 → begins is_alphanumeric name ≡ true
      → longest table (characters (amp ∷ name ++ rest)) ≡ Some entry → characters (amp ∷ name) ≡ entry.key
      → is_kept_as_text in_value entry.key rest ≡ false → piece ≡ named_piece (amp ∷ name) entry → IsReference table in_value rest piece
  -- a key that the rule for values keeps as text: its `&`
  kept : (amp : Placed) (entry : Entry) → amp.ch ≡ 38 → begins is_alphanumeric rest ≡ true
      → longest table (characters (amp ∷ rest)) ≡ Some entry → is_kept_as_text in_value entry.key (drop (length entry.key - 1) rest) ≡ true
      → piece ≡ ampersand amp [] → IsReference table in_value rest piece
  -- no key: an ambiguous ampersand (#ambiguous-ampersand-state)
  unknown : (amp : Placed) → amp.ch ≡ 38 → begins is_alphanumeric rest ≡ true → longest table (characters (amp ∷ rest)) ≡ None
      → piece ≡ ampersand amp (error_if (begins (λ c. c == 59) (past is_alphanumeric rest)) UnknownNamedCharacterReference amp.at)
      → IsReference table in_value rest piece
  -- a number (#numeric-character-reference-end-state)
  decimal : (opening digits close : List Placed) → characters opening ≡ codes "&#" → begins is_digit digits ≡ true
      → RunsTo (λ c. not (is_digit c)) digits (close ++ rest) → is_semicolon_if_any close rest ≡ true
      → piece ≡ numeric_piece 10 opening digits close → IsReference table in_value rest piece
  hexadecimal : (opening digits close : List Placed) → lowered opening ≡ codes "&#x" → begins is_hex_digit digits ≡ true
      → RunsTo (λ c. not (is_hex_digit c)) digits (close ++ rest) → is_semicolon_if_any close rest ≡ true
      → piece ≡ numeric_piece 16 opening digits close → IsReference table in_value rest piece
  -- `&#` with no number (#numeric-character-reference-state)
  no_digits : (amp : Placed) → amp.ch ≡ 38 → begins (λ c. c == 35) rest ≡ true → begins_number rest ≡ false
      → piece ≡ ampersand amp (error AbsenceOfDigitsInNumericCharacterReference amp.at ∷ []) → IsReference table in_value rest piece
  -- any other `&` (#character-reference-state)
  alone : (amp : Placed) → amp.ch ≡ 38 → begins (λ c. is_alphanumeric c || c == 35) rest ≡ false
      → piece ≡ ampersand amp [] → IsReference table in_value rest piece
