-- The text of an input: what is read of its bytes, each with the place of its first byte (HTML Standard, #preprocessing-the-input-stream).
use Rattle.std.specs.Prelude.{◌≡◌, ℕ, zero, suc, ◌+◌, ◌-◌, ◌<◌, ◌≤◌, Bool, true, false, ◌&&◌, ◌||◌, ◌==◌, nat_lt, nat_le, if◌then◌else◌, List, [], ◌∷◌, ◌++◌}
use Rattle.std.specs.Prelude.{◌⊎◌, length, map, take, drop, Option, Some, None}
use Rattle.std.specs.Char.{IsScalar, encode_utf8}
use Rattle.std.specs.Str.{chars}
use Rattle.std.specs.Str.Lossy.{utf8_valid_len, utf8_error_len, utf8_invalid_len, after_first_chunk}
use Rattle.names.specs.Placed.{placed}
use Rattle.names.specs.declared.placed.Placed.{Placed}
use Rattle.names.specs.declared.refusal.Refusal.{Refusal}
use Rattle.names.specs.declared.refusal.Refusal.TheVariants.{NotUtf8, TooLarge}
use Rattle.htext.specs.declared.BadBytes.{BadBytes}
use Rattle.htext.specs.declared.BadBytes.TheVariants.{Refuse, Replace}
use Rattle.htext.specs.declared.Bom.{Bom}
use Rattle.htext.specs.declared.Bom.TheVariants.{Drop, Keep}

-- how bytes are read: what becomes of a byte order mark and of bad bytes, and how many bytes are accepted
pub record Policy : Type 0 where
  pub bom : Bom
  pub bad : BadBytes
  pub limit : ℕ

-- what is in bytes: a character; or a bad part, which is none, at the place of its first byte
pub data Read : Type 0 where
  Whole : Placed → Read
  Bad : ℕ → Read

-- the character that it is in a text: U+FFFD in place of a bad part
abbrev pub character_of : Read → Placed
character_of (Whole p) = p
character_of (Bad at) = record { ch = 0xFFFD; at = at }

-- what is in the bytes, the first of which is at `at`: characters up to the first bad part, that, and so on, at most `k` bad parts
unfoldable pub reads_within : ℕ → ℕ → List ℕ → List Read
reads_within zero at bytes = []
reads_within (suc k) at bytes =
    let n = utf8_valid_len bytes in
    map Whole (placed at (chars (take n bytes)))
    ++ (if n == length bytes then [] else Bad (at + n) ∷ reads_within k (at + n + utf8_invalid_len (drop n bytes)) (after_first_chunk bytes))

-- all that is in them, and where the first is at 0
abbrev pub reads_at : ℕ → List ℕ → List Read
reads_at at bytes = reads_within (suc (length bytes)) at bytes

abbrev pub reads : List ℕ → List Read
reads bytes = reads_at 0 bytes

-- whether this is a byte order mark that is not part of the text
abbrev pub is_dropped_mark : Bom → Placed → Bool
is_dropped_mark Drop p = p.at == 0 && p.ch == 0xFEFF
is_dropped_mark Keep p = false

-- What a character is in the text. Normalize newlines (Infra Standard, #normalize-newlines): an LF right after a CR is left out, and each
-- CR is an LF.
abbrev pub read_as : Bom → Bool → Placed → List Placed
read_as bom after_return p =
    if is_dropped_mark bom p || (after_return && p.ch == 0x0A) then []
    else record { ch = if p.ch == 0x0D then 0x0A else p.ch; at = p.at } ∷ []

-- the text of what is in bytes, after a CR or not
abbrev pub normalized : Bom → Bool → List Read → List Read
normalized bom after_return [] = []
normalized bom after_return (Whole p ∷ rs) = map Whole (read_as bom after_return p) ++ normalized bom (p.ch == 0x0D) rs
normalized bom after_return (Bad at ∷ rs) = Bad at ∷ normalized bom false rs

-- whether what follows is after a CR
abbrev pub ends_in_return : Bool → List Read → Bool
ends_in_return after_return [] = after_return
ends_in_return after_return (Whole p ∷ rs) = ends_in_return (p.ch == 0x0D) rs
ends_in_return after_return (Bad at ∷ rs) = ends_in_return false rs

-- the text of bytes that are all read: preprocessing the input stream (#preprocessing-the-input-stream)
abbrev pub text : Bom → List ℕ → List Read
text bom bytes = normalized bom false (reads bytes)

-- the length of the longest front of the bytes that is UTF-8 and has at most `limit` bytes
abbrev pub valid_len : ℕ → List ℕ → ℕ
valid_len limit bytes = utf8_valid_len (take limit bytes)

-- The length of the bad part at the front of bytes. None where a character is there, where there is no byte, and where the input
-- has not ended and what follows may make a character of them all.
abbrev pub or_rest : Bool → List ℕ → Option ℕ → Option ℕ
or_rest ended rest (Some n) = Some n
or_rest ended rest None = if ended && nat_lt 0 (length rest) then Some (length rest) else None

abbrev pub bad_len : Bool → List ℕ → Option ℕ
bad_len ended rest = if nat_lt 0 (utf8_valid_len rest) then None else or_rest ended rest (utf8_error_len rest)

-- a bad part with what follows it, where the part fits
abbrev pub after_part : Option ℕ → ℕ → (ℕ → ℕ) → ℕ
after_part None room following = 0
after_part (Some n) room following = if nat_le n room then n + following n else 0

-- The length of the longest front that ends where a character or a bad part ends, and has at most `room` bytes: characters up to the
-- first bad part, that, and so on, at most `k` bad parts.
unfoldable pub fitting_within : Bool → ℕ → ℕ → List ℕ → ℕ
fitting_within ended zero room bytes = 0
fitting_within ended (suc k) room bytes =
    let n = utf8_valid_len (take room bytes) in
    n + after_part (bad_len ended (drop n bytes)) (room - n) (λ m. fitting_within ended k (room - (n + m)) (drop (n + m) bytes))

abbrev pub fitting : Bool → ℕ → List ℕ → ℕ
fitting ended limit bytes = fitting_within ended (suc (length bytes)) limit bytes

-- The length of the front that is read, within a limit: the longest that is UTF-8; where bad bytes are replaced, the longest that ends
-- where a character or a bad part ends.
abbrev pub front_len : Bool → BadBytes → ℕ → List ℕ → ℕ
front_len ended Refuse limit bytes = valid_len limit bytes
front_len ended Replace limit bytes = fitting ended limit bytes

-- how many of the bytes are read, as a whole input; and how many whatever follows them
abbrev pub read_len : Policy → List ℕ → ℕ
read_len how bytes = front_len true how.bad how.limit bytes

abbrev pub settled_len : Policy → List ℕ → ℕ
settled_len how bytes = front_len false how.bad how.limit bytes

-- what is read of bytes, as a whole input: the text of that front; and what is read whatever follows them
abbrev pub decoded : Policy → List ℕ → List Read
decoded how bytes = text how.bom (take (read_len how bytes) bytes)

abbrev pub settled : Policy → List ℕ → List Read
settled how bytes = text how.bom (take (settled_len how bytes) bytes)

-- Why bytes that are not all read are refused, at the end of what is read. Where bad bytes are refused, a whole character follows that
-- doesn't fit, or none does: `more` is how much longer the front would be with no limit.
abbrev pub refusal_with : BadBytes → ℕ → ℕ → Refusal
refusal_with Refuse more at = if more == 0 then NotUtf8 at else TooLarge at
refusal_with Replace more at = TooLarge at

-- why the bytes are refused, where they are
abbrev pub refusal_of : Policy → List ℕ → Option Refusal
refusal_of how bytes =
    if read_len how bytes == length bytes then None
    else Some (refusal_with how.bad (utf8_valid_len bytes - read_len how bytes) (read_len how bytes))

-- the bytes are refused for this, whatever comes after them
abbrev pub DecodingStaysRefused : Policy → List ℕ → Refusal → Type 0
DecodingStaysRefused how bytes refusal = (more : List ℕ) → refusal_of how (bytes ++ more) ≡ Some refusal

-- no character is at the front of the bytes
abbrev pub BeginsNoCharacter : List ℕ → Type 0
BeginsNoCharacter bytes = (ch : ℕ) (more : List ℕ) → IsScalar ch → bytes ≡ encode_utf8 ch ++ more → ⊥

-- these bytes and some more are one character
pub record BeginsCharacter (bytes : List ℕ) : Type 0 where
  pub ch : ℕ
  pub more : List ℕ
  pub scalar : IsScalar ch
  pub is : bytes ++ more ≡ encode_utf8 ch

-- Where no character is at the front, the first `n` bytes are the bad part there: the longest front of the bytes that begins some
-- character, or one byte where none does (Encoding Standard, "UTF-8 decoder"; Unicode calls it a maximal subpart).
pub record IsBadPart (bytes : List ℕ) (n : ℕ) : Type 0 where
  pub some : 0 < n
  pub within : n ≤ length bytes
  pub none : BeginsNoCharacter bytes
  pub begins : (n ≡ 1) ⊎ BeginsCharacter (take n bytes)
  pub longest : (m : ℕ) → n < m → m ≤ length bytes → BeginsCharacter (take m bytes) → ⊥

-- the places rise, from `first` on, and lie before `end`
abbrev pub PlacesRise : ℕ → List Placed → ℕ → Type 0
PlacesRise first [] end = first ≤ end
PlacesRise first (p ∷ ps) end = (first ≤ p.at) × PlacesRise (p.at + 1) ps end
