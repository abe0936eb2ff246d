-- How a table keeps its texts.
use Rattle.std.specs.Prelude.{ℕ, ◌-◌, ◌&&◌, nat_le, if◌then◌else◌, Option, Some, None, [], ◌∷◌, ◌≡◌, ◌≤◌, ◌+◌, ◌^◌, Bool, true, not, List, length, String}
use Rattle.std.specs.Prelude.{bytes_eq}
use Rattle.std.specs.List.{IsDistinct, list_all, list_any}
use Rattle.std.specs.String.{string_bytes, string_eq}
use Rattle.names.specs.Tags.{known}

-- whether a text is none of the known names
abbrev pub is_other : {A : Type 0} → String A → Bool
is_other text = not (list_any (bytes_eq (string_bytes text)) known)

-- the texts that are kept: none is a known name, no two are equal, and the number of each has 32 bits
pub record AreOthers {A : Type 0} (keys : List (String A)) : Type 0 where
  pub others : list_all is_other keys ≡ true
  pub distinct : IsDistinct string_eq keys
  pub fits : length known + length keys ≤ 2 ^ 32

-- which letter a text begins with, from 0 for `a`
abbrev pub letter_of : List ℕ → Option ℕ
letter_of [] = None
letter_of (byte ∷ bytes) = if nat_le 97 byte && nat_le byte 122 then Some (byte - 97) else None
