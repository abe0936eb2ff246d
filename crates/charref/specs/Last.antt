-- The last character that a walk has read, and when no more characters matter.
use Rattle.std.specs.Prelude.{◌≡◌, ℕ, ◌+◌, Bool, true, false, not, ◌&&◌, nat_lt, ◌==◌, ◌||◌, if◌then◌else◌, List, ◌++◌, length, Some}
use Rattle.names.specs.declared.placed.Placed.{Placed}
use Rattle.names.specs.Placed.{characters, is_alphanumeric, is_equals}
use Rattle.charref.specs.declared.last.Last.{Last}
use Rattle.charref.specs.declared.last.Last.TheVariants.{Alphanumeric, Semicolon, Equals, Other}
use Rattle.charref.specs.Reference.{Entry, Entities, longest, is_kept_as_text}
use Rattle.charref.specs.Held.{key_bytes}

abbrev pub last_of : ℕ → Last
last_of c = if is_alphanumeric c then Alphanumeric else (if c == 59 then Semicolon else (if is_equals c then Equals else Other))

-- What follows this text doesn't change its longest key, nor keeps a key that is all of it as text.
pub record IsSettled (table : Entities) (in_value : Bool) (text after : List Placed) : Type 0 where
  pub same : longest table (key_bytes text ++ characters after) ≡ longest table (key_bytes text)
  pub not_kept : (e : Entry) → longest table (key_bytes text) ≡ Some e → length e.key ≡ length text + 1 → is_kept_as_text in_value e.key after ≡ false

abbrev pub is_letter_or_digit : Last → Bool
is_letter_or_digit Alphanumeric = true
is_letter_or_digit Semicolon = false
is_letter_or_digit Equals = false
is_letter_or_digit Other = false

abbrev pub goes_on_name : Last → Bool
goes_on_name Alphanumeric = true
goes_on_name Semicolon = false
goes_on_name Equals = true
goes_on_name Other = false

-- the rule for values, where `left` characters were read after the key, the last of this kind
abbrev pub is_kept_before : Bool → Bool → ℕ → Last → Bool
is_kept_before in_value semicolon left last = in_value && not semicolon && (nat_lt 1 left || (left == 1 && goes_on_name last))
