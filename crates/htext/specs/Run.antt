-- Runs of characters that are in a text as they came.
use Rattle.std.specs.Prelude.{◌≡◌, ℕ, ◌≤◌, Bool, true, not, ◌&&◌, ◌||◌, ◌==◌, nat_le, bit_and, ◌/◌, List, length, get_or, map, take, drop}
use Rattle.std.specs.List.{list_all}
use Rattle.std.specs.Str.{chars, IsUtf8}
use Rattle.names.specs.Placed.{placed, is_alphanumeric, is_noncharacter, is_quote, is_space}
use Rattle.htext.specs.Items.{CharItem, Character}
use Rattle.htext.specs.declared.run.Halves.{Halves}
use Rattle.htext.specs.declared.run.RunBytes.{RunBytes}
use Rattle.htext.specs.declared.run.RunBytes.TheVariants.{Clean, Alphanumeric, Word, Unquoted, Quoted}

-- a byte that is a character by itself, is in the text as it came but for an LF after a CR, raises no error, and is neither `<` nor `&`
abbrev pub is_plain_byte : ℕ → Bool
is_plain_byte byte = (byte == 9 || byte == 10 || byte == 12 || (nat_le 32 byte && nat_le byte 126)) && not (byte == 60 || byte == 38)

-- a character of which the same is true: such a byte, or one from U+00A0 on that is neither a noncharacter nor a byte order mark
abbrev pub is_plain_character : ℕ → Bool
is_plain_character c = is_plain_byte c || (nat_le 0xA0 c && not (is_noncharacter c || c == 0xFEFF))

-- a plain character, `<` or `&`: it is in the text as it came but for an LF after a CR, and raises no error
abbrev pub is_clean : ℕ → Bool
is_clean c = is_plain_character c || c == 60 || c == 38

-- one of those of which no byte in UTF-8 begins a character that is not clean
abbrev pub is_of_clean_bytes : ℕ → Bool
is_of_clean_bytes c = is_plain_byte c || c == 60 || c == 38 || (nat_le 0xC0 c && nat_le c 0xEFFF)

-- a byte of one of these in UTF-8, and the first byte of no other character
abbrev pub is_clean_byte : ℕ → Bool
is_clean_byte byte = is_plain_byte byte || byte == 60 || byte == 38 || (nat_le 0x80 byte && nat_le byte 0xBF) || (nat_le 0xC3 byte && nat_le byte 0xEE)

-- a byte that is neither `<` nor `&`
abbrev pub is_text_byte : ℕ → Bool
is_text_byte byte = not (byte == 60 || byte == 38)

-- a small letter, a digit, `-`, `.`, `:` or `_`
abbrev pub is_word_byte : ℕ → Bool
is_word_byte byte = (nat_le 97 byte && nat_le byte 122) || (nat_le 48 byte && nat_le byte 58) || byte == 45 || byte == 46 || byte == 95

-- a byte that is neither white space nor a quote, `&`, `<`, `=`, `>` or the grave accent
abbrev pub is_unquoted_byte : ℕ → Bool
is_unquoted_byte byte = not (is_space byte || is_quote byte || byte == 38 || byte == 60 || byte == 61 || byte == 62 || byte == 96)

-- a byte that is neither this one nor `&`
abbrev pub is_quoted_byte : ℕ → ℕ → Bool
is_quoted_byte mark byte = not (byte == mark || byte == 38)

-- the bytes of a run of each kind
abbrev pub is_run_byte : RunBytes → ℕ → Bool
is_run_byte Clean byte = is_clean_byte byte
is_run_byte Alphanumeric byte = is_alphanumeric byte
is_run_byte Word byte = is_word_byte byte
is_run_byte Unquoted byte = is_unquoted_byte byte
is_run_byte (Quoted mark) byte = is_quoted_byte mark byte

abbrev pub is_not_of : RunBytes → ℕ → Bool
is_not_of kind byte = not (is_run_byte kind byte)

-- the entries of a byte's low and high half (four bits each) share no bit
abbrev pub shares_no_bit : Halves → ℕ → Bool
shares_no_bit set byte = bit_and (get_or set.low (bit_and byte 15) 0) (get_or set.high (byte / 16) 0) == 0

-- characters one after another, the first at the place `at`
abbrev pub run_items : ℕ → List ℕ → List CharItem
run_items at run = map Character (placed at run)

-- a text is cut after `n` bytes, between characters
pub record IsCut (n : ℕ) (text : List ℕ) : Type 0 where
  pub within : n ≤ length text
  pub front : IsUtf8 (take n text)
  pub back : IsUtf8 (drop n text)

-- the same, and all characters before are clean
pub record IsCleanFront (n : ℕ) (text : List ℕ) : Type 0 where
  pub cut : IsCut n text
  pub clean : list_all is_clean (chars (take n text)) ≡ true
