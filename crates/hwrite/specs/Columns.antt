-- Lines and columns of the bytes of a text.
use Rattle.std.specs.Prelude.{◌≡◌, ℕ, zero, suc, ◌+◌, ◌*◌, Some, slice_get, Bool, not, ◌&&◌, ◌||◌, ◌==◌, List, nat_le, nat_lt, slice_index_or, if◌then◌else◌}

-- whether a byte of UTF-8 begins a character
abbrev pub begins_character : ℕ → Bool
begins_character b = nat_lt b 128 || nat_le 192 b

-- whether a line ends with a byte: with LF, or with CR that is not before LF
abbrev pub is_end : ℕ → Bool → Bool
is_end byte before_lf = byte == 10 || (byte == 13 && not before_lf)

-- whether a line ends with the byte at a place
abbrev pub ends_line : List ℕ → ℕ → Bool
ends_line text at = is_end (slice_index_or text at 0) (slice_index_or text (1 + at) 0 == 10)

-- the line of a place, from 1: one more than the lines that end before it
abbrev pub line_at : List ℕ → ℕ → ℕ
line_at text zero = 1
line_at text (suc at) = (if ends_line text at then 1 else 0) + line_at text at

-- the column of a place, from 1: one more than the characters that begin before it in its line
abbrev pub column_at : List ℕ → ℕ → ℕ
column_at text zero = 1
column_at text (suc at) =
    if ends_line text at then 1
    else (if begins_character (slice_index_or text at 0) then 1 else 0) + column_at text at

-- the line and the column of each byte at a multiple of 256
abbrev pub AreMarks : List ℕ → List (ℕ × ℕ) → Type 0
AreMarks text marks = (k : ℕ) (mark : ℕ × ℕ) → slice_get marks k ≡ Some mark → mark ≡ (line_at text (k * 256), column_at text (k * 256))
