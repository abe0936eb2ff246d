-- Worked rows.
use Rattle.std.specs.Prelude.{◌≡◌, ℕ, [], ◌∷◌, Some, None, refl}
use lib.Utf8.{encode}
use Rattle.std.specs.Str.{chars, is_utf8}
use Rattle.std.specs.Str.Lossy.{utf8_valid_len, utf8_error_len}
use Rattle.names.specs.Placed.{error}
use Rattle.names.specs.declared.placed.Placed.{Placed}
use Rattle.names.specs.declared.error.ErrorCode.TheVariants.{ControlCharacterInInputStream, NoncharacterInInputStream, ReplacedBytes}
use Rattle.names.specs.declared.refusal.Refusal.TheVariants.{NotUtf8, TooLarge}
use Rattle.htext.specs.declared.Bom.TheVariants.{Drop, Keep}
use Rattle.htext.specs.declared.BadBytes.TheVariants.{Refuse, Replace}
use Rattle.htext.specs.Text.{Policy, Read, Whole, Bad, reads_within, fitting_within, text, decoded, refusal_of}
use Rattle.htext.specs.Items.{Character, InputError, items}

abbrev char : ℕ → ℕ → Placed
char c place = record { ch = c; at = place }

abbrev read : ℕ → ℕ → Read
read c place = Whole (char c place)

abbrev refusing : ℕ → Policy
refusing limit = record { bom = Keep; bad = Refuse; limit = limit }

abbrev replacing : ℕ → Policy
replacing limit = record { bom = Keep; bad = Replace; limit = limit }

-- CR LF is one LF, at the CR's place; so is a CR with no LF, at the end too
newline_pair : text Keep (0x61 ∷ 0x0D ∷ 0x0A ∷ 0x62 ∷ []) ≡ read 0x61 0 ∷ read 0x0A 1 ∷ read 0x62 3 ∷ []
unfolding reads_within chars utf8_valid_len is_utf8 encode
newline_pair = refl

newlines_apart : text Keep (0x0A ∷ 0x0D ∷ 0x0D ∷ 0x0A ∷ 0x0A ∷ 0x0D ∷ []) ≡ read 0x0A 0 ∷ read 0x0A 1 ∷ read 0x0A 2 ∷ read 0x0A 4 ∷ read 0x0A 5 ∷ []
unfolding reads_within chars utf8_valid_len is_utf8 encode
newlines_apart = refl

-- a byte order mark at the front, and one that is later
mark_dropped : text Drop (0xEF ∷ 0xBB ∷ 0xBF ∷ 0x78 ∷ []) ≡ read 0x78 3 ∷ []
unfolding reads_within chars utf8_valid_len is_utf8 encode
mark_dropped = refl

mark_kept : text Keep (0xEF ∷ 0xBB ∷ 0xBF ∷ 0x78 ∷ []) ≡ read 0xFEFF 0 ∷ read 0x78 3 ∷ []
unfolding reads_within chars utf8_valid_len is_utf8 encode
mark_kept = refl

mark_later : text Drop (0x78 ∷ 0xEF ∷ 0xBB ∷ 0xBF ∷ []) ≡ read 0x78 0 ∷ read 0xFEFF 1 ∷ []
unfolding reads_within chars utf8_valid_len is_utf8 encode
mark_later = refl

-- errors right before their characters; NUL and white space raise none
control : items (text Keep (0x01 ∷ 0x00 ∷ 0x09 ∷ 0x7F ∷ 0xC2 ∷ 0x9F ∷ [])) ≡
    InputError (error ControlCharacterInInputStream 0) ∷ Character (char 0x01 0) ∷ Character (char 0x00 1) ∷ Character (char 0x09 2)
    ∷ InputError (error ControlCharacterInInputStream 3) ∷ Character (char 0x7F 3)
    ∷ InputError (error ControlCharacterInInputStream 4) ∷ Character (char 0x9F 4) ∷ []
unfolding reads_within chars utf8_valid_len is_utf8 encode
control = refl

noncharacter : items (text Keep (0xEF ∷ 0xBF ∷ 0xBE ∷ 0xEF ∷ 0xB7 ∷ 0x90 ∷ 0xF4 ∷ 0x8F ∷ 0xBF ∷ 0xBF ∷ [])) ≡
    InputError (error NoncharacterInInputStream 0) ∷ Character (char 0xFFFE 0)
    ∷ InputError (error NoncharacterInInputStream 3) ∷ Character (char 0xFDD0 3)
    ∷ InputError (error NoncharacterInInputStream 6) ∷ Character (char 0x10FFFF 6) ∷ []
unfolding reads_within chars utf8_valid_len is_utf8 encode
noncharacter = refl

-- what the limit is too small for, and what is no UTF-8
fits : refusal_of (refusing 4) (0x61 ∷ 0x62 ∷ 0x63 ∷ 0x64 ∷ []) ≡ None
unfolding utf8_valid_len is_utf8 chars encode
fits = refl

too_large : refusal_of (refusing 4) (0x61 ∷ 0x62 ∷ 0x63 ∷ 0x64 ∷ 0x65 ∷ []) ≡ Some (TooLarge 4)
unfolding utf8_valid_len is_utf8 chars encode
too_large = refl

character_too_large : refusal_of (refusing 4) (0x61 ∷ 0x62 ∷ 0x63 ∷ 0xC2 ∷ 0xA2 ∷ []) ≡ Some (TooLarge 3)
unfolding utf8_valid_len is_utf8 chars encode
character_too_large = refl

cut_off : refusal_of (refusing 4) (0x61 ∷ 0x62 ∷ 0x63 ∷ 0xE2 ∷ []) ≡ Some (NotUtf8 3)
unfolding utf8_valid_len is_utf8 chars encode
cut_off = refl

nothing_fits : refusal_of (refusing 0) [] ≡ None
unfolding utf8_valid_len is_utf8 chars encode
nothing_fits = refl

nothing_fits_a : refusal_of (refusing 0) (0x61 ∷ []) ≡ Some (TooLarge 0)
unfolding utf8_valid_len is_utf8 chars encode
nothing_fits_a = refl

nothing_is_begun : refusal_of (refusing 0) (0xFF ∷ []) ≡ Some (NotUtf8 0)
unfolding utf8_valid_len is_utf8 chars encode
nothing_is_begun = refl

-- Bad bytes replaced. One is replaced by itself; the beginning of a character as a whole, here and at the end; and each byte of what
-- is no beginning of one.
one_bad : decoded (replacing 9) (0x61 ∷ 0xFF ∷ 0x62 ∷ []) ≡ read 0x61 0 ∷ Bad 1 ∷ read 0x62 2 ∷ []
unfolding reads_within fitting_within utf8_valid_len utf8_error_len is_utf8 chars encode
one_bad = refl

cut_short : decoded (replacing 9) (0xE2 ∷ 0x82 ∷ 0x41 ∷ []) ≡ Bad 0 ∷ read 0x41 2 ∷ []
unfolding reads_within fitting_within utf8_valid_len utf8_error_len is_utf8 chars encode
cut_short = refl

too_long : decoded (replacing 9) (0xC0 ∷ 0x80 ∷ []) ≡ Bad 0 ∷ Bad 1 ∷ []
unfolding reads_within fitting_within utf8_valid_len utf8_error_len is_utf8 chars encode
too_long = refl

surrogate : decoded (replacing 9) (0xED ∷ 0xA0 ∷ 0x80 ∷ []) ≡ Bad 0 ∷ Bad 1 ∷ Bad 2 ∷ []
unfolding reads_within fitting_within utf8_valid_len utf8_error_len is_utf8 chars encode
surrogate = refl

cut_by_the_end : decoded (replacing 9) (0xF0 ∷ 0x9F ∷ 0x98 ∷ []) ≡ Bad 0 ∷ []
unfolding reads_within fitting_within utf8_valid_len utf8_error_len is_utf8 chars encode
cut_by_the_end = refl

replaced_items : items (decoded (replacing 9) (0xFF ∷ 0x01 ∷ [])) ≡ InputError (error ReplacedBytes 0) ∷ Character (char 0xFFFD 0)
    ∷ InputError (error ControlCharacterInInputStream 1) ∷ Character (char 0x01 1) ∷ []
unfolding reads_within fitting_within utf8_valid_len utf8_error_len is_utf8 chars encode
replaced_items = refl

bad_part_fits : refusal_of (replacing 4) (0x61 ∷ 0x62 ∷ 0x63 ∷ 0xE2 ∷ []) ≡ None
unfolding fitting_within utf8_valid_len utf8_error_len is_utf8 chars encode
bad_part_fits = refl

bad_part_too_large : refusal_of (replacing 4) (0x61 ∷ 0x62 ∷ 0x63 ∷ 0xE2 ∷ 0x82 ∷ []) ≡ Some (TooLarge 3)
unfolding fitting_within utf8_valid_len utf8_error_len is_utf8 chars encode
bad_part_too_large = refl

second_bad_too_large : refusal_of (replacing 4) (0x61 ∷ 0x62 ∷ 0x63 ∷ 0xFF ∷ 0xFF ∷ []) ≡ Some (TooLarge 4)
unfolding fitting_within utf8_valid_len utf8_error_len is_utf8 chars encode
second_bad_too_large = refl
