-- What is at the front of bytes that begin with no character within the limit: of them `room` fit, and the first is at `at`.
use Rattle.std.specs.Prelude.{◌≡◌, ◌<◌, ◌≤◌, ℕ, zero, suc, false, nat_lt, if◌then◌else◌, List, length, drop, ◌⊎◌, Option, Some, None}
use Rattle.std.specs.Str.Lossy.{utf8_valid_len, utf8_error_len}
use Rattle.names.specs.declared.refusal.Refusal.TheVariants.{NotUtf8, TooLarge}
use Rattle.htext.specs.Text.{bad_len}
use Rattle.htext.specs.declared.BadBytes.{BadBytes}
use Rattle.htext.specs.declared.BadBytes.TheVariants.{Refuse, Replace}
use Rattle.htext.specs.declared.progress.Front.{Front}
use Rattle.htext.specs.declared.progress.Front.TheVariants.{Bad, Waits, Refused}

-- Of `len` bytes that begin with no character at all: a bad part of `n` bytes, or with `None` what may still become a character.
abbrev pub next_part : BadBytes → Option ℕ → ℕ → ℕ → ℕ → Front
next_part Refuse (Some n) len room at = Refused (NotUtf8 at)
next_part Refuse None len room at = Waits
next_part Replace (Some n) len room at = if nat_lt room n then Refused (TooLarge at) else Bad 1 n
next_part Replace None len room at = if nat_lt room len then Refused (TooLarge at) else Waits

-- the first byte is a bad part by itself, whatever follows; and each of the first bytes is
abbrev pub IsBadAlone : List ℕ → Type 0
IsBadAlone bytes = bad_len false bytes ≡ Some 1

abbrev pub AreBad : ℕ → List ℕ → Type 0
AreBad zero bytes = Unit {0}
AreBad (suc n) bytes = IsBadAlone bytes × AreBad n (drop 1 bytes)

-- the first `n` bytes are replaced, one by one
pub record AreReplaced (bad : BadBytes) (rest : List ℕ) (room n : ℕ) : Type 0 where
  pub how : 0 < n → bad ≡ Replace
  pub are_bad : AreBad n rest
  pub within : n ≤ length rest
  pub fits : n ≤ room

-- of any such bytes; a character at their front is one that doesn't fit
abbrev pub next_front : BadBytes → List ℕ → ℕ → ℕ → Front
next_front bad rest room at =
    if nat_lt 0 (utf8_valid_len rest) then Refused (TooLarge at)
    else next_part bad (utf8_error_len rest) (length rest) room at

-- the same, or all of the first bytes that are each a bad part by itself
abbrev pub IsAhead : BadBytes → List ℕ → ℕ → ℕ → Front → Type 0
IsAhead bad rest room at front = (front ≡ next_front bad rest room at) ⊎ ((n : ℕ) × (front ≡ Bad n n) × (0 < n) × AreReplaced bad rest room n)
