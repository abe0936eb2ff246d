-- The line of an error, as it is kept for the next one.
use Rattle.std.specs.Prelude.{◌≡◌, ◌≤◌, ◌-◌, ℕ, List, ◌++◌, codes, drop, length, take}
use Rattle.names.specs.Codes.{code_text}
use Rattle.names.specs.declared.error.ErrorCode.{ErrorCode}
use Rattle.hserialize.specs.declared.error_line.ErrorLine.{ErrorLine}

-- a line after its place
abbrev pub printed_after_place : ErrorCode → List ℕ
printed_after_place code = codes " " ++ code_text code ++ codes "\n"

-- Room for the 20 digits of a place, and then the rest of the line of this kind.
pub record IsLine (line : ErrorLine) : Type 0 where
  pub starts : 20 ≤ line.end
  pub ends : line.end ≤ length line.bytes
  pub rest : take (line.end - 20) (drop 20 line.bytes) ≡ printed_after_place line.code
