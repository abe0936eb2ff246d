-- The version of the library.
use Rattle.std.specs.Prelude.{ℕ, ◌+◌, ◌*◌}

-- a version as a number
abbrev pub version_number : (major minor patch : ℕ) → ℕ
version_number major minor patch = major * 10000 + minor * 100 + patch

-- this version
abbrev pub version : ℕ
version = version_number 0 1 0
