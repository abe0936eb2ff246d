-- What the bytes after an `&` settle of it, outside a value.
use Rattle.std.specs.Prelude.{◌≡◌, ℕ, ◌<◌, ◌≤◌, true, false, nat_eq, List, length, take, drop, slice_get, Some}
use Rattle.std.specs.Char.{is_ascii}
use Rattle.std.specs.List.{list_all, starts_with}
use Rattle.names.specs.declared.placed.Placed.{Placed}
use Rattle.names.specs.Placed.{placed}
use Rattle.charref.specs.declared.number.Base.{Base}
use Rattle.charref.specs.declared.reference.Reference.{Reference}
use Rattle.charref.specs.declared.open_keys.OpenKey.{OpenKey}
use Rattle.charref.specs.declared.walk.Walk.{Walk}
use Rattle.charref.specs.Reference.{Entry, Entities, IsTable, ends_in_semicolon}
use Rattle.charref.specs.Held.{IsSign}
use Rattle.charref.specs.Pieces.{IsRead}
use Rattle.charref.specs.Table.{IsOpenKey}
use Rattle.charref.specs.Walk.{WalkHasTaken}

-- The first `count` of these bytes, all ASCII, are what stands before the digits of a number.
pub record HasSign (base : Base) (bytes : List ℕ) (count : ℕ) : Type 0 where
  pub few : count ≤ length bytes
  pub ascii : list_all is_ascii (take count bytes) ≡ true
  pub sign : (at : ℕ) → IsSign base (placed at (take count bytes))

-- The first `count` of these bytes, all ASCII, settle what is at an `&` before them.
pub record Settles (table : Entities) (bytes : List ℕ) (count : ℕ) (found : Reference) : Type 0 where
  pub some : 0 < count
  pub few : count ≤ length bytes
  pub ascii : list_all is_ascii (take count bytes) ≡ true
  pub read : (at : ℕ) (after : List Placed) → IsRead table false (placed at (take count bytes)) after found

-- However many of them are taken, the bytes do not settle it: with what comes after them, it may be one reference or another.
abbrev pub SettlesNothing : Entities → List ℕ → Type 0
SettlesNothing table bytes = (count : ℕ) (found : Reference) → Settles table bytes count found → ⊥

-- A walk outside a value has taken the first `count` of these bytes, all ASCII.
pub record HasWalked (walk : Walk) (table : Entities) (bytes : List ℕ) (count : ℕ) : Type 0 where
  pub few : count ≤ length bytes
  pub ascii : list_all is_ascii (take count bytes) ≡ true
  pub taken : (at : ℕ) → WalkHasTaken walk table false (placed at (take count bytes))

-- An open key, with all of which, after its `&`, these bytes begin.
pub record IsOpenKeyOf (table : Entities) (bytes : List ℕ) (key : OpenKey) : Type 0 where
  pub is : IsOpenKey table key
  pub opens : starts_with nat_eq bytes (drop 1 is.read.entry.key) ≡ true

-- The table has an entry at this index, whose key ends in a `;`, and these bytes begin with all of the key after its `&`.
pub record HasWhole (table : Entities) (bytes : List ℕ) (index : ℕ) : Type 0 where
  pub is_table : IsTable table
  pub entry : Entry
  pub stands : slice_get table index ≡ Some entry
  pub closed : ends_in_semicolon entry.key ≡ true
  pub opens : starts_with nat_eq bytes (drop 1 entry.key) ≡ true
