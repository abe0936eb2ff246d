-- What the items of a vector say.
use Rattle.std.specs.Prelude.{◌≡◌, ℕ, ◌<◌, ◌⊎◌, ◌==◌, Bool, true, false, not, List, [], ◌∷◌, Option, Some, None, filter, map, reverse}
use Rattle.std.specs.Coded.{×_prop, Unit-prop, le_prop}
use Rattle.hopen.specs.Formatting.{EntryOf, Listed, marker, entry}
use Rattle.hopen.specs.declared.entry.Entry.{Entry}
use Rattle.hopen.specs.declared.entry.Slot.{Slot as Stored}
use Rattle.hopen.specs.declared.entry.Slot.TheVariants as stored

abbrev pub entry_is : Entry → EntryOf ℕ
entry_is e = record { node = e.node; name = e.name; attrs = e.attrs }

-- no node and no name has this number
abbrev pub nowhere : ℕ
nowhere = 4294967296

-- what is where an entry was: it is found by no question
abbrev pub hole : Listed ℕ
hole = entry (record { node = nowhere; name = nowhere; attrs = [] })

abbrev pub is_listed_hole : Listed ℕ → Bool
is_listed_hole marker = false
is_listed_hole (entry e) = e.name == nowhere

-- without the holes
abbrev pub live : List (Listed ℕ) → List (Listed ℕ)
live items = filter (λ i. not (is_listed_hole i)) items

-- a marker, an entry of a node and a name, or the hole
abbrev pub IsSlot : Listed ℕ → Type 0
IsSlot marker = Unit {0}
IsSlot (entry e) = (entry e ≡ hole) ⊎ ((e.node < nowhere) × (e.name < nowhere))

abbrev pub AreSlots : List (Listed ℕ) → Type 0
AreSlots [] = Unit {0}
AreSlots (i ∷ items) = IsSlot i × AreSlots items

abbrev pub item_of : Stored → Listed ℕ
item_of stored.Hole = hole
item_of stored.Marker = marker
item_of (stored.Entry e) = entry (entry_is e)

-- the last one first
abbrev pub listed_items : List Stored → List (Listed ℕ)
listed_items items = reverse (map item_of items)

-- what a vector holds where no entry is
abbrev pub is_gone : Stored → Bool
is_gone stored.Hole = true
is_gone stored.Marker = false
is_gone (stored.Entry e) = false

abbrev pub stored_entry : Stored → Option (EntryOf ℕ)
stored_entry stored.Hole = None
stored_entry stored.Marker = None
stored_entry (stored.Entry e) = Some (entry_is e)

-- with another node
abbrev pub moved_entry : ℕ → Stored → Stored
moved_entry node stored.Hole = stored.Hole
moved_entry node stored.Marker = stored.Marker
moved_entry node (stored.Entry e) = stored.Entry (record e { node = node })

-- code's nodes and names have smaller numbers
abbrev pub IsStored : Stored → Type 0
IsStored stored.Hole = Unit {0}
IsStored stored.Marker = Unit {0}
IsStored (stored.Entry e) = (e.node < nowhere) × (e.name < nowhere)

-- no two proofs of it differ
pub IsStored-prop : (x : Stored) → IsProp (IsStored x)
IsStored-prop stored.Hole = Unit-prop
IsStored-prop stored.Marker = Unit-prop
IsStored-prop (stored.Entry e) = ×_prop le_prop le_prop
