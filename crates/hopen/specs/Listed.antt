-- What is kept of the list of active formatting elements besides its items.
use Rattle.std.specs.Prelude.{◌≡◌, ℕ, zero, suc, ◌<◌, ◌≤◌, ◌==◌, true, false, List, Option, length, map, slice_index_or, if◌then◌else◌}
use Rattle.std.specs.List.{All}
use Rattle.std.specs.Option.{is_some}
use Rattle.std.specs.declared.hash.DefaultHasher.{DefaultHasher}
use Rattle.hopen.specs.Hashes.{entry_hash}
use Rattle.hopen.specs.Formatting.{EntryOf, Listed, marker, entry}
use Rattle.hopen.specs.Items.{IsStored, is_gone, item_of, nowhere}
use Rattle.hopen.specs.declared.entry.Slot.{Slot as Stored}

-- the number of an item by one of its entry: markers have the first, and holes the next
abbrev pub number_by : (EntryOf ℕ → ℕ) → Listed ℕ → ℕ
number_by number marker = zero
number_by number (entry e) = suc (number e)

abbrev pub unless_hole : (EntryOf ℕ → ℕ) → EntryOf ℕ → ℕ
unless_hole number e = if e.name == nowhere then zero else suc (number e)

-- by its name, by its hash, and by its node
abbrev pub by_name : EntryOf ℕ → ℕ
by_name = unless_hole (λ e. e.name)

abbrev pub by_hash : Option DefaultHasher → EntryOf ℕ → ℕ
by_hash keys = unless_hole (entry_hash keys)

abbrev pub by_node : EntryOf ℕ → ℕ
by_node = unless_hole (λ e. e.node)

abbrev pub numbers_by : (EntryOf ℕ → ℕ) → List Stored → List ℕ
numbers_by number items = map (λ i. number_by number (item_of i)) items

-- The numbers that are kept are those of the items, those of the hashes only where there are keys, and from an index on there is no hole.
pub record AreListed (name_numbers hash_numbers node_numbers : List ℕ) (keys : Option DefaultHasher) (items : List Stored) (no_hole_from : ℕ) : Type 0 where
  pub names : name_numbers ≡ numbers_by by_name items
  pub hashes : is_some keys ≡ true → hash_numbers ≡ numbers_by (by_hash keys) items
  pub nodes : node_numbers ≡ numbers_by by_node items
  pub stored : All IsStored items
  pub within : no_hole_from ≤ length items
  pub solid : (i : ℕ) → no_hole_from ≤ i → i < length items → (x : Stored) → is_gone (slice_index_or items i x) ≡ false
