-- The flat form of a table: its entries in bytes, one after another, which is read at once.
use Rattle.std.specs.Prelude.{◌≡◌, ℕ, Bool, true, ◌&&◌, ◌||◌, nat_eq, List, ◌∷◌, ◌++◌, length, ◌⊎◌}
use Rattle.std.specs.Int.{w32, to_le_bytes}
use Rattle.std.specs.List.{list_all, flat_map}
use Rattle.names.specs.declared.refusal.Refusal.{Refusal}
use Rattle.names.specs.declared.refusal.Refusal.TheVariants.{BadTable, Memory}
use Rattle.names.specs.declared.refusal.TableFault.TheVariants.{Shape}
use Rattle.charref.specs.Reference.{Entry, Entities}
use Rattle.charref.specs.Reading.{is_character}
use Rattle.charref.specs.Table.{IsSortedTable}

-- what a table of a JSON text is: sorted by the bytes of its keys, each of which stands for one or two characters other than NUL
abbrev pub is_one_or_two : List ℕ → Bool
is_one_or_two characters = (nat_eq (length characters) 1 || nat_eq (length characters) 2) && list_all is_character characters

pub record IsReadable (table : Entities) : Type 0 where
  pub sorted : IsSortedTable table
  pub characters : list_all (λ entry. is_one_or_two entry.stands_for) table ≡ true

-- a character: the four bytes of its number, the lowest first
abbrev pub flat_character : ℕ → List ℕ
flat_character c = to_le_bytes w32 c

abbrev pub flat_characters : List ℕ → List ℕ
flat_characters characters = length characters ∷ flat_map flat_character characters

-- an entry: its key, how many characters it stands for, and these. The count is no byte of a key, so it ends the key.
abbrev pub flat_entry : Entry → List ℕ
flat_entry entry = entry.key ++ flat_characters entry.stands_for

-- a table: the version of this form, with which no JSON text begins, and its entries
abbrev pub flat_of : Entities → List ℕ
flat_of table = 1 ∷ flat_map flat_entry table

-- a refusal says that memory ran out, or that these bytes are the flat form of no table
abbrev pub IsRefusedFlat : List ℕ → Refusal → Type 0
IsRefusedFlat bytes refusal = (refusal ≡ Memory) ⊎ ((refusal ≡ BadTable Shape) × ((table : Entities) → IsReadable table → flat_of table ≡ bytes → ⊥))
