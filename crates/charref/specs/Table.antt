-- A table in memory, and the state of a look-up in it.
use Rattle.std.specs.Prelude.{◌≡◌, ℕ, ◌+◌, ◌≤◌, ◌<◌, Bool, true, false, nat_eq, nat_le, nat_lt, ◌&&◌}
use Rattle.std.specs.Int.{w32, from_le_bytes}
use Rattle.std.specs.Prelude.{zero, suc, List, [], ◌∷◌, map, length, take, drop, get_or, slice_get, slice_range, Option, Some, None, IfSome}
use Rattle.std.specs.List.{starts_with}
use Rattle.std.specs.List.Sorted.{IsStrictlySortedBy}
use Rattle.std.specs.Cmp.Lexicographic.{slice_cmp}
use Rattle.std.specs.Ordering.{nat_cmp}
use Rattle.charref.specs.declared.entries.Entity.{Entity}
use Rattle.charref.specs.declared.open_keys.OpenKey.{OpenKey}
use Rattle.charref.specs.declared.search.Search.{Search}
use Rattle.charref.specs.Reference.{Entry, Entities, IsTable, longest}

-- whether the ends of an entry's key are in this order in this text
abbrev pub is_inside : List ℕ → Entity → Bool
is_inside text entity = nat_le entity.start entity.end && nat_le entity.end (length text)

-- an entry of a text: its key is the part between its ends, and what it stands for is after it
abbrev pub key_at : List ℕ → Entity → List ℕ
key_at text entity = slice_range text entity.start entity.end

-- so many characters, the number of each in four bytes
abbrev pub numbers_in : ℕ → List ℕ → List ℕ
numbers_in zero bytes = []
numbers_in (suc n) bytes = from_le_bytes w32 (take 4 bytes) ∷ numbers_in n (drop 4 bytes)

-- the characters after their count
abbrev pub characters_in : List ℕ → List ℕ
characters_in [] = []
characters_in (count ∷ bytes) = numbers_in count bytes

abbrev pub entry : List ℕ → Entity → Entry
entry text entity = record { key = key_at text entity; stands_for = characters_in (drop entity.end text) }

abbrev pub entries : List ℕ → List Entity → Entities
entries text entities = map (entry text) entities

-- a table sorted by the bytes of its keys
pub record IsSortedTable (table : Entities) : Type 0 where
  pub is_table : IsTable table
  pub sorted : IsStrictlySortedBy (slice_cmp nat_cmp) (map (λ e. e.key) table)

-- the byte of a key at a depth, plus 1; 0 past its end
abbrev pub character_code : Option ℕ → ℕ
character_code None = 0
character_code (Some byte) = byte + 1

abbrev pub code_at : List ℕ → ℕ → ℕ
code_at key depth = character_code (slice_get key depth)

-- The entries whose keys begin with these bytes are from `low` up to `high`.
pub record IsRange (table : Entities) (bytes : List ℕ) (low high : ℕ) : Type 0 where
  pub ordered : low ≤ high
  pub within : high ≤ length table
  pub exact : (k : ℕ) (e : Entry) → slice_get table k ≡ Some e → starts_with nat_eq e.key bytes ≡ (nat_le low k && nat_lt k high)

-- For each index from `first` on: the entries whose keys begin with the key there are from it up to its end.
pub record AreEnds (table : Entities) (first : ℕ) (ends : List ℕ) : Type 0 where
  pub size : length ends ≡ length table
  pub at : (index : ℕ) (e : Entry) → first ≤ index → slice_get table index ≡ Some e → IsRange table e.key index (get_or ends index 0)

-- From `low` up to `high` the byte at this depth never decreases.
pub record IsRising (table : Entities) (low high depth : ℕ) : Type 0 where
  pub at : (j k : ℕ) (e f : Entry) → slice_get table j ≡ Some e → slice_get table k ≡ Some f → low ≤ j → j ≤ k → k < high
      → code_at e.key depth ≤ code_at f.key depth

-- From `low` up to `middle` it is below this code, and from there up to `high` it is not.
pub record IsParted (table : Entities) (low middle high depth code : ℕ) : Type 0 where
  pub below : (k : ℕ) (e : Entry) → slice_get table k ≡ Some e → low ≤ k → k < middle → code_at e.key depth < code
  pub above : (k : ℕ) (e : Entry) → slice_get table k ≡ Some e → middle ≤ k → k < high → code ≤ code_at e.key depth

-- the first index of a key whose byte after the `&` has at least this code
pub record IsStart (table : Entities) (index code : ℕ) : Type 0 where
  pub within : index ≤ length table
  pub parted : IsParted table 0 index (length table) 1 code

-- an index of a table: the starts of this many codes, from 0 on
pub record IsIndex (table : Entities) (starts : List ℕ) (count : ℕ) : Type 0 where
  pub size : length starts ≡ count
  pub at : (code index : ℕ) → slice_get starts code ≡ Some index → IsStart table index code

-- the entry that was found
abbrev pub best_entry : Entities → Option ℕ → Option Entry
best_entry table None = None
best_entry table (Some k) = slice_get table k

-- A search of the table has read these bytes.
pub record SearchHasRead (search : Search) (table : Entities) (bytes : List ℕ) : Type 0 where
  pub depth : search.depth ≡ length bytes
  pub range : IsRange table bytes search.low search.high
  pub within : IfSome search.best (λ k. k < length table)
  pub best : best_entry table search.best ≡ longest table bytes

-- No key of the table begins with these bytes and is longer; some key is.
pub record IsOver (table : Entities) (bytes : List ℕ) : Type 0 where
  pub no_more : (k : ℕ) (e : Entry) → slice_get table k ≡ Some e → starts_with nat_eq e.key bytes ≡ true → length e.key ≤ length bytes

pub record EntryGoesOn (table : Entities) (bytes : List ℕ) : Type 0 where
  pub index : ℕ
  pub entry : Entry
  pub stands : slice_get table index ≡ Some entry
  pub opens : starts_with nat_eq entry.key bytes ≡ true
  pub is_longer : length bytes < length entry.key

-- A search has read the key of the first entry of its range, and a longer key begins with it.
pub record IsAfterKey (table : Entities) (search : Search) : Type 0 where
  pub entry : Entry
  pub stands : slice_get table search.low ≡ Some entry
  pub read : SearchHasRead search table entry.key
  pub goes_on : EntryGoesOn table entry.key

-- Of each key from where the search begins up to `high` the code right after what the search has read is marked (`code_at`): the key's
-- next byte plus one, or 0 where the key ends there.
pub record AreMarked (table : Entities) (search : Search) (high : ℕ) (marks : List Bool) : Type 0 where
  pub at : (k : ℕ) (e : Entry) → slice_get table k ≡ Some e → search.low ≤ k → k < high → get_or marks (code_at e.key search.depth) false ≡ true

-- an open key, as `&not`, with which `&notin;` begins, and the codes with which keys go on after it
pub record IsOpenKey (table : Entities) (key : OpenKey) : Type 0 where
  pub read : IsAfterKey table key.search
  pub marked : AreMarked table key.search key.search.high key.goes_on

-- whether the key found has as many bytes as were read
abbrev pub is_as_long : ℕ → Option Entry → Bool
is_as_long depth None = false
is_as_long depth (Some e) = nat_eq (length e.key) depth

abbrev pub has_read_key : Entities → Search → Bool
has_read_key table search = is_as_long search.depth (best_entry table search.best)

-- No key of the table begins with these bytes.
pub record HasNone (table : Entities) (bytes : List ℕ) : Type 0 where
  pub none : (k : ℕ) (e : Entry) → slice_get table k ≡ Some e → starts_with nat_eq e.key bytes ≡ true → ⊥

-- none, or the index of one of so many entries
abbrev pub is_none_or_index : Option ℕ → ℕ → Bool
is_none_or_index None count = true
is_none_or_index (Some k) count = nat_lt k count

-- a search stays within a table of this many entries
abbrev pub is_search_within : Search → ℕ → Bool
is_search_within search count = nat_le search.low search.high && nat_le search.high count && is_none_or_index search.best count
