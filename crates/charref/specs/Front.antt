-- What is at the front of the rest of a flat form.
use Rattle.std.specs.Prelude.{◌≡◌, ℕ, ◌+◌, ◌*◌, ◌≤◌, get_or, ◌<◌, Bool, true, ◌&&◌, nat_le, List, [], ◌∷◌, ◌++◌, length, take, drop}
use Rattle.charref.specs.declared.entries.Entity.{Entity}
use Rattle.charref.specs.Reference.{Entry, is_key}
use Rattle.charref.specs.Table.{entry, is_inside}
use Rattle.charref.specs.Flat.{is_one_or_two, flat_characters, flat_entry}

-- The bytes begin with the form of no value that passes.
abbrev pub BeginsWithNone : {A : Type 0} → (A → Bool) → (A → List ℕ) → List ℕ → Type 0
BeginsWithNone {A} test form bytes = (x : A) (rest : List ℕ) → test x ≡ true → bytes ≡ form x ++ rest → ⊥

-- The bytes begin with this form, and so many of them are its own.
pub record BeginsWith (form bytes : List ℕ) (count : ℕ) : Type 0 where
  pub within : count ≤ length bytes
  pub is : bytes ≡ form ++ drop count bytes

-- the byte after a key, which no key has
abbrev pub is_count : ℕ → Bool
is_count byte = nat_le byte 2

-- whether the bytes end, or begin with a count
abbrev pub ends_key : List ℕ → Bool
ends_key [] = true
ends_key (byte ∷ rest) = is_count byte

-- The first bytes, so many, are a key, and the only one after which the bytes end or a count comes.
pub record IsOnlyKey (bytes : List ℕ) (size : ℕ) : Type 0 where
  pub within : size ≤ length bytes
  pub passing : is_key (take size bytes) ≡ true
  pub only : (key rest : List ℕ) → is_key key ≡ true → ends_key rest ≡ true → bytes ≡ key ++ rest → length key ≡ size

-- There is none.
abbrev pub HasNoKey : List ℕ → Type 0
HasNoKey bytes = (key rest : List ℕ) → is_key key ≡ true → ends_key rest ≡ true → bytes ≡ key ++ rest → ⊥

abbrev pub is_table_entry : Entry → Bool
is_table_entry e = is_key e.key && is_one_or_two e.stands_for

-- An entry of a text: its key, which is not empty, is inside it, and one or two characters are after the key.
pub record IsEntity (text : List ℕ) (entity : Entity) : Type 0 where
  pub some : entity.start < entity.end
  pub inside : is_inside text entity ≡ true
  pub passing : is_one_or_two (entry text entity).stands_for ≡ true
  pub rest : List ℕ
  pub stands : drop entity.end text ≡ flat_characters (entry text entity).stands_for ++ rest

abbrev pub entity_to : ℕ → ℕ → Entity
entity_to start end = record { start = start; end = end }

-- where the entry after one whose key ends here begins: a byte that counts its characters, and four bytes for each, are between
abbrev pub next_start : List ℕ → ℕ → ℕ
next_start text end = end + 1 + 4 * get_or text end 0

-- An entry stands in the text, its key from this byte up to that. The key has two bytes or more, and one or two characters are after it.
pub record IsEntryTo (text : List ℕ) (start end : ℕ) : Type 0 where
  pub passing : is_table_entry (entry text (entity_to start end)) ≡ true
  pub is_entity : IsEntity text (entity_to start end)
  pub some : start + 2 ≤ end
  pub more : end + 5 ≤ next_start text end
  pub within : next_start text end ≤ length text
  pub is : drop start text ≡ flat_entry (entry text (entity_to start end)) ++ drop (next_start text end) text
