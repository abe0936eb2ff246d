-- What a walk has taken after the `&`, by its state.
use Rattle.std.specs.Prelude.{◌≡◌, ℕ, Bool, true, false, nat_le, min, if◌then◌else◌, List, [], ◌∷◌, ◌++◌}
use Rattle.names.specs.declared.placed.Placed.{Placed}
use Rattle.names.specs.Placed.{characters, begins, is_empty, all, is_alphanumeric}
use Rattle.charref.specs.declared.number.Base.{Base}
use Rattle.charref.specs.declared.number.Base.TheVariants.{Decimal, Hexadecimal}
use Rattle.charref.specs.declared.search.Search.{Search}
use Rattle.charref.specs.declared.reference_state.ReferenceState.{ReferenceState}
use Rattle.charref.specs.declared.reference_state.ReferenceState.TheVariants.{Name, Sign, Number}
use Rattle.charref.specs.Reference.{Entities, number_from}
use Rattle.charref.specs.Number.{is_digit_of, radix}
use Rattle.charref.specs.Table.{EntryGoesOn, SearchHasRead, is_search_within}

-- whether a state's search stays within a table with this many entries, and its number within what is stored
abbrev pub is_within : ReferenceState → ℕ → Bool
is_within (Name search) count = is_search_within search count
is_within (Sign base) count = true
is_within (Number base value) count = nat_le value 0x110000

-- whether digits of a number have been read
abbrev pub is_number : ReferenceState → Bool
is_number (Name search) = false
is_number (Sign base) = false
is_number (Number base value) = true

-- what of the text taken may be read again: nothing of a number, which is a reference whatever follows
abbrev pub held_characters : ReferenceState → List Placed → List Placed
held_characters state text = if is_number state then [] else text

-- the bytes of a key that begins with `&` and this text
abbrev pub key_bytes : List Placed → List ℕ
key_bytes text = 38 ∷ characters text

-- the text before the digits of a number
pub data IsSign : Base → List Placed → Type 0 where
  number_sign : (p : Placed) → p.ch ≡ 35 → IsSign Decimal (p ∷ [])
  small_x : (p q : Placed) → p.ch ≡ 35 → q.ch ≡ 120 → IsSign Hexadecimal (p ∷ q ∷ [])
  capital_x : (p q : Placed) → p.ch ≡ 35 → q.ch ≡ 88 → IsSign Hexadecimal (p ∷ q ∷ [])

-- The text is what a walk in this state has taken. In a value, a whole key waits for the next character.
pub data IsHeldReference (table : Entities) (in_value : Bool) : ReferenceState → List Placed → Type 0 where
  in_name : (search : Search) (text : List Placed) → SearchHasRead search table (key_bytes text) → all is_alphanumeric text ≡ true
      → (in_value ≡ false → is_empty text ≡ false → EntryGoesOn table (key_bytes text)) → IsHeldReference table in_value (Name search) text
  after_sign : (text : List Placed) → IsSign Decimal text → IsHeldReference table in_value (Sign Decimal) text
  after_x : (text : List Placed) → IsSign Hexadecimal text → IsHeldReference table in_value (Sign Hexadecimal) text
  in_number : (base : Base) (value : ℕ) (sign digits text : List Placed) → text ≡ sign ++ digits → IsSign base sign
      → begins (is_digit_of base) digits ≡ true → all (is_digit_of base) digits ≡ true
      → value ≡ min (number_from 0 (radix base) digits) 0x110000 → IsHeldReference table in_value (Number base value) text
