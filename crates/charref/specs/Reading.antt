-- The table of a JSON text, or the first fault of the text, entry by entry in the order of the keys' bytes.
use Rattle.std.specs.Prelude.{◌≡◌, ℕ, Bool, not, ◌&&◌, ◌==◌, nat_le, if◌then◌else◌, List, [], ◌∷◌, codes, Option, Some, None, option_map, option_and_then}
use Rattle.std.specs.Prelude.{Result, Ok, Err, bytes_eq, encode_utf8_all, ◌⊎◌}
use Rattle.serde_json.specs.Data.{Data, Items, no_items, item, Members, no_members, member}
use Rattle.serde_json.specs.Find.{get, as_number, as_str, as_array, as_object, as_u64}
use Rattle.serde_json.specs.Read as json
use Rattle.names.specs.declared.refusal.Refusal.{Refusal}
use Rattle.names.specs.declared.refusal.Refusal.TheVariants.{BadTable, Memory}
use Rattle.names.specs.declared.refusal.TableFault.{TableFault}
use Rattle.names.specs.declared.refusal.TableFault.TheVariants.{Json, Shape, Key, Codepoints, Characters}
use Rattle.charref.specs.Reference.{Entry, Entities, is_key, is_surrogate}

-- the character of a number in digits alone, other than NUL
abbrev pub is_character : ℕ → Bool
is_character n = not (n == 0) && nat_le n 0x10FFFF && not (is_surrogate n)

abbrev pub codepoint : Data → Option ℕ
codepoint d = option_and_then (λ n. if is_character n then Some n else None) (option_and_then as_u64 (as_number d))

-- the characters of a list of one or two numbers
abbrev pub codepoints : Items → Option (List ℕ)
codepoints no_items = None
codepoints (item d no_items) = option_map (λ c. c ∷ []) (codepoint d)
codepoints (item d (item e no_items)) = option_and_then (λ c. option_map (λ b. c ∷ b ∷ []) (codepoint e)) (codepoint d)
codepoints (item d (item e (item f ds))) = None

-- the two fields of an entry, if it is an object that has them as a list and a text
abbrev pub fields : Data → Option (Items × List ℕ)
fields value =
    option_and_then (λ ds. option_map (λ s. (ds, s)) (option_and_then as_str (get (codes "characters") value)))
    (option_and_then as_array (get (codes "codepoints") value))

-- the entry of a key and its value
abbrev pub entry_of_characters : List ℕ → List ℕ → Option (List ℕ) → Result Entry TableFault
entry_of_characters key text None = Err Codepoints
entry_of_characters key text (Some cs) = if bytes_eq text (encode_utf8_all cs) then Ok (record { key = key; stands_for = cs }) else Err Characters

abbrev pub entry_of_fields : List ℕ → Option (Items × List ℕ) → Result Entry TableFault
entry_of_fields key None = Err Shape
entry_of_fields key (Some pair) = entry_of_characters key pair.1 (codepoints pair.0)

abbrev pub entry_of_json : List ℕ → Data → Result Entry TableFault
entry_of_json key value = if is_key key then entry_of_fields key (fields value) else Err Key

-- an entry and those after it, or the first fault
abbrev pub and_entry : Result Entry TableFault → Result Entities TableFault → Result Entities TableFault
and_entry (Err cause) others = Err cause
and_entry (Ok entry) (Err cause) = Err cause
and_entry (Ok entry) (Ok entries) = Ok (entry ∷ entries)

abbrev pub entities_of : Members → Result Entities TableFault
entities_of no_members = Ok []
entities_of (member key value ms) = and_entry (entry_of_json key value) (entities_of ms)

abbrev pub table_of_members : Option Members → Result Entities TableFault
table_of_members None = Err Shape
table_of_members (Some ms) = entities_of ms

abbrev pub table_of_value : Option Data → Result Entities TableFault
table_of_value None = Err Json
table_of_value (Some d) = table_of_members (as_object d)

-- the table of a text, which is read as JSON first
abbrev pub table_of_json : List ℕ → Result Entities TableFault
table_of_json text = table_of_value (json.read text)

-- a refusal says that memory ran out, or gives the first fault
abbrev pub IsRefusedWith : {A : Type 0} → Result A TableFault → Refusal → Type 0
IsRefusedWith (Ok found) refusal = refusal ≡ Memory
IsRefusedWith (Err cause) refusal = (refusal ≡ Memory) ⊎ (refusal ≡ BadTable cause)
