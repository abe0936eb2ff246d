-- Worked references, tables and flat forms.
use Rattle.std.specs.Prelude.{◌≡◌, ℕ, true, false, refl, List, [], ◌∷◌, ◌++◌, codes, Some, None, Ok, Err}
use Rattle.std.proofs.Math.Utf8.{encode}
use Rattle.names.specs.declared.error.ErrorCode.TheVariants as code
use Rattle.names.specs.declared.refusal.TableFault.TheVariants as fault
use Rattle.names.specs.Placed.{placed, error}
use Rattle.serde_json.specs.Data.{Data, number, string, array, object, Items, no_items, item, Members, no_members, member, unsigned}
use Rattle.charref.specs.Reference.{Entities, IsReference, named, kept, unknown, decimal, hexadecimal, no_digits, alone}
use Rattle.charref.specs.Reading.{table_of_members}
use Rattle.charref.specs.Flat.{flat_of}

abbrev not_table : Entities
not_table = record { key = codes "&not"; stands_for = 172 ∷ [] } ∷ record { key = codes "&not;"; stands_for = 172 ∷ [] }
    ∷ record { key = codes "&notin;"; stands_for = 8713 ∷ [] } ∷ []

abbrev number_table : Entities
number_table = record { key = codes "&a"; stands_for = 49 ∷ [] } ∷ record { key = codes "&aaa"; stands_for = 51 ∷ [] } ∷ []

row_not : IsReference not_table false (placed 4 (codes "it; &notin;"))
    (record { text = placed 0 (codes "&not"); gives = 172 ∷ []; errors = error code.MissingSemicolonAfterCharacterReference 0 ∷ [] })
row_not = named (record { ch = 38; at = 0 }) (placed 1 (codes "not")) (record { key = codes "&not"; stands_for = 172 ∷ [] }) refl refl refl refl refl refl

row_notin : IsReference not_table false [] (record { text = placed 9 (codes "&notin;"); gives = 8713 ∷ []; errors = [] })
row_notin = named (record { ch = 38; at = 9 }) (placed 10 (codes "notin;")) (record { key = codes "&notin;"; stands_for = 8713 ∷ [] })
    refl refl refl refl refl refl

row_in_value : IsReference not_table true (placed 3 (codes "not=1")) (record { text = placed 2 (codes "&"); gives = 38 ∷ []; errors = [] })
row_in_value = kept (record { ch = 38; at = 2 }) (record { key = codes "&not"; stands_for = 172 ∷ [] }) refl refl refl refl refl

row_unknown : IsReference not_table false (placed 1 (codes "nox;"))
    (record { text = placed 0 (codes "&"); gives = 38 ∷ []; errors = error code.UnknownNamedCharacterReference 0 ∷ [] })
row_unknown = unknown (record { ch = 38; at = 0 }) refl refl refl refl

row_aab : IsReference number_table false (placed 2 (codes "ab"))
    (record { text = placed 0 (codes "&a"); gives = 49 ∷ []; errors = error code.MissingSemicolonAfterCharacterReference 0 ∷ [] })
row_aab = named (record { ch = 38; at = 0 }) (placed 1 (codes "a")) (record { key = codes "&a"; stands_for = 49 ∷ [] }) refl refl refl refl refl refl

row_null : IsReference [] false (placed 4 (codes "&#x80;&#xD800;&#65"))
    (record { text = placed 0 (codes "&#0;"); gives = 0xFFFD ∷ []; errors = error code.NullCharacterReference 0 ∷ [] })
row_null = decimal (placed 0 (codes "&#")) (placed 2 (codes "0")) (placed 3 (codes ";")) refl refl (record { passes_none = refl; stops_after = refl }) refl refl

row_mapped : IsReference [] false (placed 10 (codes "&#xD800;&#65"))
    (record { text = placed 4 (codes "&#x80;"); gives = 0x20AC ∷ []; errors = error code.ControlCharacterReference 4 ∷ [] })
row_mapped = hexadecimal (placed 4 (codes "&#x")) (placed 7 (codes "80")) (placed 9 (codes ";")) refl refl
    (record { passes_none = refl; stops_after = refl }) refl refl

row_surrogate : IsReference [] false (placed 18 (codes "&#65"))
    (record { text = placed 10 (codes "&#XD800;"); gives = 0xFFFD ∷ []; errors = error code.SurrogateCharacterReference 10 ∷ [] })
row_surrogate = hexadecimal (placed 10 (codes "&#X")) (placed 13 (codes "D800")) (placed 17 (codes ";")) refl refl
    (record { passes_none = refl; stops_after = refl }) refl refl

row_cut_off : IsReference [] false []
    (record { text = placed 18 (codes "&#65"); gives = codes "A"; errors = error code.MissingSemicolonAfterCharacterReference 18 ∷ [] })
row_cut_off = decimal (placed 18 (codes "&#")) (placed 20 (codes "65")) [] refl refl (record { passes_none = refl; stops_after = refl }) refl refl

row_no_digits : IsReference [] false (placed 1 (codes "#xg"))
    (record { text = placed 0 (codes "&"); gives = 38 ∷ []; errors = error code.AbsenceOfDigitsInNumericCharacterReference 0 ∷ [] })
row_no_digits = no_digits (record { ch = 38; at = 0 }) refl refl refl refl

row_alone : IsReference not_table false (placed 1 (codes " not;")) (record { text = placed 0 (codes "&"); gives = 38 ∷ []; errors = [] })
row_alone = alone (record { ch = 38; at = 0 }) refl refl refl

-- tables

abbrev one : Data → Members
one value = member (codes "&a") value no_members

abbrev entry : Items → List ℕ → Data
entry ds text = object (member (codes "characters") (string text) (member (codes "codepoints") (array ds) no_members))

abbrev numbered_item : ℕ → Items
numbered_item n = item (number (unsigned n)) no_items

row_table : table_of_members (Some (one (entry (numbered_item 97) (codes "a")))) ≡ Ok (record { key = codes "&a"; stands_for = 97 ∷ [] } ∷ [])
unfolding encode
row_table = refl

row_shape_of_whole : table_of_members None ≡ Err fault.Shape
row_shape_of_whole = refl

row_key : table_of_members (Some (member (codes "a") (number (unsigned 1)) no_members)) ≡ Err fault.Key
row_key = refl

row_no_name : table_of_members (Some (member (codes "&;") (number (unsigned 1)) no_members)) ≡ Err fault.Key
row_no_name = refl

row_shape : table_of_members (Some (one (number (unsigned 1)))) ≡ Err fault.Shape
row_shape = refl

row_no_characters : table_of_members (Some (one (object (member (codes "codepoints") (array (numbered_item 97)) no_members)))) ≡ Err fault.Shape
row_no_characters = refl

row_of_surrogate : table_of_members (Some (one (entry (numbered_item 55296) (codes "a")))) ≡ Err fault.Codepoints
row_of_surrogate = refl

row_of_nothing : table_of_members (Some (one (entry no_items (codes "a")))) ≡ Err fault.Codepoints
row_of_nothing = refl

row_of_text : table_of_members (Some (one (entry (item (string (codes "65")) no_items) (codes "a")))) ≡ Err fault.Codepoints
row_of_text = refl

row_characters : table_of_members (Some (one (entry (numbered_item 97) (codes "b")))) ≡ Err fault.Characters
unfolding encode
row_characters = refl

row_of_order : table_of_members (Some (member (codes "&b") (number (unsigned 1)) (member (codes "a") (number (unsigned 2)) no_members))) ≡ Err fault.Shape
row_of_order = refl

-- flat forms

row_flat : flat_of (record { key = codes "&Lt;"; stands_for = 8810 ∷ [] } ∷ record { key = codes "&nvlt;"; stands_for = 60 ∷ 8402 ∷ [] } ∷ [])
    ≡ 1 ∷ codes "&Lt;" ++ 1 ∷ 106 ∷ 34 ∷ 0 ∷ 0 ∷ codes "&nvlt;" ++ 2 ∷ 60 ∷ 0 ∷ 0 ∷ 0 ∷ 210 ∷ 32 ∷ 0 ∷ 0 ∷ []
row_flat = refl

row_flat_of_nothing : flat_of [] ≡ 1 ∷ []
row_flat_of_nothing = refl
