-- Names and attributes that are plain.
use Rattle.hserialize.proofs.Names.{◌≡◌, ℕ, ◌<◌, Bool, true, not, List, [], ◌∷◌, length, map, refl, sym, and_parts, Decides-eqb, ◌&&◌, ◌||◌, nat_eq, suc, Texts, AreNames, text_of, names_differ, are_plain_attributes, ◌≤◌, arith, get_or_past, bytes_eq-Decides, bytes_eq, list_all, list_any, are_clean, names_end, Attribute, mapped_attribute, is_plain_name, has_plain_name, ArePlainTo, le-max_left, le-max_right, nat_tests}

-- names of a table are compared by their numbers
same-name : (names : Texts) (i j : ℕ) → AreNames names → i < length names → j < length names → bytes_eq (text_of names i) (text_of names j) ≡ nat_eq j i
same-name names i j table h h' =
    grind (arith, nat_tests, bytes_eq-Decides (text_of names i) (text_of names j), Decides-eqb j i, table.distinct i j h h')

-- a plain name is in the table, since what is beyond it has no text
plain-within : (names : Texts) (i : ℕ) → is_plain_name (text_of names i) ≡ true → i < length names
plain-within names i h = grind (arith, get_or_past names i [])

has-name : (names : Texts) (i : ℕ) (attrs : List (Attribute ℕ)) → AreNames names → i < length names → list_all (has_plain_name (text_of names)) attrs ≡ true
    → list_any (λ b. nat_eq b.0 i) attrs ≡ list_any (λ b. bytes_eq (text_of names i) b.0) (map (mapped_attribute (text_of names)) attrs)
has-name names i [] table h plain = refl
has-name names i (a ∷ attrs) table h plain = let (one, others) = and_parts _ _ plain in
    λ k. sym (same-name names i a.0 table h (plain-within names a.0 one)) k || has-name names i attrs table h others k

joined : (name names clean cleans same same_text differ others : Bool) → ((names && cleans) && differ) ≡ others
    → (name ≡ true → names ≡ true → same ≡ same_text)
    → (((name && names) && (clean && cleans)) && (not same && differ)) ≡ (name && clean && not same_text && others)
joined name names clean cleans same same_text differ others law alike = grind arith

-- attributes are plain if their names are, their values are clean, and the names differ
pub plain-are : (names : Texts) (attrs : List (Attribute ℕ)) → AreNames names → ((list_all (has_plain_name (text_of names)) attrs && are_clean attrs)
    && names_differ nat_eq attrs) ≡ are_plain_attributes (map (mapped_attribute (text_of names)) attrs)
plain-are names [] table = refl
plain-are names (a ∷ attrs) table = joined _ _ _ _ _ _ _ _ (plain-are names attrs table)
    (λ name all. has-name names a.0 attrs table (plain-within names a.0 name) all)

-- attributes have plain names if those end no later than the plain ones
pub plain-to : (names : Texts) (end : ℕ) (attrs : List (Attribute ℕ)) → ArePlainTo (text_of names) end → names_end attrs ≤ end
    → true ≡ list_all (has_plain_name (text_of names)) attrs
plain-to names end [] plain h = refl
plain-to names end (a ∷ attrs) plain h = let first = le-max_left (suc a.0) (names_end attrs) in let rest = le-max_right (suc a.0) (names_end attrs) in
    λ k. sym (plain a.0 (omega (arith, first, h))) k && plain-to names end attrs plain (omega (arith, rest, h)) k
