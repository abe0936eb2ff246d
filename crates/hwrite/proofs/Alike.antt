-- A tree whose names are of a table reads the same by the texts of the table and by a spelling of all numbers.
use Rattle.hwrite.proofs.Vocabulary.{◌≡◌, ℕ, List, [], ◌∷◌, length, refl, true, arith, nat_lt, Texts, spelling, Forest, mapped, map, IsOf, text_of, Attribute, What, element, none, tree, AttributesAreOf, NodeIsOf, AreOf, mapped_attribute, mapped_what}

name-alike : (names : Texts) (id : ℕ) → IsOf names id → text_of names id ≡ spelling names id
name-alike names id is = let within : nat_lt id (length names) ≡ true = grind arith in rw within refl

attributes-alike : (names : Texts) (attrs : List (Attribute ℕ)) → AttributesAreOf names attrs
    → map (mapped_attribute (text_of names)) attrs ≡ map (mapped_attribute (spelling names)) attrs
attributes-alike names [] are = refl
attributes-alike names (a ∷ others) (is, are) = grind (arith, name-alike names a.0 is, attributes-alike names others are)

what-alike : (names : Texts) (w : What ℕ) → NodeIsOf names w → mapped_what (text_of names) w ≡ mapped_what (spelling names) w
what-alike names (element name attrs) (is, are) = grind (arith, name-alike names name is, attributes-alike names attrs are)
what-alike names other is = refl

pub mapped-alike : (names : Texts) (f : Forest ℕ) → AreOf names f → mapped (text_of names) f ≡ mapped (spelling names) f
mapped-alike names none are = refl
mapped-alike names (tree b w kids rest) (is, of_kids, of_rest) =
    grind (arith, what-alike names w is, mapped-alike names kids of_kids, mapped-alike names rest of_rest)
