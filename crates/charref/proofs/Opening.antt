-- A walk outside of a value goes on only while what it has taken may become a reference.
use Rattle.charref.proofs.Names.{arith, ◌≡◌, ℕ, true, false, List, [], ◌∷◌, ◌++◌, length, drop, Some, refl, sym, ap, ◌∙◌, append_assoc, append-nil, map-append, and_parts, slice_get_within, get_or_from_slice_get, Placed, characters, all, is_empty, is_alphanumeric, Base, Decimal, Hexadecimal, ReferenceState, number_sign, Number, Walk, Entities, IsTable, longest, named, named_piece, EntryGoesOn, key_bytes, IsSign, IsHeldReference, in_name, after_sign, after_x, in_number, IsOpenReference, WalkHasTaken, placed, length-append, take_all}
use Rattle.charref.proofs.Core.{has_found}
use Rattle.charref.proofs.Naming.{rest_of_key, characters-placed, some_placed}
use Rattle.charref.proofs.Numbers.{first_digit, number_closed}

at_once : ℕ → Placed
at_once c = record { ch = c; at = 0 }

-- what is open after one character more is open before it
open_before : (table : Entities) (amp : Placed) (text : List Placed) (p : Placed) → IsOpenReference table amp (text ++ p ∷ []) → IsOpenReference table amp text
open_before table amp text p open' = record {
  more = p ∷ open'.more;
  rest = open'.rest;
  piece = open'.piece;
  is_more = refl;
  text_is = open'.text_is ∙ ap (λ xs. amp ∷ xs) (append_assoc text (p ∷ []) open'.more);
  is_reference = open'.is_reference;
}

open_number : (table : Entities) (amp : Placed) (base : Base) (value : ℕ) (text : List Placed) → amp.ch ≡ 38
    → IsHeldReference table false (Number base value) text → IsOpenReference table amp text
unfolding at_once
open_number table amp base value text is held = record {
  more = at_once 59 ∷ [];
  rest = _;
  piece = _;
  is_more = refl;
  text_is = ap (λ xs. amp ∷ xs) (take_all _ (text ++ at_once 59 ∷ []) (omega arith));
  is_reference = (number_closed table false base value text [] (at_once 59) held refl).reads amp is;
}

open_sign : (table : Entities) (amp : Placed) (base : Base) (text : List Placed) → amp.ch ≡ 38 → IsSign base text → IsOpenReference table amp text
unfolding at_once
open_sign table amp Decimal text is sign = open_before table amp text (at_once 49)
    (open_number table amp Decimal 1 (text ++ at_once 49 ∷ []) is (first_digit table false Decimal text (at_once 49) 1 sign refl refl (omega arith)))
open_sign table amp Hexadecimal text is sign = open_before table amp text (at_once 49)
    (open_number table amp Hexadecimal 1 (text ++ at_once 49 ∷ []) is (first_digit table false Hexadecimal text (at_once 49) 1 sign refl refl (omega arith)))

-- a key that begins with the text, read to its end
open_key : (table : Entities) (amp q : Placed) (qs : List Placed) → IsTable table → amp.ch ≡ 38 → is_alphanumeric q.ch ≡ true
    → EntryGoesOn table (key_bytes (q ∷ qs)) → IsOpenReference table amp (q ∷ qs)
open_key table amp q qs is_table is letter goes = let text : List Placed = q ∷ qs in let extra : List ℕ = drop (length (key_bytes text)) goes.entry.key in
    let key-is : goes.entry.key ≡ key_bytes text ++ extra = rest_of_key goes.entry.key (key_bytes text) goes.opens in
    let all-is = map-append (λ (p : Placed). p.ch) text (placed 0 extra) ∙ ap (λ cs. characters text ++ cs) (characters-placed 0 extra) in
    let whole-is = ap (λ c. c ∷ characters (text ++ placed 0 extra)) is ∙ ap (λ cs. 38 ∷ cs) all-is ∙ sym key-is in
    let found : longest table goes.entry.key ≡ Some goes.entry = has_found table goes.entry is_table
    (goes.index, slice_get_within table goes.index goes.entry goes.stands, get_or_from_slice_get table goes.index goes.entry goes.entry goes.stands) in
    record {
      more = placed 0 extra;
      rest = [];
      piece = named_piece (amp ∷ (text ++ placed 0 extra)) goes.entry;
      is_more = some_placed 0 extra (omega (arith, ap length key-is, length-append (key_bytes text) extra, goes.is_longer));
      text_is = refl;
      is_reference = named amp (text ++ placed 0 extra) goes.entry is letter
          (ap (λ xs. longest table (characters (amp ∷ xs))) (append-nil (text ++ placed 0 extra)) ∙ ap (longest table) whole-is ∙ found) whole-is refl refl;
    }

open_name : (table : Entities) (amp : Placed) (text : List Placed) → IsTable table → amp.ch ≡ 38 → all is_alphanumeric text ≡ true
    → (is_empty text ≡ false → EntryGoesOn table (key_bytes text)) → IsOpenReference table amp text
unfolding at_once
open_name table amp [] is_table is run goes =
    open_before table amp [] (at_once 35) (open_sign table amp Decimal (at_once 35 ∷ []) is (number_sign (at_once 35) refl))
open_name table amp (q ∷ qs) is_table is run goes = open_key table amp q qs is_table is (and_parts _ _ run).0 (goes refl)

open_held : (table : Entities) (amp : Placed) (state : ReferenceState) (text : List Placed) → IsTable table → amp.ch ≡ 38
    → IsHeldReference table false state text → IsOpenReference table amp text
open_held table amp _ _ is_table is (in_name search text read run goes) = open_name table amp text is_table is run (goes refl)
open_held table amp _ _ is_table is (after_sign text sign) = open_sign table amp Decimal text is sign
open_held table amp _ _ is_table is (after_x text sign) = open_sign table amp Hexadecimal text is sign
open_held table amp _ _ is_table is (in_number base value sign digits text text-is signs opens run value-is) =
    open_number table amp base value text is (in_number base value sign digits text text-is signs opens run value-is)

pub open_taken : (walk : Walk) (table : Entities) (text : List Placed) (amp : Placed) → IsTable table → WalkHasTaken walk table false text → amp.ch ≡ 38
    → IsOpenReference table amp text
open_taken walk table text amp is_table taken is = open_held table amp walk.state text is_table is taken.held
