-- What a reference is written with.
use Rattle.htag.proofs.Vocabulary.{◌≡◌, ℕ, Bool, true, false, not, ◌||◌, eqb, List, [], ◌∷◌, ◌++◌, refl, ap, ◌∙◌, arith, nat_tests, codes, bytes_eq, list_all, to_ascii_lowercase, Placed, characters, lowered, all, is_alphanumeric, and_parts, and_both, Entities, Piece, IsReference, IsTable, longest_among, all-append, is_odd, all-characters, bytes_eq-true, is_digit, Base, Decimal, Hexadecimal, ReferenceState, is_digit_of, IsHeldReference, IsSign, is_hex_digit, is_key, is_key_name, is_empty_list, is_semicolon_if_any, is_key_of}
use Rattle.htag.proofs.Pieces.{all_imp, is_even, is_quiet, quiet_run, quiet_odd}

quiet_digit : (base : Base) (c : ℕ) → is_digit_of base c ≡ true → is_quiet c ≡ true
quiet_digit Decimal c h = let k : is_digit c ≡ true = h in grind (arith, nat_tests)
quiet_digit Hexadecimal c h = let k : is_hex_digit c ≡ true = h in grind (arith, nat_tests)

quiet_digits : (base : Base) (text : List Placed) → all (is_digit_of base) text ≡ true → all is_quiet text ≡ true
quiet_digits base text h = all_imp (is_digit_of base) is_quiet (quiet_digit base) text h

quiet_sign : (base : Base) (text : List Placed) → IsSign base text → all is_quiet text ≡ true
quiet_sign _ _ (IsSign.number_sign p e) = rw e refl
quiet_sign _ _ (IsSign.small_x p q e f) = rw (e, f) refl
quiet_sign _ _ (IsSign.capital_x p q e f) = rw (e, f) refl

-- what a walk through a reference was handed
pub quiet_held : (table : Entities) (in_value : Bool) (state : ReferenceState) (text : List Placed) → IsHeldReference table in_value state text
    → all is_quiet text ≡ true
quiet_held table in_value _ _ (IsHeldReference.in_name search text read run goes) = quiet_run text run
quiet_held table in_value _ _ (IsHeldReference.after_sign text sign) = quiet_sign Decimal text sign
quiet_held table in_value _ _ (IsHeldReference.after_x text sign) = quiet_sign Hexadecimal text sign
quiet_held table in_value _ _ (IsHeldReference.in_number base value sign digits text is is_sign begins are value_is) =
    ap (all is_quiet) is ∙ all-append is_quiet sign digits (quiet_sign base sign is_sign) (quiet_digits base digits are)

-- no character of a reference is a fault in a value
abbrev pub not_odd : ℕ → Bool
not_odd c = not (is_odd c)

pub even_of : (text : List Placed) → all not_odd text ≡ true → is_even text
even_of [] h = refl
even_of (p ∷ ps) h = let parts = and_parts (not_odd p.ch) (all not_odd ps) h in let even : is_odd p.ch ≡ false = grind (arith, nat_tests) in
    rw even (even_of ps parts.1)

letter_even : (c : ℕ) → is_alphanumeric c ≡ true → not_odd c ≡ true
letter_even c h = grind (arith, nat_tests)

quiet_even : (text : List Placed) → all is_quiet text ≡ true → all not_odd text ≡ true
quiet_even text h = all_imp is_quiet not_odd (λ c quiet. ap not (quiet_odd c quiet)) text h

-- a key's characters
key_name_even : (cs : List ℕ) → is_key_name cs ≡ true → list_all not_odd cs ≡ true
key_name_even [] h = refl
key_name_even (c ∷ cs) h = let parts = and_parts (is_alphanumeric c) (is_empty_list cs || bytes_eq cs (codes ";") || is_key_name cs) h in
    and_both (not_odd c) (list_all not_odd cs) (letter_even c parts.0) (others cs (key_name_even cs) parts.1) where
      others : (ds : List ℕ) → (is_key_name ds ≡ true → list_all not_odd ds ≡ true) → (is_empty_list ds || bytes_eq ds (codes ";") || is_key_name ds) ≡ true
          → list_all not_odd ds ≡ true
      others [] then e = refl
      others (d ∷ ds) then e = by (bytes_eq (d ∷ ds) (codes ";")) refl e where
        by : (b : Bool) → bytes_eq (d ∷ ds) (codes ";") ≡ b → (b || is_key_name (d ∷ ds)) ≡ true → list_all not_odd (d ∷ ds) ≡ true
        by true k e = ap (list_all not_odd) (bytes_eq-true (d ∷ ds) (codes ";") k)
        by false k e = then e

key_even : (cs : List ℕ) → is_key cs ≡ true → list_all not_odd cs ≡ true
key_even [] h = refl
key_even (c ∷ cs) h = let parts = and_parts (eqb c 38) (is_key_name cs) h in let amp : not_odd c ≡ true = grind (arith, nat_tests) in
    and_both (not_odd c) (list_all not_odd cs) amp (key_name_even cs parts.1)

semicolon_even : (close rest : List Placed) → is_semicolon_if_any close rest ≡ true → all not_odd close ≡ true
semicolon_even [] rest h = refl
semicolon_even (p ∷ []) rest h = grind (arith, nat_tests)
semicolon_even (p ∷ q ∷ ps) rest h = let parts = and_parts (eqb p.ch 59) false h in absurd (cc (parts.1))

lowered_even : (text : List Placed) (cs : List ℕ) → lowered text ≡ cs → list_all not_odd cs ≡ true → all not_odd text ≡ true
lowered_even [] cs is h = refl
lowered_even (p ∷ ps) cs is h = let parts = and_parts (not_odd (to_ascii_lowercase p.ch)) (list_all not_odd (lowered ps)) (ap (list_all not_odd) is ∙ h) in
    let one : not_odd p.ch ≡ true = grind (arith, nat_tests) in
    and_both (not_odd p.ch) (all not_odd ps) one (lowered_even ps (lowered ps) refl parts.1)

pub alone_even : (amp : Placed) → amp.ch ≡ 38 → is_even (amp ∷ [])
alone_even amp is = even_of (amp ∷ []) (all-characters not_odd (amp ∷ []) ∙ ap (λ (c : ℕ). list_all not_odd (c ∷ [])) is)

passes : (test : ℕ → Bool) (text : List Placed) → all (λ c. not (not (test c))) text ≡ true → all test text ≡ true
passes test [] h = refl
passes test (p ∷ ps) h = grind (arith, nat_tests, passes test ps)

pub reference_even : (table : Entities) (in_value : Bool) (rest : List Placed) (piece : Piece) → IsTable table → IsReference table in_value rest piece
    → is_even piece.text
reference_even table in_value rest piece is_table (IsReference.named amp name entry is letter found key kept e) =
    let among = longest_among table (characters (amp ∷ name ++ rest)) entry found in
    rw e (even_of (amp ∷ name)
    (all-characters not_odd (amp ∷ name) ∙ ap (list_all not_odd) key ∙ key_even entry.key (is_key_of table among.0 entry is_table among.1)))
reference_even table in_value rest piece is_table (IsReference.kept amp entry is letter found kept e) = rw e (alone_even amp is)
reference_even table in_value rest piece is_table (IsReference.unknown amp is letter none e) = rw e (alone_even amp is)
reference_even table in_value rest piece is_table (IsReference.decimal opening digits close is digit runs closes e) = rw e (even_of (opening ++ digits ++ close)
    (all-append not_odd (opening ++ digits) close (all-append not_odd opening digits (all-characters not_odd opening ∙ ap (list_all not_odd) is)
    (quiet_even digits (quiet_digits Decimal digits (passes is_digit digits runs.passes_none)))) (semicolon_even close rest closes)))
reference_even table in_value rest piece is_table (IsReference.hexadecimal opening digits close is digit runs closes e) = rw e (even_of
    (opening ++ digits ++ close) (all-append not_odd (opening ++ digits) close (all-append not_odd opening digits (lowered_even opening (codes "&#x") is refl)
    (quiet_even digits (quiet_digits Hexadecimal digits (passes is_hex_digit digits runs.passes_none)))) (semicolon_even close rest closes)))
reference_even table in_value rest piece is_table (IsReference.no_digits amp is sign none e) = rw e (alone_even amp is)
reference_even table in_value rest piece is_table (IsReference.alone amp is none e) = rw e (alone_even amp is)
