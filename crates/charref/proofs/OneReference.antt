-- A text has one reference at most at its front: the one that a function with a case for each production reads.
use Rattle.charref.proofs.Names.{arith, ◌≡◌, ◌⊎◌, inl, inr, ℕ, ◌-◌, Bool, true, false, not, ◌&&◌, ◌||◌, ◌==◌, cond, List, [], ◌∷◌, ◌++◌, length, take, drop, Option, Some, None, refl, sym, ap, ◌∙◌, subst, append_assoc, codes, and_parts, false≢true, nat_tests, length-map, to_ascii_lowercase, begins-append, Placed, UnknownNamedCharacterReference, AbsenceOfDigitsInNumericCharacterReference, characters, begins, stops, all, past, is_digit, is_alphanumeric, error, error_if, Entry, Entities, Piece, longest, is_kept_as_text, is_hex_digit, begins_number, is_semicolon_if_any, named_piece, IsReference, named, kept, unknown, decimal, hexadecimal, no_digits, alone, or-true, drop-append_seam, take-append_seam, not-true, not-false, or_parts, lowered, RunsTo, ampersand, numeric_piece}

-- a run of characters that pass, and what follows it
abbrev pub run : (ℕ → Bool) → List Placed → List Placed
run test [] = []
run test (p ∷ ps) = cond (test p.ch) (p ∷ run test ps) []

abbrev pub after_run : (ℕ → Bool) → List Placed → List Placed
after_run test [] = []
after_run test (p ∷ ps) = cond (test p.ch) (after_run test ps) (p ∷ ps)

run_is : (test : ℕ → Bool) (xs more : List Placed) → all (λ c. not (not (test c))) xs ≡ true → stops (λ c. not (test c)) more ≡ true
    → (run test (xs ++ more) ≡ xs) × (after_run test (xs ++ more) ≡ more)
run_is test [] [] a s = (refl, refl)
run_is test [] (m ∷ ms) a s = let stop : test m.ch ≡ false = not-true _ s in rw stop (refl, refl)
run_is test (x ∷ xs) more a s = let both = and_parts (not (not (test x.ch))) (all (λ c. not (not (test c))) xs) a in
    let on : test x.ch ≡ true = not-false _ (not-true _ both.0) in
    rw on (ap (λ (ys : List Placed). x ∷ ys) (run_is test xs more both.1 s).0, (run_is test xs more both.1 s).1)

abbrev Read : Type 0
Read = Piece × List Placed

-- NUMBERS

abbrev read_close : ℕ → List Placed → List Placed → List Placed → Read
read_close base opening digits [] = (numeric_piece base opening digits [], [])
read_close base opening digits (p ∷ ps) = cond (p.ch == 59) (numeric_piece base opening digits (p ∷ []), ps) (numeric_piece base opening digits [], p ∷ ps)

close_is : (base : ℕ) (opening digits close rest : List Placed) → is_semicolon_if_any close rest ≡ true
    → read_close base opening digits (close ++ rest) ≡ (numeric_piece base opening digits close, rest)
close_is base opening digits [] [] h = refl
close_is base opening digits [] (p ∷ ps) h =
    ap (λ (b : Bool). cond b (numeric_piece base opening digits (p ∷ []), ps) (numeric_piece base opening digits [], p ∷ ps)) (not-true (p.ch == 59) h)
close_is base opening digits (p ∷ []) rest h =
    ap (λ (b : Bool). cond b (numeric_piece base opening digits (p ∷ []), rest) (numeric_piece base opening digits [], p ∷ rest))
    (and_parts (p.ch == 59) true h).0
close_is base opening digits (p ∷ q ∷ qs) rest h = absurd (false≢true (and_parts (p.ch == 59) false h).1)

abbrev read_number : ℕ → List Placed → (ℕ → Bool) → List Placed → Read
read_number base opening test text = read_close base opening (run test text) (after_run test text)

number_is : (base : ℕ) (opening : List Placed) (test : ℕ → Bool) (digits close rest : List Placed) → RunsTo (λ c. not (test c)) digits (close ++ rest)
    → is_semicolon_if_any close rest ≡ true → read_number base opening test (digits ++ (close ++ rest)) ≡ (numeric_piece base opening digits close, rest)
number_is base opening test digits close rest runs semicolon = let k = run_is test digits (close ++ rest) runs.passes_none runs.stops_after in
    ap (λ (xs : List Placed). read_close base opening xs (after_run test (digits ++ (close ++ rest)))) k.0
    ∙ ap (λ (xs : List Placed). read_close base opening digits xs) k.1 ∙ close_is base opening digits close rest semicolon

-- WHAT IS READ

abbrev read_kept : Placed → List Placed → Entry → Bool → Read
read_kept amp text entry true = (ampersand amp [], text)
read_kept amp text entry false = (named_piece (amp ∷ take (length entry.key - 1) text) entry, drop (length entry.key - 1) text)

abbrev read_name : Bool → Placed → List Placed → Option Entry → Read
read_name in_value amp text None = (ampersand amp (error_if (begins (λ c. c == 59) (past is_alphanumeric text)) UnknownNamedCharacterReference amp.at), text)
read_name in_value amp text (Some entry) = read_kept amp text entry (is_kept_as_text in_value entry.key (drop (length entry.key - 1) text))

abbrev read_by : Entities → Bool → Placed → List Placed → Bool → Bool → Bool → Bool → Read
read_by table in_value amp text true hash number digit = read_name in_value amp text (longest table (characters (amp ∷ text)))
read_by table in_value amp text false true true true = read_number 10 (amp ∷ take 1 text) is_digit (drop 1 text)
read_by table in_value amp text false true true false = read_number 16 (amp ∷ take 2 text) is_hex_digit (drop 2 text)
read_by table in_value amp text false true false digit = (ampersand amp (error AbsenceOfDigitsInNumericCharacterReference amp.at ∷ []), text)
read_by table in_value amp text false false number digit = (ampersand amp [], text)

abbrev read : Entities → Bool → List Placed → Read
read table in_value [] = (record { text = []; gives = []; errors = [] }, [])
read table in_value (amp ∷ text) =
    read_by table in_value amp text (begins is_alphanumeric text) (begins (λ c. c == 35) text) (begins_number text) (begins is_digit (drop 1 text))

-- the tests of a text
by_tests : (table : Entities) (in_value : Bool) (amp : Placed) (text : List Placed) (a h n d : Bool) → begins is_alphanumeric text ≡ a
    → begins (λ c. c == 35) text ≡ h → begins_number text ≡ n → begins is_digit (drop 1 text) ≡ d
    → read table in_value (amp ∷ text) ≡ read_by table in_value amp text a h n d
by_tests table in_value amp text a h n d ea eh en ed = λ i. read_by table in_value amp text (ea i) (eh i) (en i) (ed i)

by_name : (table : Entities) (in_value : Bool) (amp : Placed) (text : List Placed) → begins is_alphanumeric text ≡ true
    → read table in_value (amp ∷ text) ≡ read_name in_value amp text (longest table (characters (amp ∷ text)))
by_name table in_value amp text e = by_tests table in_value amp text true _ _ _ e refl refl refl

past_key : (name rest : List Placed) (amp : Placed) (key : List ℕ) → characters (amp ∷ name) ≡ key
    → (drop (length key - 1) (name ++ rest) ≡ rest) × (take (length key - 1) (name ++ rest) ≡ name)
past_key name rest amp key e = let n : length key - 1 ≡ length name = rw (← e) (grind (arith, length-map)) in
    (ap (λ (k : ℕ). drop k (name ++ rest)) n ∙ drop-append_seam name rest, ap (λ (k : ℕ). take k (name ++ rest)) n ∙ take-append_seam name rest)

alone_tests : (rest : List Placed) → begins (λ c. is_alphanumeric c || c == 35) rest ≡ false
    → (begins is_alphanumeric rest ≡ false) × (begins (λ c. c == 35) rest ≡ false)
alone_tests [] h = (refl, refl)
alone_tests (p ∷ ps) h = or_parts (is_alphanumeric p.ch) (p.ch == 35) h

sign_no_letter : (c : ℕ) → (c == 35) ≡ true → is_alphanumeric c ≡ false
sign_no_letter c h = grind (arith, nat_tests)

sign_tests : (rest : List Placed) → begins (λ c. c == 35) rest ≡ true → begins is_alphanumeric rest ≡ false
sign_tests [] h = refl
sign_tests (p ∷ ps) h = sign_no_letter p.ch h

lower_sign : (c : ℕ) → to_ascii_lowercase c ≡ 35 → c ≡ 35
lower_sign c h = grind (arith, nat_tests, h)

lower_x : (c : ℕ) → to_ascii_lowercase c ≡ 120 → ((c == 120 || c == 88) ≡ true) × (is_digit c ≡ false)
lower_x c h = (grind (arith, nat_tests, h), grind (arith, nat_tests, h))

number_tests : (a b c d : Bool) → a ≡ true → (b ≡ true) ⊎ ((c ≡ true) × (d ≡ true)) → ((a && true) && (b || (c && d))) ≡ true
number_tests a b c d e (inl first) = rw (e, first) refl
number_tests a b c d e (inr second) = rw (e, second.0, second.1) (or-true b)

module _ (table : Entities) (in_value : Bool) (rest : List Placed) where
  decimal_is : (opening digits close : List Placed) → characters opening ≡ codes "&#" → begins is_digit digits ≡ true
      → RunsTo (λ c. not (is_digit c)) digits (close ++ rest) → is_semicolon_if_any close rest ≡ true
      → read table in_value (opening ++ (digits ++ (close ++ rest))) ≡ (numeric_piece 10 opening digits close, rest)
  decimal_is (a ∷ q ∷ []) digits close o d r s = let is : q.ch ≡ 35 = cc in let sign = ap (λ (c : ℕ). c == 35) is in let more = digits ++ (close ++ rest) in
      let digit : begins is_digit more ≡ true = begins-append is_digit digits (close ++ rest) d in
      by_tests table in_value a (q ∷ more) false true true true (sign_no_letter q.ch sign) sign
      (number_tests (q.ch == 35) (begins is_digit more) (begins (λ c. c == 120 || c == 88) more) (begins is_hex_digit (drop 1 more)) sign (inl digit)) digit
      ∙ number_is 10 (a ∷ q ∷ []) is_digit digits close rest r s
  decimal_is _ digits close o d r s = absurd cc

  hexadecimal_is : (opening digits close : List Placed) → lowered opening ≡ codes "&#x" → begins is_hex_digit digits ≡ true
      → RunsTo (λ c. not (is_hex_digit c)) digits (close ++ rest) → is_semicolon_if_any close rest ≡ true
      → read table in_value (opening ++ (digits ++ (close ++ rest))) ≡ (numeric_piece 16 opening digits close, rest)
  hexadecimal_is (a ∷ q ∷ x ∷ []) digits close o d r s = let sign = ap (λ (c : ℕ). c == 35) (lower_sign q.ch cc) in let more = digits ++ (close ++ rest) in
      by_tests table in_value a (q ∷ x ∷ more) false true true false (sign_no_letter q.ch sign) sign (number_tests (q.ch == 35) (is_digit x.ch)
      (x.ch == 120 || x.ch == 88) (begins is_hex_digit more) sign (inr ((lower_x x.ch cc).0, begins-append is_hex_digit digits (close ++ rest) d)))
      (lower_x x.ch cc).1 ∙ number_is 16 (a ∷ q ∷ x ∷ []) is_hex_digit digits close rest r s
  hexadecimal_is _ digits close o d r s = absurd cc

  named_is : (amp : Placed) (name : List Placed) (entry : Entry) → begins is_alphanumeric name ≡ true
      → longest table (characters (amp ∷ name ++ rest)) ≡ Some entry → characters (amp ∷ name) ≡ entry.key → is_kept_as_text in_value entry.key rest ≡ false
      → read table in_value (amp ∷ name ++ rest) ≡ (named_piece (amp ∷ name) entry, rest)
  named_is amp name entry b l k kept' = let d = past_key name rest amp entry.key k in
      by_name table in_value amp (name ++ rest) (begins-append is_alphanumeric name rest b) ∙ ap (λ o. read_name in_value amp (name ++ rest) o) l
      ∙ ap (λ r. read_kept amp (name ++ rest) entry (is_kept_as_text in_value entry.key r)) d.0 ∙ ap (λ (v : Bool). read_kept amp (name ++ rest) entry v) kept'
      ∙ ap (λ t. (named_piece (amp ∷ t) entry, drop (length entry.key - 1) (name ++ rest))) d.1 ∙ ap (λ t. (named_piece (amp ∷ name) entry, t)) d.0

  abbrev IsWhatIsRead : Piece → Type 0
  IsWhatIsRead piece = read table in_value (piece.text ++ rest) ≡ (piece, rest)

  abbrev numeric_text : (base : ℕ) (opening digits close : List Placed) → (opening ++ digits ++ close) ++ rest ≡ opening ++ (digits ++ (close ++ rest))
  numeric_text base opening digits close = append_assoc (opening ++ digits) close rest ∙ append_assoc opening digits (close ++ rest)

  pub is_read : (piece : Piece) → IsReference table in_value rest piece → read table in_value (piece.text ++ rest) ≡ (piece, rest)
  is_read piece (named amp name entry is b l k kept' p) = subst IsWhatIsRead (sym p) (named_is amp name entry b l k kept')
  is_read piece (kept amp entry is b l kept' p) = subst IsWhatIsRead (sym p)
      (by_name table in_value amp rest b ∙ ap (λ (o : Option Entry). read_name in_value amp rest o) l ∙ ap (λ (v : Bool). read_kept amp rest entry v) kept')
  is_read piece (unknown amp is b l p) = subst IsWhatIsRead (sym p) (by_name table in_value amp rest b ∙ ap (λ o. read_name in_value amp rest o) l)
  is_read piece (decimal opening digits close o d r s p) =
      subst IsWhatIsRead (sym p) (ap (read table in_value) (numeric_text 10 opening digits close) ∙ decimal_is opening digits close o d r s)
  is_read piece (hexadecimal opening digits close o d r s p) =
      subst IsWhatIsRead (sym p) (ap (read table in_value) (numeric_text 16 opening digits close) ∙ hexadecimal_is opening digits close o d r s)
  is_read piece (no_digits amp is sign none p) = rw p (by_tests table in_value amp rest false true false _ (sign_tests rest sign) sign none refl)
  is_read piece (alone amp is none p) = let k = alone_tests rest none in rw p (by_tests table in_value amp rest false false _ _ k.0 k.1 refl refl)

pub one_of : (table : Entities) (in_value : Bool) (piece other : Piece) (rest after : List Placed) → IsReference table in_value rest piece
    → IsReference table in_value after other → piece.text ++ rest ≡ other.text ++ after → (piece ≡ other) × (rest ≡ after)
one_of table in_value piece other rest after h k e =
    let same : (piece, rest) ≡ (other, after) = sym (is_read table in_value rest piece h) ∙ ap (read table in_value) e ∙ is_read table in_value after other k in
    (ap (λ (r : Read). r.0) same, ap (λ (r : Read). r.1) same)
