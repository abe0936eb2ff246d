-- The table of digits, checked at each ASCII character, and numbers, digit by digit.
use Rattle.charref.proofs.Names.{arith, ◌≡◌, ℕ, ◌<◌, ◌≤◌, true, false, not, ◌||◌, nat_eq, nat_lt, refl, sym, ◌∙◌, subst, agree_below_at, nat_tests, is_ascii, slice_index, is_digit, is_alphanumeric, Base, Decimal, Hexadecimal, is_hex_digit, digit_value, is_digit_of, radix, DIGITS, Bool, List, Placed, all, Search, ReferenceState, Name, Sign, Walk, Entities, SearchHasRead, key_bytes, IsSign, IsHeldReference, in_name, after_sign, after_x, WalkHasTaken, ◌⊎◌, inl, inr, ◌+◌, ◌-◌, ◌*◌, min, ◌==◌, [], ◌∷◌, ◌++◌, map, length, Some, None, ap, append_assoc, length-append, append-nil, and_parts, and_from, to_ascii_lowercase, all-one, begins-append, AbsenceOfDigitsInNumericCharacterReference, MissingSemicolonAfterCharacterReference, begins, stops, is_empty, error, error_if, One, sign_size, text_reference, Number, begins_number, is_semicolon_if_any, IsReference, decimal, hexadecimal, no_digits, alone, number_sign, in_number, IsRead, errors_of, number_reference, option_to_list, and-false, zero-mul, cases_lt, drop_at, take_at, number_from, numbered, number_fault, small_x, capital_x}
use Rattle.charref.proofs.Telling.{no_run, read_text}

abbrev pub at : ℕ → ℕ
at c = slice_index DIGITS c

pub below_128 : (c : ℕ) → is_ascii c ≡ true → c < 128
below_128 c h = grind (arith, nat_tests)

-- whether a character is a digit
told : (base : Base) (c : ℕ) → c < 128 → nat_lt (at c) (radix base) ≡ is_digit_of base c
told Decimal c within = agree_below_at (λ b. nat_lt (at b) 10) is_digit 128 c refl within
told Hexadecimal c within = agree_below_at (λ b. nat_lt (at b) 16) is_hex_digit 128 c refl within

-- its value, if it is one
valued : (c : ℕ) → c < 128 → not (nat_lt (at c) 16) || nat_eq (at c) (digit_value c) ≡ true
valued c within = agree_below_at (λ b. not (nat_lt (at b) 16) || nat_eq (at b) (digit_value b)) (λ b. true) 128 c refl within

few : (base : Base) → radix base ≤ 16
few Decimal = omega arith
few Hexadecimal = omega arith

pub is_one : (base : Base) (c : ℕ) → c < 128 → at c < radix base → (is_digit_of base c ≡ true) × (at c ≡ digit_value c) × (at c < 16)
is_one base c within below = let small : at c < 16 = omega (arith, few base) in let less : nat_lt (at c) 16 ≡ true = grind (arith, nat_tests) in
    let same : nat_eq (at c) (digit_value c) ≡ true = subst (λ b. not b || nat_eq (at c) (digit_value c) ≡ true) less (valued c within) in
    (sym (told base c within) ∙ (let t : nat_lt (at c) (radix base) ≡ true = grind (arith, nat_tests) in t), grind (arith, nat_tests, same), small)

pub is_none : (base : Base) (c : ℕ) → c < 128 → radix base ≤ at c → is_digit_of base c ≡ false
is_none base c within over = sym (told base c within) ∙ (let t : nat_lt (at c) (radix base) ≡ false = grind (arith, nat_tests) in t)

-- whether a character is a letter or digit
pub letter_or_digit : (c : ℕ) → c < 128 → nat_lt (at c) 17 ≡ is_alphanumeric c
letter_or_digit c within = agree_below_at (λ b. nat_lt (at b) 17) is_alphanumeric 128 c refl within

-- A walk and what it has been handed.
pub held_name : (table : Entities) (in_value : Bool) (search : Search) (text : List Placed) → IsHeldReference table in_value (Name search) text
    → SearchHasRead search table (key_bytes text) × (all is_alphanumeric text ≡ true)
held_name table in_value _ _ (in_name search text read run goes) = (read, run)

pub held_sign : (table : Entities) (in_value : Bool) (base : Base) (text : List Placed) → IsHeldReference table in_value (Sign base) text → IsSign base text
held_sign table in_value _ _ (after_sign text is) = is
held_sign table in_value _ _ (after_x text is) = is

-- by the walk's own table, in the state that it is in
pub own : (walk : Walk) (table : Entities) (in_value : Bool) (text : List Placed) (state : ReferenceState) → WalkHasTaken walk table in_value text
    → walk.state ≡ state → IsHeldReference walk.table.now walk.in_value state text
own walk table in_value text state taken is = rw (← is) (rw taken.in_value_is (rw taken.table_is taken.held))

pub by_own : (walk : Walk) (table : Entities) (in_value : Bool) (text : List Placed) → WalkHasTaken walk table in_value text → (P : Entities → Bool → Type 0)
    → P walk.table.now walk.in_value → P table in_value
by_own walk table in_value text taken P h = subst (λ b. P table b) taken.in_value_is (subst (λ t. P t walk.in_value) taken.table_is h)

-- Numbers, digit by digit.

-- SIGNS

pub two_signs : (table : Entities) (in_value : Bool) (text : List Placed) (p : Placed) → IsSign Decimal text → (p.ch ≡ 120) ⊎ (p.ch ≡ 88)
    → IsHeldReference table in_value (Sign Hexadecimal) (text ++ p ∷ [])
two_signs table in_value _ p (number_sign q is) (inl x) = after_x (q ∷ p ∷ []) (small_x q p is x)
two_signs table in_value _ p (number_sign q is) (inr x) = after_x (q ∷ p ∷ []) (capital_x q p is x)

no_number_after : (q r : Placed) (rest : List Placed) → q.ch ≡ 35 → is_digit r.ch ≡ false → begins is_hex_digit rest ≡ false
    → begins_number (q ∷ r ∷ rest) ≡ false
no_number_after q r rest is digit hex = let first : nat_eq q.ch 35 ≡ true = grind (arith, nat_tests) in
    rw (first, digit, hex) (and-false (nat_eq r.ch 120 || nat_eq r.ch 88))

-- nothing but `#`, or `#x`, and then no digit
abbrev pub IsNoDigit : Base → List Placed → Type 0
IsNoDigit Decimal rest = (begins is_digit rest ≡ false) × (begins (λ c. c == 120 || c == 88) rest ≡ false)
IsNoDigit Hexadecimal rest = begins is_hex_digit rest ≡ false

pub first_no_digit : (base : Base) (p : Placed) (after : List Placed) → is_digit_of base p.ch ≡ false → (base ≡ Decimal → (p.ch == 120 || p.ch == 88) ≡ false)
    → IsNoDigit base (p ∷ after)
first_no_digit Decimal p after digit mark = (digit, mark refl)
first_no_digit Hexadecimal p after digit mark = digit

module _ (table : Entities) (in_value : Bool) (others after : List Placed) where
  no_number : (q : Placed) (text : List Placed) (left : ℕ) → q.ch ≡ 35 → begins_number (q ∷ (text ++ after)) ≡ false → left ≡ length (q ∷ text)
      → IsRead table in_value (q ∷ text) after (text_reference left (Some AbsenceOfDigitsInNumericCharacterReference) false)
  no_number q text left is none size = read_text table in_value (q ∷ text) after _ size refl
      (λ amp amp-is. no_digits amp amp-is (let sign : nat_eq q.ch 35 ≡ true = grind (arith, nat_tests, is) in sign) none refl)

  pub no_digits_after : (base : Base) (sign : List Placed) → IsSign base sign → IsNoDigit base (others ++ after)
      → IsRead table in_value (sign ++ others) after (text_reference (sign_size base + length others) (Some AbsenceOfDigitsInNumericCharacterReference) false)
  no_digits_after Decimal _ (number_sign q is) none = let first : nat_eq q.ch 35 ≡ true = grind (arith, nat_tests) in
      no_number q others _ is (rw (first, none.0, none.1) refl) (omega arith)
  no_digits_after Hexadecimal _ (small_x q r is x) none =
      no_number q (r ∷ others) _ is (no_number_after q r (others ++ after) is (ap is_digit x) none) (omega arith)
  no_digits_after Hexadecimal _ (capital_x q r is x) none =
      no_number q (r ∷ others) _ is (no_number_after q r (others ++ after) is (ap is_digit x) none) (omega arith)

pub no_digits_at_end : (table : Entities) (in_value : Bool) (base : Base) (sign : List Placed) → IsSign base sign
    → IsRead table in_value sign [] (text_reference (sign_size base + 0) (Some AbsenceOfDigitsInNumericCharacterReference) false)
no_digits_at_end table in_value base sign is = rw (← (append-nil sign)) (no_digits_after table in_value [] [] base sign is (none base)) where
  none : (base : Base) → IsNoDigit base []
  none Decimal = (refl, refl)
  none Hexadecimal = refl

-- an `&` before something else, or before nothing
pub alone_before : (table : Entities) (in_value : Bool) (p : Placed) (after : List Placed) → is_alphanumeric p.ch ≡ false → nat_eq p.ch 35 ≡ false
    → IsRead table in_value (p ∷ []) after (record { characters = One 38; left = 1; missing_semicolon = false; fault = None; is_ambiguous = false })
alone_before table in_value p after letter sign =
    read_text table in_value (p ∷ []) after _ refl refl (λ amp amp-is. alone amp amp-is (rw (letter, sign) refl) refl)

-- DIGITS

pub number_from-more : (value base : ℕ) (digits : List Placed) (p : Placed)
    → number_from value base (digits ++ p ∷ []) ≡ number_from value base digits * base + digit_value p.ch
number_from-more value base [] p = refl
number_from-more value base (q ∷ qs) p = number_from-more (value * base + digit_value q.ch) base qs p

pub min-more : (base : Base) (n d : ℕ) → min (min n 0x110000 * radix base + d) 0x110000 ≡ min (n * radix base + d) 0x110000
min-more Decimal n d = omega arith
min-more Hexadecimal n d = omega arith

-- above the greatest code all numbers are as one
great : (n : ℕ) → 0x110000 ≤ n → (numbered n ≡ 0xFFFD) × (number_fault n ≡ number_fault 0x110000)
great n h = let none : nat_eq n 0 ≡ false = grind (arith, nat_tests) in let past : nat_lt 0x10FFFF n ≡ true = grind (arith, nat_tests) in
    (rw (none, past) refl, rw (none, past) refl)

min_same : {A : Type 0} (f : ℕ → A) (n : ℕ) → (0x110000 ≤ n → f n ≡ f 0x110000) → f (min n 0x110000) ≡ f n
min_same f n same = elim (cases_lt n 0x110000) [
  | inl less ↦ (let is : min n 0x110000 ≡ n = omega arith in ap f is)
  | inr past ↦ (let is : min n 0x110000 ≡ 0x110000 = omega arith in ap f is ∙ sym (same past))
]

all-not-not : (test : ℕ → Bool) (xs : List Placed) → all test xs ≡ true → all (λ c. not (not (test c))) xs ≡ true
all-not-not test [] h = refl
all-not-not test (p ∷ ps) h = let first : test p.ch ≡ true = (and_parts _ _ h).0 in rw first (all-not-not test ps (and_parts _ _ h).1)

-- the first digit, and one more
pub first_digit : (table : Entities) (in_value : Bool) (base : Base) (sign : List Placed) (p : Placed) (d : ℕ) → IsSign base sign → is_digit_of base p.ch ≡ true
    → d ≡ digit_value p.ch → d < 16 → IsHeldReference table in_value (Number base d) (sign ++ p ∷ [])
first_digit table in_value base sign p d is test value small = in_number base d sign (p ∷ []) (sign ++ p ∷ []) refl is test (and_from _ _ test refl)
    (let whole : d ≡ min d 0x110000 = omega arith in let z : digit_value p.ch ≡ 0 * radix base + digit_value p.ch = omega (arith, zero-mul (radix base)) in
    whole ∙ ap (λ n. min n 0x110000) (value ∙ z))

pub next_digit : (table : Entities) (in_value : Bool) (base : Base) (value : ℕ) (text : List Placed) (p : Placed) (d next : ℕ)
    → IsHeldReference table in_value (Number base value) text → is_digit_of base p.ch ≡ true → d ≡ digit_value p.ch
    → next ≡ min (value * radix base + d) 0x110000 → IsHeldReference table in_value (Number base next) (text ++ p ∷ [])
next_digit table in_value _ _ _ p d next (in_number base value sign digits text text-is is opens run value-is) test d-is next-is =
    in_number base next sign (digits ++ p ∷ []) (text ++ p ∷ []) (ap (λ xs. xs ++ p ∷ []) text-is ∙ append_assoc sign digits (p ∷ [])) is
    (begins-append (is_digit_of base) digits (p ∷ []) opens) (all-one (is_digit_of base) digits p run test)
    (next-is ∙ ap (λ v. min (v * radix base + d) 0x110000) value-is ∙ min-more base (number_from 0 (radix base) digits) d
    ∙ ap (λ n. min (number_from 0 (radix base) digits * radix base + n) 0x110000) d-is
    ∙ ap (λ n. min n 0x110000) (sym (number_from-more 0 (radix base) digits p)))

-- the number that was read, with its `;` or without
number_errors : (at value n : ℕ) (missing : Bool) → value ≡ min n 0x110000 → (left : ℕ) (after : List Placed) → errors_of (number_reference value left missing)
    at after ≡ error_if missing MissingSemicolonAfterCharacterReference at ++ map (λ code. error code at) (option_to_list (number_fault n))
number_errors at value n missing is left after =
    append-nil (error_if missing MissingSemicolonAfterCharacterReference at ++ map (λ code. error code at) (option_to_list (number_fault value)))
    ∙ ap (λ o. error_if missing MissingSemicolonAfterCharacterReference at ++ map (λ code. error code at) (option_to_list o))
    (ap number_fault is ∙ min_same number_fault n (λ past. (great n past).1))

number_gives : (value n : ℕ) → value ≡ min n 0x110000 → numbered value ≡ numbered n
number_gives value n is = ap numbered is ∙ min_same numbered n (λ past. (great n past).0 ∙ sym (great 0x110000 (omega arith)).0)

number_reads : (table : Entities) (in_value : Bool) (base : Base) (sign digits close rest after : List Placed) (value left : ℕ) → IsSign base sign
    → begins (is_digit_of base) digits ≡ true → all (is_digit_of base) digits ≡ true → value ≡ min (number_from 0 (radix base) digits) 0x110000
    → stops (λ c. not (is_digit_of base c)) (close ++ rest) ≡ true → is_semicolon_if_any close rest ≡ true → (amp : Placed) → amp.ch ≡ 38
    → IsReference table in_value rest (record
    { text = amp ∷ (sign ++ digits ++ close); gives = numbered value ∷ []; errors = errors_of (number_reference value left (is_empty close)) amp.at after })
number_reads table in_value Decimal _ digits close rest after value left (number_sign q is) opens run value-is stop semicolon amp amp-is =
    decimal (amp ∷ q ∷ []) digits close (λ i. amp-is i ∷ is i ∷ []) opens (record { passes_none = all-not-not is_digit digits run; stops_after = stop })
    semicolon (λ i. record {
      text = amp ∷ q ∷ digits ++ close;
      gives = number_gives value (number_from 0 10 digits) value-is i ∷ [];
      errors = number_errors amp.at value (number_from 0 10 digits) (is_empty close) value-is left after i;
    })
number_reads table in_value Hexadecimal _ digits close rest after value left (small_x q r is x) opens run value-is stop semicolon amp amp-is =
    hexadecimal (amp ∷ q ∷ r ∷ []) digits close (λ i. to_ascii_lowercase (amp-is i) ∷ to_ascii_lowercase (is i) ∷ to_ascii_lowercase (x i) ∷ []) opens
    (record { passes_none = all-not-not is_hex_digit digits run; stops_after = stop }) semicolon (λ i. record {
      text = amp ∷ q ∷ r ∷ digits ++ close;
      gives = number_gives value (number_from 0 16 digits) value-is i ∷ [];
      errors = number_errors amp.at value (number_from 0 16 digits) (is_empty close) value-is left after i;
    })
number_reads table in_value Hexadecimal _ digits close rest after value left (capital_x q r is x) opens run value-is stop semicolon amp amp-is =
    hexadecimal (amp ∷ q ∷ r ∷ []) digits close (λ i. to_ascii_lowercase (amp-is i) ∷ to_ascii_lowercase (is i) ∷ to_ascii_lowercase (x i) ∷ []) opens
    (record { passes_none = all-not-not is_hex_digit digits run; stops_after = stop }) semicolon (λ i. record {
      text = amp ∷ q ∷ r ∷ digits ++ close;
      gives = number_gives value (number_from 0 16 digits) value-is i ∷ [];
      errors = number_errors amp.at value (number_from 0 16 digits) (is_empty close) value-is left after i;
    })

number_told : (table : Entities) (in_value : Bool) (base : Base) (value : ℕ) (text close back after : List Placed) (left : ℕ)
    → IsHeldReference table in_value (Number base value) text → left ≡ length back → stops (λ c. not (is_digit_of base c)) (close ++ (back ++ after)) ≡ true
    → is_semicolon_if_any close (back ++ after) ≡ true → IsRead table in_value ((text ++ close) ++ back) after (number_reference value left (is_empty close))
number_told table in_value _ _ _ close back after left (in_number base value sign digits text text-is is opens run value-is) few stop semicolon =
    let cut : length (text ++ close) ≡ length ((text ++ close) ++ back) - left = omega (arith, length-append (text ++ close) back) in
    record {
      within = omega (arith, length-append (text ++ close) back);
      run = no_run false refl;
      reads = λ amp amp-is. rw (take_at (text ++ close) back _ cut ∙ ap (λ xs. xs ++ close) text-is, drop_at (text ++ close) back _ cut)
          (number_reads table in_value base sign digits close (back ++ after) after value left is opens run value-is stop semicolon amp amp-is);
    }

no_digit_semicolon : (base : Base) → is_digit_of base 59 ≡ false
no_digit_semicolon Decimal = refl
no_digit_semicolon Hexadecimal = refl

-- the `;` of a number
pub number_closed : (table : Entities) (in_value : Bool) (base : Base) (value : ℕ) (text after : List Placed) (p : Placed)
    → IsHeldReference table in_value (Number base value) text → p.ch ≡ 59 → IsRead table in_value (text ++ p ∷ []) after (number_reference value 0 false)
number_closed table in_value base value text after p held semicolon = rw (← (append-nil (text ++ p ∷ []))) (number_told table in_value base value text (p ∷ [])
    [] after 0 held refl (ap not (ap (is_digit_of base) semicolon ∙ no_digit_semicolon base)) (and_from _ _ (grind (arith, nat_tests)) refl))

-- and another character after its digits, or the end
pub number_open : (table : Entities) (in_value : Bool) (base : Base) (value : ℕ) (text after : List Placed) (p : Placed)
    → IsHeldReference table in_value (Number base value) text → is_digit_of base p.ch ≡ false → nat_eq p.ch 59 ≡ false
    → IsRead table in_value (text ++ p ∷ []) after (number_reference value 1 true)
number_open table in_value base value text after p held digit semicolon =
    subst (λ xs. IsRead table in_value (xs ++ p ∷ []) after (number_reference value 1 true)) (append-nil text)
    (number_told table in_value base value text [] (p ∷ []) after 1 held refl (ap not digit) (ap not semicolon))

pub number_at_end : (table : Entities) (in_value : Bool) (base : Base) (value : ℕ) (text : List Placed)
    → IsHeldReference table in_value (Number base value) text → IsRead table in_value text [] (number_reference value 0 true)
number_at_end table in_value base value text held = subst (λ xs. IsRead table in_value xs [] (number_reference value 0 true))
    (append-nil (text ++ []) ∙ append-nil text) (number_told table in_value base value text [] [] [] 0 held refl refl refl)
