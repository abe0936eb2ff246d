-- Each text that begins with `&` begins with a reference.
use Rattle.charref.proofs.Names.{arith, ◌≡◌, inl, inr, ℕ, zero, suc, ◌-◌, ◌≤◌, Bool, true, false, not, ◌&&◌, ◌||◌, ◌==◌, cond, List, [], ◌∷◌, ◌++◌, length, take, drop, Option, Some, None, refl, sym, ap, ◌∙◌, append_assoc, and_parts, false≢true, nat_tests, take-append-drop, to_ascii_lowercase, Placed, characters, begins, is_digit, is_alphanumeric, Entry, Entities, IsTable, longest, is_kept_as_text, is_hex_digit, begins_number, is_semicolon_if_any, codes, IsReference, named, kept, unknown, decimal, hexadecimal, no_digits, alone, or_cases, lowered, RunsTo, numeric_piece, HasReference}
use Rattle.charref.proofs.Core.{longest_among}
use Rattle.charref.proofs.Naming.{key_of, take-map, is_key_of, key_opens}
use Rattle.charref.proofs.OneReference.{run, after_run}

-- a run, and what follows it
runs_to : (test : ℕ → Bool) (text : List Placed) → RunsTo (λ c. not (test c)) (run test text) (after_run test text)
runs_to test [] = record { passes_none = refl; stops_after = refl }
runs_to test (p ∷ ps) = by (test p.ch) refl (runs_to test ps) where
  by : (b : Bool) → test p.ch ≡ b → RunsTo (λ c. not (test c)) (run test ps) (after_run test ps)
      → RunsTo (λ c. not (test c)) (cond b (p ∷ run test ps) []) (cond b (after_run test ps) (p ∷ ps))
  by true is k = record { passes_none = rw is k.passes_none; stops_after = k.stops_after }
  by false is k = record { passes_none = refl; stops_after = ap not is }

run_split : (test : ℕ → Bool) (text : List Placed) → text ≡ run test text ++ after_run test text
run_split test [] = refl
run_split test (p ∷ ps) = elim (test p.ch) as (λ b. p ∷ ps ≡ cond b (p ∷ run test ps) [] ++ cond b (after_run test ps) (p ∷ ps))
    [ true ↦ ap (λ (xs : List Placed). p ∷ xs) (run_split test ps) | false ↦ refl ]

run_begins : (test : ℕ → Bool) (text : List Placed) → begins test text ≡ true → begins test (run test text) ≡ true
run_begins test [] h = h
run_begins test (p ∷ ps) h = rw h h

-- a `;`, if one follows
record Close (after : List Placed) : Type 0 where
  close : List Placed
  rest : List Placed
  after_is : after ≡ close ++ rest
  closes : is_semicolon_if_any close rest ≡ true

close_by : (p : Placed) (ps : List Placed) (b : Bool) → (p.ch == 59) ≡ b → Close (p ∷ ps)
close_by p ps true e = record { close = p ∷ []; rest = ps; after_is = refl; closes = ap (λ (b : Bool). b && true) e }
close_by p ps false e = record { close = []; rest = p ∷ ps; after_is = refl; closes = ap not e }

close_of : (after : List Placed) → Close after
close_of [] = record { close = []; rest = []; after_is = refl; closes = refl }
close_of (p ∷ ps) = close_by p ps (p.ch == 59) refl

sign_code : (c : ℕ) → (c == 35) ≡ true → c ≡ 35
sign_code c h = grind (arith, nat_tests)

x_of : (c : ℕ) → (c == 120 || c == 88) ≡ true → to_ascii_lowercase c ≡ 120
x_of c h = elim (or_cases (c == 120) (c == 88) h) [
  | inl test ↦ (let is : c ≡ 120 = grind (arith, nat_tests, test) in ap to_ascii_lowercase is)
  | inr test ↦ (let is : c ≡ 88 = grind (arith, nat_tests, test) in ap to_ascii_lowercase is)
]

not_begun : (rest : List Placed) → begins is_alphanumeric rest ≡ false → begins (λ c. c == 35) rest ≡ false
    → begins (λ c. is_alphanumeric c || c == 35) rest ≡ false
not_begun [] h k = refl
not_begun (p ∷ ps) h k = rw (h, k) refl

begins_take : (n : ℕ) (text : List Placed) → begins is_alphanumeric text ≡ true → 1 ≤ n → begins is_alphanumeric (take n text) ≡ true
begins_take zero text h l = absurd (grind (arith, l))
begins_take (suc n) [] h l = h
begins_take (suc n) (p ∷ ps) h l = h

front_of_length : (n : ℕ) (p : Placed) (ps : List Placed) → 2 ≤ n → take n (characters (p ∷ ps)) ≡ characters (p ∷ take (n - 1) ps)
front_of_length zero p ps l = absurd (omega (arith, l))
front_of_length (suc n) p ps l = let e : n ≡ suc n - 1 = omega arith in ap (λ cs. p.ch ∷ cs) (take-map n ps) ∙ ap (λ (k : ℕ). characters (p ∷ take k ps)) e

module _ (table : Entities) (in_value : Bool) (is_table : IsTable table) (amp : Placed) (is : amp.ch ≡ 38) where
  -- numbers
  number_here : (base : ℕ) (test : ℕ → Bool) (opening text : List Placed)
      → ((digits close rest : List Placed) → begins test digits ≡ true → RunsTo (λ c. not (test c)) digits (close ++ rest)
      → is_semicolon_if_any close rest ≡ true → IsReference table in_value rest (numeric_piece base opening digits close)) → begins test text ≡ true
      → HasReference table in_value (opening ++ text)
  number_here base test opening text production digit = let k = close_of (after_run test text) in let digits : List Placed = run test text in
      record {
        piece = _;
        rest = k.rest;
        text_is = ap (λ (xs : List Placed). opening ++ xs) (run_split test text ∙ ap (λ (xs : List Placed). digits ++ xs) k.after_is)
            ∙ sym (append_assoc (opening ++ digits) k.close k.rest ∙ append_assoc opening digits (k.close ++ k.rest));
        is_reference = production digits k.close k.rest (run_begins test text digit) (rw (← k.after_is) (runs_to test text)) k.closes;
      }

  number_by : (q : Placed) (text : List Placed) (digit : Bool) → (q.ch == 35) ≡ true → begins is_digit text ≡ digit
      → ((q.ch == 35 && true) && (digit || (begins (λ c. c == 120 || c == 88) text && begins is_hex_digit (drop 1 text)))) ≡ true
      → HasReference table in_value (amp ∷ q ∷ text)
  number_by q text true sign e h = let opens : characters (amp ∷ q ∷ []) ≡ codes "&#" = λ i. is i ∷ sign_code q.ch sign i ∷ [] in
      number_here 10 is_digit (amp ∷ q ∷ []) text (λ digits close rest d r s. decimal (amp ∷ q ∷ []) digits close opens d r s refl) e
  number_by q [] false sign e h = absurd (false≢true (and_parts (q.ch == 35 && true) false h).1)
  number_by q (x ∷ xs) false sign e h =
      let marks = and_parts (x.ch == 120 || x.ch == 88) (begins is_hex_digit xs)
      (and_parts (q.ch == 35 && true) ((x.ch == 120 || x.ch == 88) && begins is_hex_digit xs) h).1 in
      let opens : lowered (amp ∷ q ∷ x ∷ []) ≡ codes "&#x" =
      λ i. to_ascii_lowercase (is i) ∷ to_ascii_lowercase (sign_code q.ch sign i) ∷ x_of x.ch marks.0 i ∷ [] in
      number_here 16 is_hex_digit (amp ∷ q ∷ x ∷ []) xs (λ digits close rest d r s. hexadecimal (amp ∷ q ∷ x ∷ []) digits close opens d r s refl) marks.1

  sign_by : (text : List Placed) (number : Bool) → begins (λ c. c == 35) text ≡ true → begins_number text ≡ number → HasReference table in_value (amp ∷ text)
  sign_by text false sign e = record { piece = _; rest = text; text_is = refl; is_reference = no_digits amp is sign e refl }
  sign_by [] true sign e = absurd (false≢true sign)
  sign_by (q ∷ qs) true sign e = number_by q qs (begins is_digit qs) sign refl e

  -- names
  named_here : (text : List Placed) (entry : Entry) → begins is_alphanumeric text ≡ true → longest table (characters (amp ∷ text)) ≡ Some entry
      → is_kept_as_text in_value entry.key (drop (length entry.key - 1) text) ≡ false → HasReference table in_value (amp ∷ text)
  named_here text entry letter found kept' = let n : ℕ = length entry.key - 1 in let among = longest_among table (characters (amp ∷ text)) entry found in
      let opens = key_opens entry.key (is_key_of table among.0 entry is_table among.1) in
      let long : 2 ≤ length entry.key = omega (arith, ap length opens.is) in
      record {
        piece = _;
        rest = drop n text;
        text_is = ap (λ (xs : List Placed). amp ∷ xs) (sym (take-append-drop n text));
        is_reference = named amp (take n text) entry is (begins_take n text letter (grind (arith, long)))
            (ap (λ (xs : List Placed). longest table (characters (amp ∷ xs))) (take-append-drop n text) ∙ found)
            (sym (key_of (characters (amp ∷ text)) entry.key among.2 ∙ front_of_length (length entry.key) amp text long)) kept' refl;
      }

  kept_by : (text : List Placed) (entry : Entry) (b : Bool) → begins is_alphanumeric text ≡ true → longest table (characters (amp ∷ text)) ≡ Some entry
      → is_kept_as_text in_value entry.key (drop (length entry.key - 1) text) ≡ b → HasReference table in_value (amp ∷ text)
  kept_by text entry true letter found e = record { piece = _; rest = text; text_is = refl; is_reference = kept amp entry is letter found e refl }
  kept_by text entry false letter found e = named_here text entry letter found e

  name_by : (text : List Placed) (found : Option Entry) → begins is_alphanumeric text ≡ true → longest table (characters (amp ∷ text)) ≡ found
      → HasReference table in_value (amp ∷ text)
  name_by text None letter e = record { piece = _; rest = text; text_is = refl; is_reference = unknown amp is letter e refl }
  name_by text (Some entry) letter e = kept_by text entry (is_kept_as_text in_value entry.key (drop (length entry.key - 1) text)) letter e refl

  some_by : (text : List Placed) (letter sign : Bool) → begins is_alphanumeric text ≡ letter → begins (λ c. c == 35) text ≡ sign
      → HasReference table in_value (amp ∷ text)
  some_by text true sign e f = name_by text (longest table (characters (amp ∷ text))) e refl
  some_by text false true e f = sign_by text (begins_number text) f refl
  some_by text false false e f = record { piece = _; rest = text; text_is = refl; is_reference = alone amp is (not_begun text e f) refl }

  pub some_of : (text : List Placed) → HasReference table in_value (amp ∷ text)
  some_of text = some_by text (begins is_alphanumeric text) (begins (λ c. c == 35) text) refl refl
