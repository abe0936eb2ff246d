-- The name of a doctype, and letters of keywords after it: each character.
use Rattle.hmarkup.proofs.Names.{◌≡◌, ℕ, suc, ◌+◌, ◌≤◌, ◌<◌, nat_lt, drop, length, get_or, Bool, true, false, eqb, if◌then◌else◌, List, [], ◌∷◌, ◌++◌, sym, refl, ap, ◌∙◌, subst, Option, Some, None, arith, to_ascii_lowercase, false≢true, eqb-true, and_parts, and_right, nat_tests, drop_all, list_all, ParseError, InvalidCharacterSequenceAfterDoctypeName, Placed, begins, is_space, is_greater, spells_in_any_case, error, null_errors, Identifier, Public, System, Letters, Found, force, IsSkipped, AfterName, name_ends, name_skips, names_identifier, FollowsName, after_name, begins_keyword, first_letter, goes_on_with, in_keyword, next_letter, letters_after, step_errors, found_by, IsInKeyword, whole, fails, zero, nat_le, and_left, drop_more, not_second, lowered, is_keyword, keyword, FollowsKeyword, identifier_begun, ends_doctype, letters_left, not, ◌||◌, transport, append_assoc, is_some, and_from, not-true, or_from, or_left, or_right, MissingDoctypeName, MissingWhitespaceBeforeDoctypeName, characters, all, name_bytes, with_name, AfterSpace, AfterOpening, begins_name, nameless, unfinished, before_name, in_name, fault_errors, stops, IsDoctypeName}
use Rattle.hmarkup.proofs.Marks.{eqb_self, null_errors-append}
use Rattle.hmarkup.proofs.Characters.{no_null_error, greater_not_space}
use Rattle.hmarkup.proofs.Endings.{past_space, at_once, with_none, any_space, with_space, end_at, end_not_space, skipped_ends, skipped_goes, skipped_none, skipped_more, skips_at, skips_from, skips_not_space, ends_by, skips_by, ended, Goes, Stepped, passed, plain_errors, space_error, greater_error, only_greater, greater_spells, neither_of, not_either, refused_by, refused_at, fault_if}
use Rattle.hmarkup.proofs.Parts.{named-cons, named_not}

-- keywords, a letter at a time
pub left_after : Option Letters → List ℕ
left_after None = []
left_after (Some letters) = letters_left letters

six : (which : Identifier) → length (keyword which) ≡ 6
six Public = refl
six System = refl

pub left_is : (letters : Letters) → letters.read < 6 → letters_left letters ≡ next_letter letters ∷ left_after (letters_after letters)
unfolding left_after
left_is letters fits = drop_more (keyword letters.which) letters.read 0 (omega (arith, six letters.which))
    ∙ ap (λ (x : List ℕ). next_letter letters ∷ x) (sym (by (nat_lt letters.read 5) refl)) where
      by : (b : Bool) → nat_lt letters.read 5 ≡ b
          → left_after (if b then Some (record { which = letters.which; read = letters.read + 1 }) else None) ≡ drop (letters.read + 1) (keyword letters.which)
      by true e = refl
      by false e = let last : 5 ≤ letters.read = grind (arith, nat_tests) in
          sym (drop_all (letters.read + 1) (keyword letters.which) (omega (arith, six letters.which)))

are_letters : (which : Identifier) → list_all (λ c. nat_le 97 c) (keyword which) ≡ true
are_letters Public = refl
are_letters System = refl

at_letter : (xs : List ℕ) (n : ℕ) → list_all (λ c. nat_le 97 c) xs ≡ true → n < length xs → 97 ≤ get_or xs n 0
at_letter [] n h less = absurd (omega arith)
at_letter (x ∷ xs) zero h less = let first : nat_le 97 x ≡ true = (and_parts _ _ h).0 in grind (arith, nat_tests)
at_letter (x ∷ xs) (suc n) h less = at_letter xs n (and_parts _ _ h).1 (omega arith)

pub next_is_letter : (letters : Letters) → letters.read < 6 → 97 ≤ next_letter letters
next_is_letter letters fits = at_letter (keyword letters.which) letters.read (are_letters letters.which) (omega (arith, six letters.which))

-- the letters after one more are those of the same keyword, and not all
abbrev pub GoesOnAs : Identifier → Option Letters → Type 0
GoesOnAs which None = Unit {0}
GoesOnAs which (Some next) = (next.which ≡ which) × (next.read < 6)

pub goes_on_as : (letters : Letters) → GoesOnAs letters.which (letters_after letters)
goes_on_as letters = by (nat_lt letters.read 5) refl where
  by : (b : Bool) → nat_lt letters.read 5 ≡ b → GoesOnAs letters.which (if b then Some (record { which = letters.which; read = letters.read + 1 }) else None)
  by true e = (refl, (let less : letters.read < 5 = grind (arith, nat_tests) in omega arith))
  by false e = tt

-- a letter of a keyword in either case
pub letter_error : (p : Placed) (c : ℕ) → to_ascii_lowercase p.ch ≡ c → 97 ≤ c → null_errors (p ∷ []) ≡ []
letter_error p c h l = let some : eqb p.ch 0 ≡ false = grind (arith, nat_tests) in no_null_error p some

pub letter_not_greater : (p : Placed) (c : ℕ) → to_ascii_lowercase p.ch ≡ c → 97 ≤ c → is_greater p.ch ≡ false
letter_not_greater p c h l = grind (arith, nat_tests)

pub letter_not_space : (p : Placed) (c : ℕ) → to_ascii_lowercase p.ch ≡ c → 97 ≤ c → is_space p.ch ≡ false
letter_not_space p c h l = grind (arith, nat_tests)

-- the first letter of a keyword, if it is one
abbrev pub first_by : Bool → Bool → Option Letters
first_by a b = if a then Some (identifier_begun Public) else (if b then Some (identifier_begun System) else None)

-- a text that begins with a word in either case
record Worded (p : Placed) (ps : List Placed) (c : ℕ) (cs : List ℕ) (after : List Placed) : Type 0 where
  more : List Placed
  letter : to_ascii_lowercase p.ch ≡ c
  text_is : ps ≡ more ++ after
  others : lowered more ≡ cs

worded : (p : Placed) (ps word after : List Placed) (c : ℕ) (cs : List ℕ) → p ∷ ps ≡ word ++ after → lowered word ≡ c ∷ cs → Worded p ps c cs after
worded p ps [] after c cs t w = absurd cc
worded p ps (x ∷ xs) after c cs t w = let head : p ≡ x = cc in let letter : to_ascii_lowercase x.ch ≡ c = cc in
    record { more = xs; letter = ap (λ (q : Placed). to_ascii_lowercase q.ch) head ∙ letter; text_is = cc; others = cc }

-- a keyword of which no letter has been read, and its first letter
abbrev unread : Identifier → Letters
unread which = record { which = which; read = 0 }

first_is : (which : Identifier) (c : ℕ) → to_ascii_lowercase c ≡ next_letter (unread which) → first_letter c ≡ Some (identifier_begun which)
first_is Public c l = ap (λ (n : ℕ). first_by (eqb n 112) (eqb n 115)) l
first_is System c l = ap (λ (n : ℕ). first_by (eqb n 112) (eqb n 115)) l

first_back : (c : ℕ) (letters : Letters) → first_letter c ≡ Some letters
    → (letters ≡ identifier_begun letters.which) × (to_ascii_lowercase c ≡ next_letter (unread letters.which))
first_back c letters e = by (eqb (to_ascii_lowercase c) 112) (eqb (to_ascii_lowercase c) 115) refl refl e where
  by : (a b : Bool) → eqb (to_ascii_lowercase c) 112 ≡ a → eqb (to_ascii_lowercase c) 115 ≡ b → first_by a b ≡ Some letters
      → (letters ≡ identifier_begun letters.which) × (to_ascii_lowercase c ≡ next_letter (unread letters.which))
  by true b ea eb e = let is : identifier_begun Public ≡ letters = cc in rw (← is) (refl, eqb-true _ _ ea)
  by false true ea eb e = let is : identifier_begun System ≡ letters = cc in rw (← is) (refl, eqb-true _ _ eb)
  by false false ea eb e = absurd cc

first_none : (p : Placed) (ps : List Placed) → first_letter p.ch ≡ None → is_keyword (p ∷ ps) ≡ false
first_none p ps e = grind (arith, nat_tests)

keyword_rest : (which : Identifier) (p : Placed) (ps : List Placed) → to_ascii_lowercase p.ch ≡ next_letter (unread which)
    → is_keyword (p ∷ ps) ≡ spells_in_any_case (letters_left (identifier_begun which)) ps
keyword_rest Public p ps l = grind (arith, nat_tests)
keyword_rest System p ps l = grind (arith, nat_tests)

-- what begins with a keyword
module _ (which : Identifier) (p : Placed) (ps word after : List Placed) (t : p ∷ ps ≡ word ++ after) (w : lowered word ≡ keyword which) where
  begins_word : Worded p ps (next_letter (unread which)) (letters_left (identifier_begun which)) after
  unfolding left_after
  begins_word = worded p ps word after _ _ t (w ∙ left_is (unread which) (omega arith))

pub no_keyword : (which : Identifier) (word after : List Placed) → [] ≡ word ++ after → lowered word ≡ keyword which → ⊥
no_keyword Public [] after t w = cc
no_keyword System [] after t w = cc
no_keyword which (x ∷ xs) after t w = cc

module _ (known : Found) (end : ℕ) (rest : List Placed) (found : Found) where
  -- after the name
  pub name_not_space : (text : List Placed) (errors : List ParseError) → AfterName known end rest text found errors → begins is_space text ≡ false
  name_not_space text errors (name_ends h) = end_not_space known end rest text found errors h
  name_not_space text errors (name_skips h) = skips_not_space _ _ (force known) end rest text found errors h
  name_not_space [] errors (names_identifier which word after t w k) = refl
  name_not_space (p ∷ ps) errors (names_identifier which word after t w k) =
      letter_not_space p _ (begins_word which p ps word after t w).letter (next_is_letter (unread which) (omega arith))

module _ (known : Found) (end : ℕ) (rest : List Placed) (p : Placed) (ps : List Placed) (found : Found) where
  pub name_ended : (errors : List ParseError) → is_greater p.ch ≡ true → AfterName known end rest (p ∷ ps) found errors
      → (ps ≡ []) × (found ≡ known) × (errors ≡ [])
  name_ended errors eg (name_ends h) = let k = end_at known end rest p ps found errors h in (k.1, k.2, k.3)
  name_ended errors eg (name_skips h) = absurd (false≢true (sym (skips_at (force known) end rest found p ps errors _ _ h).1 ∙ eg))
  name_ended errors eg (names_identifier which word after t w k) =
      absurd (false≢true (sym (letter_not_greater p _ (begins_word which p ps word after t w).letter (next_is_letter (unread which) (omega arith))) ∙ eg))

  -- letters of a keyword
  keyword_goes : (letters : Letters) (first : ℕ) (errors : List ParseError) (next : Option Letters) (word after : List Placed) → GoesOnAs letters.which next
      → ps ≡ word ++ after → lowered word ≡ left_after next → FollowsKeyword letters.which known end rest after found errors → null_errors (p ∷ []) ≡ []
      → Stepped (goes_on_with letters.which next first) known end rest p ps found errors
  unfolding left_after
  keyword_goes letters first errors None (x ∷ xs) after w t l k n = absurd cc
  keyword_goes letters first errors None [] after w t l k n = passed _ known end rest p ps found errors n (rw t k)
  keyword_goes letters first errors (Some next) word after w t l k n = passed _ known end rest p ps found errors n (whole word after t l (rw w.0 k))

  -- after the name, neither white space nor `>`
  from_name_core : (errors : List ParseError) (g : Bool) (letters : Option Letters) → is_greater p.ch ≡ g → first_letter p.ch ≡ letters
      → AfterName known end rest (p ∷ ps) found errors → Stepped (after_name false g letters p.at) known end rest p ps found errors
  unfolding left_after
  from_name_core errors true letters eg el h = let k = name_ended errors eg h in
      record { later = []; errors_are = k.2 ∙ sym (plain_errors p (greater_error p eg) None []); goes = (k.0, k.1, refl) }
  from_name_core errors false letters eg el (name_ends h) = ends_by known end rest p ps found errors _ false eg h
  from_name_core errors false None eg el (name_skips h) =
      skips_by known end rest p ps found errors _ _ true ends_doctype ends_doctype false false eg (first_none p ps el) h
  from_name_core errors false (Some letters) eg el (name_skips h) = let k = skips_at (force known) end rest found p ps errors _ _ h in
      let (is, l) = first_back p.ch letters el in
      let n : null_errors (p ∷ []) ≡ [] = letter_error p _ l (next_is_letter (unread letters.which) (omega arith)) in
      passed _ known end rest p ps found errors n (fails k.3.0 (cc (keyword_rest letters.which p ps l, k.2)) k.3.2
      (k.3.1 ∙ plain_errors p n (Some (error InvalidCharacterSequenceAfterDoctypeName p.at)) k.3.0))
  from_name_core errors false letters eg el (names_identifier which word after t w k) = let v = begins_word which p ps word after t w in
      rw (sym el ∙ first_is which p.ch v.letter) (keyword_goes (unread which) p.at errors (Some (identifier_begun which)) v.more after (refl, omega arith)
      v.text_is v.others k (letter_error p _ v.letter (next_is_letter (unread which) (omega arith))))

  pub from_after_name : (errors : List ParseError) (s g : Bool) → is_space p.ch ≡ s → is_greater p.ch ≡ g → FollowsName known end rest (p ∷ ps) found errors
      → Stepped (after_name s g (first_letter p.ch) p.at) known end rest p ps found errors
  from_after_name errors true g es eg h = passed _ known end rest p ps found errors (space_error p es) (any_space (AfterName known) true false end rest ps found
      errors (past_space (λ spaced. AfterName known) false end rest found errors p ps h es (λ b text. name_not_space known end rest found text errors)))
  from_after_name errors false g es eg h = from_name_core errors g _ eg refl (at_once (λ spaced. AfterName known) false end rest found errors (p ∷ ps) h es)

  -- backwards
  skips_letter : (later more : List ParseError) (c : ℕ) → to_ascii_lowercase p.ch ≡ c → 97 ≤ c → is_keyword (p ∷ ps) ≡ false
      → IsSkipped (force known) end rest ps found more → later ≡ error InvalidCharacterSequenceAfterDoctypeName p.at ∷ more
      → AfterName known end rest (p ∷ ps) found later
  skips_letter later more c l far none h e = subst (λ (x : List ParseError). AfterName known end rest (p ∷ ps) found x)
      (plain_errors p (letter_error p c l far) (Some (error InvalidCharacterSequenceAfterDoctypeName p.at)) more ∙ sym e) (name_skips (skips_from (force known)
      end rest found p ps more is_keyword InvalidCharacterSequenceAfterDoctypeName (letter_not_space p c l far) (letter_not_greater p c l far) none h))

  to_name_core : (later : List ParseError) (letters : Option Letters) → is_space p.ch ≡ false → is_greater p.ch ≡ false → first_letter p.ch ≡ letters
      → Goes (begins_keyword letters p.at).next (found_by (begins_keyword letters p.at) p known) end rest ps found later
      → AfterName known end rest (p ∷ ps) found (step_errors (begins_keyword letters p.at) p ++ later)
  unfolding left_after
  to_name_core later None es eg el h =
      name_skips (skips_from (force known) end rest found p ps later is_keyword InvalidCharacterSequenceAfterDoctypeName es eg (first_none p ps el) h)
  to_name_core later (Some letters) es eg el h = let (is, l) = first_back p.ch letters el in let far = next_is_letter (unread letters.which) (omega arith) in
      subst (λ (x : List ParseError). AfterName known end rest (p ∷ ps) found x) (sym (plain_errors p (letter_error p _ l far) None later))
      (by letters.which l far (subst (λ (x : Letters). IsInKeyword x p.at known end rest ps found later) is h)) where
        by : (which : Identifier) → to_ascii_lowercase p.ch ≡ next_letter (unread which) → 97 ≤ next_letter (unread which)
            → IsInKeyword (identifier_begun which) p.at known end rest ps found later → AfterName known end rest (p ∷ ps) found later
        by which l far (whole word after t w k) = names_identifier which (p ∷ word) after (ap (λ (x : List Placed). p ∷ x) t)
            (ap (λ (c : ℕ). c ∷ lowered word) l ∙ ap (λ (x : List ℕ). next_letter (unread which) ∷ x) w ∙ sym (left_is (unread which) (omega arith))) k
        by which l far (fails more sp h e) = skips_letter later more _ l far (keyword_rest which p ps l ∙ sp) h e

  pub to_after_name : (later : List ParseError) (s g : Bool) → is_space p.ch ≡ s → is_greater p.ch ≡ g
      → Goes (after_name s g (first_letter p.ch) p.at).next (found_by (after_name s g (first_letter p.ch) p.at) p known) end rest ps found later
      → FollowsName known end rest (p ∷ ps) found (step_errors (after_name s g (first_letter p.ch) p.at) p ++ later)
  to_after_name later true g es eg h =
      with_space (λ spaced. AfterName known) false end rest found later p ps es (any_space (AfterName known) false true end rest ps found later h)
  to_after_name later false true es eg h =
      with_none (λ spaced. AfterName known) false end rest found _ (p ∷ ps) (name_ends (ended known end rest p ps found later eg h))
  to_after_name later false false es eg h = with_none (λ spaced. AfterName known) false end rest found _ (p ∷ ps) (to_name_core later _ es eg refl h)

  -- letters of a keyword that are not its first
  keyword_fails : (letters : Letters) (first : ℕ) (errors later : List ParseError) (next : Option Letters) → spells_in_any_case (left_after next) ps ≡ false
      → IsSkipped (force known) end rest ps found later → errors ≡ error InvalidCharacterSequenceAfterDoctypeName first ∷ later → null_errors (p ∷ []) ≡ []
      → Stepped (goes_on_with letters.which next first) known end rest p ps found errors
  unfolding left_after
  keyword_fails letters first errors later None sp h e n = absurd (false≢true (sym sp))
  keyword_fails letters first errors later (Some next) sp h e n = passed _ known end rest p ps found errors n (fails later sp h e)

  pub from_keyword : (letters : Letters) (first : ℕ) (errors : List ParseError) → letters.read < 6 → (m g : Bool)
      → eqb (to_ascii_lowercase p.ch) (next_letter letters) ≡ m → is_greater p.ch ≡ g → IsInKeyword letters first known end rest (p ∷ ps) found errors
      → Stepped (in_keyword letters first m g) known end rest p ps found errors
  from_keyword letters first errors fits true g em eg (whole word after t w k) =
      let v : Worded p ps (next_letter letters) (left_after (letters_after letters)) after = worded p ps word after _ _ t (w ∙ left_is letters fits) in
      keyword_goes letters first errors (letters_after letters) v.more after (goes_on_as letters) v.text_is v.others k
      (letter_error p _ v.letter (next_is_letter letters fits))
  from_keyword letters first errors fits false g em eg (whole word after t w k) =
      let v : Worded p ps (next_letter letters) (left_after (letters_after letters)) after = worded p ps word after _ _ t (w ∙ left_is letters fits) in
      absurd (false≢true (sym em ∙ subst (λ (n : ℕ). eqb n (next_letter letters) ≡ true) (sym v.letter) (eqb_self (next_letter letters))))
  from_keyword letters first errors fits true g em eg (fails later sp h e) = let far : 97 ≤ next_letter letters = next_is_letter letters fits in
      let k = skipped_goes (force known) end rest found p ps later h (letter_not_greater p _ (eqb-true _ _ em) far) in
      let n : null_errors (p ∷ []) ≡ [] = letter_error p _ (eqb-true _ _ em) far in
      let sp' = ap (λ (x : List ℕ). spells_in_any_case x (p ∷ ps)) (sym (left_is letters fits)) ∙ sp in
      keyword_fails letters first errors k.0 (letters_after letters) (not_second _ _ sp' em) k.2
      (e ∙ ap (λ (x : List ParseError). error InvalidCharacterSequenceAfterDoctypeName first ∷ x) (k.1 ∙ ap (λ (x : List ParseError). x ++ k.0) n)) n
  from_keyword letters first errors fits false true em eg (fails later sp h e) = let k = skipped_ends (force known) end rest found p ps later h eg in
      record {
        later = [];
        errors_are = e ∙ ap (λ (x : List ParseError). error InvalidCharacterSequenceAfterDoctypeName first ∷ x) k.1
            ∙ sym (plain_errors p (greater_error p eg) (Some (error InvalidCharacterSequenceAfterDoctypeName first)) []);
        goes = (k.0, h.found_is, refl);
      }
  from_keyword letters first errors fits false false em eg (fails later sp h e) = let k = skipped_goes (force known) end rest found p ps later h eg in
      record { later = k.0; errors_are = e ∙ ap (λ (x : List ParseError). error InvalidCharacterSequenceAfterDoctypeName first ∷ x) k.1; goes = k.2 }

  -- backwards
  word_more : (letters : Letters) (word : List Placed) → letters.read < 6 → to_ascii_lowercase p.ch ≡ next_letter letters
      → lowered word ≡ left_after (letters_after letters) → lowered (p ∷ word) ≡ letters_left letters
  word_more letters word fits l w = ap (λ (c : ℕ). c ∷ lowered word) l ∙ ap (λ (x : List ℕ). next_letter letters ∷ x) w ∙ sym (left_is letters fits)

  keyword_on : (letters : Letters) (first : ℕ) (later : List ParseError) (next : Option Letters) → letters.read < 6 → letters_after letters ≡ next
      → GoesOnAs letters.which next → to_ascii_lowercase p.ch ≡ next_letter letters
      → Goes (goes_on_with letters.which next first).next (found_by (goes_on_with letters.which next first) p known) end rest ps found later
      → IsInKeyword letters first known end rest (p ∷ ps) found later
  unfolding left_after
  keyword_on letters first later None fits o w l h = whole (p ∷ []) ps refl (word_more letters [] fits l (ap left_after (sym o))) h
  keyword_on letters first later (Some next) fits o w l (whole word after t s k) = whole (p ∷ word) after (ap (λ (x : List Placed). p ∷ x) t)
      (word_more letters word fits l (s ∙ ap left_after (sym o))) (subst (λ (x : Identifier). FollowsKeyword x known end rest after found later) w.0 k)
  keyword_on letters first later (Some next) fits o w l (fails more sp h e) = let far : 97 ≤ next_letter letters = next_is_letter letters fits in
      fails more (cc (left_is letters fits, and_right (eqb (to_ascii_lowercase p.ch) (next_letter letters)) (spells_in_any_case (letters_left next) ps) sp))
      (subst (λ (x : List ParseError). IsSkipped (force known) end rest (p ∷ ps) found x) (ap (λ (x : List ParseError). x ++ more) (letter_error p _ l far))
      (skipped_more (force known) end rest found p ps more h (letter_not_greater p _ l far))) e

  other_no : (letters : Letters) → letters.read < 6 → eqb (to_ascii_lowercase p.ch) (next_letter letters) ≡ false
      → spells_in_any_case (letters_left letters) (p ∷ ps) ≡ false
  other_no letters fits em = ap (λ (x : List ℕ). spells_in_any_case x (p ∷ ps)) (left_is letters fits)
      ∙ and_left (eqb (to_ascii_lowercase p.ch) (next_letter letters)) (spells_in_any_case (left_after (letters_after letters)) ps) em

  pub to_keyword : (letters : Letters) (first : ℕ) (later : List ParseError) → letters.read < 6 → (m g : Bool)
      → eqb (to_ascii_lowercase p.ch) (next_letter letters) ≡ m → is_greater p.ch ≡ g
      → Goes (in_keyword letters first m g).next (found_by (in_keyword letters first m g) p known) end rest ps found later
      → IsInKeyword letters first known end rest (p ∷ ps) found (step_errors (in_keyword letters first m g) p ++ later)
  to_keyword letters first later fits true g em eg h = subst (λ (x : List ParseError). IsInKeyword letters first known end rest (p ∷ ps) found x)
      (sym (no_errors letters first later (letters_after letters) (letter_error p _ (eqb-true _ _ em) (next_is_letter letters fits))))
      (keyword_on letters first later (letters_after letters) fits refl (goes_on_as letters) (eqb-true _ _ em) h) where
        no_errors : (letters : Letters) (first : ℕ) (later : List ParseError) (next : Option Letters) → null_errors (p ∷ []) ≡ []
            → step_errors (goes_on_with letters.which next first) p ++ later ≡ later
        no_errors letters first later None n = plain_errors p n None later
        no_errors letters first later (Some next) n = plain_errors p n None later
  to_keyword letters first later fits false true em eg (t, f, e) =
      fails [] (other_no letters fits em) (skipped_none (force known) end rest found p ps [] eg t f)
      (cc (plain_errors p (greater_error p eg) (Some (error InvalidCharacterSequenceAfterDoctypeName first)) later))
  to_keyword letters first later fits false false em eg h =
      fails (null_errors (p ∷ []) ++ later) (other_no letters fits em) (skipped_more (force known) end rest found p ps later h eg) refl

-- The name of a doctype: each character.
module _ (known : Found) (end : ℕ) (rest : List Placed) (p : Placed) (ps : List Placed) (found : Found) where
  -- one more character of the name, from its parts
  name_more : (errors : List ParseError) (name after : List Placed) (later : List ParseError) → p ∷ ps ≡ name ++ after
      → all (λ c. not (is_space c || is_greater c)) name ≡ true → stops (λ c. is_space c || is_greater c) (after ++ rest) ≡ true
      → FollowsName (with_name (name_bytes name) known) end rest after found later → errors ≡ null_errors name ++ later
      → (is_space p.ch || is_greater p.ch) ≡ false
      → (more : List ParseError) × (errors ≡ null_errors (p ∷ []) ++ more) × IsDoctypeName (with_name (name_bytes (p ∷ [])) known) end rest ps found more
  name_more errors [] [] later t a s f e is = absurd cc
  name_more errors [] (q ∷ qs) later t a s f e is = absurd (false≢true (sym is ∙ ap (begins (λ c. is_space c || is_greater c)) t ∙ s))
  name_more errors (n ∷ ns) after later t a s f e is = let head : n ≡ p = cc in (
    null_errors ns ++ later,
    cc (null_errors-append (n ∷ []) ns, append_assoc (null_errors (n ∷ [])) (null_errors ns) later),
    record {
      name = ns;
      after = after;
      later = later;
      text_is = cc;
      runs = record
          { passes_none = (and_parts (not (is_space n.ch || is_greater n.ch)) (all (λ c. not (is_space c || is_greater c)) ns) a).1; stops_after = s };
      follows = transport (λ t.
          FollowsName ((named-cons n ns known ∙ (λ i. with_name (name_bytes ns) (with_name (name_bytes (head i ∷ [])) known))) t) end rest after found later) f;
      errors_are = refl;
    },
  )

  name_goes : (errors : List ParseError) → IsDoctypeName known end rest (p ∷ ps) found errors → (is_space p.ch || is_greater p.ch) ≡ false
      → (more : List ParseError) × (errors ≡ null_errors (p ∷ []) ++ more) × IsDoctypeName (with_name (name_bytes (p ∷ [])) known) end rest ps found more
  name_goes errors h is = name_more errors h.name h.after h.later h.text_is h.runs.passes_none h.runs.stops_after h.follows h.errors_are is

  -- or what is after it
  name_over : (errors : List ParseError) (name after : List Placed) (later : List ParseError) → p ∷ ps ≡ name ++ after
      → all (λ c. not (is_space c || is_greater c)) name ≡ true → FollowsName (with_name (name_bytes name) known) end rest after found later
      → errors ≡ null_errors name ++ later → (is_space p.ch || is_greater p.ch) ≡ true → is_some known.name ≡ true
      → FollowsName known end rest (p ∷ ps) found errors
  name_over errors [] after later t a f e is begun = transport (λ i. FollowsName (named_not known begun i) end rest (sym t i) found (sym e i)) f
  name_over errors (n ∷ ns) after later t a f e is begun = absurd (false≢true (cc
      (not-true (is_space n.ch || is_greater n.ch) (and_parts (not (is_space n.ch || is_greater n.ch)) (all (λ c. not (is_space c || is_greater c)) ns) a).0)))

  name_stops : (errors : List ParseError) → IsDoctypeName known end rest (p ∷ ps) found errors → (is_space p.ch || is_greater p.ch) ≡ true
      → is_some known.name ≡ true → FollowsName known end rest (p ∷ ps) found errors
  name_stops errors h is begun = name_over errors h.name h.after h.later h.text_is h.runs.passes_none h.follows h.errors_are is begun

  pub from_name : (errors : List ParseError) (s g : Bool) → is_space p.ch ≡ s → is_greater p.ch ≡ g → is_some known.name ≡ true
      → IsDoctypeName known end rest (p ∷ ps) found errors → Stepped (in_name s g) known end rest p ps found errors
  from_name errors true g es eg begun h = passed _ known end rest p ps found errors (space_error p es)
      (any_space (AfterName known) true false end rest ps found errors (past_space (λ spaced. AfterName known) false end rest found errors p ps
      (name_stops errors h (or_left (is_space p.ch) (is_greater p.ch) es) begun) es (λ b text. name_not_space known end rest found text errors)))
  from_name errors false true es eg begun h = let k = name_stops errors h (or_right (is_space p.ch) (is_greater p.ch) eg) begun in
      let m = name_ended known end rest p ps found errors eg (at_once (λ spaced. AfterName known) false end rest found errors (p ∷ ps) k es) in
      record { later = []; errors_are = m.2 ∙ sym (plain_errors p (greater_error p eg) None []); goes = (m.0, m.1, refl) }
  from_name errors false false es eg begun h = let k = name_goes errors h (or_from (is_space p.ch) (is_greater p.ch) es eg) in
      record { later = k.0; errors_are = k.1; goes = k.2 }

  -- backwards
  over_name : (errors : List ParseError) → is_some known.name ≡ true → (is_space p.ch || is_greater p.ch) ≡ true
      → FollowsName known end rest (p ∷ ps) found errors → IsDoctypeName known end rest (p ∷ ps) found errors
  over_name errors begun is h = record {
    name = [];
    after = p ∷ ps;
    later = errors;
    text_is = refl;
    runs = record { passes_none = refl; stops_after = is };
    follows = subst (λ (x : Found). FollowsName x end rest (p ∷ ps) found errors) (sym (named_not known begun)) h;
    errors_are = refl;
  }

  longer_name : (later : List ParseError) → is_space p.ch ≡ false → is_greater p.ch ≡ false
      → IsDoctypeName (with_name (name_bytes (p ∷ [])) known) end rest ps found later
      → IsDoctypeName known end rest (p ∷ ps) found (null_errors (p ∷ []) ++ later)
  longer_name later es eg h = record {
    name = p ∷ h.name;
    after = h.after;
    later = h.later;
    text_is = ap (λ (x : List Placed). p ∷ x) h.text_is;
    runs = record {
      passes_none = and_from (not (is_space p.ch || is_greater p.ch)) _ (not_either (is_space p.ch) (is_greater p.ch) es eg) h.runs.passes_none;
      stops_after = h.runs.stops_after;
    };
    follows = subst (λ (x : Found). FollowsName x end rest h.after found h.later) (sym (named-cons p h.name known)) h.follows;
    errors_are = cc (append_assoc (null_errors (p ∷ [])) (null_errors h.name) h.later, null_errors-append (p ∷ []) h.name);
  }

  pub to_name : (later : List ParseError) (s g : Bool) → is_space p.ch ≡ s → is_greater p.ch ≡ g → is_some known.name ≡ true
      → Goes (in_name s g).next (found_by (in_name s g) p known) end rest ps found later
      → IsDoctypeName known end rest (p ∷ ps) found (step_errors (in_name s g) p ++ later)
  to_name later true g es eg begun h = over_name _ begun (or_left (is_space p.ch) (is_greater p.ch) es)
      (with_space (λ spaced. AfterName known) false end rest found later p ps es (any_space (AfterName known) false true end rest ps found later h))
  to_name later false true es eg begun h = over_name _ begun (or_right (is_space p.ch) (is_greater p.ch) eg)
      (with_none (λ spaced. AfterName known) false end rest found _ (p ∷ ps) (name_ends (ended known end rest p ps found later eg h)))
  to_name later false false es eg begun h = longer_name later es eg h

  -- before the name
  opening_not_space : (b : Bool) (text : List Placed) (errors : List ParseError) → AfterOpening known b end rest text found errors
      → begins is_space text ≡ false
  opening_not_space b [] errors h = refl
  opening_not_space b (q ∷ qs) errors (begins_name later n h e) = (neither_of (is_space q.ch) (is_greater q.ch) n).0
  opening_not_space b (q ∷ qs) errors (nameless c f e) = greater_not_space q.ch (only_greater q qs c).0
  opening_not_space b (q ∷ qs) errors (unfinished r t f e) = absurd cc

  from_opening : (errors : List ParseError) (spaced g : Bool) → is_space p.ch ≡ false → is_greater p.ch ≡ g
      → AfterOpening known spaced end rest (p ∷ ps) found errors → Stepped (before_name spaced false g p.at) known end rest p ps found errors
  from_opening errors spaced true es eg (begins_name later n h e) = absurd (false≢true (sym (neither_of (is_space p.ch) (is_greater p.ch) n).1 ∙ eg))
  from_opening errors spaced false es eg (begins_name later n h e) = let k = name_goes later h (or_from (is_space p.ch) (is_greater p.ch) es eg) in
      let fault : Option ParseError = if spaced then None else Some (error MissingWhitespaceBeforeDoctypeName p.at) in
      record {
        later = k.0;
        errors_are = cc (fault_if spaced MissingWhitespaceBeforeDoctypeName p.at, k.1, append_assoc (fault_errors fault) (null_errors (p ∷ [])) k.0);
        goes = k.2;
      }
  from_opening errors spaced g es eg (nameless c f e) = refused_by known end rest p ps found errors MissingDoctypeName _ g eg c f e
  from_opening errors spaced g es eg (unfinished r t f e) = absurd cc

  pub from_before : (errors : List ParseError) (spaced s g : Bool) → is_space p.ch ≡ s → is_greater p.ch ≡ g
      → AfterSpace (AfterOpening known) spaced end rest (p ∷ ps) found errors → Stepped (before_name spaced s g p.at) known end rest p ps found errors
  from_before errors spaced true g es eg h = passed _ known end rest p ps found errors (space_error p es)
      (past_space (AfterOpening known) spaced end rest found errors p ps h es (λ b text. opening_not_space b text errors))
  from_before errors spaced false g es eg h = from_opening errors spaced g es eg (at_once (AfterOpening known) spaced end rest found errors (p ∷ ps) h es)

  pub to_before : (later : List ParseError) (spaced s g : Bool) → is_space p.ch ≡ s → is_greater p.ch ≡ g
      → Goes (before_name spaced s g p.at).next (found_by (before_name spaced s g p.at) p known) end rest ps found later
      → AfterSpace (AfterOpening known) spaced end rest (p ∷ ps) found (step_errors (before_name spaced s g p.at) p ++ later)
  to_before later spaced true g es eg h = with_space (AfterOpening known) spaced end rest found later p ps es h
  to_before later spaced false true es eg (t, f, e) = with_none (AfterOpening known) spaced end rest found _ (p ∷ ps)
      (nameless (ap (λ (x : List Placed). characters (p ∷ x)) t ∙ greater_spells p eg) f (refused_at known end rest p ps found later MissingDoctypeName eg e))
  to_before later spaced false false es eg h = let fault : Option ParseError = if spaced then None else Some (error MissingWhitespaceBeforeDoctypeName p.at) in
      with_none (AfterOpening known) spaced end rest found _ (p ∷ ps) (begins_name (null_errors (p ∷ []) ++ later)
      (not_either (is_space p.ch) (is_greater p.ch) es eg) (longer_name later es eg h) (append_assoc (fault_errors fault) (null_errors (p ∷ [])) later
      ∙ ap (λ (x : List ParseError). x ++ (null_errors (p ∷ []) ++ later)) (sym (fault_if spaced MissingWhitespaceBeforeDoctypeName p.at))))
