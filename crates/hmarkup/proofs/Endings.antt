-- The end of a doctype, white space and skipped rests in it, a character at a time.
use Rattle.hmarkup.proofs.Names.{◌≡◌, ℕ, Bool, true, false, not, ◌||◌, eqb, List, [], ◌∷◌, ◌++◌, sym, refl, ap, ◌∙◌, subst, codes, false≢true, eqb-true, and_from, and_parts, not-true, or_from, or_parts, ParseError, ErrorCode, EofInDoctype, Placed, characters, begins, is_empty, all, is_space, is_greater, is_greater_or_end, error, null_errors, Found, force, IsEnd, closed, cut_off, IsSkipped, Skips, not_from_false, if◌then◌else◌, Option, Some, None, append-nil, is_quote, error_if, DoctypeState, Step, DoctypeRelation, found_by, step_errors, fault_errors, DoctypeGoesOn, goes_to, ends_doctype, refuses, skips, AfterSpace, transport, or-true, or-false, UnexpectedCharacterAfterDoctypeSystemIdentifier, AfterSystemIdentifier, system_ends, system_skips, in_skipped, after_system}
use Rattle.hmarkup.proofs.Marks.{null_errors-append}
use Rattle.hmarkup.proofs.Characters.{greater_not_space, quote_is, space_not_null, no_null_error}
-- a lemma of the standard library, under the name by which the crates above cite it
pub use Rattle.std.proofs.lemmas.Bool.{not-true as not_true}

-- a text that is one character
pub only_greater : (p : Placed) (ps : List Placed) → characters (p ∷ ps) ≡ codes ">" → (is_greater p.ch ≡ true) × (ps ≡ [])
only_greater p [] h = let is : p.ch ≡ 62 = cc in (ap (λ (n : ℕ). eqb n 62) is, refl)
only_greater p (q ∷ qs) h = absurd cc

pub greater_spells : (p : Placed) → is_greater p.ch ≡ true → characters (p ∷ []) ≡ codes ">"
greater_spells p h = ap (λ (n : ℕ). n ∷ []) (eqb-true p.ch 62 h)

-- neither white space nor `>`
pub neither_of : (a b : Bool) → not (a || b) ≡ true → (a ≡ false) × (b ≡ false)
neither_of a b h = or_parts a b (not-true (a || b) h)

pub not_either : (a b : Bool) → a ≡ false → b ≡ false → not (a || b) ≡ true
not_either a b e f = not_from_false (a || b) (or_from a b e f)

-- the end
pub end_at : (known : Found) (end : ℕ) (rest : List Placed) (p : Placed) (ps : List Placed) (found : Found) (errors : List ParseError)
    → IsEnd known end rest (p ∷ ps) found errors → (is_greater p.ch ≡ true) × (ps ≡ []) × (found ≡ known) × (errors ≡ [])
end_at known end rest p ps found errors (closed c f e) = let k = only_greater p ps c in (k.0, k.1, f, e)
end_at known end rest p ps found errors (cut_off r t f e) = absurd cc

pub end_at_end : (known : Found) (end : ℕ) (rest : List Placed) (found : Found) (errors : List ParseError) → IsEnd known end rest [] found errors
    → (rest ≡ []) × (found ≡ force known) × (errors ≡ error EofInDoctype end ∷ [])
end_at_end known end rest found errors (closed c f e) = absurd cc
end_at_end known end rest found errors (cut_off r t f e) = (r, f, e)

pub end_not_space : (known : Found) (end : ℕ) (rest text : List Placed) (found : Found) (errors : List ParseError) → IsEnd known end rest text found errors
    → begins is_space text ≡ false
end_not_space known end rest [] found errors h = refl
end_not_space known end rest (p ∷ ps) found errors h = greater_not_space p.ch (end_at known end rest p ps found errors h).0

-- a skipped rest, from its parts
module _ (known : Found) (end : ℕ) (rest : List Placed) (found : Found) where
  module _ (p : Placed) (ps : List Placed) (errors : List ParseError) where
    ends_there : (skipped close : List Placed) → p ∷ ps ≡ skipped ++ close → all (λ c. not (is_greater c)) skipped ≡ true → is_greater_or_end close rest ≡ true
        → errors ≡ null_errors skipped → is_greater p.ch ≡ true → (ps ≡ []) × (errors ≡ [])
    ends_there (s ∷ ss) close t w c e is = absurd (false≢true
        (sym (not-true (is_greater s.ch) (and_parts (not (is_greater s.ch)) (all (λ c. not (is_greater c)) ss) w).0) ∙ ap (begins is_greater) (sym t) ∙ is))
    ends_there [] [] t w c e is = absurd cc
    ends_there [] (q ∷ r ∷ rs) t w c e is = absurd (false≢true (and_parts (eqb q.ch 62) false c).1)
    ends_there [] (q ∷ []) t w c e is = (cc, e)

    pub skipped_ends : IsSkipped known end rest (p ∷ ps) found errors → is_greater p.ch ≡ true → (ps ≡ []) × (errors ≡ [])
    skipped_ends h is = ends_there h.skipped h.close h.text_is h.without h.closes h.errors_are is

    goes_there : (skipped close : List Placed) → p ∷ ps ≡ skipped ++ close → all (λ c. not (is_greater c)) skipped ≡ true → is_greater_or_end close rest ≡ true
        → found ≡ known → errors ≡ null_errors skipped → is_greater p.ch ≡ false
        → (later : List ParseError) × (errors ≡ null_errors (p ∷ []) ++ later) × IsSkipped known end rest ps found later
    goes_there [] [] t w c f e is = absurd cc
    goes_there [] (q ∷ qs) t w c f e is = absurd (false≢true (sym is ∙ ap (begins is_greater) t ∙ (and_parts (eqb q.ch 62) (is_empty qs) c).0))
    goes_there (s ∷ ss) close t w c f e is = let head : s ≡ p = cc in (
      null_errors ss,
      e ∙ null_errors-append (s ∷ []) ss ∙ ap (λ (x : Placed). null_errors (x ∷ []) ++ null_errors ss) head,
      record {
        skipped = ss;
        close = close;
        text_is = cc;
        without = (and_parts (not (is_greater s.ch)) (all (λ c. not (is_greater c)) ss) w).1;
        closes = c;
        found_is = f;
        errors_are = refl;
      },
    )

    pub skipped_goes : IsSkipped known end rest (p ∷ ps) found errors → is_greater p.ch ≡ false
        → (later : List ParseError) × (errors ≡ null_errors (p ∷ []) ++ later) × IsSkipped known end rest ps found later
    skipped_goes h is = goes_there h.skipped h.close h.text_is h.without h.closes h.found_is h.errors_are is

    -- backwards
    pub skipped_none : is_greater p.ch ≡ true → ps ≡ [] → found ≡ known → IsSkipped known end rest (p ∷ ps) found []
    skipped_none is t f = record {
      skipped = [];
      close = p ∷ ps;
      text_is = refl;
      without = refl;
      closes = rw t (and_from (is_greater p.ch) true is refl);
      found_is = f;
      errors_are = refl;
    }

    pub skipped_more : IsSkipped known end rest ps found errors → is_greater p.ch ≡ false
        → IsSkipped known end rest (p ∷ ps) found (null_errors (p ∷ []) ++ errors)
    skipped_more h is = record {
      skipped = p ∷ h.skipped;
      close = h.close;
      text_is = ap (λ (x : List Placed). p ∷ x) h.text_is;
      without = and_from (not (is_greater p.ch)) (all (λ c. not (is_greater c)) h.skipped) (not_from_false (is_greater p.ch) is) h.without;
      closes = h.closes;
      found_is = h.found_is;
      errors_are = ap (λ (x : List ParseError). null_errors (p ∷ []) ++ x) h.errors_are ∙ sym (null_errors-append (p ∷ []) h.skipped);
    }

  pub skipped_at_end : (errors : List ParseError) → IsSkipped known end rest [] found errors → (rest ≡ []) × (found ≡ known) × (errors ≡ [])
  skipped_at_end errors h = none_left h.skipped h.close h.text_is h.closes h.found_is h.errors_are where
    none_left : (skipped close : List Placed) → [] ≡ skipped ++ close → is_greater_or_end close rest ≡ true → found ≡ known → errors ≡ null_errors skipped
        → (rest ≡ []) × (found ≡ known) × (errors ≡ [])
    none_left [] [] t c f e = (empty_is rest c, f, e) where
      empty_is : (xs : List Placed) → is_empty xs ≡ true → xs ≡ []
      empty_is [] h = refl
      empty_is (x ∷ xs) h = absurd (false≢true h)
    none_left _ _ t c f e = absurd cc

pub skips_at : (known : Found) (end : ℕ) (rest : List Placed) (found : Found) (p : Placed) (ps : List Placed) (errors : List ParseError)
    (test : List Placed → Bool) (fault : ErrorCode) → Skips test fault known end rest (p ∷ ps) found errors
    → (is_space p.ch ≡ false) × (is_greater p.ch ≡ false) × (test (p ∷ ps) ≡ false)
    × ((later : List ParseError) × (errors ≡ (error fault p.at ∷ null_errors (p ∷ [])) ++ later) × IsSkipped known end rest ps found later)
skips_at known end rest found p ps errors test fault h = let k = neither_of (is_space p.ch) (is_greater p.ch) h.first in
    let m = skipped_goes known end rest found p ps h.later h.skips k.1 in
    (k.0, k.1, h.fails, (m.0, h.errors_are ∙ ap (λ (x : List ParseError). error fault p.at ∷ x) m.1, m.2))

pub skips_from : (known : Found) (end : ℕ) (rest : List Placed) (found : Found) (p : Placed) (ps : List Placed) (later : List ParseError)
    (test : List Placed → Bool) (fault : ErrorCode) → is_space p.ch ≡ false → is_greater p.ch ≡ false → test (p ∷ ps) ≡ false
    → IsSkipped known end rest ps found later → Skips test fault known end rest (p ∷ ps) found ((error fault p.at ∷ null_errors (p ∷ [])) ++ later)
skips_from known end rest found p ps later test fault s g t h = record {
  later = null_errors (p ∷ []) ++ later;
  first = not_either (is_space p.ch) (is_greater p.ch) s g;
  fails = t;
  skips = skipped_more known end rest found p ps later h g;
  errors_are = refl;
}

pub skips_not_space : (test : List Placed → Bool) (fault : ErrorCode) (known : Found) (end : ℕ) (rest text : List Placed) (found : Found)
    (errors : List ParseError) → Skips test fault known end rest text found errors → begins is_space text ≡ false
skips_not_space test fault known end rest [] found errors h = refl
skips_not_space test fault known end rest (p ∷ ps) found errors h = (neither_of (is_space p.ch) (is_greater p.ch) h.first).0

pub skips_not_at_end : (test : List Placed → Bool) (fault : ErrorCode) (known : Found) (end : ℕ) (rest : List Placed) (found : Found) (errors : List ParseError)
    → Skips test fault known end rest [] found errors → ⊥
skips_not_at_end test fault known end rest found errors h = false≢true h.first

-- A character of a doctype: what goes on after it.

-- what is after the character: the rest of the doctype, or nothing
abbrev pub Goes : Option DoctypeState → Found → DoctypeRelation
Goes None known end rest text found errors = (text ≡ []) × (found ≡ known) × (errors ≡ [])
Goes (Some phase) known end rest text found errors = DoctypeGoesOn phase known end rest text found errors

pub record Stepped (step : Step) (known : Found) (end : ℕ) (rest : List Placed) (p : Placed) (ps : List Placed) (found : Found)
    (errors : List ParseError) : Type 0 where
  pub later : List ParseError
  pub errors_are : errors ≡ step_errors step p ++ later
  pub goes : Goes step.next (found_by step p known) end rest ps found later

-- a character that is not NUL has no error but the step's
pub plain_errors : (p : Placed) → null_errors (p ∷ []) ≡ [] → (fault : Option ParseError) (later : List ParseError)
    → (fault_errors fault ++ null_errors (p ∷ [])) ++ later ≡ fault_errors fault ++ later
plain_errors p n fault later = ap (λ x. (fault_errors fault ++ x) ++ later) n ∙ ap (λ (x : List ParseError). x ++ later) (append-nil (fault_errors fault))

-- which is passed over where the step says no more than how the doctype goes on
pub passed : (next : DoctypeState) (known : Found) (end : ℕ) (rest : List Placed) (p : Placed) (ps : List Placed) (found : Found) (errors : List ParseError)
    → null_errors (p ∷ []) ≡ [] → DoctypeGoesOn next known end rest ps found errors → Stepped (goes_to next) known end rest p ps found errors
passed next known end rest p ps found errors n g = record { later = errors; errors_are = sym (plain_errors p n None errors); goes = g }

pub space_error : (p : Placed) → is_space p.ch ≡ true → null_errors (p ∷ []) ≡ []
space_error p h = no_null_error p (space_not_null p.ch h)

pub greater_error : (p : Placed) → is_greater p.ch ≡ true → null_errors (p ∷ []) ≡ []
greater_error p h = no_null_error p (subst (λ (n : ℕ). eqb n 0 ≡ false) (sym (eqb-true p.ch 62 h)) refl)

pub quote_error : (p : Placed) → is_quote p.ch ≡ true → null_errors (p ∷ []) ≡ []
quote_error p h = no_null_error p (quote_is p.ch h (λ n. eqb n 0 ≡ false) refl refl)

-- an error where no white space is before
pub fault_if : (spaced : Bool) (code : ErrorCode) (at : ℕ) → error_if (not spaced) code at ≡ fault_errors (if spaced then None else Some (error code at))
fault_if true code at = refl
fault_if false code at = refl

-- at an end, at a `>` that is an error, and at the beginning of a skipped rest: by the tests that the phase makes
module _ (known : Found) (end : ℕ) (rest : List Placed) (p : Placed) (ps : List Placed) (found : Found) (errors : List ParseError) where
  pub ends_by : (other : Step) (g : Bool) → is_greater p.ch ≡ g → IsEnd known end rest (p ∷ ps) found errors
      → Stepped (if g then ends_doctype else other) known end rest p ps found errors
  ends_by other true eg h = let k = end_at known end rest p ps found errors h in
      record { later = []; errors_are = k.3 ∙ sym (plain_errors p (greater_error p eg) None []); goes = (k.1, k.2, refl) }
  ends_by other false eg h = absurd (false≢true (sym eg ∙ (end_at known end rest p ps found errors h).0))

  pub refused_by : (code : ErrorCode) (other : Step) (g : Bool) → is_greater p.ch ≡ g → characters (p ∷ ps) ≡ codes ">" → found ≡ force known
      → errors ≡ error code p.at ∷ [] → Stepped (if g then refuses code p.at else other) known end rest p ps found errors
  refused_by code other true eg c f e = record
      { later = []; errors_are = e ∙ sym (plain_errors p (greater_error p eg) (Some (error code p.at)) []); goes = ((only_greater p ps c).1, f, refl) }
  refused_by code other false eg c f e = absurd (false≢true (sym eg ∙ (only_greater p ps c).0))

  pub skips_by : (test : List Placed → Bool) (code : ErrorCode) (forced : Bool) (closes other : Step) (g q : Bool) → is_greater p.ch ≡ g → test (p ∷ ps) ≡ q
      → Skips test code (if forced then force known else known) end rest (p ∷ ps) found errors
      → Stepped (if g then closes else (if q then other else skips code p.at forced)) known end rest p ps found errors
  skips_by test code forced closes other true q eg eq h = absurd (false≢true (sym (skips_at _ end rest found p ps errors test code h).1 ∙ eg))
  skips_by test code forced closes other false true eg eq h = absurd (false≢true (sym (skips_at _ end rest found p ps errors test code h).2 ∙ eq))
  skips_by test code forced closes other false false eg eq h = let k = skips_at _ end rest found p ps errors test code h in
      record { later = k.3.0; errors_are = k.3.1; goes = k.3.2 }

  -- backwards
  pub ended : is_greater p.ch ≡ true → Goes None known end rest ps found errors → IsEnd known end rest (p ∷ ps) found (step_errors ends_doctype p ++ errors)
  ended eg (t, f, e) = closed (ap (λ (x : List Placed). characters (p ∷ x)) t ∙ greater_spells p eg) f (plain_errors p (greater_error p eg) None errors ∙ e)

  pub refused_at : (code : ErrorCode) → is_greater p.ch ≡ true → errors ≡ [] → step_errors (refuses code p.at) p ++ errors ≡ error code p.at ∷ []
  refused_at code eg e = plain_errors p (greater_error p eg) (Some (error code p.at)) errors ∙ ap (λ (x : List ParseError). error code p.at ∷ x) e

-- White space before a production, a character at a time.
module _ (T : Bool → DoctypeRelation) (spaced : Bool) (end : ℕ) (rest : List Placed) (found : Found) (errors : List ParseError) where
  -- white space leaves the production after it
  from_space : (p : Placed) (ps space after : List Placed) → p ∷ ps ≡ space ++ after → all is_space space ≡ true
      → T (spaced || not (is_empty space)) end rest after found errors → is_space p.ch ≡ true
      → ((b : Bool) (text : List Placed) → T b end rest text found errors → begins is_space text ≡ false) → AfterSpace T true end rest ps found errors
  from_space p ps [] after t s h is none = absurd (false≢true (sym (none (spaced || false) after h) ∙ ap (begins is_space) (sym t) ∙ is))
  from_space p ps (x ∷ xs) after t s h is none = record
      { space = xs; after = after; text_is = cc; spaces = (and_parts (is_space x.ch) (all is_space xs) s).1; then = rw (← (or-true spaced)) h }

  pub past_space : (p : Placed) (ps : List Placed) → AfterSpace T spaced end rest (p ∷ ps) found errors → is_space p.ch ≡ true
      → ((b : Bool) (text : List Placed) → T b end rest text found errors → begins is_space text ≡ false) → AfterSpace T true end rest ps found errors
  past_space p ps h is none = from_space p ps h.space h.after h.text_is h.spaces h.then is none

  -- and where there is none, the production is there
  none_there : (text space after : List Placed) → text ≡ space ++ after → all is_space space ≡ true
      → T (spaced || not (is_empty space)) end rest after found errors → begins is_space text ≡ false → T spaced end rest text found errors
  none_there text [] after t s h is = subst (λ x. T spaced end rest x found errors) (sym t) (subst (λ b. T b end rest after found errors) (or-false spaced) h)
  none_there text (x ∷ xs) after t s h is = absurd (false≢true (sym is ∙ ap (begins is_space) t ∙ (and_parts (is_space x.ch) (all is_space xs) s).0))

  pub at_once : (text : List Placed) → AfterSpace T spaced end rest text found errors → begins is_space text ≡ false → T spaced end rest text found errors
  at_once text h is = none_there text h.space h.after h.text_is h.spaces h.then is

  -- backwards
  pub with_none : (text : List Placed) → T spaced end rest text found errors → AfterSpace T spaced end rest text found errors
  with_none text h = record { space = []; after = text; text_is = refl; spaces = refl; then = rw (or-false spaced) h }

-- a production that doesn't depend on the white space before it
pub any_space : (T : DoctypeRelation) (a b : Bool) (end : ℕ) (rest text : List Placed) (found : Found) (errors : List ParseError)
    → AfterSpace (λ (s : Bool). T) a end rest text found errors → AfterSpace (λ (s : Bool). T) b end rest text found errors
any_space T a b end rest text found errors h = record { space = h.space; after = h.after; text_is = h.text_is; spaces = h.spaces; then = h.then }

-- backwards, with the errors of white space
pub with_space : (T : Bool → DoctypeRelation) (spaced : Bool) (end : ℕ) (rest : List Placed) (found : Found) (later : List ParseError) (p : Placed)
    (ps : List Placed) → is_space p.ch ≡ true → AfterSpace T true end rest ps found later
    → AfterSpace T spaced end rest (p ∷ ps) found ((fault_errors None ++ null_errors (p ∷ [])) ++ later)
with_space T spaced end rest found later p ps is h = record {
  space = p ∷ h.space;
  after = h.after;
  text_is = ap (λ (x : List Placed). p ∷ x) h.text_is;
  spaces = and_from (is_space p.ch) (all is_space h.space) is h.spaces;
  then = transport (λ i. T (sym (or-true spaced) i) end rest h.after found (sym (plain_errors p (space_error p is) None later) i)) h.then;
}

-- A skipped rest and what follows the system identifier: each character.
module _ (known : Found) (end : ℕ) (rest : List Placed) (p : Placed) (ps : List Placed) (found : Found) where
  -- a skipped rest
  pub from_skipped : (errors : List ParseError) (g : Bool) → is_greater p.ch ≡ g → IsSkipped known end rest (p ∷ ps) found errors
      → Stepped (in_skipped g) known end rest p ps found errors
  from_skipped errors true eg h = let k = skipped_ends known end rest found p ps errors h eg in
      record { later = []; errors_are = k.1 ∙ sym (plain_errors p (greater_error p eg) None []); goes = (k.0, h.found_is, refl) }
  from_skipped errors false eg h = let k = skipped_goes known end rest found p ps errors h eg in record { later = k.0; errors_are = k.1; goes = k.2 }

  pub to_skipped : (later : List ParseError) (g : Bool) → is_greater p.ch ≡ g
      → Goes (in_skipped g).next (found_by (in_skipped g) p known) end rest ps found later
      → IsSkipped known end rest (p ∷ ps) found (step_errors (in_skipped g) p ++ later)
  to_skipped later true eg (t, f, e) = rw (plain_errors p (greater_error p eg) None later ∙ e) (skipped_none known end rest found p ps [] eg t f)
  to_skipped later false eg h = skipped_more known end rest found p ps later h eg

  -- after the system identifier
  system_not_space : (b : Bool) (text : List Placed) (errors : List ParseError) → AfterSystemIdentifier known end rest text found errors
      → begins is_space text ≡ false
  system_not_space b text errors (system_ends h) = end_not_space known end rest text found errors h
  system_not_space b text errors (system_skips h) = skips_not_space _ _ known end rest text found errors h

  from_system_core : (errors : List ParseError) (g : Bool) → is_greater p.ch ≡ g → AfterSystemIdentifier known end rest (p ∷ ps) found errors
      → Stepped (after_system false g p.at) known end rest p ps found errors
  from_system_core errors g eg (system_ends h) = ends_by known end rest p ps found errors _ g eg h
  from_system_core errors g eg (system_skips h) = skips_by known end rest p ps found errors _ _ false ends_doctype ends_doctype g false eg refl h

  pub from_system : (errors : List ParseError) (s g : Bool) → is_space p.ch ≡ s → is_greater p.ch ≡ g
      → AfterSpace (λ spaced. AfterSystemIdentifier known) false end rest (p ∷ ps) found errors
      → Stepped (after_system s g p.at) known end rest p ps found errors
  from_system errors true g es eg h = passed _ known end rest p ps found errors (space_error p es) (any_space (AfterSystemIdentifier known) true false end rest
      ps found errors (past_space (λ spaced. AfterSystemIdentifier known) false end rest found errors p ps h es (λ b text. system_not_space b text errors)))
  from_system errors false g es eg h = from_system_core errors g eg (at_once (λ spaced. AfterSystemIdentifier known) false end rest found errors (p ∷ ps) h es)

  pub to_system : (later : List ParseError) (s g : Bool) → is_space p.ch ≡ s → is_greater p.ch ≡ g
      → Goes (after_system s g p.at).next (found_by (after_system s g p.at) p known) end rest ps found later
      → AfterSpace (λ spaced. AfterSystemIdentifier known) false end rest (p ∷ ps) found (step_errors (after_system s g p.at) p ++ later)
  to_system later true g es eg h = with_space (λ spaced. AfterSystemIdentifier known) false end rest found later p ps es
      (any_space (AfterSystemIdentifier known) false true end rest ps found later h)
  to_system later false true es eg h =
      with_none (λ spaced. AfterSystemIdentifier known) false end rest found _ (p ∷ ps) (system_ends (ended known end rest p ps found later eg h))
  to_system later false false es eg h = with_none (λ spaced. AfterSystemIdentifier known) false end rest found _ (p ∷ ps)
      (system_skips (skips_from known end rest found p ps later (λ text. false) UnexpectedCharacterAfterDoctypeSystemIdentifier es eg refl h))
