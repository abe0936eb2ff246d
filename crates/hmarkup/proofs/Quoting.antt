-- The identifiers of a doctype and what is before them, and each phase: each character, and the end.
use Rattle.hmarkup.proofs.Names.{Step, ◌≡◌, ℕ, Bool, true, false, not, ◌||◌, eqb, if◌then◌else◌, List, [], ◌∷◌, ◌++◌, sym, refl, ap, ◌∙◌, subst, codes, Some, None, append_assoc, is_some, false≢true, eqb-true, and_from, and_parts, ParseError, ErrorCode, EofInDoctype, MissingWhitespaceBetweenDoctypePublicAndSystemIdentifiers, Placed, characters, place, begins, all, is_space, is_greater, is_quote, error, null_errors, text_bytes, Identifier, Public, System, Found, DoctypeRelation, force, identified, AfterSpace, IsInside, quoted, abrupt, AfterPublicIdentifier, public_ends, public_skips, second, Follows, AfterKeyword, identifier, missing, keyword_skips, keyword_cut_off, after_keyword, after_public, follows, in_quotes, step_errors, fault_errors, found_by, DoctypeGoesOn, identifier_of, no_space_after_keyword, no_identifier, no_quote, abrupt_identifier, IsIdentifier, FollowsSystem, faulty, length-append, length, ◌<◌, arith, Option, to_ascii_lowercase, InvalidCharacterSequenceAfterDoctypeName, spells_in_any_case, name_bytes, Letters, DoctypeState, IsEnd, cut_off, with_name, AfterSystemIdentifier, system_ends, system_skips, AfterName, name_ends, name_skips, names_identifier, FollowsName, AfterOpening, begins_name, nameless, unfinished, first_letter, begins_keyword, goes_on_with, step, end_fault, found_at_end, letters_after, FitsState, IsInKeyword, whole, fails, length-map}
use Rattle.hmarkup.specs.Doctype.{unclosed}
use Rattle.hmarkup.proofs.Marks.{null_errors-append, eqb_self}
use Rattle.hmarkup.proofs.Characters.{quote_not_space, quote_not_greater, greater_not_space}
use Rattle.hmarkup.proofs.Parts.{identified-cons, identified_not, named_not, is_identified}
use Rattle.hmarkup.proofs.Endings.{past_space, at_once, with_none, with_space, only_greater, greater_spells, neither_of, not_either, end_not_space, skips_from, skips_not_space, ends_by, refused_by, skips_by, ended, refused_at, Goes, Stepped, passed, plain_errors, space_error, quote_error, fault_if, end_at_end, skipped_at_end, skips_not_at_end, from_skipped, to_skipped, from_system, to_system}
use Rattle.hmarkup.proofs.Keywords.{first_by, GoesOnAs, goes_on_as, left_is, no_keyword, from_after_name, to_after_name, from_keyword, to_keyword, from_name, to_name, from_before, to_before}
use Rattle.hmarkup.specs.declared.doctype_state.Keeps.TheVariants as keeps
use Rattle.hmarkup.specs.declared.doctype_state.DoctypeState.TheVariants as phase

-- a quote that begins an identifier
module _ (which : Identifier) (code : ErrorCode) (After : Found → DoctypeRelation) (known : Found) (spaced : Bool) (end : ℕ) (rest : List Placed)
    (found : Found) where
  identifier_not_space : (text : List Placed) (errors : List ParseError) → IsIdentifier which code After known spaced end rest text found errors
      → begins is_space text ≡ false
  identifier_not_space text errors h = ap (begins is_space) h.text_is ∙ quote_not_space h.quote.ch h.is_mark

  record Quoted (p : Placed) (ps : List Placed) (errors : List ParseError) : Type 0 where
    later : List ParseError
    is_mark : is_quote p.ch ≡ true
    inside : IsInside which p.ch After (identified which [] known) end rest ps found later
    errors_are : errors ≡ (fault_errors (if spaced then None else Some (error code p.at)) ++ null_errors (p ∷ [])) ++ later

  quote_at : (p : Placed) (ps : List Placed) (errors : List ParseError) → IsIdentifier which code After known spaced end rest (p ∷ ps) found errors
      → Quoted p ps errors
  quote_at p ps errors h = let t = h.text_is in let head : h.quote ≡ p = cc in let tail : h.more ≡ ps = cc in
      let is_mark : is_quote p.ch ≡ true = subst (λ (x : Placed). is_quote x.ch ≡ true) head h.is_mark in
      record {
        later = h.later;
        is_mark = is_mark;
        inside = rw (← head) (subst (λ (x : List Placed). IsInside which h.quote.ch After (identified which [] known) end rest x found h.later) tail h.inside);
        errors_are = cc (fault_if spaced code p.at, plain_errors p (quote_error p is_mark) (if spaced then None else Some (error code p.at)) h.later);
      }

  identifier_from : (p : Placed) (ps : List Placed) (later : List ParseError) → is_quote p.ch ≡ true
      → IsInside which p.ch After (identified which [] known) end rest ps found later → IsIdentifier which code After known spaced end rest (p ∷ ps) found
      ((fault_errors (if spaced then None else Some (error code p.at)) ++ null_errors (p ∷ [])) ++ later)
  identifier_from p ps later m h = record {
    quote = p;
    more = ps;
    later = later;
    text_is = refl;
    is_mark = m;
    inside = h;
    errors_are =
        plain_errors p (quote_error p m) (if spaced then None else Some (error code p.at)) later ∙ ap (λ x. x ++ later) (sym (fault_if spaced code p.at));
  }

goes_follows : (which : Identifier) (known : Found) (end : ℕ) (rest text : List Placed) (found : Found) (errors : List ParseError)
    → Follows which known end rest text found errors → DoctypeGoesOn (follows which) known end rest text found errors
goes_follows Public known end rest text found errors h = h
goes_follows System known end rest text found errors h = h

follows_goes : (which : Identifier) (known : Found) (end : ℕ) (rest text : List Placed) (found : Found) (errors : List ParseError)
    → DoctypeGoesOn (follows which) known end rest text found errors → Follows which known end rest text found errors
follows_goes Public known end rest text found errors h = h
follows_goes System known end rest text found errors h = h

module _ (which : Identifier) (mark : ℕ) (known : Found) (end : ℕ) (rest : List Placed) (p : Placed) (ps : List Placed) (found : Found) where
  abbrev apart : ℕ → Bool
  apart c = not (eqb c mark || is_greater c)

  null_split : (x : Placed) (xs : List Placed) (later : List ParseError) → x ≡ p
      → null_errors (x ∷ xs) ++ later ≡ null_errors (p ∷ []) ++ (null_errors xs ++ later)
  null_split x xs later e = cc (null_errors-append (x ∷ []) xs, append_assoc (null_errors (x ∷ [])) (null_errors xs) later)

  identified_split : (x : Placed) (xs : List Placed) → x ≡ p
      → identified which (text_bytes (x ∷ xs)) known ≡ identified which (text_bytes xs) (identified which (text_bytes (p ∷ [])) known)
  identified_split x xs e = identified-cons which x xs known ∙ ap (λ q. identified which (text_bytes xs) (identified which (text_bytes (q ∷ [])) known)) e

  module _ (is_mark : is_quote mark ≡ true) (begun : is_some (identifier_of which known) ≡ true) where
    closed_by : (errors : List ParseError) (c g : Bool) → eqb p.ch mark ≡ c → (close after : List Placed) → p ∷ ps ≡ close ++ after
        → characters close ≡ mark ∷ [] → Follows which (identified which [] known) end rest after found errors
        → Stepped (in_quotes which mark c g p.at) known end rest p ps found errors
    closed_by errors c g ec (x ∷ []) after t m h = let head : p ≡ x = cc in let tail : after ≡ ps = cc in let is_x : x.ch ≡ mark = cc in
        let is : p.ch ≡ mark = ap (λ (q : Placed). q.ch) head ∙ is_x in
        let same : c ≡ true = sym ec ∙ ap (λ (n : ℕ). eqb n mark) is ∙ eqb_self mark in
        rw same (passed _ known end rest p ps found errors (quote_error p (ap is_quote is ∙ is_mark)) (goes_follows which known end rest ps found errors
        (rw (← (identified_not which known begun)) (subst (λ (x : List Placed). Follows which (identified which [] known) end rest x found errors) tail h))))
    closed_by errors c g ec _ after t m h = absurd cc

    abrupt_by : (errors : List ParseError) (c g : Bool) → eqb p.ch mark ≡ c → is_greater p.ch ≡ g → (close : List Placed) → p ∷ ps ≡ close
        → characters close ≡ codes ">" → found ≡ force (identified which [] known) → errors ≡ error (abrupt_identifier which) (place end close) ∷ []
        → Stepped (in_quotes which mark c g p.at) known end rest p ps found errors
    abrupt_by errors true g ec eg close t m f e = absurd (false≢true (cc (quote_not_greater mark is_mark, eqb-true p.ch mark ec, (only_greater p ps (cc)).0)))
    abrupt_by errors false g ec eg close t m f e = refused_by known end rest p ps found errors (abrupt_identifier which) _ g eg (ap characters t ∙ m)
        (f ∙ ap force (identified_not which known begun)) (e ∙ ap (λ (x : List Placed). error (abrupt_identifier which) (place end x) ∷ []) (sym t))

    -- inside an identifier: a character of it
    inside_on : (errors later : List ParseError) (c g : Bool) → eqb p.ch mark ≡ c → is_greater p.ch ≡ g → (x : Placed) (xs : List Placed) → x ≡ p
        → all apart (x ∷ xs) ≡ true → errors ≡ null_errors (x ∷ xs) ++ later
        → (all apart xs ≡ true → IsInside which mark (Follows which) (identified which (text_bytes (p ∷ [])) known) end rest ps found (null_errors xs ++ later))
        → Stepped (in_quotes which mark c g p.at) known end rest p ps found errors
    inside_on errors later c g ec eg x xs head a e goes = let parts = and_parts (apart x.ch) (all apart xs) a in
        let k = neither_of (eqb x.ch mark) (is_greater x.ch) parts.0 in
        let goes_on : c ≡ false = sym ec ∙ ap (λ (q : Placed). eqb q.ch mark) (sym head) ∙ k.0 in
        let no_greater : g ≡ false = sym eg ∙ ap (λ (q : Placed). is_greater q.ch) (sym head) ∙ k.1 in
        rw (goes_on, no_greater) (record { later = null_errors xs ++ later; errors_are = e ∙ null_split x xs later head; goes = goes parts.1 })

    pub from_inside : (errors : List ParseError) (c g : Bool) → eqb p.ch mark ≡ c → is_greater p.ch ≡ g
        → IsInside which mark (Follows which) known end rest (p ∷ ps) found errors → Stepped (in_quotes which mark c g p.at) known end rest p ps found errors
    from_inside errors c g ec eg (quoted [] close after later t a m h e) = rw e (closed_by later c g ec close after t m h)
    from_inside errors c g ec eg (quoted (x ∷ xs) close after later t a m h e) = let head : x ≡ p = cc in
        inside_on errors later c g ec eg x xs head a e (λ others. quoted xs close after later (cc) others m (rw (← (identified_split x xs head)) h) refl)
    from_inside errors c g ec eg (abrupt [] close t a m f e) = abrupt_by errors c g ec eg close t m f e
    from_inside errors c g ec eg (abrupt (x ∷ xs) close t a m f e) = let head : x ≡ p = cc in
        inside_on errors _ c g ec eg x xs head a e (λ others. abrupt xs close (cc) others m (f ∙ ap force (identified_split x xs head)) refl)
    from_inside errors c g ec eg (unclosed r a f e) =
        inside_on errors _ c g ec eg p ps refl a e (λ others. unclosed r others (f ∙ ap force (identified_split p ps refl)) refl)

    -- backwards
    inside_more : (later : List ParseError) → eqb p.ch mark ≡ false → is_greater p.ch ≡ false
        → IsInside which mark (Follows which) (identified which (text_bytes (p ∷ [])) known) end rest ps found later
        → IsInside which mark (Follows which) known end rest (p ∷ ps) found (null_errors (p ∷ []) ++ later)
    inside_more later ec eg (quoted inside close after more t a m h e) = quoted (p ∷ inside) close after more (ap (λ (x : List Placed). p ∷ x) t)
        (and_from (apart p.ch) (all apart inside) (not_either (eqb p.ch mark) (is_greater p.ch) ec eg) a) m (rw (identified_split p inside refl) h)
        (ap (λ (x : List ParseError). null_errors (p ∷ []) ++ x) e ∙ sym (null_split p inside more refl))
    inside_more later ec eg (abrupt inside close t a m f e) = abrupt (p ∷ inside) close (ap (λ (x : List Placed). p ∷ x) t)
        (and_from (apart p.ch) (all apart inside) (not_either (eqb p.ch mark) (is_greater p.ch) ec eg) a) m
        (f ∙ ap force (sym (identified_split p inside refl))) (ap (λ (x : List ParseError). null_errors (p ∷ []) ++ x) e
        ∙ sym (null_split p inside (error (abrupt_identifier which) (place end close) ∷ []) refl))
    inside_more later ec eg (unclosed r a f e) = unclosed r (and_from (apart p.ch) (all apart ps) (not_either (eqb p.ch mark) (is_greater p.ch) ec eg) a)
        (f ∙ ap force (sym (identified_split p ps refl))) (ap (λ x. null_errors (p ∷ []) ++ x) e ∙ sym (null_split p ps (error EofInDoctype end ∷ []) refl))

    pub to_inside : (later : List ParseError) (c g : Bool) → eqb p.ch mark ≡ c → is_greater p.ch ≡ g
        → Goes (in_quotes which mark c g p.at).next (found_by (in_quotes which mark c g p.at) p known) end rest ps found later
        → IsInside which mark (Follows which) known end rest (p ∷ ps) found (step_errors (in_quotes which mark c g p.at) p ++ later)
    to_inside later true g ec eg h = let is : p.ch ≡ mark = eqb-true p.ch mark ec in let quote : is_quote p.ch ≡ true = ap is_quote is ∙ is_mark in
        quoted [] (p ∷ []) ps later refl refl (ap (λ (n : ℕ). n ∷ []) is) (subst (λ (x : Found). Follows which x end rest ps found later)
        (sym (identified_not which known begun)) (follows_goes which known end rest ps found later h)) (plain_errors p (quote_error p quote) None later)
    to_inside later false true ec eg (t, f, e) = abrupt [] (p ∷ ps) refl refl (ap (λ (x : List Placed). characters (p ∷ x)) t ∙ greater_spells p eg)
        (f ∙ ap force (sym (identified_not which known begun))) (refused_at known end rest p ps found later (abrupt_identifier which) eg e)
    to_inside later false false ec eg h = inside_more later ec eg h

-- a quote where an identifier may be, after other steps at `>` and at what is neither
quote_by : (which : Identifier) (code : ErrorCode) (known : Found) (spaced : Bool) (end : ℕ) (rest : List Placed) (p : Placed) (ps : List Placed)
    (found : Found) (errors : List ParseError) (closes other : Step) (g q : Bool) → is_greater p.ch ≡ g → is_quote p.ch ≡ q
    → IsIdentifier which code (Follows which) known spaced end rest (p ∷ ps) found errors → Stepped
    (if g then closes else (if q then faulty (keeps.Quote which) spaced code p.at (phase.Quoted which p.ch) else other)) known end rest p ps found errors
quote_by which code known spaced end rest p ps found errors closes other true q eg eq h =
    absurd (false≢true (sym (quote_not_greater p.ch (quote_at which code _ known spaced end rest found p ps errors h).is_mark) ∙ eg))
quote_by which code known spaced end rest p ps found errors closes other false false eg eq h =
    absurd (false≢true (sym eq ∙ (quote_at which code _ known spaced end rest found p ps errors h).is_mark))
quote_by which code known spaced end rest p ps found errors closes other false true eg eq h =
    let k = quote_at which code _ known spaced end rest found p ps errors h in record { later = k.later; errors_are = k.errors_are; goes = k.inside }

-- after a keyword
module _ (which : Identifier) (known : Found) (end : ℕ) (rest : List Placed) (p : Placed) (ps : List Placed) (found : Found) where
  keyword_not_space : (spaced : Bool) (text : List Placed) (errors : List ParseError) → AfterKeyword which known spaced end rest text found errors
      → begins is_space text ≡ false
  keyword_not_space spaced text errors (identifier h) = identifier_not_space which _ _ known spaced end rest found text errors h
  keyword_not_space spaced (q ∷ qs) errors (missing c f e) = greater_not_space q.ch (only_greater q qs c).0
  keyword_not_space spaced text errors (keyword_skips h) = skips_not_space _ _ (force known) end rest text found errors h
  keyword_not_space spaced (q ∷ qs) errors (keyword_cut_off r t f e) = absurd cc
  keyword_not_space spaced [] errors _ = refl

  from_keyword_core : (errors : List ParseError) (spaced g q : Bool) → is_greater p.ch ≡ g → is_quote p.ch ≡ q
      → AfterKeyword which known spaced end rest (p ∷ ps) found errors
      → Stepped (after_keyword which spaced false g q p.ch p.at) known end rest p ps found errors
  from_keyword_core errors spaced g q eg eq (identifier h) =
      quote_by which (no_space_after_keyword which) known spaced end rest p ps found errors _ _ g q eg eq h
  from_keyword_core errors spaced g q eg eq (missing c f e) = refused_by known end rest p ps found errors (no_identifier which) _ g eg c f e
  from_keyword_core errors spaced g q eg eq (keyword_skips h) = skips_by known end rest p ps found errors _ _ true _ _ g q eg eq h
  from_keyword_core errors spaced g q eg eq (keyword_cut_off r t f e) = absurd cc

  pub from_after_keyword : (errors : List ParseError) (spaced s g q : Bool) → is_space p.ch ≡ s → is_greater p.ch ≡ g → is_quote p.ch ≡ q
      → AfterSpace (AfterKeyword which known) spaced end rest (p ∷ ps) found errors
      → Stepped (after_keyword which spaced s g q p.ch p.at) known end rest p ps found errors
  from_after_keyword errors spaced true g q es eg eq h = passed _ known end rest p ps found errors (space_error p es)
      (past_space (AfterKeyword which known) spaced end rest found errors p ps h es (λ b text. keyword_not_space b text errors))
  from_after_keyword errors spaced false g q es eg eq h =
      from_keyword_core errors spaced g q eg eq (at_once (AfterKeyword which known) spaced end rest found errors (p ∷ ps) h es)

  pub to_after_keyword : (later : List ParseError) (spaced s g q : Bool) → is_space p.ch ≡ s → is_greater p.ch ≡ g → is_quote p.ch ≡ q
      → Goes (after_keyword which spaced s g q p.ch p.at).next (found_by (after_keyword which spaced s g q p.ch p.at) p known) end rest ps found later
      → AfterSpace (AfterKeyword which known) spaced end rest (p ∷ ps) found (step_errors (after_keyword which spaced s g q p.ch p.at) p ++ later)
  to_after_keyword later spaced true g q es eg eq h = with_space (AfterKeyword which known) spaced end rest found later p ps es h
  to_after_keyword later spaced false true q es eg eq (t, f, e) = with_none (AfterKeyword which known) spaced end rest found _ (p ∷ ps)
      (missing (ap (λ (x : List Placed). characters (p ∷ x)) t ∙ greater_spells p eg) f (refused_at known end rest p ps found later (no_identifier which) eg e))
  to_after_keyword later spaced false false true es eg eq h = with_none (AfterKeyword which known) spaced end rest found _ (p ∷ ps)
      (identifier (identifier_from which (no_space_after_keyword which) (Follows which) known spaced end rest found p ps later eq h))
  to_after_keyword later spaced false false false es eg eq h = with_none (AfterKeyword which known) spaced end rest found _ (p ∷ ps)
      (keyword_skips (skips_from (force known) end rest found p ps later (begins is_quote) (no_quote which) es eg eq h))

-- after the public identifier
module _ (known : Found) (end : ℕ) (rest : List Placed) (p : Placed) (ps : List Placed) (found : Found) where
  public_not_space : (spaced : Bool) (text : List Placed) (errors : List ParseError) → AfterPublicIdentifier known spaced end rest text found errors
      → begins is_space text ≡ false
  public_not_space spaced text errors (public_ends h) = end_not_space known end rest text found errors h
  public_not_space spaced text errors (public_skips h) = skips_not_space _ _ (force known) end rest text found errors h
  public_not_space spaced text errors (second h) = identifier_not_space System _ _ known spaced end rest found text errors h

  from_public_core : (errors : List ParseError) (spaced g q : Bool) → is_greater p.ch ≡ g → is_quote p.ch ≡ q
      → AfterPublicIdentifier known spaced end rest (p ∷ ps) found errors → Stepped (after_public spaced false g q p.ch p.at) known end rest p ps found errors
  from_public_core errors spaced g q eg eq (public_ends h) = ends_by known end rest p ps found errors _ g eg h
  from_public_core errors spaced g q eg eq (public_skips h) = skips_by known end rest p ps found errors _ _ true _ _ g q eg eq h
  from_public_core errors spaced g q eg eq (second h) = quote_by System _ known spaced end rest p ps found errors _ _ g q eg eq h

  pub from_public : (errors : List ParseError) (spaced s g q : Bool) → is_space p.ch ≡ s → is_greater p.ch ≡ g → is_quote p.ch ≡ q
      → AfterSpace (AfterPublicIdentifier known) spaced end rest (p ∷ ps) found errors
      → Stepped (after_public spaced s g q p.ch p.at) known end rest p ps found errors
  from_public errors spaced true g q es eg eq h = passed _ known end rest p ps found errors (space_error p es)
      (past_space (AfterPublicIdentifier known) spaced end rest found errors p ps h es (λ b text. public_not_space b text errors))
  from_public errors spaced false g q es eg eq h =
      from_public_core errors spaced g q eg eq (at_once (AfterPublicIdentifier known) spaced end rest found errors (p ∷ ps) h es)

  pub to_public : (later : List ParseError) (spaced s g q : Bool) → is_space p.ch ≡ s → is_greater p.ch ≡ g → is_quote p.ch ≡ q
      → Goes (after_public spaced s g q p.ch p.at).next (found_by (after_public spaced s g q p.ch p.at) p known) end rest ps found later
      → AfterSpace (AfterPublicIdentifier known) spaced end rest (p ∷ ps) found (step_errors (after_public spaced s g q p.ch p.at) p ++ later)
  to_public later spaced true g q es eg eq h = with_space (AfterPublicIdentifier known) spaced end rest found later p ps es h
  to_public later spaced false true q es eg eq h =
      with_none (AfterPublicIdentifier known) spaced end rest found _ (p ∷ ps) (public_ends (ended known end rest p ps found later eg h))
  to_public later spaced false false true es eg eq h = with_none (AfterPublicIdentifier known) spaced end rest found _ (p ∷ ps)
      (second (identifier_from System MissingWhitespaceBetweenDoctypePublicAndSystemIdentifiers FollowsSystem known spaced end rest found p ps later eq h))
  to_public later spaced false false false es eg eq h = with_none (AfterPublicIdentifier known) spaced end rest found _ (p ∷ ps)
      (public_skips (skips_from (force known) end rest found p ps later (begins is_quote) (no_quote System) es eg eq h))

-- Each character of a doctype, and its end, in each phase.
module _ (known : Found) (end : ℕ) (rest : List Placed) (p : Placed) (ps : List Placed) (found : Found) where
  -- what a character leaves of a doctype
  pub from_phase : (phase : DoctypeState) (errors : List ParseError) → FitsState phase known → DoctypeGoesOn phase known end rest (p ∷ ps) found errors
      → Stepped (step phase p) known end rest p ps found errors
  from_phase (phase.BeforeName spaced) errors fits h = from_before known end rest p ps found errors spaced _ _ refl refl h
  from_phase phase.Name errors fits h = from_name known end rest p ps found errors _ _ refl refl fits h
  from_phase phase.AfterName errors fits h = from_after_name known end rest p ps found errors _ _ refl refl h
  from_phase (phase.Keyword letters first) errors fits h = from_keyword known end rest p ps found letters first errors fits _ _ refl refl h
  from_phase (phase.AfterKeyword which spaced) errors fits h = from_after_keyword which known end rest p ps found errors spaced _ _ _ refl refl refl h
  from_phase (phase.Quoted which mark) errors fits h = from_inside which mark known end rest p ps found fits.0 fits.1 errors _ _ refl refl h
  from_phase (phase.AfterPublic spaced) errors fits h = from_public known end rest p ps found errors spaced _ _ _ refl refl refl h
  from_phase phase.AfterSystem errors fits h = from_system known end rest p ps found errors _ _ refl refl h
  from_phase phase.Skipped errors fits h = from_skipped known end rest p ps found errors _ refl h

  -- and back
  pub to_phase : (phase : DoctypeState) (later : List ParseError) → FitsState phase known
      → Goes (step phase p).next (found_by (step phase p) p known) end rest ps found later
      → DoctypeGoesOn phase known end rest (p ∷ ps) found (step_errors (step phase p) p ++ later)
  to_phase (phase.BeforeName spaced) later fits h = to_before known end rest p ps found later spaced _ _ refl refl h
  to_phase phase.Name later fits h = to_name known end rest p ps found later _ _ refl refl fits h
  to_phase phase.AfterName later fits h = to_after_name known end rest p ps found later _ _ refl refl h
  to_phase (phase.Keyword letters first) later fits h = to_keyword known end rest p ps found letters first later fits _ _ refl refl h
  to_phase (phase.AfterKeyword which spaced) later fits h = to_after_keyword which known end rest p ps found later spaced _ _ _ refl refl refl h
  to_phase (phase.Quoted which mark) later fits h = to_inside which mark known end rest p ps found fits.0 fits.1 later _ _ refl refl h
  to_phase (phase.AfterPublic spaced) later fits h = to_public known end rest p ps found later spaced _ _ _ refl refl refl h
  to_phase phase.AfterSystem later fits h = to_system known end rest p ps found later _ _ refl refl h
  to_phase phase.Skipped later fits h = to_skipped known end rest p ps found later _ refl h

-- a name or an identifier stays begun
abbrev pub FitsNext : Option DoctypeState → Found → Type 0
FitsNext None known = Unit {0}
FitsNext (Some phase) known = FitsState phase known

abbrev AreLeft : Option Letters → Type 0
AreLeft None = Unit {0}
AreLeft (Some letters) = letters.read < 6

first_left : (c : ℕ) → AreLeft (first_letter c)
first_left c = by (eqb (to_ascii_lowercase c) 112) (eqb (to_ascii_lowercase c) 115) where
  by : (a b : Bool) → AreLeft (first_by a b)
  by false false = tt
  by _ _ = omega arith

module _ (known : Found) (p : Placed) where
  abbrev FitsAfter : Step → Type 0
  FitsAfter s = FitsNext s.next (found_by s p known)

  fits_if : (b : Bool) (x y : Step) → (b ≡ true → FitsAfter x) → FitsAfter y → FitsAfter (if b then x else y)
  fits_if true x y f g = f refl
  fits_if false x y f g = g

  fits_letters : (letters : Option Letters) → AreLeft letters → FitsAfter (begins_keyword letters p.at)
  fits_letters None left = tt
  fits_letters (Some letters) left = left

  fits_goes_on : (which : Identifier) (letters : Option Letters) (first : ℕ) → GoesOnAs which letters → FitsAfter (goes_on_with which letters first)
  fits_goes_on which None first same = tt
  fits_goes_on which (Some letters) first same = same.1

  fits_follows : (which : Identifier) → FitsState (follows which) known
  fits_follows Public = tt
  fits_follows System = tt

  pub fits_next : (phase : DoctypeState) → FitsState phase known → FitsNext (step phase p).next (found_by (step phase p) p known)
  fits_next phase.AfterName fits = fits_if (is_space p.ch) _ _ (λ _. tt) (fits_if (is_greater p.ch) _ _ (λ _. tt) (fits_letters _ (first_left p.ch)))
  fits_next (phase.Keyword letters first) fits =
      fits_if _ _ _ (λ _. fits_goes_on letters.which (letters_after letters) first (goes_on_as letters)) (fits_if (is_greater p.ch) _ _ (λ _. tt) tt)
  fits_next (phase.AfterKeyword which spaced) fits = fits_if (is_space p.ch) _ _ (λ _. tt)
      (fits_if (is_greater p.ch) _ _ (λ _. tt) (fits_if (is_quote p.ch) _ _ (λ quote. (quote, is_identified which [] known)) tt))
  fits_next (phase.Quoted which mark) fits =
      fits_if (eqb p.ch mark) _ _ (λ _. fits_follows which) (fits_if (is_greater p.ch) _ _ (λ _. tt) (fits.0, is_identified which (text_bytes (p ∷ [])) known))
  fits_next (phase.AfterPublic spaced) fits =
      fits_if (is_space p.ch) _ _ (λ _. tt) (fits_if (is_greater p.ch) _ _ (λ _. tt) (fits_if (is_quote p.ch) _ _ (λ quote. (quote, refl)) tt))
  fits_next phase.AfterSystem fits = fits_if (is_space p.ch) _ _ (λ _. tt) (fits_if (is_greater p.ch) _ _ (λ _. tt) tt)
  fits_next phase.Skipped fits = fits_if (is_greater p.ch) _ _ (λ _. tt) tt
  fits_next _ fits = fits_if (is_space p.ch) _ _ (λ _. tt) (fits_if (is_greater p.ch) _ _ (λ _. tt) refl)

-- the end of input: each phase, from its production
abbrev pub AtEnd : DoctypeState → Found → ℕ → List Placed → Found → List ParseError → Type 0
AtEnd phase known end rest found errors = (rest ≡ []) × (found ≡ found_at_end phase known) × (errors ≡ fault_errors (end_fault phase end))

module _ (known : Found) (end : ℕ) (rest : List Placed) (found : Found) (errors : List ParseError) where
  abbrev CutOff : Type 0
  CutOff = (rest ≡ []) × (found ≡ force known) × (errors ≡ error EofInDoctype end ∷ [])

  opening_at_end : (spaced : Bool) → AfterOpening known spaced end rest [] found errors → CutOff
  opening_at_end spaced (begins_name later n h e) = absurd (false≢true n)
  opening_at_end spaced (nameless c f e) = absurd cc
  opening_at_end spaced (unfinished r t f e) = (r, f, e)

  after_name_at_end : AfterName known end rest [] found errors → CutOff
  after_name_at_end (name_ends h) = end_at_end known end rest found errors h
  after_name_at_end (name_skips h) = absurd (skips_not_at_end _ _ (force known) end rest found errors h)
  after_name_at_end (names_identifier which word after t w k) = absurd (no_keyword which word after t w)

  letters_at_end : (letters : Letters) (first : ℕ) → letters.read < 6 → IsInKeyword letters first known end rest [] found errors
      → (rest ≡ []) × (found ≡ force known) × (errors ≡ error InvalidCharacterSequenceAfterDoctypeName first ∷ [])
  letters_at_end letters first fits (whole [] after t w k) = let l = w ∙ left_is letters fits in absurd cc
  letters_at_end letters first fits (whole (x ∷ xs) after t w k) = absurd cc
  letters_at_end letters first fits (fails later sp h e) = let k = skipped_at_end (force known) end rest found later h in (k.0, k.1, cc (k.2))

  keyword_at_end : (which : Identifier) (spaced : Bool) → AfterKeyword which known spaced end rest [] found errors → CutOff
  keyword_at_end which spaced (identifier h) = let t = h.text_is in absurd cc
  keyword_at_end which spaced (missing c f e) = absurd cc
  keyword_at_end which spaced (keyword_skips h) = absurd (skips_not_at_end _ _ (force known) end rest found errors h)
  keyword_at_end which spaced (keyword_cut_off r t f e) = (r, f, e)

  inside_at_end : (which : Identifier) (mark : ℕ) → is_some (identifier_of which known) ≡ true
      → IsInside which mark (Follows which) known end rest [] found errors → CutOff
  inside_at_end which mark begun (quoted inside close after later t a m h e) = absurd
      (omega (arith, ap length t, length-append inside (close ++ after), length-append close after, ap length m, length-map close (λ (p : Placed). p.ch)))
  inside_at_end which mark begun (abrupt inside close t a m f e) =
      absurd (omega (arith, ap length t, length-append inside close, ap length m, length-map close (λ (p : Placed). p.ch)))
  inside_at_end which mark begun (unclosed r a f e) = (r, f ∙ ap force (identified_not which known begun), e)

  public_at_end : (spaced : Bool) → AfterPublicIdentifier known spaced end rest [] found errors → CutOff
  public_at_end spaced (public_ends h) = end_at_end known end rest found errors h
  public_at_end spaced (public_skips h) = absurd (skips_not_at_end _ _ (force known) end rest found errors h)
  public_at_end spaced (second h) = let t = h.text_is in absurd cc

  system_at_end : AfterSystemIdentifier known end rest [] found errors → CutOff
  system_at_end (system_ends h) = end_at_end known end rest found errors h
  system_at_end (system_skips h) = absurd (skips_not_at_end _ _ known end rest found errors h)

name_at_end : (known : Found) (end : ℕ) (rest : List Placed) (found : Found) (errors : List ParseError) → is_some known.name ≡ true
    → (name after : List Placed) (later : List ParseError) → [] ≡ name ++ after → FollowsName (with_name (name_bytes name) known) end rest after found later
    → errors ≡ null_errors name ++ later → (rest ≡ []) × (found ≡ force known) × (errors ≡ error EofInDoctype end ∷ [])
name_at_end known end rest found errors begun (x ∷ xs) after later t f e = absurd cc
name_at_end known end rest found errors begun [] after later t f e =
    let k = after_name_at_end (with_name [] known) end rest found later (at_once (λ spaced. AfterName (with_name [] known)) false end rest found later []
    (subst (λ x. FollowsName (with_name [] known) end rest x found later) (sym t) f) refl) in
    (k.0, k.1 ∙ ap force (named_not known begun), e ∙ k.2)

pub end_of : (phase : DoctypeState) (known : Found) (end : ℕ) (rest : List Placed) (found : Found) (errors : List ParseError) → FitsState phase known
    → DoctypeGoesOn phase known end rest [] found errors → AtEnd phase known end rest found errors
end_of (phase.BeforeName spaced) known end rest found errors fits h =
    opening_at_end known end rest found errors spaced (at_once (AfterOpening known) spaced end rest found errors [] h refl)
end_of phase.Name known end rest found errors fits h = name_at_end known end rest found errors fits h.name h.after h.later h.text_is h.follows h.errors_are
end_of phase.AfterName known end rest found errors fits h =
    after_name_at_end known end rest found errors (at_once (λ spaced. AfterName known) false end rest found errors [] h refl)
end_of (phase.Keyword letters first) known end rest found errors fits h = letters_at_end known end rest found errors letters first fits h
end_of (phase.AfterKeyword which spaced) known end rest found errors fits h =
    keyword_at_end known end rest found errors which spaced (at_once (AfterKeyword which known) spaced end rest found errors [] h refl)
end_of (phase.Quoted which mark) known end rest found errors fits h = inside_at_end known end rest found errors which mark fits.1 h
end_of (phase.AfterPublic spaced) known end rest found errors fits h =
    public_at_end known end rest found errors spaced (at_once (AfterPublicIdentifier known) spaced end rest found errors [] h refl)
end_of phase.AfterSystem known end rest found errors fits h =
    system_at_end known end rest found errors (at_once (λ spaced. AfterSystemIdentifier known) false end rest found errors [] h refl)
end_of phase.Skipped known end rest found errors fits h = skipped_at_end known end rest found errors h

-- and back
cut_off_here : (known : Found) (end : ℕ) → IsEnd known end [] [] (force known) (error EofInDoctype end ∷ [])
cut_off_here known end = cut_off refl refl refl refl

pub ends_in : (phase : DoctypeState) (known : Found) (end : ℕ) → FitsState phase known
    → DoctypeGoesOn phase known end [] [] (found_at_end phase known) (fault_errors (end_fault phase end))
ends_in (phase.BeforeName spaced) known end fits = with_none (AfterOpening known) spaced end [] _ _ [] (unfinished refl refl refl refl)
ends_in phase.Name known end fits = record {
  name = [];
  after = [];
  later = error EofInDoctype end ∷ [];
  text_is = refl;
  runs = record { passes_none = refl; stops_after = refl };
  follows =
      with_none (λ spaced. AfterName (with_name [] known)) false end [] _ _ [] (name_ends (cut_off refl refl (ap force (sym (named_not known fits))) refl));
  errors_are = refl;
}
ends_in phase.AfterName known end fits = with_none (λ spaced. AfterName known) false end [] _ _ [] (name_ends (cut_off_here known end))
ends_in (phase.Keyword letters first) known end fits = fails [] (ap (λ (x : List ℕ). spells_in_any_case x []) (left_is letters fits))
    (record { skipped = []; close = []; text_is = refl; without = refl; closes = refl; found_is = refl; errors_are = refl }) refl
ends_in (phase.AfterKeyword which spaced) known end fits = with_none (AfterKeyword which known) spaced end [] _ _ [] (keyword_cut_off refl refl refl refl)
ends_in (phase.Quoted which mark) known end fits = unclosed refl refl (ap force (sym (identified_not which known fits.1))) refl
ends_in (phase.AfterPublic spaced) known end fits = with_none (AfterPublicIdentifier known) spaced end [] _ _ [] (public_ends (cut_off_here known end))
ends_in phase.AfterSystem known end fits = with_none (λ spaced. AfterSystemIdentifier known) false end [] _ _ [] (system_ends (cut_off_here known end))
ends_in phase.Skipped known end fits = record { skipped = []; close = []; text_is = refl; without = refl; closes = refl; found_is = refl; errors_are = refl }
