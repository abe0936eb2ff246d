-- A tag, a character at a time: before and after its attributes, in their names and in their values.
use Rattle.htag.proofs.Vocabulary.{◌≡◌, ℕ, true, false, not, List, [], ◌∷◌, ◌++◌, sym, refl, ap, ◌∙◌, subst, append_assoc, append-nil, None, string_bytes, UnexpectedEqualsSignBeforeAttributeName, ParseError, Placed, Texts, characters, begins, is_equals, is_greater, error, error_if, and_both, Entities, TagWalk, Part, IsPart, AreParts, parts_text, tag_errors, tag_close, ends_name, ends_attribute_name, attribute_name_errors, name_errors_here, attribute_part, repeated, names_after, HasAttributes, HasName, InAttributeName, IsInTag, IsWholeTag, KeepsTag, EndsAttribute, UnexpectedSolidusInTag, AddsToName, BeginsAttribute, Bool, ◌||◌, if◌then◌else◌, stops, all, is_space, and_parts, NoValue, ◌&&◌, eqb, MissingWhitespaceBetweenAttributes, is_quote, TagState, Pending, ValueWalk, pieces_text, HasHeld, IsInValue, EndsValue, pieces_errors, ends_unquoted, value_errors, unquoted_errors, HasPhase, arith, nat_tests, cond, MissingAttributeValue, TakesInValue, PastAttributeName, is_sign, IsAttributeName}
use Rattle.htag.specs.declared.tag_state.TagState.TheVariants as phase
use Rattle.htag.proofs.InValue.{looks_ahead}
use Rattle.htag.proofs.Parts.{begins-more, begins_stops, all-snoc, holds_plain, holds_same, past-space}
use Rattle.htag.proofs.Keeping.{Past, past_is, held_in, body_with, body_then, goes_on, name_stays, part_read, attribute_told, letters_follow}

abbrev pub space_part : Placed → Part
space_part p = record { text = p ∷ []; attribute = None; errors = [] }

pub keeps_tag : {old new : TagWalk} → new.kind ≡ old.kind → new.name ≡ old.name → new.attrs ≡ old.attrs → new.seen ≡ old.seen → new.any ≡ old.any
    → KeepsTag old new
keeps_tag kind name attrs seen any = record { kind_is = kind; name_is = name; attrs_are = attrs; seen_is = seen; any_is = any }

pub keeps_self : (walk : TagWalk) → KeepsTag walk walk
keeps_self walk = keeps_tag refl refl refl refl refl

pub whole_name : {walk : TagWalk} {name : List Placed} (rest : List Placed) → HasName walk name → stops ends_attribute_name rest ≡ true
    → IsAttributeName name rest
whole_name rest h stop = record { first = h.first; runs = record { passes_none = h.runs; stops_after = stop } }

-- `=` with white space round it, by its first character
space_first : (x : Placed) (xs : List Placed) → is_space x.ch ≡ true → is_sign (x ∷ xs) ≡ is_sign xs
space_first x xs e = rw e refl

other_first : (x : Placed) (xs : List Placed) → is_space x.ch ≡ false → is_sign (x ∷ xs) ≡ (is_equals x.ch && all is_space xs)
other_first x xs e = rw e refl

pub sign_more : (sign : List Placed) (p : Placed) → is_sign sign ≡ true → is_space p.ch ≡ true → is_sign (sign ++ p ∷ []) ≡ true
sign_more [] p h k = absurd cc
sign_more (x ∷ xs) p h k = by (is_space x.ch) refl (λ e. sign_more xs p e k) where
  by : (b : Bool) → is_space x.ch ≡ b → (is_sign xs ≡ true → is_sign (xs ++ p ∷ []) ≡ true) → is_sign (x ∷ xs ++ p ∷ []) ≡ true
  by true e next = space_first x (xs ++ p ∷ []) e ∙ next (sym (space_first x xs e) ∙ h)
  by false e next = let parts = and_parts (is_equals x.ch) (all is_space xs) (sym (other_first x xs e) ∙ h) in
      other_first x (xs ++ p ∷ []) e ∙ and_both (is_equals x.ch) (all is_space (xs ++ p ∷ [])) parts.0 (all-snoc is_space xs p parts.1 k)

-- white space and next `=`
pub spaces_sign : (space : List Placed) (p : Placed) → all is_space space ≡ true → p.ch ≡ 61 → is_sign (space ++ p ∷ []) ≡ true
spaces_sign [] p h is = ap (λ (c : ℕ). is_sign (record { ch = c; at = p.at } ∷ [])) is
spaces_sign (x ∷ xs) p h is = let parts = and_parts (is_space x.ch) (all is_space xs) h in space_first x (xs ++ p ∷ []) parts.0 ∙ spaces_sign xs p parts.1 is

pub sign_stops : (sign : List Placed) → is_sign sign ≡ true → stops ends_attribute_name sign ≡ true
sign_stops [] h = refl
sign_stops (x ∷ xs) h = grind (arith, nat_tests)

-- white space and next what ends an attribute's name
pub space_ends : (c : ℕ) → is_space c ≡ true → ends_attribute_name c ≡ true
space_ends c h = grind (arith, h, nat_tests)

spaces_begin : (space : List Placed) (p : Placed) → all is_space space ≡ true → ends_attribute_name p.ch ≡ true
    → begins ends_attribute_name (space ++ p ∷ []) ≡ true
spaces_begin [] p h ends = ends
spaces_begin (x ∷ xs) p h ends = space_ends x.ch (and_parts (is_space x.ch) (all is_space xs) h).0

-- nothing is read of a value yet
begun_value : {table : Entities} {value : ValueWalk} (quoted : Bool) → NoValue value → IsInValue table quoted value [] [] []
begun_value {table} {value} quoted n = record {
  pieces = [];
  held = [];
  text_is = refl;
  begins_value = record { value = λ more rest are is. are };
  errors_are = none quoted;
  has_held = subst (λ (x : Pending). HasHeld x table value [] []) (sym n.nothing) (refl, n.empty);
} where
  none : (b : Bool) → [] ≡ pieces_errors b []
  none true = refl
  none false = refl

-- white space, whatever comes after it
module _ {table : Entities} {names : Texts} {walk : TagWalk} {body ahead : List Placed} {errors : List ParseError} {s : Placed}
    (h : IsInTag table names walk body (s ∷ ahead) errors) (before : walk.phase ≡ phase.BeforeAttributeName) (is : is_space s.ch ≡ true) where
  pub space_step : IsInTag table names walk (body ++ s ∷ []) ahead errors
  space_step = let nothing = held_in h before in
      part_read h (space_part s) (body ++ s ∷ []) ahead [] (body_then h nothing.0 (s ∷ []))
      (ap (λ (x : List Placed). x ++ ((s ∷ ahead) ++ [])) nothing.0 ∙ append-nil (s ∷ ahead)) (λ end more. IsPart.space s is refl) []
      (sym (append-nil h.own ∙ nothing.1)) (sym (append-nil (errors ++ []) ∙ append-nil errors)) refl before
      (holds_plain (space_part s) refl (keeps_self walk) h.has_attributes) (past_is h before)

pub spaces_follow : {table : Entities} {names : Texts} {walk : TagWalk} {body : List Placed} {errors : List ParseError} (spaces : List Placed) (p : Placed)
    → walk.phase ≡ phase.BeforeAttributeName → all is_space spaces ≡ true → IsInTag table names walk body (spaces ++ p ∷ []) errors
    → IsInTag table names walk (body ++ spaces) (p ∷ []) errors
spaces_follow [] p before is h = rw append-nil h
spaces_follow (s ∷ ss) p before is h = let k = and_parts (is_space s.ch) (all is_space ss) is in
    rw append_assoc at (spaces_follow ss p before k.1 (space_step h before k.0))

-- an attribute's name, and white space that was read after it
pub record HasReadName (spaced : Bool) (walk : TagWalk) (held : List Placed) (own : List ParseError) : Type 0 where
  pub name : List Placed
  pub spaces : List Placed
  pub held_is : held ≡ name ++ spaces
  pub named : InAttributeName walk name own
  pub are_spaces : all is_space spaces ≡ true
  pub stop_here : (more : List Placed) → (spaced || stops ends_attribute_name more) ≡ true → stops ends_attribute_name (spaces ++ more) ≡ true

module _ {table : Entities} {names : Texts} {walk : TagWalk} {body ahead : List Placed} {errors : List ParseError}
    (h : IsInTag table names walk body ahead errors) where
  pub name_read : (spaced : Bool) → walk.phase ≡ (if spaced then phase.AfterAttributeName else phase.AttributeName)
      → HasReadName spaced walk h.held h.own × (Past h ≡ true)
  name_read true before = let n = held_in h before in
      let named : InAttributeName walk n.name h.own = record { has_name = n.has_name; no_value = n.no_value; own_is = n.own_is } in (
        record {
          name = n.name;
          spaces = n.sign;
          held_is = n.held_is;
          named = named;
          are_spaces = n.is_sign;
          stop_here = λ more e. begins_stops ends_attribute_name n.sign more n.begun;
        },
        past_is h before,
      )
  name_read false before = (
    record { name = h.held; spaces = []; held_is = sym (append-nil h.held); named = held_in h before; are_spaces = refl; stop_here = λ more e. e },
    past_is h before,
  )

module _ {table : Entities} {names : Texts} {walk : TagWalk} {body : List Placed} {p : Placed} {errors : List ParseError}
    (h : IsInTag table names walk body (p ∷ []) errors) where
  -- a part has ended before the character
  part_ends : {after : Texts} {new : TagWalk} {later : List ParseError} (part : Part) → part.text ≡ h.held
      → ((end : ℕ) (more : List Placed) → IsPart table end (p ∷ more) part) → (e : List ParseError) → part.errors ≡ h.own ++ e
      → later ≡ (errors ++ e) ++ repeated (names_after [] h.parts) part.attribute → new.name ≡ walk.name → new.phase ≡ phase.BeforeAttributeName
      → HasAttributes after new (h.parts ++ part ∷ []) → Past h ≡ true → IsInTag table after new body (p ∷ []) later
  part_ends part text = part_read h part body (p ∷ []) [] (h.body_is ∙ ap (λ (x : List Placed). h.name ++ (parts_text h.parts ++ x)) (sym text))
      (ap (λ (x : List Placed). x ++ p ∷ []) (sym text))

  -- an attribute has ended before the character
  pub attribute_ends : {mid_walk : TagWalk} → KeepsTag walk mid_walk → mid_walk.attribute ≡ walk.attribute → mid_walk.at ≡ walk.at
      → {name : List Placed} {value : List ℕ} → HasName walk name → string_bytes mid_walk.value.text ≡ value → (others : List Placed) (e' : List ParseError)
      → name ++ others ≡ h.held → ((end : ℕ) (more : List Placed) → IsPart table end (p ∷ more) (attribute_part name others value e'))
      → {mid : List ParseError} (e : List ParseError) → attribute_name_errors name ++ e' ≡ h.own ++ e → mid ≡ errors ++ e
      → {after : Texts} {new : TagWalk} {later : List ParseError} → EndsAttribute names after mid_walk mid new later → Past h ≡ true
      → IsInTag table after new body (p ∷ []) later
  attribute_ends keeps attribute at {name} {value} has value_is others e' text is e own mid_is ends gone =
      let part : Part = attribute_part name others value e' in let ended = attribute_told h keeps attribute at name others value e' has value_is ends in
      part_ends part text is e own (ended.1 ∙ ap (λ (x : List ParseError). x ++ repeated (names_after [] h.parts) part.attribute) mid_is)
      (ends.name_is ∙ keeps.name_is) ends.phase_is ended.0 gone

  -- the tag has ended with the character
  whole_tag : {new : TagWalk} (close : List Placed) → KeepsTag walk new → h.held ++ p ∷ [] ≡ close → h.own ≡ [] → Past h ≡ true
      → characters close ≡ tag_close new.closing → IsWholeTag table names new (body ++ p ∷ []) errors
  whole_tag close keeps is none gone closes = record {
    name = h.name;
    parts = h.parts;
    close = close;
    body_is = body_with h (p ∷ []) ∙ (λ i. h.name ++ (parts_text h.parts ++ is i));
    first = h.first;
    passes = h.passes;
    name_is = ap string_bytes keeps.name_is ∙ h.name_is;
    are_parts = λ end rest. subst (AreParts table end h.parts) (sym (append_assoc h.held (p ∷ []) rest) ∙ (λ i. is i ++ rest)) (h.are_parts end rest);
    errors_are = h.errors_are ∙ ap (λ (x : List ParseError). tag_errors h.name h.parts ++ x) none ∙ append-nil (tag_errors h.name h.parts);
    has_attributes = holds_same keeps.seen_is keeps.attrs_are keeps.any_is h.has_attributes;
    ends = (λ i. begins ends_name (parts_text h.parts ++ sym is i)) ∙ gone;
    closes = closes;
  }

  -- BEFORE AN ATTRIBUTE

  module _ (before : walk.phase ≡ phase.BeforeAttributeName) where
    gone : Past h ≡ true
    gone = past_is h before

    nothing : (h.held ≡ []) × (h.own ≡ [])
    nothing = held_in h before

    -- `>`
    pub tag_ends : {new : TagWalk} → KeepsTag walk new → new.closing ≡ false → p.ch ≡ 62 → IsWholeTag table names new (body ++ p ∷ []) errors
    tag_ends keeps plain is = whole_tag (p ∷ []) keeps (λ i. nothing.0 i ++ p ∷ []) nothing.1 gone (ap (λ (c : ℕ). c ∷ []) is ∙ ap tag_close (sym plain))

    -- `/`
    pub solidus_follows : {new : TagWalk} → KeepsTag walk new → new.phase ≡ phase.SelfClosingStartTag → p.ch ≡ 47
        → IsInTag table names new (body ++ p ∷ []) [] errors
    solidus_follows keeps next is = goes_on h [] keeps next (sym (append-nil errors)) gone (p, is, (λ i. nothing.0 i ++ p ∷ []), append-nil h.own ∙ nothing.1)

    -- an attribute
    pub attribute_begins : {new : TagWalk} {later : List ParseError} → BeginsAttribute walk p errors new later → ends_name p.ch ≡ false
        → IsInTag table names new (body ++ p ∷ []) [] later
    attribute_begins b stays = let e : List ParseError = error_if (is_equals p.ch) UnexpectedEqualsSignBeforeAttributeName p.at ++ name_errors_here p in
        goes_on h e b.keeps b.phase_is b.later_is gone (rw (nothing.0, nothing.1) (record {
          has_name = record { first = ap not stays; runs = refl; is = b.attribute_is ∙ sym (append-nil _); at_is = sym b.at_is };
          no_value = b.value_is;
          own_is = simp append-nil;
        }))

  -- AFTER `/`

  module _ (after : walk.phase ≡ phase.SelfClosingStartTag) where
    -- another character is read as before an attribute
    pub solidus_ends : {new : TagWalk} {later : List ParseError} → KeepsTag walk new → new.phase ≡ phase.BeforeAttributeName
        → later ≡ errors ++ error UnexpectedSolidusInTag p.at ∷ [] → is_greater p.ch ≡ false → IsInTag table names new body (p ∷ []) later
    solidus_ends keeps next later_is other = let e = held_in h after in let s : Placed = e.0 in
        let part : Part = record { text = s ∷ []; attribute = None; errors = error UnexpectedSolidusInTag p.at ∷ [] } in
        part_ends part (sym e.2) (λ end more. IsPart.solidus s e.1 other refl) (error UnexpectedSolidusInTag p.at ∷ []) (rw e.3 refl)
        (later_is ∙ sym (append-nil _)) keeps.name_is next (holds_plain part refl keeps h.has_attributes) (past_is h after)

    pub closing_ends : {new : TagWalk} → KeepsTag walk new → new.closing ≡ true → p.ch ≡ 62 → IsWholeTag table names new (body ++ p ∷ []) errors
    closing_ends keeps closing is = let e = held_in h after in
        whole_tag (e.0 ∷ p ∷ []) keeps (λ i. e.2 i ++ p ∷ []) e.3 (past_is h after) ((λ i. e.1 i ∷ is i ∷ []) ∙ ap tag_close (sym closing))

  -- an attribute's name goes on
  pub name_goes_on : {new : TagWalk} {later : List ParseError} → walk.phase ≡ phase.AttributeName → AddsToName walk p errors new later
      → ends_attribute_name p.ch ≡ false → IsInTag table names new (body ++ p ∷ []) [] later
  name_goes_on in_name a stays = letters_follow h in_name a.keeps a.phase_is a.at_is a.value_is (a.attribute_is ∙ simp append-nil)
      (a.later_is ∙ simp append-nil) (and_both _ true (ap not stays) refl)

  -- its name has ended before the character
  pub bare_ends : (spaced : Bool) → walk.phase ≡ (if spaced then phase.AfterAttributeName else phase.AttributeName)
      → {after : Texts} {new : TagWalk} {later : List ParseError} → EndsAttribute names after walk errors new later
      → (spaced || ends_attribute_name p.ch) ≡ true → is_space p.ch ≡ false → is_equals p.ch ≡ false → IsInTag table after new body (p ∷ []) later
  bare_ends spaced before {after} {new} {later} ends stop no_space no_equals = let (n, gone) = name_read h spaced before in
      let part : Part = attribute_part n.name [] [] [] in
      let ended = attribute_told h (keeps_self walk) refl refl n.name [] [] [] n.named.has_name n.named.no_value.empty ends in
      let front : List Placed = h.name ++ (parts_text h.parts ++ part.text) in
      let early : IsInTag table after new front (n.spaces ++ p ∷ []) later = part_read h {later = later} part front (n.spaces ++ p ∷ []) [] refl
      (ap (λ (x : List Placed). x ++ p ∷ []) n.held_is ∙ simp (append_assoc, append-nil)) (λ end more.
      rw (append_assoc n.spaces (p ∷ []) more) (IsPart.bare n.name (whole_name (n.spaces ++ p ∷ more) n.named.has_name (n.stop_here (p ∷ more) stop))
      (ap (begins is_equals) (past-space n.spaces p more n.are_spaces no_space) ∙ no_equals) refl)) []
      (append-nil (attribute_name_errors n.name) ∙ sym n.named.own_is ∙ sym (append-nil h.own)) (rw (append-nil errors) ended.1) ends.name_is ends.phase_is
      ended.0 gone in
      let whole : front ++ n.spaces ≡ body =
      sym (h.body_is ∙ ap (λ (x : List Placed). h.name ++ (parts_text h.parts ++ x)) n.held_is ∙ simp (append_assoc, append-nil)) in
      subst (λ (x : List Placed). IsInTag table after new x (p ∷ []) later) whole (spaces_follow n.spaces p ends.phase_is n.are_spaces early)

  -- the same attribute in another phase
  module _ {new : TagWalk} (keeps : KeepsTag walk new) (attribute : new.attribute ≡ walk.attribute) (at : new.at ≡ walk.at)
      (value : new.value ≡ walk.value) where
    moves : {ph : TagState} → new.phase ≡ ph → Past h ≡ true → HasPhase ph table new h.parts (h.held ++ p ∷ []) h.own
        → IsInTag table names new (body ++ p ∷ []) [] errors
    moves next gone has = goes_on h [] keeps next (sym (append-nil errors)) gone (rw (append-nil h.own) has)

    -- the character is one more after a name
    past_name : (test : List Placed → Bool) (name sign : List Placed) → h.held ≡ name ++ sign → InAttributeName walk name h.own → test (sign ++ p ∷ []) ≡ true
        → begins ends_attribute_name (sign ++ p ∷ []) ≡ true → PastAttributeName test new (h.held ++ p ∷ []) h.own
    past_name test name sign held n is stop = record {
      name = name;
      sign = sign ++ p ∷ [];
      held_is = ap (λ (x : List Placed). x ++ p ∷ []) held ∙ append_assoc name sign (p ∷ []);
      has_name = name_stays attribute at n.has_name;
      no_value = subst NoValue (sym value) n.no_value;
      is_sign = is;
      begun = stop;
      own_is = n.own_is;
    }

    -- white space after a name, or `=`
    pub space_follows : (spaced : Bool) → walk.phase ≡ cond spaced phase.AfterAttributeName phase.AttributeName → new.phase ≡ phase.AfterAttributeName
        → is_space p.ch ≡ true → IsInTag table names new (body ++ p ∷ []) [] errors
    space_follows spaced before next is = let (n, gone) = name_read h spaced before in
        moves next gone (past_name (all is_space) n.name n.spaces n.held_is n.named (all-snoc is_space n.spaces p n.are_spaces is)
        (spaces_begin n.spaces p n.are_spaces (space_ends p.ch is)))

    pub equals_follows : (spaced : Bool) → walk.phase ≡ cond spaced phase.AfterAttributeName phase.AttributeName → new.phase ≡ phase.BeforeAttributeValue
        → p.ch ≡ 61 → IsInTag table names new (body ++ p ∷ []) [] errors
    equals_follows spaced before next is = let (n, gone) = name_read h spaced before in
        moves next gone (past_name is_sign n.name n.spaces n.held_is n.named (spaces_sign n.spaces p n.are_spaces is)
        (spaces_begin n.spaces p n.are_spaces (ap ends_attribute_name is)))

    -- white space after `=`
    pub space_after_equals : walk.phase ≡ phase.BeforeAttributeValue → new.phase ≡ phase.BeforeAttributeValue → is_space p.ch ≡ true
        → IsInTag table names new (body ++ p ∷ []) [] errors
    space_after_equals before next is = let n = held_in h before in
        moves next (past_is h before) (past_name is_sign n.name n.sign n.held_is (record { has_name = n.has_name; no_value = n.no_value; own_is = n.own_is })
        (sign_more n.sign p n.is_sign is) (begins-more ends_attribute_name n.sign (p ∷ []) n.begun))

    -- a quote
    pub quote_follows : walk.phase ≡ phase.BeforeAttributeValue → new.phase ≡ phase.AttributeValueQuoted p.ch → is_quote p.ch ≡ true
        → IsInTag table names new (body ++ p ∷ []) [] errors
    quote_follows before next is = let n = held_in h before in
        moves next (past_is h before) (record {
          name = n.name;
          sign = n.sign;
          quote = p ∷ [];
          text = [];
          raised = [];
          held_is = ap (λ (x : List Placed). x ++ p ∷ []) n.held_is ∙ simp (append_assoc, append-nil);
          has_name = name_stays attribute at n.has_name;
          signed = n.is_sign;
          opens = refl;
          is_mark = is;
          inside = refl;
          value = begun_value true (subst NoValue (sym value) n.no_value);
          own_is = n.own_is ∙ sym (append-nil (attribute_name_errors n.name));
        })

  -- the quote that ends the value
  pub quote_closes : {mark : ℕ} {new : TagWalk} {later : List ParseError} → KeepsTag walk new → new.attribute ≡ walk.attribute → new.at ≡ walk.at
      → EndsValue walk.value errors new.value later → walk.phase ≡ phase.AttributeValueQuoted mark → new.phase ≡ phase.AfterAttributeValueQuoted → p.ch ≡ mark
      → IsInTag table names new (body ++ p ∷ []) [] later
  quote_closes {mark} keeps attribute at v before next is = let q = held_in h before in
      goes_on h v.more keeps next v.later_is (past_is h before) (record {
        mark = mark;
        name = q.name;
        sign = q.sign;
        quote = q.quote;
        text = q.text;
        close = p ∷ [];
        raised = q.raised ++ v.more;
        held_is = ap (λ (x : List Placed). x ++ p ∷ []) q.held_is ∙ append_assoc q.name (q.sign ++ q.quote ++ q.text) (p ∷ []);
        has_name = name_stays attribute at q.has_name;
        signed = q.signed;
        opens = q.opens;
        is_mark = q.is_mark;
        inside = q.inside;
        value = v.ends table true q.text q.raised q.value;
        closes = ap (λ (c : ℕ). c ∷ []) is;
        own_is = ap (λ (x : List ParseError). x ++ v.more) q.own_is ∙ simp append_assoc;
      })

  -- an attribute in quotes has ended
  pub quoted_ends : {mid : List ParseError} {after : Texts} {new : TagWalk} {later : List ParseError} → walk.phase ≡ phase.AfterAttributeValueQuoted
      → mid ≡ errors ++ error_if (not (ends_name p.ch)) MissingWhitespaceBetweenAttributes p.at → EndsAttribute names after walk mid new later
      → IsInTag table after new body (p ∷ []) later
  quoted_ends before mid_is ends = let s = held_in h before in let v = s.value in
      let fault : List ParseError = error_if (not (ends_name p.ch)) MissingWhitespaceBetweenAttributes p.at in
      attribute_ends (keeps_self walk) refl refl s.has_name v.bytes (s.sign ++ s.quote ++ pieces_text v.pieces ++ s.close) (value_errors v.pieces ++ fault)
      (ap (λ (x : List Placed). s.name ++ (s.sign ++ s.quote ++ x ++ s.close)) (sym v.text_is) ∙ sym s.held_is)
      (λ end more. IsPart.quoted s.name s.sign s.quote s.close v.pieces s.mark (whole_name s.sign s.has_name (sign_stops s.sign s.signed)) s.signed s.opens
      s.is_mark (ap (all (λ c. not (eqb c s.mark))) (sym v.text_is) ∙ s.inside) v.are s.closes refl) fault
      (sym (ap (λ (x : List ParseError). x ++ fault) (s.own_is ∙ ap (λ (x : List ParseError). attribute_name_errors s.name ++ x) v.errors_are)
      ∙ append_assoc (attribute_name_errors s.name) (value_errors v.pieces) fault)) mid_is ends (past_is h before)

  -- `>` in the place of a value
  pub no_value_ends : {mid : List ParseError} {after : Texts} {new : TagWalk} {later : List ParseError} → walk.phase ≡ phase.BeforeAttributeValue
      → mid ≡ errors ++ error MissingAttributeValue p.at ∷ [] → is_greater p.ch ≡ true → EndsAttribute names after walk mid new later
      → IsInTag table after new body (p ∷ []) later
  no_value_ends before mid_is is ends = let n = held_in h before in let fault : List ParseError = error MissingAttributeValue p.at ∷ [] in
      attribute_ends (keeps_self walk) refl refl n.has_name n.no_value.empty n.sign fault (sym n.held_is)
      (λ end more. IsPart.no_value n.name n.sign (whole_name n.sign n.has_name (sign_stops n.sign n.is_sign)) n.is_sign is refl) fault
      (ap (λ (x : List ParseError). x ++ fault) (sym n.own_is)) mid_is ends (past_is h before)

  -- a value without quotes begins
  pub unquoted_begins : {new : TagWalk} {later : List ParseError} → KeepsTag walk new → new.attribute ≡ walk.attribute → new.at ≡ walk.at
      → TakesInValue table false walk.value p errors new.value later → walk.phase ≡ phase.BeforeAttributeValue → new.phase ≡ phase.AttributeValueUnquoted
      → not (ends_unquoted p.ch || is_quote p.ch) ≡ true → not (ends_unquoted p.ch) ≡ true → IsInTag table names new (body ++ p ∷ []) [] later
  unquoted_begins keeps attribute at v before next first stays = let n = held_in h before in
      goes_on h v.more keeps next v.later_is (past_is h before) (record {
        name = n.name;
        sign = n.sign;
        text = p ∷ [];
        raised = v.more;
        held_is = ap (λ (x : List Placed). x ++ p ∷ []) n.held_is ∙ append_assoc n.name n.sign (p ∷ []);
        has_name = name_stays attribute at n.has_name;
        signed = n.is_sign;
        first = first;
        inside = and_both (not (ends_unquoted p.ch)) true stays refl;
        value = v.takes [] [] (looks_ahead (begun_value false n.no_value));
        own_is = ap (λ (x : List ParseError). x ++ v.more) n.own_is;
      })

  -- it ends
  pub unquoted_ends : {mid_walk : TagWalk} {mid : List ParseError} {after : Texts} {new : TagWalk} {later : List ParseError} → KeepsTag walk mid_walk
      → mid_walk.attribute ≡ walk.attribute → mid_walk.at ≡ walk.at → EndsValue walk.value errors mid_walk.value mid → walk.phase ≡ phase.AttributeValueUnquoted
      → ends_unquoted p.ch ≡ true → EndsAttribute names after mid_walk mid new later → IsInTag table after new body (p ∷ []) later
  unquoted_ends keeps attribute at e before stop ends = let n = held_in h before in let v = e.ends table false n.text n.raised n.value in
      attribute_ends keeps attribute at n.has_name v.bytes (n.sign ++ pieces_text v.pieces) (unquoted_errors v.pieces)
      (ap (λ (x : List Placed). n.name ++ (n.sign ++ x)) (sym v.text_is) ∙ sym n.held_is) (λ end more. IsPart.unquoted n.name n.sign v.pieces
      (whole_name n.sign n.has_name (sign_stops n.sign n.signed)) n.signed (ap (begins (λ c. not (ends_unquoted c || is_quote c))) (sym v.text_is) ∙ n.first)
      (record { passes_none = ap (all (λ c. not (ends_unquoted c))) (sym v.text_is) ∙ n.inside; stops_after = stop }) v.are refl) e.more
      (sym (ap (λ (x : List ParseError). x ++ e.more) n.own_is ∙ append_assoc (attribute_name_errors n.name) n.raised e.more
      ∙ ap (λ (x : List ParseError). attribute_name_errors n.name ++ x) v.errors_are)) e.later_is ends (past_is h before)
