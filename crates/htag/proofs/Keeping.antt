-- What a walk has read stays read: where more is known of what follows, where names are added, and where the tag goes on.
use Rattle.htag.proofs.Vocabulary.{◌≡◌, ℕ, Bool, true, List, [], ◌++◌, sym, refl, ap, ◌∙◌, subst, append_assoc, ParseError, Placed, Texts, Grows, begins, Entities, TagState, TagWalk, Part, AreParts, parts_text, attributes_after, tag_errors, ends_name, names_after, string_bytes, HasAttributes, HasPhase, IsPast, IsInTag, KeepsTag, false, not, eqb, ◌∷◌, drop, append-nil, flat_map, Some, flat_map-append, UnexpectedEqualsSignBeforeAttributeName, all, place, is_equals, error_if, name_bytes, name_bytes-append, all-append, IsInValue, IsPart, ends_attribute_name, ends_unquoted, name_errors_here, attribute_part, repeated, NoValue, HasName, EndsAttribute}
use Rattle.htag.specs.declared.tag_state.TagState.TheVariants as phase
use Rattle.htag.proofs.InValue.{looks_ahead as value_ahead}
use Rattle.htag.proofs.Parts.{begins-more, holds_same, part_errors, parts_text-snoc, AreParts-snoc}
use Rattle.htag.proofs.Naming.{numbers_kept, attrs_kept}

past_more : (ph : TagState) (a b : Bool) → (a ≡ true → b ≡ true) → IsPast ph a → IsPast ph b
past_more phase.TagName a b f h = tt
past_more _ a b f h = f h

is_past : (ph : TagState) {b : Bool} → b ≡ true → IsPast ph b
is_past phase.TagName e = tt
is_past _ e = e

-- the attribute's name stays
pub name_stays : {walk new : TagWalk} {name : List Placed} → new.attribute ≡ walk.attribute → new.at ≡ walk.at → HasName walk name → HasName new name
name_stays attribute at h = record { first = h.first; runs = h.runs; is = ap string_bytes attribute ∙ h.is; at_is = h.at_is ∙ sym at }

pub attributes_grow : (old new : Texts) → Grows old new → (walk : TagWalk) (parts : List Part) → HasAttributes old walk parts → HasAttributes new walk parts
attributes_grow old new grows walk parts h = record {
  numbers = h.numbers;
  seen = h.seen;
  named = numbers_kept old new grows h.numbers (names_after [] parts) h.named;
  attributes = attrs_kept old new grows walk.attrs.items (attributes_after [] parts) h.attributes;
  any = h.any;
}

module _ {table : Entities} {names : Texts} {walk : TagWalk} {body fed : List Placed} {errors : List ParseError}
    (h : IsInTag table names walk body fed errors) where
  abbrev pub Past : Bool
  Past = begins ends_name (parts_text h.parts ++ (h.held ++ fed))

  pub past_is : {ph : TagState} → walk.phase ≡ ph → IsPast ph Past
  past_is e = subst (λ (x : TagState). IsPast x Past) e h.past

  pub held_in : {ph : TagState} → walk.phase ≡ ph → HasPhase ph table walk h.parts h.held h.own
  held_in e = subst (λ (x : TagState). HasPhase x table walk h.parts h.held h.own) e h.has_phase

  pub body_with : (text : List Placed) → body ++ text ≡ h.name ++ (parts_text h.parts ++ (h.held ++ text))
  body_with text = ap (λ (x : List Placed). x ++ text) h.body_is ∙ simp append_assoc

  further : (more : List Placed) → Past ≡ true → begins ends_name (parts_text h.parts ++ (h.held ++ (fed ++ more))) ≡ true
  further more e = simp append_assoc at (begins-more ends_name (parts_text h.parts ++ (h.held ++ fed)) more e)

  -- the tag's name and its parts stay, and this is held of a part
  holds_part : {after : Texts} {new : TagWalk} {later : List ParseError} (front next held : List Placed) (own : List ParseError)
      → front ≡ h.name ++ (parts_text h.parts ++ held) → later ≡ tag_errors h.name h.parts ++ own → new.name ≡ walk.name
      → ((end : ℕ) (more : List Placed) → AreParts table end h.parts (held ++ (next ++ more))) → HasAttributes after new h.parts
      → IsPast new.phase (begins ends_name (parts_text h.parts ++ (held ++ next))) → HasPhase new.phase table new h.parts held own
      → IsInTag table after new front next later
  holds_part front next held own front_is later_is named are has past phased = record {
    name = h.name;
    parts = h.parts;
    held = held;
    own = own;
    body_is = front_is;
    first = h.first;
    passes = h.passes;
    name_is = ap string_bytes named ∙ h.name_is;
    are_parts = are;
    errors_are = later_is;
    has_attributes = has;
    past = past;
    has_phase = phased;
  }

  pub looks_further : (more : List Placed) → IsInTag table names walk body (fed ++ more) errors
  looks_further more = holds_part body (fed ++ more) h.held h.own h.body_is h.errors_are refl (λ end others.
      subst (λ (x : List Placed). AreParts table end h.parts (h.held ++ x)) (sym (append_assoc fed more others)) (h.are_parts end (more ++ others)))
      h.has_attributes (past_more walk.phase _ _ (further more) h.past) h.has_phase

  -- before an attribute no other value matters
  pub other_value : (new : TagWalk) → walk.phase ≡ phase.BeforeAttributeName → new.phase ≡ walk.phase → KeepsTag walk new
      → IsInTag table names new body fed errors
  other_value new before same keeps = holds_part body fed h.held h.own h.body_is h.errors_are keeps.name_is h.are_parts
      (holds_same keeps.seen_is keeps.attrs_are keeps.any_is h.has_attributes) (subst (λ (x : TagState). IsPast x Past) (sym same) h.past)
      (subst (λ (x : TagState). HasPhase x table new h.parts h.held h.own) (sym (same ∙ before)) (held_in before))

  -- what is held of a part goes on, in this phase
  pub goes_on : {new : TagWalk} {ph : TagState} {later : List ParseError} (e : List ParseError) → KeepsTag walk new → new.phase ≡ ph → later ≡ errors ++ e
      → Past ≡ true → HasPhase ph table new h.parts (h.held ++ fed) (h.own ++ e) → IsInTag table names new (body ++ fed) [] later
  goes_on {new} {ph} e keeps then later_is gone has = holds_part (body ++ fed) [] (h.held ++ fed) (h.own ++ e) (body_with fed)
      (later_is ∙ ap (λ (x : List ParseError). x ++ e) h.errors_are ∙ simp append_assoc) keeps.name_is
      (λ end more. subst (AreParts table end h.parts) (sym (append_assoc h.held fed more)) (h.are_parts end more))
      (holds_same keeps.seen_is keeps.attrs_are keeps.any_is h.has_attributes)
      (subst (λ (x : TagState). IsPast x (begins ends_name (parts_text h.parts ++ ((h.held ++ fed) ++ [])))) (sym then)
      (is_past ph (ap (λ (x : List Placed). begins ends_name (parts_text h.parts ++ x)) (append-nil (h.held ++ fed)) ∙ gone)))
      (subst (λ (x : TagState). HasPhase x table new h.parts (h.held ++ fed) (h.own ++ e)) (sym then) has)

  -- nothing is held of a part
  pub body_then : h.held ≡ [] → (text : List Placed) → body ++ text ≡ h.name ++ (parts_text h.parts ++ text)
  body_then none text = body_with text ∙ ap (λ (x : List Placed). h.name ++ (parts_text h.parts ++ (x ++ text))) none

  -- A part has been read: what is held and what comes next begin with it, and after it this text is known to come.
  pub part_read : {after : Texts} {new : TagWalk} {later : List ParseError} (part : Part) (front ahead far : List Placed)
      → front ≡ h.name ++ (parts_text h.parts ++ part.text) → h.held ++ (fed ++ far) ≡ part.text ++ ahead
      → ((end : ℕ) (more : List Placed) → IsPart table end (ahead ++ more) part) → (e : List ParseError) → part.errors ≡ h.own ++ e
      → later ≡ (errors ++ e) ++ repeated (names_after [] h.parts) part.attribute → new.name ≡ walk.name → new.phase ≡ phase.BeforeAttributeName
      → HasAttributes after new (h.parts ++ part ∷ []) → Past ≡ true → IsInTag table after new front ahead later
  part_read {new} part front ahead far front_is text is e own later_is named before has gone = record {
    name = h.name;
    parts = h.parts ++ part ∷ [];
    held = [];
    own = [];
    body_is = front_is ∙ ap (λ (x : List Placed). h.name ++ x) (sym (append-nil (parts_text (h.parts ++ part ∷ [])) ∙ parts_text-snoc h.parts part));
    first = h.first;
    passes = h.passes;
    name_is = ap string_bytes named ∙ h.name_is;
    are_parts = λ end more. AreParts-snoc table end h.parts part (ahead ++ more)
        (subst (AreParts table end h.parts) (simp append_assoc at (ap (λ (x : List Placed). x ++ more) text)) (h.are_parts end (far ++ more))) (is end more);
    errors_are = part_errors h.name h.parts h.own h.errors_are part e own later_is ∙ sym (append-nil (tag_errors h.name (h.parts ++ part ∷ [])));
    has_attributes = has;
    past = subst (λ (x : TagState). IsPast x (begins ends_name (parts_text (h.parts ++ part ∷ []) ++ ahead))) (sym before)
        (ap (λ (x : List Placed). begins ends_name (x ++ ahead)) (parts_text-snoc h.parts part)
        ∙ ap (begins ends_name) (append_assoc (parts_text h.parts) part.text ahead ∙ ap (λ (x : List Placed). parts_text h.parts ++ x) (sym text))
        ∙ further far gone);
    has_phase = subst (λ (x : TagState). HasPhase x table new (h.parts ++ part ∷ []) [] []) (sym before) (refl, refl);
  }

  -- an attribute has been read
  pub attribute_told : {mid_walk : TagWalk} → KeepsTag walk mid_walk → mid_walk.attribute ≡ walk.attribute → mid_walk.at ≡ walk.at
      → (name others : List Placed) (value : List ℕ) (e : List ParseError) → HasName walk name → string_bytes mid_walk.value.text ≡ value
      → {mid : List ParseError} {after : Texts} {new : TagWalk} {later : List ParseError} → EndsAttribute names after mid_walk mid new later
      → HasAttributes after new (h.parts ++ attribute_part name others value e ∷ [])
      × (later ≡ mid ++ repeated (names_after [] h.parts) (attribute_part name others value e).attribute)
  attribute_told keeps attribute at name others value e has value_is ends = ends.ends h.parts (attribute_part name others value e)
      (λ i. Some (record { name = (sym has.is ∙ ap string_bytes (sym attribute)) i; value = sym value_is i; at = (has.at_is ∙ sym at) i }))
      (holds_same keeps.seen_is keeps.attrs_are keeps.any_is h.has_attributes)

  -- AN ATTRIBUTE'S NAME

  runs_more : (xs : List Placed) → begins (λ c. not (ends_name c)) xs ≡ true → all (λ c. not (ends_attribute_name c)) (drop 1 xs) ≡ true
      → all (λ c. not (ends_attribute_name c)) fed ≡ true → all (λ c. not (ends_attribute_name c)) (drop 1 (xs ++ fed)) ≡ true
  runs_more [] b h' k = absurd cc
  runs_more (x ∷ xs) b h' k = all-append _ xs fed h' k

  place_more : (xs : List Placed) → begins (λ c. not (ends_name c)) xs ≡ true → place 0 (xs ++ fed) ≡ place 0 xs
  place_more [] b = absurd cc
  place_more (x ∷ xs) b = refl

  equals_more : (xs : List Placed) → begins (λ c. not (ends_name c)) xs ≡ true → begins is_equals (xs ++ fed) ≡ begins is_equals xs
  equals_more [] b = absurd cc
  equals_more (x ∷ xs) b = refl

  pub letters_follow : {new : TagWalk} {later : List ParseError} → walk.phase ≡ phase.AttributeName → KeepsTag walk new → new.phase ≡ walk.phase
      → new.at ≡ walk.at → new.value ≡ walk.value → string_bytes new.attribute ≡ string_bytes walk.attribute ++ name_bytes fed
      → later ≡ errors ++ flat_map name_errors_here fed → all (λ c. not (ends_attribute_name c)) fed ≡ true → IsInTag table names new (body ++ fed) [] later
  letters_follow in_name keeps same at value bytes later_is stay = let n = held_in in_name in let e : List ParseError = flat_map name_errors_here fed in
      goes_on e keeps (same ∙ in_name) later_is (past_is in_name) (record {
        has_name = record {
          first = begins-more _ h.held fed n.has_name.first;
          runs = runs_more h.held n.has_name.first n.has_name.runs stay;
          is = bytes ∙ ap (λ (x : List ℕ). x ++ name_bytes fed) n.has_name.is ∙ sym (name_bytes-append h.held fed);
          at_is = place_more h.held n.has_name.first ∙ n.has_name.at_is ∙ sym at;
        };
        no_value = subst NoValue (sym value) n.no_value;
        own_is = ap (λ (x : List ParseError). x ++ e) n.own_is
            ∙ append_assoc (error_if (begins is_equals h.held) UnexpectedEqualsSignBeforeAttributeName (place 0 h.held)) (flat_map name_errors_here h.held) e
            ∙ (λ i. error_if (sym (equals_more h.held n.has_name.first) i) UnexpectedEqualsSignBeforeAttributeName (sym (place_more h.held n.has_name.first) i)
            ++ sym (flat_map-append name_errors_here h.held fed) i);
      })

  -- A VALUE, which takes the characters and raises some errors

  module _ {new : TagWalk} {later : List ParseError} (more : List ParseError) (keeps : KeepsTag walk new) (attribute : new.attribute ≡ walk.attribute)
      (at : new.at ≡ walk.at) (same : new.phase ≡ walk.phase) (later_is : later ≡ errors ++ more) where
    pub quoted_goes_on : {mark : ℕ} → walk.phase ≡ phase.AttributeValueQuoted mark → ((text : List Placed) (own : List ParseError)
        → IsInValue table true walk.value text fed own → IsInValue table true new.value (text ++ fed) [] (own ++ more)) → all (λ c. not (eqb c mark)) fed ≡ true
        → IsInTag table names new (body ++ fed) [] later
    quoted_goes_on {mark} before takes others = let q = held_in before in
        goes_on more keeps (same ∙ before) later_is (past_is before) (record {
          name = q.name;
          sign = q.sign;
          quote = q.quote;
          text = q.text ++ fed;
          raised = q.raised ++ more;
          held_is = ap (λ (x : List Placed). x ++ fed) q.held_is ∙ simp append_assoc;
          has_name = name_stays attribute at q.has_name;
          signed = q.signed;
          opens = q.opens;
          is_mark = q.is_mark;
          inside = all-append (λ c. not (eqb c mark)) q.text fed q.inside others;
          value = takes q.text q.raised (value_ahead q.value);
          own_is = ap (λ (x : List ParseError). x ++ more) q.own_is ∙ simp append_assoc;
        })

    pub unquoted_goes_on : walk.phase ≡ phase.AttributeValueUnquoted → ((text : List Placed) (own : List ParseError)
        → IsInValue table false walk.value text fed own → IsInValue table false new.value (text ++ fed) [] (own ++ more))
        → all (λ c. not (ends_unquoted c)) fed ≡ true → IsInTag table names new (body ++ fed) [] later
    unquoted_goes_on before takes stay = let n = held_in before in
        goes_on more keeps (same ∙ before) later_is (past_is before) (record {
          name = n.name;
          sign = n.sign;
          text = n.text ++ fed;
          raised = n.raised ++ more;
          held_is = ap (λ (x : List Placed). x ++ fed) n.held_is ∙ simp append_assoc;
          has_name = name_stays attribute at n.has_name;
          signed = n.signed;
          first = begins-more _ n.text fed n.first;
          inside = all-append (λ c. not (ends_unquoted c)) n.text fed n.inside stay;
          value = takes n.text n.raised (value_ahead n.value);
          own_is = ap (λ (x : List ParseError). x ++ more) n.own_is ∙ simp append_assoc;
        })

pub looks_ahead : (table : Entities) (names : Texts) (walk : TagWalk) (body : List Placed) (errors : List ParseError) → IsInTag table names walk body [] errors
    → (ahead : List Placed) → IsInTag table names walk body ahead errors
looks_ahead table names walk body errors h ahead = looks_further h ahead

pub names_grow : (old new : Texts) → Grows old new → (table : Entities) (walk : TagWalk) (body ahead : List Placed) (errors : List ParseError)
    → IsInTag table old walk body ahead errors → IsInTag table new walk body ahead errors
names_grow old new grows table walk body ahead errors h = holds_part h body ahead h.held h.own h.body_is h.errors_are refl h.are_parts
    (attributes_grow old new grows walk h.parts h.has_attributes) h.past h.has_phase
