-- A tag that the input's end cuts off.
use Rattle.htag.proofs.Vocabulary.{◌≡◌, ℕ, Bool, true, false, not, ◌||◌, if◌then◌else◌, eqb, List, [], ◌∷◌, ◌++◌, map, sym, refl, ap, ◌∙◌, subst, append-nil, append_assoc, None, string_bytes, ParseError, Placed, Texts, begins, stops, all, past, is_space, is_equals, is_quote, null_errors, and_parts, Entities, TagWalk, pieces_text, EndsValue, Part, IsPart, AreParts, parts_text, part_errors_after, tag_errors, ends_name, ends_attribute_name, ends_unquoted, attribute_name_errors, value_errors, unquoted_errors, attribute_part, repeated, KeepsTag, EndsAttribute, names_after, HasName, IsInTag, or-true, IsCutTag}
use Rattle.htag.specs.declared.tag_state.TagState.TheVariants as phase
use Rattle.htag.proofs.Keeping.{held_in, past_is, attribute_told}
use Rattle.htag.proofs.Parts.{part_errors, parts_text-append, parts_text-snoc, AreParts-append, AreParts-snoc}
use Rattle.htag.proofs.Values.{space_part, keeps_self, name_read, sign_stops, whole_name}

-- white space at the end
abbrev spaces : List Placed → List Part
spaces text = map space_part text

spaces_text : (text : List Placed) → parts_text (spaces text) ≡ text
spaces_text [] = refl
spaces_text (p ∷ ps) = ap (λ (x : List Placed). p ∷ x) (spaces_text ps)

are_spaces : (table : Entities) (end : ℕ) (text : List Placed) → all is_space text ≡ true → AreParts table end (spaces text) []
are_spaces table end [] h = tt
are_spaces table end (p ∷ ps) h = let parts = and_parts (is_space p.ch) (all is_space ps) h in (IsPart.space p parts.0 refl, are_spaces table end ps parts.1)

spaces_errors : (names : List (List ℕ)) (parts : List Part) (text : List Placed)
    → part_errors_after names (parts ++ spaces text) ≡ part_errors_after names parts
spaces_errors names [] [] = refl
spaces_errors names [] (p ∷ ps) = spaces_errors names [] ps
spaces_errors names (x ∷ xs) text = ap (λ (e : List ParseError). (x.errors ++ repeated names x.attribute) ++ e) (spaces_errors _ xs text)

only_spaces : (text : List Placed) → all is_space text ≡ true → begins is_equals (past is_space text) ≡ false
only_spaces [] h = refl
only_spaces (p ∷ ps) h = let parts = and_parts (is_space p.ch) (all is_space ps) h in let e : is_space p.ch ≡ true = parts.0 in rw e (only_spaces ps parts.1)

module _ {table : Entities} {names : Texts} {walk : TagWalk} {body : List Placed} {errors : List ParseError} (h : IsInTag table names walk body [] errors) where
  begins-stops : (test : ℕ → Bool) (xs : List Placed) → begins test xs ≡ true → stops test xs ≡ true
  begins-stops test [] e = refl
  begins-stops test (x ∷ xs) e = e

  -- these are all of its parts
  cut_with : {later : List ParseError} (parts : List Part) → parts_text h.parts ++ h.held ≡ parts_text parts → ((end : ℕ) → AreParts table end parts [])
      → later ≡ tag_errors h.name parts → stops ends_name (parts_text h.parts ++ (h.held ++ [])) ≡ true → IsCutTag table body later
  cut_with parts text are errors_are gone = record {
    name = h.name;
    parts = parts;
    body_is = h.body_is ∙ ap (λ (x : List Placed). h.name ++ x) text;
    first = h.first;
    runs = record { passes_none = h.passes; stops_after = rw (← text, append_assoc) gone };
    are_parts = are;
    errors_are = errors_are;
  }

  -- no part is being read
  whole_parts : h.held ≡ [] → h.own ≡ [] → stops ends_name (parts_text h.parts ++ (h.held ++ [])) ≡ true → IsCutTag table body errors
  whole_parts no_held no_own gone = cut_with h.parts (rw no_held (append-nil (parts_text h.parts))) (λ end. rw no_held at (h.are_parts end []))
      (h.errors_are ∙ rw no_own (append-nil (tag_errors h.name h.parts))) gone

  pub cut_in_name : walk.phase ≡ phase.TagName → IsCutTag table body errors
  cut_in_name e = let nothing = held_in h e in whole_parts nothing.1 nothing.2 (rw (nothing.0, nothing.1) refl)

  pub cut_before_attribute : walk.phase ≡ phase.BeforeAttributeName → IsCutTag table body errors
  cut_before_attribute e = let nothing = held_in h e in
      whole_parts nothing.0 nothing.1 (begins-stops ends_name (parts_text h.parts ++ (h.held ++ [])) (past_is h e))

  -- a part is being read
  cut_part : {later : List ParseError} (part : Part) → part.text ≡ h.held → ((end : ℕ) → IsPart table end [] part) → (e : List ParseError)
      → part.errors ≡ h.own ++ e → later ≡ (errors ++ e) ++ repeated (names_after [] h.parts) part.attribute
      → begins ends_name (parts_text h.parts ++ (h.held ++ [])) ≡ true → IsCutTag table body later
  cut_part part text is e own later_is gone =
      cut_with (h.parts ++ part ∷ []) (ap (λ (x : List Placed). parts_text h.parts ++ x) (sym text) ∙ sym (parts_text-snoc h.parts part))
      (λ end. AreParts-snoc table end h.parts part [] (rw text (h.are_parts end [])) (is end))
      (part_errors h.name h.parts h.own h.errors_are part e own later_is) (begins-stops ends_name (parts_text h.parts ++ (h.held ++ [])) gone)

  pub cut_after_solidus : walk.phase ≡ phase.SelfClosingStartTag → IsCutTag table body errors
  cut_after_solidus e = let s = held_in h e in
      cut_part (record { text = s.0 ∷ []; attribute = None; errors = [] }) (sym s.2) (λ end. IsPart.solidus s.0 s.1 refl refl) [] (sym (append-nil h.own ∙ s.3))
      (sym (append-nil (errors ++ []) ∙ append-nil errors)) (past_is h e)

  -- the part is an attribute
  module _ {mid_walk : TagWalk} (keeps : KeepsTag walk mid_walk) (attribute : mid_walk.attribute ≡ walk.attribute) (at : mid_walk.at ≡ walk.at)
      {mid : List ParseError} {after : Texts} {new : TagWalk} {later : List ParseError} (ends : EndsAttribute names after mid_walk mid new later) where
    cut_attribute : {name : List Placed} {value : List ℕ} → HasName walk name → string_bytes mid_walk.value.text ≡ value
        → (others : List Placed) (e' : List ParseError) → name ++ others ≡ h.held → ((end : ℕ) → IsPart table end [] (attribute_part name others value e'))
        → (e : List ParseError) → attribute_name_errors name ++ e' ≡ h.own ++ e → mid ≡ errors ++ e
        → begins ends_name (parts_text h.parts ++ (h.held ++ [])) ≡ true → IsCutTag table body later
    cut_attribute {name} {value} has value_is others e' text is e own mid_is gone =
        cut_part (attribute_part name others value e') text is e own ((attribute_told h keeps attribute at name others value e' has value_is ends).1
        ∙ ap (λ (x : List ParseError). x ++ repeated (names_after [] h.parts) (attribute_part name others value e').attribute) mid_is) gone

    pub cut_in_quotes : {mark : ℕ} → walk.phase ≡ phase.AttributeValueQuoted mark → EndsValue walk.value errors mid_walk.value mid → IsCutTag table body later
    cut_in_quotes {mark} before e = let q = held_in h before in let v = e.ends table true q.text q.raised q.value in
        cut_attribute q.has_name v.bytes (q.sign ++ q.quote ++ pieces_text v.pieces) (value_errors v.pieces)
        (ap (λ (x : List Placed). q.name ++ (q.sign ++ q.quote ++ x)) (sym v.text_is) ∙ sym q.held_is)
        (λ end. IsPart.unclosed q.name q.sign q.quote v.pieces mark (whole_name q.sign q.has_name (sign_stops q.sign q.signed)) q.signed q.opens q.is_mark
        (ap (all (λ c. not (eqb c mark))) (sym v.text_is) ∙ q.inside) v.are refl refl) e.more (sym (ap (λ (x : List ParseError). x ++ e.more) q.own_is
        ∙ append_assoc (attribute_name_errors q.name) q.raised e.more ∙ ap (λ (x : List ParseError). attribute_name_errors q.name ++ x) v.errors_are))
        e.later_is (past_is h before)

    pub cut_in_unquoted : walk.phase ≡ phase.AttributeValueUnquoted → EndsValue walk.value errors mid_walk.value mid → IsCutTag table body later
    cut_in_unquoted before e = let n = held_in h before in let v = e.ends table false n.text n.raised n.value in
        cut_attribute n.has_name v.bytes (n.sign ++ pieces_text v.pieces) (unquoted_errors v.pieces)
        (ap (λ (x : List Placed). n.name ++ (n.sign ++ x)) (sym v.text_is) ∙ sym n.held_is) (λ end. IsPart.unquoted n.name n.sign v.pieces
        (whole_name n.sign n.has_name (sign_stops n.sign n.signed)) n.signed (ap (begins (λ c. not (ends_unquoted c || is_quote c))) (sym v.text_is) ∙ n.first)
        (record { passes_none = ap (all (λ c. not (ends_unquoted c))) (sym v.text_is) ∙ n.inside; stops_after = refl }) v.are refl) e.more
        (sym (ap (λ (x : List ParseError). x ++ e.more) n.own_is ∙ append_assoc (attribute_name_errors n.name) n.raised e.more
        ∙ ap (λ (x : List ParseError). attribute_name_errors n.name ++ x) v.errors_are)) e.later_is (past_is h before)

  module _ {after : Texts} {new : TagWalk} {later : List ParseError} (ends : EndsAttribute names after walk errors new later) where
    pub cut_before_value : walk.phase ≡ phase.BeforeAttributeValue → IsCutTag table body later
    cut_before_value before = let n = held_in h before in
        cut_attribute (keeps_self walk) refl refl ends n.has_name n.no_value.empty n.sign [] (sym n.held_is)
        (λ end. IsPart.no_value n.name n.sign (whole_name n.sign n.has_name (sign_stops n.sign n.is_sign)) n.is_sign refl refl) []
        (append-nil (attribute_name_errors n.name) ∙ sym n.own_is ∙ sym (append-nil h.own)) (sym (append-nil errors)) (past_is h before)

    pub cut_after_quotes : walk.phase ≡ phase.AfterAttributeValueQuoted → IsCutTag table body later
    cut_after_quotes before = let s = held_in h before in let v = s.value in
        cut_attribute (keeps_self walk) refl refl ends s.has_name v.bytes (s.sign ++ s.quote ++ pieces_text v.pieces ++ s.close) (value_errors v.pieces ++ [])
        (ap (λ (x : List Placed). s.name ++ (s.sign ++ s.quote ++ x ++ s.close)) (sym v.text_is) ∙ sym s.held_is)
        (λ end. IsPart.quoted s.name s.sign s.quote s.close v.pieces s.mark (whole_name s.sign s.has_name (sign_stops s.sign s.signed)) s.signed s.opens
        s.is_mark (ap (all (λ c. not (eqb c s.mark))) (sym v.text_is) ∙ s.inside) v.are s.closes refl) []
        (ap (λ (x : List ParseError). attribute_name_errors s.name ++ x) (append-nil (value_errors v.pieces) ∙ sym v.errors_are) ∙ sym s.own_is
        ∙ sym (append-nil h.own)) (sym (append-nil errors)) (past_is h before)

    -- an attribute's name, and white space after it
    pub cut_after_name : (spaced : Bool) → walk.phase ≡ (if spaced then phase.AfterAttributeName else phase.AttributeName) → IsCutTag table body later
    cut_after_name spaced before = let (n, gone) = name_read h spaced before in let part : Part = attribute_part n.name [] [] [] in
        let parts : List Part = h.parts ++ part ∷ [] in
        let text : part.text ++ n.spaces ≡ h.held = ap (λ (x : List Placed). x ++ n.spaces) (append-nil n.name) ∙ sym n.held_is in
        let stop : stops ends_attribute_name n.spaces ≡ true = rw append-nil at (n.stop_here [] (or-true spaced)) in
        let errors_are : later ≡ tag_errors h.name parts = part_errors h.name h.parts h.own h.errors_are part [] {later = later}
        (append-nil (attribute_name_errors n.name) ∙ sym n.named.own_is ∙ sym (append-nil h.own))
        (rw (append-nil errors) (attribute_told h (keeps_self walk) refl refl n.name [] [] [] n.named.has_name n.named.no_value.empty ends).1) in
        cut_with (parts ++ spaces n.spaces) ((λ i. parts_text h.parts ++ sym text i)
        ∙ rw (parts_text-append parts (spaces n.spaces), parts_text-snoc h.parts part, spaces_text n.spaces) (simp append_assoc))
        (λ end. AreParts-append table end parts (spaces n.spaces) [] (rw (append-nil (parts_text (spaces n.spaces)), spaces_text n.spaces)
        (AreParts-snoc table end h.parts part n.spaces (subst (AreParts table end h.parts) (append-nil h.held ∙ sym text) (h.are_parts end []))
        (IsPart.bare n.name (whole_name n.spaces n.named.has_name stop) (only_spaces n.spaces n.are_spaces) refl)))
        (are_spaces table end n.spaces n.are_spaces))
        (errors_are ∙ ap (λ (x : List ParseError). null_errors h.name ++ x) (sym (spaces_errors [] parts n.spaces)))
        (begins-stops ends_name (parts_text h.parts ++ (h.held ++ [])) gone)
