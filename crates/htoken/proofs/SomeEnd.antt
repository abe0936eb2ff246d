-- What has been read of a tag can be completed.
use Rattle.htoken.proofs.Names.{◌≡◌, ℕ, Bool, true, false, not, eqb, List, [], ◌∷◌, ◌++◌, sym, refl, ap, ◌∙◌, subst, append_assoc, append-nil, MissingAttributeValue, ParseError, Placed, Texts, characters, begins, stops, all, is_empty, is_space, error, Entities, IsTable, pieces_text, value_bytes, Part, IsPart, AreParts, parts_text, IsAttributeName, ends_name, ends_attribute_name, ends_unquoted, is_sign, attribute_part, value_errors, unquoted_errors, tag_close, CanEnd, TagState, TagWalk, HasName, PastAttributeName, InAttributeName, InAttributeValueQuoted, InAttributeValueUnquoted, PastAttributeValueQuoted, HasPhase, IsPast, IsInTag, begins-more, parts_text-snoc, AreParts-snoc, spaces_sign, sign_stops, TagsCanEnd}
use Rattle.htag.specs.declared.tag_state.TagState.TheVariants as phase
use Rattle.htoken.proofs.SomePart.{some_value}

abbrev pub greater : Placed
greater = record { ch = 62; at = 0 }

abbrev equals : Placed
equals = record { ch = 61; at = 0 }

named : {walk : TagWalk} {name : List Placed} (after : List Placed) → HasName walk name → stops ends_attribute_name after ≡ true → IsAttributeName name after
named after n stop = record { first = n.first; runs = record { passes_none = n.runs; stops_after = stop } }

module _ {table : Entities} (is_table : IsTable table) {names : Texts} {walk : TagWalk} {body : List Placed} {errors : List ParseError}
    (h : IsInTag table names walk body [] errors) where
  closes_with : (more : List Placed) (parts : List Part) (close : List Placed) (closing : Bool) → is_empty more ≡ false
      → (parts_text h.parts ++ h.held) ++ more ≡ parts_text parts ++ close → begins ends_name (parts_text parts ++ close) ≡ true
      → ((end : ℕ) (rest : List Placed) → AreParts table end parts (close ++ rest)) → characters close ≡ tag_close closing → CanEnd table body
  closes_with more parts close closing some same ends are closes = record {
    more = more;
    name = h.name;
    parts = parts;
    close = close;
    closing = closing;
    some = some;
    body_is = cc (append_assoc h.name (parts_text h.parts ++ h.held) more);
    first = h.first;
    passes = h.passes;
    ends = ends;
    are_parts = are;
    closes = closes;
  }

  -- past the tag's name
  module _ (gone : begins ends_name (parts_text h.parts ++ (h.held ++ [])) ≡ true) where
    past_it : (more : List Placed) (parts : List Part) (close : List Placed) → (parts_text h.parts ++ h.held) ++ more ≡ parts_text parts ++ close
        → begins ends_name (parts_text parts ++ close) ≡ true
    past_it more parts close same = ap (begins ends_name) (sym same) ∙ begins-more ends_name (parts_text h.parts ++ h.held) more (cc (append-nil h.held))

    -- one part more
    part_closes : (more : List Placed) (part : Part) (close : List Placed) (closing : Bool) → is_empty more ≡ false → part.text ++ close ≡ h.held ++ more
        → ((end : ℕ) (rest : List Placed) → IsPart table end (close ++ rest) part) → characters close ≡ tag_close closing → CanEnd table body
    part_closes more part close closing some text is closes =
        let same : (parts_text h.parts ++ h.held) ++ more ≡ parts_text (h.parts ++ part ∷ []) ++ close = cc
        (append_assoc (parts_text h.parts) h.held more, append_assoc (parts_text h.parts) part.text close, parts_text-snoc h.parts part) in
        closes_with more (h.parts ++ part ∷ []) close closing some same (past_it more (h.parts ++ part ∷ []) close same)
        (λ end rest. AreParts-snoc table end h.parts part (close ++ rest) (subst (AreParts table end h.parts)
        (sym (append_assoc h.held more rest) ∙ ap (λ (x : List Placed). x ++ rest) (sym text) ∙ append_assoc part.text close rest)
        (h.are_parts end (more ++ rest))) (is end rest)) closes

    before : h.held ≡ [] → CanEnd table body
    before none = let same : (parts_text h.parts ++ h.held) ++ greater ∷ [] ≡ parts_text h.parts ++ greater ∷ [] = cc (append-nil (parts_text h.parts)) in
        closes_with (greater ∷ []) h.parts (greater ∷ []) false refl same (past_it (greater ∷ []) h.parts (greater ∷ []) same)
        (λ end rest. subst (λ (x : List Placed). AreParts table end h.parts (x ++ (greater ∷ rest))) none (h.are_parts end (greater ∷ rest))) refl

    solidus : (s : Placed) → s.ch ≡ 47 → h.held ≡ s ∷ [] → CanEnd table body
    solidus s is held =
        let same : (parts_text h.parts ++ h.held) ++ greater ∷ [] ≡ parts_text h.parts ++ (s ∷ greater ∷ []) =
        cc (append_assoc (parts_text h.parts) h.held (greater ∷ [])) in
        closes_with (greater ∷ []) h.parts (s ∷ greater ∷ []) true refl same (past_it (greater ∷ []) h.parts (s ∷ greater ∷ []) same)
        (λ end rest. subst (λ (x : List Placed). AreParts table end h.parts (x ++ (greater ∷ rest))) held (h.are_parts end (greater ∷ rest)))
        (ap (λ (c : ℕ). c ∷ 62 ∷ []) is)

    bare : InAttributeName walk h.held h.own → CanEnd table body
    bare n =
        part_closes (greater ∷ []) (attribute_part h.held [] [] []) (greater ∷ []) false refl (ap (λ (x : List Placed). x ++ greater ∷ []) (append-nil h.held))
        (λ end rest. IsPart.bare h.held (named (greater ∷ rest) n.has_name refl) refl refl) refl

    -- `=` after white space, and no value
    spaced : PastAttributeName (all is_space) walk h.held h.own → CanEnd table body
    spaced n = let sign : List Placed = n.sign ++ equals ∷ [] in let is : is_sign sign ≡ true = spaces_sign n.sign equals n.is_sign refl in
        part_closes (equals ∷ greater ∷ []) (attribute_part n.name sign [] (error MissingAttributeValue 0 ∷ [])) (greater ∷ []) false refl
        (cc (append_assoc n.name sign (greater ∷ []), append_assoc n.sign (equals ∷ []) (greater ∷ []), append_assoc n.name n.sign (equals ∷ greater ∷ [])))
        (λ end rest. IsPart.no_value n.name sign (named sign n.has_name (sign_stops sign is)) is refl refl) refl

    valueless : PastAttributeName is_sign walk h.held h.own → CanEnd table body
    valueless n = part_closes (greater ∷ []) (attribute_part n.name n.sign [] (error MissingAttributeValue 0 ∷ [])) (greater ∷ []) false refl
        (ap (λ (x : List Placed). x ++ greater ∷ []) (sym n.held_is))
        (λ end rest. IsPart.no_value n.name n.sign (named n.sign n.has_name (sign_stops n.sign n.is_sign)) n.is_sign refl refl) refl

    in_quotes : (mark : ℕ) → InAttributeValueQuoted table mark walk h.held h.own → CanEnd table body
    in_quotes mark q = let v = some_value is_table q.text in let quote : Placed = record { ch = mark; at = 0 } in
        let front : List Placed = q.sign ++ q.quote ++ pieces_text v.pieces in
        part_closes (quote ∷ greater ∷ []) (attribute_part q.name (front ++ quote ∷ []) (value_bytes v.pieces) (value_errors v.pieces ++ [])) (greater ∷ [])
        false refl (cc (
          append_assoc q.name (front ++ quote ∷ []) (greater ∷ []),
          append_assoc front (quote ∷ []) (greater ∷ []),
          append_assoc q.name front (quote ∷ greater ∷ []),
        )) (λ end rest. IsPart.quoted q.name q.sign q.quote (quote ∷ []) v.pieces mark (named q.sign q.has_name (sign_stops q.sign q.signed)) q.signed q.opens
        q.is_mark (ap (all (λ c. not (eqb c mark))) (sym v.text_is) ∙ q.inside) v.are refl refl) refl

    unquoted : InAttributeValueUnquoted table walk h.held h.own → CanEnd table body
    unquoted n = let v = some_value is_table n.text in
        part_closes (greater ∷ []) (attribute_part n.name (n.sign ++ pieces_text v.pieces) (value_bytes v.pieces) (unquoted_errors v.pieces)) (greater ∷ [])
        false refl (cc) (λ end rest. IsPart.unquoted n.name n.sign v.pieces (named n.sign n.has_name (sign_stops n.sign n.signed)) n.signed (cc)
        (record { passes_none = ap (all (λ c. not (ends_unquoted c))) (sym v.text_is) ∙ n.inside; stops_after = refl }) v.are refl) refl

    past_quotes : PastAttributeValueQuoted table walk h.held h.own → CanEnd table body
    past_quotes s = let v = s.value in
        part_closes (greater ∷ [])
        (attribute_part s.name (s.sign ++ s.quote ++ pieces_text v.pieces ++ s.close) (value_bytes v.pieces) (value_errors v.pieces ++ [])) (greater ∷ []) false
        refl (cc) (λ end rest. IsPart.quoted s.name s.sign s.quote s.close v.pieces s.mark (named s.sign s.has_name (sign_stops s.sign s.signed)) s.signed
        s.opens s.is_mark (ap (all (λ c. not (eqb c s.mark))) (sym v.text_is) ∙ s.inside) v.are s.closes refl) refl

  by_phase : (ph : TagState) → IsPast ph (begins ends_name (parts_text h.parts ++ (h.held ++ []))) → HasPhase ph table walk h.parts h.held h.own
      → CanEnd table body
  by_phase phase.TagName past has = closes_with (greater ∷ []) [] (greater ∷ []) false refl (cc (has.0, has.1)) refl (λ end rest. tt) refl
  by_phase phase.BeforeAttributeName past has = before past has.0
  by_phase phase.SelfClosingStartTag past (s, is, held, own) = solidus past s is held
  by_phase phase.AttributeName past has = bare past has
  by_phase phase.AfterAttributeName past has = spaced past has
  by_phase phase.BeforeAttributeValue past has = valueless past has
  by_phase (phase.AttributeValueQuoted mark) past has = in_quotes past mark has
  by_phase phase.AttributeValueUnquoted past has = unquoted past has
  by_phase phase.AfterAttributeValueQuoted past has = past_quotes past has

pub tags_can_end : TagsCanEnd
tags_can_end table names walk body errors is_table h = by_phase is_table h walk.phase h.past h.has_phase
