-- Texts, tags and comments as they are written are cut into spans, one after another.
use Rattle.hlaws.proofs.Names.{false≢true, has_references, arith, ◌≡◌, ℕ, Bool, true, false, not, cond, ◌&&◌, ◌||◌, List, [], ◌∷◌, ◌++◌, map, refl, sym, ◌∙◌, ap, subst, append-nil, append_assoc, and_right, or_from, flat_map-append, map-append, ◌==◌, first_is, Placed, RawKind, characters, begins, is_alphanumeric, Entities, Piece, IsTable, longest, named_piece, ends_in_semicolon, Span, piece_span, Standing, next, standing_after, IsSpan, raw_character, plain_piece, Cut, spans_text, has_refused, Token, character, token_taken, None, IsReference, named, raw_reference, character_span, tokens_of, is_refused_tag, list_any-append, is_raw, in_data, in_raw, other_goes_on, list_all-append, zero, suc, ◌<◌, nat_eq, Some, drop, and_parts, and_from, eqb-true, nat_tests, encode_ascii, codes, encode_utf8_all, to_ascii_lowercase, list_all, all-characters, all_weaker, place, all, is_letter, is_space, without_null, name_bytes, Attribute, parts_text, ends_name, ends_attribute_name, is_known, attributes_after, is_plain_name_byte, flat_map, error_if, stops, plain, pieces_text, AreValue, value_bytes, Part, attribute_part, value_errors, is_sign, space, quoted, AreParts, kept_attribute, MissingWhitespaceBetweenAttributes, or_parts, spells, raw_kind, is_refused, tag_named, start, end as ending, comment, begins_with, has_part, before, Avoids, text_bytes, tag_errors, end_tag_errors, comment_span, IsComment, closed, closes_comment, closes_at_once, before-avoids, before-here, IsTag, start_tag, end_tag}
use Rattle.names.specs.declared.raw.RawKind.TheVariants as kind
use Rattle.htoken.specs.Data as production
use Rattle.hserialize.specs.declared.escaping.Setting.TheVariants as setting
use Rattle.hlaws.proofs.TokensText.{split, IsCoreName, Way, by_name, by_itself, AreWritten, entry_of, longest-core, begins_alphanumeric, tail_of, both_of, is_written_ascii, is_clean_char, clean_not_null}
use Rattle.htag.specs.Value as piece
use Rattle.hmarkup.specs.Comment as text_of_comment
use Rattle.htoken.specs.Token.{Start, End, Tok}

pub no_characters : (text : List Placed) → characters text ≡ [] → text ≡ []
no_characters [] e = refl
no_characters (p ∷ ps) e = absurd cc

-- CUTS

-- The text is cut into spans where `rest` follows it, these are their tokens, and this is true of where they lead.
pub record Cuts (table : Entities) (end : ℕ) (here : Standing) (text rest : List Placed) (tokens : List (Token (List ℕ))) (There : Standing → Type 0) : Type
    0 where
  pub spans : List Span
  pub text_is : spans_text spans ≡ text
  pub cut : Cut table end here spans rest
  pub tokens_are : map token_taken (tokens_of spans) ≡ tokens
  pub in_profile : has_refused (tokens_of spans) ≡ false
  pub leads : There (standing_after here spans)

module _ (table : Entities) (end : ℕ) where
  cut-append : (here : Standing) (xs ys : List Span) (rest : List Placed) → Cut table end here xs (spans_text ys ++ rest)
      → Cut table end (standing_after here xs) ys rest → Cut table end here (xs ++ ys) rest
  cut-append here [] ys rest a b = b
  cut-append here (x ∷ xs) ys rest a b = (
    subst (λ (z : List Placed). IsSpan table end here z x)
        (sym (append_assoc (spans_text xs) (spans_text ys) rest) ∙ ap (λ (z : List Placed). z ++ rest) (sym (flat_map-append (λ s. s.text) xs ys))) a.0,
    cut-append (next here x) xs ys rest a.1 b,
  )

  standing-append : (here : Standing) (xs ys : List Span) → standing_after here (xs ++ ys) ≡ standing_after (standing_after here xs) ys
  standing-append here [] ys = refl
  standing-append here (x ∷ xs) ys = standing-append (next here x) xs ys

  pub cuts_none : (here : Standing) (rest : List Placed) (There : Standing → Type 0) → There here → Cuts table end here [] rest [] There
  cuts_none here rest There h = record { spans = []; text_is = refl; cut = tt; tokens_are = refl; in_profile = refl; leads = h }

module _ {table : Entities} {end : ℕ} where
  pub join : {here : Standing} {front back rest : List Placed} {ts us : List (Token (List ℕ))} {There Then : Standing → Type 0}
      (a : Cuts table end here front (back ++ rest) ts There) → Cuts table end (standing_after here a.spans) back rest us Then
      → Cuts table end here (front ++ back) rest (ts ++ us) Then
  join {here} {front} {back} {rest} {ts} {us} {There} {Then} a b = record {
    spans = a.spans ++ b.spans;
    text_is = flat_map-append (λ (s : Span). s.text) a.spans b.spans ∙ (λ i. a.text_is i ++ b.text_is i);
    cut = cut-append table end here a.spans b.spans rest (subst (λ (z : List Placed). Cut table end here a.spans (z ++ rest)) (sym b.text_is) a.cut) b.cut;
    tokens_are = ap (map token_taken) (flat_map-append (λ (s : Span). s.tokens) a.spans b.spans)
        ∙ map-append token_taken (tokens_of a.spans) (tokens_of b.spans) ∙ (λ i. a.tokens_are i ++ b.tokens_are i);
    in_profile =
        ap has_refused (flat_map-append (λ (s : Span). s.tokens) a.spans b.spans) ∙ list_any-append is_refused_tag (tokens_of a.spans) (tokens_of b.spans)
        ∙ ap (λ (x : Bool). x || has_refused (tokens_of b.spans)) a.in_profile ∙ b.in_profile;
    leads = subst Then (sym (standing-append table end here a.spans b.spans)) b.leads;
  }

  pub cuts_as : {here : Standing} {text other rest : List Placed} {ts : List (Token (List ℕ))} {There : Standing → Type 0} → text ≡ other
      → Cuts table end here text rest ts There → Cuts table end here other rest ts There
  cuts_as {here = here} {rest = rest} {ts = ts} {There = There} e c = subst (λ (x : List Placed). Cuts table end here x rest ts There) e c

  pub one : {here : Standing} {rest : List Placed} (span : Span) {ts : List (Token (List ℕ))} {There : Standing → Type 0} → IsSpan table end here rest span
      → map token_taken span.tokens ≡ ts → has_refused span.tokens ≡ false → There (next here span) → Cuts table end here span.text rest ts There
  one span is tokens allowed leads = let tokens_are = ap (map token_taken) (append-nil span.tokens) ∙ tokens in
      let in_profile = ap has_refused (append-nil span.tokens) ∙ allowed in
      record { spans = span ∷ []; text_is = append-nil span.text; cut = (is, tt); tokens_are = tokens_are; in_profile = in_profile; leads = leads }

  pub led : {here : Standing} {text rest : List Placed} {ts : List (Token (List ℕ))} {There Then : Standing → Type 0} → Cuts table end here text rest ts There
      → ((there : Standing) → There there → Then there) → Cuts table end here text rest ts Then
  led c f = record { spans = c.spans; text_is = c.text_is; cut = c.cut; tokens_are = c.tokens_are; in_profile = c.in_profile; leads = f _ c.leads }

-- characters lead to the same kind of text and the same name
pub record Same (here there : Standing) : Type 0 where
  pub kind_is : there.kind ≡ here.kind
  pub name_is : there.name ≡ here.name

-- A REFERENCE

module _ (table : Entities) (is_table : IsTable table) where
  pub a_reference : (in_value : Bool) (amp : Placed) (name : List Placed) (rest : List Placed) (bytes : List ℕ) (c : ℕ) → amp.ch ≡ 38 → characters name ≡ bytes
      → IsCoreName table bytes c → IsReference table in_value rest (named_piece (amp ∷ name) (entry_of bytes c))
  a_reference in_value amp name rest bytes c is_amp is_name key = named amp name (entry_of bytes c) is_amp (begun name bytes is_name key.begins)
      (ap (longest table) (both_of (amp ∷ name) rest (λ i. is_amp i ∷ is_name i) refl)
      ∙ longest-core table bytes c (characters rest) is_table key.contains key.ends) (λ i. is_amp i ∷ is_name i)
      (not_kept in_value (ends_in_semicolon (38 ∷ bytes)) (begins (λ d. d == 61 || is_alphanumeric d) rest) key.ends_whole) refl where
        begun : (name : List Placed) (bytes : List ℕ) → characters name ≡ bytes → begins_alphanumeric bytes ≡ true → begins is_alphanumeric name ≡ true
        begun (p ∷ name) (b ∷ bytes) e h = ap is_alphanumeric (first_is p name b bytes e) ∙ h
        begun _ _ e h = absurd cc

        not_kept : (a b d : Bool) → b ≡ true → (a && not b && d) ≡ false
        not_kept a b d e = grind arith

  -- CHARACTERS

  -- one character, where a reference is a span, and a character by itself
  char_cuts : (c : ℕ) (ds : List ℕ) (text rest : List Placed) (end : ℕ) (here : Standing)
      → ((piece : Piece) → IsReference table false rest piece → IsSpan table end here rest (piece_span piece))
      → ((p : Placed) → p.ch ≡ c → (c == 38) ≡ false → (c == 60) ≡ false → Cuts table end here (p ∷ []) rest (character c ∷ []) (Same here))
      → Way table setting.Text c ds → characters text ≡ ds → Cuts table end here text rest (character c ∷ []) (Same here)
  char_cuts c ds text rest end here referred itself (by_name name d key) e = go text (e ∙ d) where
    go : (text : List Placed) → characters text ≡ 38 ∷ name → Cuts table end here text rest (character c ∷ []) (Same here)
    go [] e = absurd cc
    go (amp ∷ nm) e = let is_amp : amp.ch ≡ 38 = first_is amp nm 38 name e in let is_name : characters nm ≡ name = tail_of amp nm 38 name e in
        let piece : Piece = named_piece (amp ∷ nm) (entry_of name c) in
        one (piece_span piece) (referred piece (a_reference false amp nm rest name c is_amp is_name key)) refl refl (record { kind_is = refl; name_is = refl })
  char_cuts c ds text rest end here referred itself (by_itself d no_amp no_less) e = go text (e ∙ d) where
    go : (text : List Placed) → characters text ≡ c ∷ [] → Cuts table end here text rest (character c ∷ []) (Same here)
    go (p ∷ []) e = itself p (first_is p [] c [] e) no_amp no_less
    go _ e = absurd cc

  -- of data, and of text in which no more than references is read
  data_span : (c : ℕ) (ds : List ℕ) (text rest : List Placed) (end : ℕ) (here : Standing) → here.kind ≡ kind.None → Way table setting.Text c ds
      → characters text ≡ ds → Cuts table end here text rest (character c ∷ []) (Same here)
  data_span c ds text rest end here is_data =
      char_cuts c ds text rest end here (λ piece r. in_data table end here rest (piece_span piece) is_data (production.reference piece r refl))
      (λ p is no_amp no_less. one (character_span p) (in_data table end here rest (character_span p) is_data
      (production.character p (ap (λ (x : ℕ). x == 60 || x == 38) is ∙ or_from _ _ no_less no_amp) refl)) (ap (λ (x : ℕ). character x ∷ []) is) refl
      (record { kind_is = refl; name_is = refl }))

  rcdata_span : (c : ℕ) (ds : List ℕ) (text rest : List Placed) (end : ℕ) (here : Standing) → here.kind ≡ kind.Rcdata → (c == 0) ≡ false
      → Way table setting.Text c ds → characters text ≡ ds → Cuts table end here text rest (character c ∷ []) (Same here)
  rcdata_span c ds text rest end here is_rcdata no_null = char_cuts c ds text rest end here
      (λ piece r. in_raw table end here rest (piece_span piece) (ap is_raw is_rcdata) (raw_reference piece (rw is_rcdata refl) r refl))
      (λ p is no_amp no_less. one (piece_span (plain_piece p)) (in_raw table end here rest (piece_span (plain_piece p)) (ap is_raw is_rcdata)
      (raw_character p (other_goes_on here p rest (ap (λ (x : ℕ). x == 60) is ∙ no_less)) (and_right _ _ (ap (λ (x : ℕ). x == 38) is ∙ no_amp)) refl))
      (ap (λ (b : Bool). character (cond b 0xFFFD p.ch) ∷ []) (ap (λ (x : ℕ). x == 0) is ∙ no_null) ∙ ap (λ (x : ℕ). character x ∷ []) is) refl
      (record { kind_is = refl; name_is = refl }))

  -- a text
  pub text_cuts : (cs es : List ℕ) (text rest : List Placed) (end : ℕ) (here : Standing) → has_references here.kind ≡ true → AreWritten table setting.Text cs es
      → characters text ≡ es → Cuts table end here text rest (map (λ c. character c) cs) (Same here)
  text_cuts [] es text rest end here k w e =
      cuts_as (sym (no_characters text (e ∙ w))) (cuts_none table end here rest (Same here) (record { kind_is = refl; name_is = refl }))
  text_cuts (c ∷ cs) es text rest end here k (ds, more, is, way, no_null, others) e = let s = split text ds more (e ∙ is) in
      let first : Cuts table end here s.front (s.back ++ rest) (character c ∷ []) (Same here) = span_of here.kind refl k s.front (s.back ++ rest) s.fronts in
      let there : Standing = standing_after here first.spans in
      let then : Cuts table end there s.back rest (map (λ c. character c) cs) (Same there) =
      text_cuts cs more s.back rest end there (ap has_references first.leads.kind_is ∙ k) others s.backs in
      cuts_as (sym s.is)
      (led (join first then) (λ last k. record { kind_is = k.kind_is ∙ first.leads.kind_is; name_is = k.name_is ∙ first.leads.name_is })) where
        span_of : (kind_here : RawKind) → here.kind ≡ kind_here → has_references kind_here ≡ true → (text rest : List Placed) → characters text ≡ ds
            → Cuts table end here text rest (character c ∷ []) (Same here)
        span_of kind.None is h text rest e = data_span c ds text rest end here is way e
        span_of kind.Rcdata is h text rest e = rcdata_span c ds text rest end here is no_null way e
        span_of _ is h text rest e = absurd (false≢true h)

-- CHARACTERS OF NAMES

-- an ASCII character that is no upper letter, and ends no name
abbrev pub is_good : ℕ → Bool
is_good c = (not (ends_attribute_name c) && to_ascii_lowercase (without_null c) == c) && is_written_ascii c

abbrev are_good_below : ℕ → Bool
are_good_below zero = true
are_good_below (suc n) = (not (is_plain_name_byte n) || is_good n) && are_good_below n

good_below : (n c : ℕ) → are_good_below n ≡ true → c < n → is_plain_name_byte c ≡ true → is_good c ≡ true
good_below zero c all less h = absurd (omega (arith, less))
good_below (suc n) c all less h = let k = and_parts (not (is_plain_name_byte n) || is_good n) _ all in let here : nat_eq c n ≡ true → c ≡ n = eqb-true c n in
    grind (arith, nat_tests, good_below n c)

pub name_byte_good : (c : ℕ) → is_plain_name_byte c ≡ true → is_good c ≡ true
name_byte_good c h = good_below 128 c refl (let small : c < 128 = grind (arith, nat_tests) in small) h

pub goods_ascii : (cs : List ℕ) → list_all is_good cs ≡ true → list_all is_written_ascii cs ≡ true
goods_ascii = all_weaker is_good is_written_ascii (λ c h. (and_parts _ _ h).1)

pub good_ends_none : (c : ℕ) → is_good c ≡ true → not (ends_attribute_name c) ≡ true
good_ends_none c h = (and_parts _ _ (and_parts _ (is_written_ascii c) h).0).0

pub good_no_end : (c : ℕ) → is_good c ≡ true → not (ends_name c) ≡ true
good_no_end c h = let e = good_ends_none c h in grind (arith, nat_tests)

pub name_bytes_are : (text : List Placed) (name : List ℕ) → characters text ≡ name → list_all is_good name ≡ true → name_bytes text ≡ name
name_bytes_are [] [] e h = refl
name_bytes_are (p ∷ ps) (c ∷ cs) e h = grind (arith, nat_tests, encode_ascii c, name_bytes_are ps cs)
name_bytes_are _ _ e h = absurd cc

abbrev pub begins_letter : List ℕ → Bool
begins_letter [] = false
begins_letter (c ∷ cs) = is_letter c

abbrev pub is_some_name : List ℕ → Bool
is_some_name [] = false
is_some_name (c ∷ cs) = true

name_begins : (text : List Placed) (name : List ℕ) → characters text ≡ name → is_some_name name ≡ true → list_all is_good name ≡ true
    → begins (λ c. not (ends_name c)) text ≡ true
name_begins (p ∷ ps) (c ∷ cs) e some h = ap (λ (x : ℕ). not (ends_name x)) (first_is p ps c cs e) ∙ good_no_end c (and_parts _ _ h).0
name_begins _ _ e some h = absurd cc

runs_on : (text : List Placed) (name : List ℕ) → characters text ≡ name → list_all is_good name ≡ true
    → all (λ c. not (ends_attribute_name c)) (drop 1 text) ≡ true
runs_on [] name e h = refl
runs_on (p ∷ ps) [] e h = absurd cc
runs_on (p ∷ ps) (c ∷ cs) e h = let others : characters ps ≡ cs = tail_of p ps c cs e in
    all-characters (λ c. not (ends_attribute_name c)) ps ∙ ap (list_all (λ c. not (ends_attribute_name c))) others
    ∙ all_weaker is_good (λ c. not (ends_attribute_name c)) good_ends_none cs (and_parts _ _ h).1

sign_is : (s : Placed) → s.ch ≡ 61 → is_sign (s ∷ []) ≡ true
sign_is s e = subst (λ (c : ℕ). is_sign (record { ch = c; at = s.at } ∷ []) ≡ true) (sym e) refl

-- VALUES

pub record Valued (table : Entities) (text : List Placed) (cs : List ℕ) : Type 0 where
  pub pieces : List Piece
  pub text_is : pieces_text pieces ≡ text
  pub are : AreValue table pieces
  pub gives : flat_map (λ (piece : Piece). piece.gives) pieces ≡ cs

no_quotes : (table : Entities) (cs es : List ℕ) → AreWritten table setting.Value cs es → list_all (λ c. not (c == 34)) es ≡ true
no_quotes table [] es w = rw w refl
no_quotes table (c ∷ cs) es (ds, more, is, way, no_null, others) =
    rw is (list_all-append (λ c. not (c == 34)) ds more ∙ and_from _ _ (of_way ds way) (no_quotes table cs more others)) where
      of_way : (ds : List ℕ) → Way table setting.Value c ds → list_all (λ c. not (c == 34)) ds ≡ true
      of_way ds (by_name name d key) = rw d key.no_quote
      of_way ds (by_itself d no_amp no_quote) = rw (d, no_quote) refl

-- ATTRIBUTES

abbrev pub attribute_codes : List ℕ → List ℕ → List ℕ
attribute_codes name es = codes " " ++ name ++ codes "=\"" ++ es ++ codes "\""

-- these are the codes of attributes with good names, and what their values' characters are
pub record IsAttribute (table : Entities) (a : Attribute (List ℕ)) (es : List ℕ) : Type 0 where
  pub good : list_all is_good a.0 ≡ true
  pub named : is_some_name a.0 ≡ true
  pub characters_are : List ℕ
  pub value_is : encode_utf8_all characters_are ≡ a.1
  pub value : AreWritten table setting.Value characters_are es

abbrev pub AreAttributes : Entities → List (Attribute (List ℕ)) → List ℕ → Type 0
AreAttributes table [] ds = ds ≡ []
AreAttributes table (a ∷ others) ds =
    (es : List ℕ) × (more : List ℕ) × (ds ≡ attribute_codes a.0 es ++ more) × IsAttribute table a es × AreAttributes table others more

-- none of them is among these names, and none is another's
abbrev pub AreNew : List (List ℕ) → List (Attribute (List ℕ)) → Type 0
AreNew names [] = Unit {0}
AreNew names (a ∷ others) = (is_known names a.0 ≡ false) × AreNew (a.0 ∷ names) others

pub record Parts (table : Entities) (end : ℕ) (text rest : List Placed) (names : List (List ℕ)) (attrs : List (Attribute (List ℕ))) : Type 0 where
  pub parts : List Part
  pub text_is : parts_text parts ≡ text
  pub are : AreParts table end parts rest
  pub attributes_are : attributes_after names parts ≡ attrs

module _ (table : Entities) (is_table : IsTable table) where
  value_pieces : (cs es : List ℕ) (text : List Placed) → AreWritten table setting.Value cs es → characters text ≡ es → Valued table text cs
  value_pieces [] es text w e = record { pieces = []; text_is = sym (no_characters text (e ∙ w)); are = tt; gives = refl }
  value_pieces (c ∷ cs) es text (ds, more, is, way, no_null, others) e =
      let s = split text ds more (e ∙ is) in let then = value_pieces cs more s.back others s.backs in first way s.front s.back s.fronts s.is then where
        first : Way table setting.Value c ds → (front back : List Placed) → characters front ≡ ds → text ≡ front ++ back → Valued table back cs
            → Valued table text (c ∷ cs)
        first (by_name name d key) [] back e t then = absurd cc
        first (by_name name d key) (amp ∷ nm) back e t then = let is_amp : amp.ch ≡ 38 = first_is amp nm 38 name (e ∙ d) in
            let is_name : characters nm ≡ name = tail_of amp nm 38 name (e ∙ d) in
            let text_is = ap (λ (x : List Placed). (amp ∷ nm) ++ x) then.text_is ∙ sym t in
            let gives = ap (λ (x : List ℕ). c ∷ x) then.gives in
            let known = a_reference table is_table true amp nm (pieces_text then.pieces) name c is_amp is_name key in
            record
            { pieces = named_piece (amp ∷ nm) (entry_of name c) ∷ then.pieces; text_is = text_is; are = (piece.reference known, then.are); gives = gives }
        first (by_itself d no_amp no_quote) [] back e t then = absurd cc
        first (by_itself d no_amp no_quote) (p ∷ q ∷ front) back e t then = absurd cc
        first (by_itself d no_amp no_quote) (p ∷ []) back e t then = let same : p.ch ≡ c = first_is p [] c [] (e ∙ d) in
            record {
              pieces = plain_piece p ∷ then.pieces;
              text_is = ap (λ (x : List Placed). p ∷ x) then.text_is ∙ sym t;
              are = (plain p (ap (λ (x : ℕ). x == 38) same ∙ no_amp) refl, then.are);
              gives = ap (λ (b : Bool). cond b 0xFFFD p.ch ∷ flat_map (λ (piece : Piece). piece.gives) then.pieces) (ap (λ (x : ℕ). x == 0) same ∙ no_null)
                  ∙ (λ i. same i ∷ then.gives i);
            }

  associated : (a b c d : List Placed) → a ++ ((b ++ c) ++ d) ≡ ((a ++ b) ++ c) ++ d
  associated a b c d = sym (append_assoc a (b ++ c) d) ∙ ap (λ (x : List Placed). x ++ d) (sym (append_assoc a b c))

  module _ (end : ℕ) where
    -- one attribute, and the others
    an_attribute : (sp name sign quote value close back text rest : List Placed) (es : List ℕ) (names : List (List ℕ)) (a : Attribute (List ℕ))
        (others : List (Attribute (List ℕ))) → IsAttribute table a es → characters sp ≡ codes " " → characters name ≡ a.0 → characters sign ≡ codes "="
        → characters quote ≡ codes "\"" → characters value ≡ es → characters close ≡ codes "\""
        → text ≡ ((((sp ++ name) ++ (sign ++ quote)) ++ value) ++ close) ++ back → is_known names a.0 ≡ false → Parts table end back rest (a.0 ∷ names) others
        → Parts table end text rest names (a ∷ others)
    an_attribute (p ∷ []) name (s ∷ []) quote value close back text rest es names a others is e-sp e-name e-sign e-quote e-value e-close t new then =
        let is_sp : p.ch ≡ 32 = cc in let is_sg : s.ch ≡ 61 = cc in let v = value_pieces is.characters_are es value is.value e-value in
        let name_is : name_bytes name ≡ a.0 = name_bytes_are name a.0 e-name is.good in
        let value_is : value_bytes v.pieces ≡ a.1 = ap encode_utf8_all v.gives ∙ is.value_is in
        let after : List Placed = parts_text then.parts ++ rest in
        let first_part : Part = record { text = p ∷ []; attribute = None; errors = [] } in
        let part : Part = attribute_part name ((s ∷ []) ++ quote ++ pieces_text v.pieces ++ close) (value_bytes v.pieces)
        (value_errors v.pieces ++ error_if (not (stops ends_name after)) MissingWhitespaceBetweenAttributes (place end after)) in
        record {
          parts = first_part ∷ part ∷ then.parts;
          text_is = (λ i. p ∷ ((name ++ (((s ∷ quote) ++ v.text_is i) ++ close)) ++ then.text_is i))
              ∙ ap (λ (x : List Placed). p ∷ (x ++ back)) (associated name (s ∷ quote) value close) ∙ sym t;
          are = (
            space p (ap is_space is_sp) refl,
            (
              quoted name (s ∷ []) quote close v.pieces 34 (record {
                first = name_begins name a.0 e-name is.named is.good;
                runs = record { passes_none = runs_on name a.0 e-name is.good; stops_after = ap ends_attribute_name is_sg };
              }) (sign_is s is_sg) e-quote refl (ap (all (λ c. not (c == 34))) v.text_is ∙ all-characters (λ c. not (c == 34)) value
                  ∙ ap (list_all (λ c. not (c == 34))) e-value ∙ no_quotes table is.characters_are es is.value) v.are e-close refl,
              then.are,
            ),
          );
          attributes_are = (λ i. kept_attribute names (Some (record { name = name_is i; value = value_is i; at = place 0 name }))
              ++ attributes_after (name_is i ∷ names) then.parts)
              ∙ ap (λ (b : Bool). cond b [] ((a.0, a.1) ∷ []) ++ attributes_after (a.0 ∷ names) then.parts) new
              ∙ ap (λ (x : List (Attribute (List ℕ))). (a.0, a.1) ∷ x) then.attributes_are;
        }
    an_attribute _ name _ quote value close back text rest es names a others is e-sp e-name e-sign e-quote e-value e-close t new then = absurd cc

    pub attribute_parts : (attrs : List (Attribute (List ℕ))) (ds : List ℕ) (text rest : List Placed) (names : List (List ℕ)) → AreAttributes table attrs ds
        → AreNew names attrs → characters text ≡ ds → Parts table end text rest names attrs
    attribute_parts [] ds text rest names is new e = record { parts = []; text_is = sym (no_characters text (e ∙ is)); are = tt; attributes_are = refl }
    attribute_parts (a ∷ others) ds text rest names (es, more, is, attribute, others_are) new e = let all = split text (attribute_codes a.0 es) more (e ∙ is) in
        let five = split all.front (((codes " " ++ a.0) ++ codes "=\"") ++ es) (codes "\"") all.fronts in
        let four = split five.front ((codes " " ++ a.0) ++ codes "=\"") es five.fronts in
        let three = split four.front (codes " " ++ a.0) (codes "=\"") four.fronts in
        let two = split three.back (codes "=") (codes "\"") three.backs in
        let one = split three.front (codes " ") a.0 three.fronts in
        an_attribute one.front one.back two.front two.back four.back five.back all.back text rest es names a others attribute one.fronts one.backs two.fronts
        two.backs four.backs five.backs (all.is ∙ ap (λ (x : List Placed). x ++ all.back)
        (five.is ∙ ap (λ (x : List Placed). x ++ five.back) (four.is ∙ ap (λ (x : List Placed). x ++ four.back) (three.is ∙ (λ i. one.is i ++ two.is i)))))
        new.0 (attribute_parts others more all.back rest (a.0 ∷ names) others_are new.1 all.backs)

-- NAMES OF ELEMENTS

pub record IsElementName (name : List ℕ) : Type 0 where
  pub good : list_all is_good name ≡ true
  pub letter : begins_letter name ≡ true
  pub allowed : is_refused (tag_named name) ≡ false

abbrev pub after_start : List ℕ → Standing
after_start name = record { kind = raw_kind (tag_named name); name = Some name; front = [] }

letter_first : (text : List Placed) (name : List ℕ) → characters text ≡ name → begins_letter name ≡ true → begins is_letter text ≡ true
letter_first (p ∷ ps) (c ∷ cs) e h = ap is_letter (first_is p ps c cs e) ∙ h
letter_first _ _ e h = absurd cc

runs_name : (text : List Placed) (name : List ℕ) → characters text ≡ name → list_all is_good name ≡ true → all (λ c. not (ends_name c)) text ≡ true
runs_name text name e h =
    all-characters (λ c. not (ends_name c)) text ∙ ap (list_all (λ c. not (ends_name c))) e ∙ all_weaker is_good (λ c. not (ends_name c)) good_no_end name h

-- what follows a name: `>`, or the space before an attribute
stops_there : (close rest : List Placed) → characters close ≡ codes ">" → stops ends_name (close ++ rest) ≡ true
stops_there [] rest e = absurd cc
stops_there (p ∷ ps) rest e = ap ends_name (first_is p ps 62 [] e)

stops_after_name : (table : Entities) (attrs : List (Attribute (List ℕ))) (ds : List ℕ) (text close rest : List Placed) → AreAttributes table attrs ds
    → characters text ≡ ds → characters close ≡ codes ">" → stops ends_name (text ++ (close ++ rest)) ≡ true
stops_after_name table [] ds [] close rest is e c = stops_there close rest c
stops_after_name table [] ds (p ∷ ps) close rest is e c = absurd (let x = e ∙ is in cc)
stops_after_name table (a ∷ others) ds [] close rest (es, more, is, attribute, others_are) e c = absurd (let x = e ∙ is in cc)
stops_after_name table (a ∷ others) ds (p ∷ ps) close rest (es, more, is, attribute, others_are) e c =
    let x : p.ch ∷ characters ps ≡ attribute_codes a.0 es ++ more = e ∙ is in let space : p.ch ≡ 32 = cc in ap ends_name space

module _ (table : Entities) (is_table : IsTable table) (end_at : ℕ) where
  pub start_tag_cuts : (name : List ℕ) (attrs : List (Attribute (List ℕ))) (ds : List ℕ) → IsElementName name → AreAttributes table attrs ds → AreNew [] attrs
      → (here : Standing) (text rest : List Placed) → here.kind ≡ kind.None → characters text ≡ ((codes "<" ++ name) ++ ds) ++ codes ">"
      → Cuts table end_at here text rest (start name attrs false ∷ []) (λ there. there ≡ after_start name)
  start_tag_cuts name attrs ds is_name are new here text rest is_data e = let s = split text ((codes "<" ++ name) ++ ds) (codes ">") e in
      let r = split s.front (codes "<" ++ name) ds s.fronts in
      let q = split r.front (codes "<") name r.fronts in
      let p = attribute_parts table is_table end_at attrs ds r.back (s.back ++ rest) [] are new r.backs in
      let n : name_bytes q.back ≡ name = name_bytes_are q.back name q.backs is_name.good in
      let token : Tok = Start (name_bytes q.back) (attributes_after [] p.parts) false (place end_at q.front) in
      let span : Span = record
      { text = ((q.front ++ q.back) ++ parts_text p.parts) ++ s.back; tokens = token ∷ []; errors = tag_errors q.back p.parts } in
      let is_tag : IsTag table end_at rest span = start_tag q.front q.back p.parts s.back false (record {
        opens = q.fronts;
        first = letter_first q.back name q.backs is_name.letter;
        runs = record {
          passes_none = runs_name q.back name q.backs is_name.good;
          stops_after = ap (λ (x : List Placed). stops ends_name (x ++ (s.back ++ rest))) p.text_is
              ∙ stops_after_name table attrs ds r.back s.back rest are r.backs s.backs;
        };
        in_parts = p.are;
      }) s.backs refl in
      cuts_as (ap (λ (x : List Placed). ((q.front ++ q.back) ++ x) ++ s.back) p.text_is
      ∙ sym (s.is ∙ ap (λ (x : List Placed). x ++ s.back) (r.is ∙ ap (λ (x : List Placed). x ++ r.back) q.is)))
      (one span (in_data table end_at here rest span is_data (production.tag is_tag)) (λ i. start (n i) (p.attributes_are i) false ∷ [])
      (ap (λ (x : List ℕ). is_refused (tag_named x) || false) n ∙ or_from _ _ is_name.allowed refl) (ap after_start n))

module _ (table : Entities) (end_at : ℕ) where
  -- an end tag, of data or of raw text, which is a span there
  pub an_end_tag : (name : List ℕ) (text rest : List Placed) (here : Standing) → IsElementName name → characters text ≡ (codes "</" ++ name) ++ codes ">"
      → ((span : Span) → IsTag table end_at rest span → span.text ≡ text → IsSpan table end_at here rest span)
      → Cuts table end_at here text rest (ending name ∷ []) (λ there. there.kind ≡ kind.None)
  an_end_tag name text rest here is_name e is_span = let s = split text (codes "</" ++ name) (codes ">") e in
      let q = split s.front (codes "</") name s.fronts in
      let token : Tok = End (name_bytes q.back) (place end_at q.front) in
      let errors = tag_errors q.back [] ++ end_tag_errors [] false (place end_at q.front) in
      let span : Span = record { text = ((q.front ++ q.back) ++ []) ++ s.back; tokens = token ∷ []; errors = errors } in
      let is_tag : IsTag table end_at rest span = end_tag q.front q.back [] s.back false (record {
        opens = q.fronts;
        first = letter_first q.back name q.backs is_name.letter;
        runs = record { passes_none = runs_name q.back name q.backs is_name.good; stops_after = stops_there s.back rest s.backs };
        in_parts = tt;
      }) s.backs refl in
      let is = ap (λ (x : List Placed). x ++ s.back) (append-nil (q.front ++ q.back)) ∙ sym (s.is ∙ ap (λ (x : List Placed). x ++ s.back) q.is) in
      cuts_as is (one span (is_span span is_tag is) (ap (λ (x : List ℕ). ending x ∷ []) (name_bytes_are q.back name q.backs is_name.good)) refl refl)

  pub end_tag_cuts : (name : List ℕ) → IsElementName name → (here : Standing) (text rest : List Placed) → here.kind ≡ kind.None
      → characters text ≡ (codes "</" ++ name) ++ codes ">" → Cuts table end_at here text rest (ending name ∷ []) (λ there. there.kind ≡ kind.None)
  end_tag_cuts name is_name here text rest is_data e =
      an_end_tag name text rest here is_name e (λ span is_tag is. in_data table end_at here rest span is_data (production.tag is_tag))

-- COMMENTS

pub spells_is : (mark : List ℕ) (text : List Placed) → spells mark text ≡ begins_with mark (characters text)
spells_is (c ∷ cs) (p ∷ ps) = let x : nat_eq p.ch c ≡ nat_eq c p.ch = grind (arith, nat_tests) in let y = spells_is cs ps in λ i. x i && y i
spells_is _ _ = refl

no_close : (c : ℕ) (cs : List ℕ) → has_part (codes "-->") (c ∷ cs) ≡ false → begins_with (codes "-->") (c ∷ cs ++ codes "-->") ≡ false
no_close c (d ∷ e ∷ cs) h = (or_parts _ _ h).0
no_close c _ h = grind arith

no_bang_close : (c : ℕ) (cs : List ℕ) → has_part (codes "--!>") (c ∷ cs) ≡ false → begins_with (codes "--!>") (c ∷ cs ++ codes "-->") ≡ false
no_bang_close c (d ∷ e ∷ f ∷ cs) h = (or_parts _ _ h).0
no_bang_close c _ h = grind arith

avoids_close : (inner close : List Placed) (cs : List ℕ) → characters inner ≡ cs → characters close ≡ codes "-->" → has_part (codes "-->") cs ≡ false
    → has_part (codes "--!>") cs ≡ false → Avoids closes_comment inner close
avoids_close [] close cs e k h g = tt
avoids_close (p ∷ ps) close [] e k h g = absurd cc
avoids_close (p ∷ ps) close (c ∷ cs) e k h g = let whole : characters (p ∷ ps ++ close) ≡ c ∷ cs ++ codes "-->" = both_of (p ∷ ps) close e k in (
  or_from _ _ (spells_is (codes "-->") (p ∷ ps ++ close) ∙ ap (begins_with (codes "-->")) whole ∙ no_close c cs h)
      (spells_is (codes "--!>") (p ∷ ps ++ close) ∙ ap (begins_with (codes "--!>")) whole ∙ no_bang_close c cs g),
  avoids_close ps close cs (tail_of p ps c cs e) k (or_parts _ _ h).1 (or_parts _ _ g).1,
)

-- a text that closes a comment at once
no_arrow : (cs : List ℕ) → begins_with (codes ">") cs ≡ false → begins_with (codes ">") (cs ++ codes "-->") ≡ false
no_arrow [] h = refl
no_arrow (c ∷ cs) h = h

no_dash_arrow : (cs : List ℕ) → begins_with (codes "->") cs ≡ false → begins_with (codes "->") (cs ++ codes "-->") ≡ false
no_dash_arrow [] h = refl
no_dash_arrow (c ∷ []) h = and_right _ _ refl
no_dash_arrow (c ∷ d ∷ cs) h = h

bytes_of_text : (text : List Placed) (cs : List ℕ) → characters text ≡ cs → list_all is_clean_char cs ≡ true → map (λ p. without_null p.ch) text ≡ cs
bytes_of_text [] cs e h = e
bytes_of_text (p ∷ ps) [] e h = absurd cc
bytes_of_text (p ∷ ps) (c ∷ cs) e h = grind (arith, nat_tests, clean_not_null c, bytes_of_text ps cs)

-- the characters of a plain comment
pub record IsCommentText (cs t : List ℕ) : Type 0 where
  pub bytes_are : encode_utf8_all cs ≡ t
  pub clean : list_all is_clean_char cs ≡ true
  pub closes_not : has_part (codes "-->") cs ≡ false
  pub bang_not : has_part (codes "--!>") cs ≡ false
  pub arrow_not : begins_with (codes ">") cs ≡ false
  pub dash_not : begins_with (codes "->") cs ≡ false

pub comment_cuts : (table : Entities) (end_at : ℕ) (cs t : List ℕ) (text rest : List Placed) (here : Standing) → here.kind ≡ kind.None → IsCommentText cs t
    → characters text ≡ (codes "<!--" ++ cs) ++ codes "-->" → Cuts table end_at here text rest (comment t ∷ []) (λ there. there.kind ≡ kind.None)
comment_cuts table end_at cs t text rest here is_data is e =
    let s = split text (codes "<!--" ++ cs) (codes "-->") e in let q = split s.front (codes "<!--") cs s.fronts in let body : List Placed = q.back ++ s.back in
    let whole : characters body ≡ cs ++ codes "-->" = both_of q.back s.back q.backs s.backs in
    let closes : closes_comment s.back ≡ true =
    ap (λ (b : Bool). b || spells (codes "--!>") s.back) (spells_is (codes "-->") s.back ∙ ap (begins_with (codes "-->")) s.backs) in
    let inner_is : q.back ≡ before closes_comment body =
    sym (before-avoids closes_comment q.back s.back (avoids_close q.back s.back cs q.backs s.backs is.closes_not is.bang_not)
    ∙ ap (λ (x : List Placed). q.back ++ x) (before-here closes_comment s.back closes) ∙ append-nil q.back) in
    let not_at_once : closes_at_once body ≡ false = or_from _ _ (spells_is (codes ">") body ∙ ap (begins_with (codes ">")) whole ∙ no_arrow cs is.arrow_not)
    (spells_is (codes "->") body ∙ ap (begins_with (codes "->")) whole ∙ no_dash_arrow cs is.dash_not) in
    let contents_are : text_bytes q.back ≡ t = ap encode_utf8_all (bytes_of_text q.back cs q.backs is.clean) ∙ is.bytes_are in
    let is_comment : IsComment end_at rest body (text_bytes q.back) (text_of_comment.comment_errors_after [] body) =
    closed q.back s.back refl not_at_once inner_is s.backs refl refl in
    let span : Span = comment_span end_at q.front body (text_bytes q.back) (text_of_comment.comment_errors_after [] body) in
    cuts_as (sym (s.is ∙ ap (λ (x : List Placed). x ++ s.back) q.is ∙ append_assoc q.front q.back s.back)) (one span (in_data table end_at here rest span
    is_data (production.comment q.front body (text_bytes q.back) (text_of_comment.comment_errors_after [] body) q.fronts is_comment refl))
    (ap (λ (x : List ℕ). comment x ∷ []) contents_are) refl refl)
