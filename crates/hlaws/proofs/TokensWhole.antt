-- Plain lists, in every context, and plain documents as they are written are read as their own tokens.
use Rattle.hlaws.proofs.Names.{nat_tests, ◌≡◌, ℕ, suc, ◌+◌, Bool, true, false, cond, Some, None, List, [], ◌∷◌, ◌++◌, map, length, drop, refl, sym, ◌∙◌, ap, subst, arith, append_assoc, true≢false, and_parts, and_from, and_right, or_parts, or_right, false_from_ne_true, ◌==◌, codes, to_ascii_lowercase, list_all, first_is, Placed, characters, begins, spells, Entities, piece_span, Standing, raw_character, has_references, is_raw_end, is_end_tag_of, may_end, ends_name, plain_piece, end, character, begins_with, has_part, Option, spells_in_any_case, raw_end, level, is_raw, in_raw, backwards, after_characters, all_weaker, not, ◌&&◌, ◌||◌, or_from, not-true, bytes_eq-Decides, encodes-chars, scalars-chars, chars, IsUtf8, flat_map, list_any, RawKind, Tag, raw_kind, is_refused, is_void, tag_named, tag_text, tags, IsTable, HasCore, Attribute, standing_after, is_known, Token, start, comment, Content, Role, Escaping, escaped, row, takes_role, are_plain_attributes, is_plain_comment, has_no_null_or_return, is_plain_name_byte, start_tag_text, end_tag_text, bytes_eq, or_second, is_plain_name, is_metadata, attribute_text, AreUtf8, nat_lt, append-nil, false≢true, map-append, Forest, none, tree, Eof, at_start, texts, eof, written_char, takes_comments, Inside, inside_element, in_context_of, is_form_element, are_content, are_content_if, is_among_texts, plain_tokens, HoldsUtf8, AreRead, PlainTokens, decoded_text, token_taken, chars-nil, IsUtf8-nil, Bom, Keep, end_errors, Texts, has_no_references, written_among, texts_in, all-characters, is_space, name_bytes, What, Span, null_errors, is_greater, lowered, Drop, is_plain, ends_document, is_leaf, leaves_then, comments_then, doctype_then, element_then, inside_head, are_metadata, body_on, are_in_html, is_plain_document, PlainDocumentTokens, in_data, IsDoctype}
use Rattle.names.specs.declared.raw.RawKind.TheVariants as kind
use Rattle.hlaws.proofs.TokensText.{is_clean_char, clean_not_null, tail_of, both_of, Spells, spells-nil, spells-append, spells_ascii, spells_text, clean_text, no_part, no_front, escaped_as, split, spells_utf8, text_characters, begins_marked, unmarked}
use Rattle.hlaws.proofs.TokensCuts.{led, IsAttribute, Cuts, one, join, cuts_as, cuts_none, is_good, IsElementName, an_end_tag, spells_is, no_characters, text_cuts, name_byte_good, goods_ascii, begins_letter, is_some_name, AreAttributes, AreNew, attribute_codes, after_start, start_tag_cuts, end_tag_cuts, comment_cuts, name_bytes_are}
use Rattle.names.specs.declared.tag.Tag.TheVariants as tag
use Rattle.hserialize.specs.declared.content.Content.TheVariants as content
use Rattle.hserialize.specs.declared.content.Role.TheVariants as role
use Rattle.hserialize.specs.declared.escaping.Setting.TheVariants as setting
use Rattle.hlaws.proofs.FromTable.{named_back}
use Rattle.hlaws.proofs.Content.{four, three}
use Rattle.hnodes.specs.Forest as forest
use Rattle.htoken.specs.Tokens as cut
use Rattle.hserialize.specs.declared.content.Texts.TheVariants as allowed
use Rattle.hserialize.proofs.Documents.{is_one_text, one_text as is_one}
use Rattle.hmarkup.specs.Doctype as production
use Rattle.htoken.specs.Data as data_span
use Rattle.hmodes.specs.State.{doctype}

-- no end tag of this name is in the text, where `rest` follows it
abbrev pub NoEnd : Option (List ℕ) → List Placed → List Placed → Type 0
NoEnd name [] rest = Unit {0}
NoEnd name (p ∷ ps) rest = (is_end_tag_of name (p ∷ ps ++ rest) ≡ false) × NoEnd name ps rest

pub no_end_of_none : (text rest : List Placed) → NoEnd None text rest
no_end_of_none [] rest = tt
no_end_of_none (p ∷ ps) rest = (refl, no_end_of_none ps rest)

module _ (table : Entities) (end_at : ℕ) where
  raw_char : (p : Placed) (c : ℕ) (rest : List Placed) (here : Standing) → is_raw here.kind ≡ true → has_references here.kind ≡ false → p.ch ≡ c
      → is_clean_char c ≡ true → is_end_tag_of here.name (p ∷ rest) ≡ false
      → Cuts table end_at here (p ∷ []) rest (character c ∷ []) (λ there. there ≡ after_characters here (p ∷ []))
  raw_char p c rest here raw plain same clean stays = one (piece_span (plain_piece p))
      (in_raw table end_at here rest (piece_span (plain_piece p)) raw (raw_character p (and_right _ _ stays) (rw plain refl) refl))
      (ap (λ (b : Bool). character (cond b 0xFFFD p.ch) ∷ []) (ap (λ (x : ℕ). x == 0) same ∙ clean_not_null c clean) ∙ ap (λ (x : ℕ). character x ∷ []) same)
      refl refl

  -- a text in which no reference is read
  pub raw_cuts : (cs : List ℕ) (text rest : List Placed) (here : Standing) → is_raw here.kind ≡ true → has_references here.kind ≡ false → characters text ≡ cs
      → list_all is_clean_char cs ≡ true → NoEnd here.name text rest
      → Cuts table end_at here text rest (map (λ c. character c) cs) (λ there. there ≡ after_characters here text)
  raw_cuts [] [] rest here raw plain e clean stays = cuts_none table end_at here rest (λ there. there ≡ after_characters here []) refl
  raw_cuts (c ∷ cs) (p ∷ ps) rest here raw plain e clean stays =
      let same : p.ch ≡ c = first_is p ps c cs e in let others : characters ps ≡ cs = tail_of p ps c cs e in let both = and_parts _ _ clean in
      let first = raw_char p c (ps ++ rest) here raw plain same both.0 stays.0 in
      let then = raw_cuts cs ps rest (after_characters here (p ∷ [])) raw plain others both.1 stays.1 in
      join first (subst (λ (there : Standing). Cuts table end_at there ps rest (map (λ c. character c) cs) (λ there. there ≡ after_characters here (p ∷ ps)))
      (sym first.leads) then)
  raw_cuts _ _ rest here raw plain e clean stays = absurd cc

-- WHERE NO END TAG STANDS

no_open_end : (c : ℕ) (cs more : List ℕ) → has_part (codes "</") (c ∷ cs) ≡ false → begins_with (codes "</") (c ∷ cs ++ 60 ∷ more) ≡ false
no_open_end c [] more h = and_right _ _ refl
no_open_end c (d ∷ cs) more h = (or_parts _ _ h).0

-- a text without `</` before what begins with `<`
pub no_end_in : (name : Option (List ℕ)) (text rest : List Placed) (cs more : List ℕ) → characters text ≡ cs → characters rest ≡ 60 ∷ more
    → has_part (codes "</") cs ≡ false → NoEnd name text rest
no_end_in name [] rest cs more e k h = tt
no_end_in name (p ∷ ps) rest [] more e k h = absurd cc
no_end_in name (p ∷ ps) rest (c ∷ cs) more e k h = let whole : characters (p ∷ ps ++ rest) ≡ c ∷ cs ++ 60 ∷ more = both_of (p ∷ ps) rest e k in (
  of_name name (spells_is (codes "</") (p ∷ ps ++ rest) ∙ ap (begins_with (codes "</")) whole ∙ no_open_end c cs more h),
  no_end_in name ps rest cs more (tail_of p ps c cs e) k (or_parts _ _ h).1,
) where
  of_name : (name : Option (List ℕ)) → spells (codes "</") (p ∷ ps ++ rest) ≡ false → is_end_tag_of name (p ∷ ps ++ rest) ≡ false
  of_name None s = refl
  of_name (Some n) s = rw s refl

-- THE LEVEL OF A SCRIPT

-- a text after those that were read, as characters
abbrev pub put_back : List Placed → List ℕ → List ℕ
put_back [] cs = cs
put_back (p ∷ front) cs = put_back front (p.ch ∷ cs)

has_part-put_back : (part : List ℕ) (front : List Placed) (cs : List ℕ) → has_part part cs ≡ true → has_part part (put_back front cs) ≡ true
has_part-put_back part [] cs h = h
has_part-put_back part (p ∷ front) cs h = has_part-put_back part front (p.ch ∷ cs) (or_right _ _ h)

no_opening : (front : List Placed) (cs : List ℕ) → has_part (codes "<!--") (put_back front cs) ≡ false → spells (codes "--!<") front ≡ false
no_opening [] cs h = refl
no_opening (p ∷ []) cs h = grind arith
no_opening (p ∷ q ∷ []) cs h = grind arith
no_opening (p ∷ q ∷ r ∷ []) cs h = grind arith
no_opening (p ∷ q ∷ r ∷ s ∷ front) cs h = false_from_ne_true _ (λ e.
    let here : has_part (codes "<!--") (s.ch ∷ r.ch ∷ q.ch ∷ p.ch ∷ cs) ≡ true = grind (arith, nat_tests) in
    true≢false (sym (has_part-put_back (codes "<!--") front (s.ch ∷ r.ch ∷ q.ch ∷ p.ch ∷ cs) here) ∙ h))

pub level_zero : (text front : List Placed) (cs : List ℕ) → characters text ≡ cs → level front ≡ 0 → has_part (codes "<!--") (put_back front cs) ≡ false
    → level (backwards front text) ≡ 0
level_zero [] front cs e z h = z
level_zero (p ∷ ps) front [] e z h = absurd cc
level_zero (p ∷ ps) front (c ∷ cs) e z h = let same : p.ch ≡ c = first_is p ps c cs e in let others : characters ps ≡ cs = tail_of p ps c cs e in
    let moved : has_part (codes "<!--") (put_back (p ∷ front) cs) ≡ false = ap (λ (x : ℕ). has_part (codes "<!--") (put_back front (x ∷ cs))) same ∙ h in
    level_zero ps (p ∷ front) cs others (let none = no_opening (p ∷ front) cs moved in let still : level (p ∷ front) ≡ 0 = grind arith in still) moved

-- THE END TAG

good_lower : (c : ℕ) → is_good c ≡ true → (to_ascii_lowercase c == c) ≡ true
good_lower c h = grind (arith, nat_tests)

spells_name : (name : List ℕ) (text rest : List Placed) → characters text ≡ name → list_all is_good name ≡ true → spells_in_any_case name (text ++ rest) ≡ true
spells_name [] text rest e h = refl
spells_name (c ∷ cs) [] rest e h = absurd cc
spells_name (c ∷ cs) (p ∷ ps) rest e h = let both = and_parts _ _ h in
    and_from _ _ (ap (λ (x : ℕ). to_ascii_lowercase x == c) (first_is p ps c cs e) ∙ good_lower c both.0) (spells_name cs ps rest (tail_of p ps c cs e) both.1)

past_name : (name : List ℕ) (text rest : List Placed) → characters text ≡ name → drop (length name) (text ++ rest) ≡ rest
past_name [] [] rest e = refl
past_name (c ∷ cs) (p ∷ ps) rest e = past_name cs ps rest (tail_of p ps c cs e)
past_name _ _ rest e = absurd cc

stands_here : (name : List ℕ) (opening middle close rest : List Placed) → list_all is_good name ≡ true → characters opening ≡ codes "</"
    → characters middle ≡ name → characters close ≡ codes ">" → is_end_tag_of (Some name) (opening ++ (middle ++ (close ++ rest))) ≡ true
stands_here name (o ∷ q ∷ []) middle (g ∷ close) rest h e m k = let is_less : o.ch ≡ 60 = first_is o (q ∷ []) 60 (codes "/") e in
    let is_solidus : q.ch ≡ 47 = first_is q [] 47 [] (tail_of o (q ∷ []) 60 (codes "/") e) in
    let is_greater : g.ch ≡ 62 = first_is g close 62 [] k in
    let opens : spells (codes "</") (o ∷ q ∷ (middle ++ (g ∷ close ++ rest))) ≡ true = rw (is_less, is_solidus) refl in
    let ends : begins ends_name (drop (2 + length name) (o ∷ q ∷ (middle ++ (g ∷ close ++ rest)))) ≡ true =
    ap (λ (n : ℕ). begins ends_name (drop n (o ∷ q ∷ (middle ++ (g ∷ close ++ rest)))))
    (let two : 2 + length name ≡ suc (suc (length name)) = omega arith in two) ∙ ap (begins ends_name) (past_name name middle (g ∷ close ++ rest) m)
    ∙ ap ends_name is_greater in
    and_from _ _ (and_from _ _ opens (spells_name name middle (g ∷ close ++ rest) m h)) ends
stands_here name _ middle _ rest h e m k = absurd cc

pub end_tag_here : (name : List ℕ) (text rest : List Placed) → IsElementName name → characters text ≡ (codes "</" ++ name) ++ codes ">"
    → is_end_tag_of (Some name) (text ++ rest) ≡ true
end_tag_here name text rest is_name e = let s = split text (codes "</" ++ name) (codes ">") e in let q = split s.front (codes "</") name s.fronts in
    ap (is_end_tag_of (Some name)) (ap (λ (x : List Placed). x ++ rest) (s.is ∙ ap (λ (x : List Placed). x ++ s.back) q.is)
    ∙ append_assoc (q.front ++ q.back) s.back rest ∙ append_assoc q.front q.back (s.back ++ rest))
    ∙ stands_here name q.front q.back s.back rest is_name.good q.fronts q.backs s.backs

pub raw_end_cuts : (table : Entities) (end_at : ℕ) (name : List ℕ) (text rest : List Placed) (here : Standing) → is_raw here.kind ≡ true
    → may_end here.kind here.front ≡ true → here.name ≡ Some name → IsElementName name → characters text ≡ (codes "</" ++ name) ++ codes ">"
    → Cuts table end_at here text rest (end name ∷ []) (λ there. there.kind ≡ kind.None)
raw_end_cuts table end_at name text rest here raw may named is_name e = an_end_tag table end_at name text rest here is_name e (λ span is_tag is.
    let ends : is_raw_end here (span.text ++ rest) ≡ true = and_from _ _ may (ap (λ (n : Option (List ℕ)). is_end_tag_of n (span.text ++ rest)) named
    ∙ ap (λ (x : List Placed). is_end_tag_of (Some name) (x ++ rest)) is ∙ end_tag_here name text rest is_name e) in
    in_raw table end_at here rest span raw (raw_end ends is_tag))

-- THE TABLE

abbrev is_nowhere : Role → Bool
is_nowhere role.Nowhere = true
is_nowhere _ = false

-- how the text in an element is read, what it holds, and whether it is void
abbrev pub fits : RawKind → Content → Bool → Bool
fits kind.None c v = true
fits kind.Rcdata content.Text false = true
fits kind.Rawtext content.RawText false = true
fits kind.Script content.ScriptText false = true
fits _ _ _ = false

abbrev is_fine : Tag → Bool
is_fine t = (list_all is_good (tag_text t) && begins_letter (tag_text t)) && (not (is_refused t) && fits (raw_kind t) (row t).1 (is_void t))

-- the names of a document that are in no content
abbrev pub of_documents : Tag → Bool
of_documents tag.Html = true
of_documents tag.Head = true
of_documents tag.Body = true
of_documents t = is_metadata t

all_fine : (t : Tag) → ((is_nowhere (row t).0 && not (of_documents t)) || is_fine t) ≡ true
all_fine tag.A = refl
all_fine _ = refl

abbrev pub fits_context : RawKind → Content → Bool
fits_context kind.None c = true
fits_context kind.Rcdata content.Text = true
fits_context kind.Rawtext content.RawText = true
fits_context kind.Script content.ScriptText = true
fits_context _ content.Columns = true
fits_context _ content.Empty = true
fits_context _ _ = false

pub all_contexts : (t : Tag) → fits_context (raw_kind t) (row t).1 ≡ true
all_contexts tag.A = refl
all_contexts _ = refl

somewhere : (c : Content) (r : Role) → takes_role c r ≡ true → is_nowhere r ≡ false
somewhere c role.Phrasing h = cc
somewhere content.Around _ h = cc
somewhere _ _ h = cc

-- a name that is somewhere
pub record IsKnownName (name : List ℕ) : Type 0 where
  pub is_name : IsElementName name
  pub fit : fits (raw_kind (tag_named name)) (row (tag_named name)).1 (is_void (tag_named name)) ≡ true

fine_name : (name : List ℕ) → (is_nowhere (row (tag_named name)).0 && not (of_documents (tag_named name))) ≡ false → IsKnownName name
fine_name name some = let t : Tag = tag_named name in
    let fine : is_fine t ≡ true = or_second (is_nowhere (row t).0 && not (of_documents t)) (is_fine t) (all_fine t) some in
    let proper : t ≡ tag.Other → ⊥ = λ e. let x = ap (λ (u : Tag). is_nowhere (row u).0 && not (of_documents u)) e in cc in
    let is : name ≡ tag_text t = named_back tags name t refl proper in
    let a = and_parts (list_all is_good (tag_text t) && begins_letter (tag_text t)) _ fine in
    let b = and_parts (list_all is_good (tag_text t)) (begins_letter (tag_text t)) a.0 in
    let d = and_parts (not (is_refused t)) (fits (raw_kind t) (row t).1 (is_void t)) a.1 in
    record { is_name = record { good = ap (list_all is_good) is ∙ b.0; letter = ap begins_letter is ∙ b.1; allowed = not-true _ d.0 }; fit = d.1 }

pub known_name : (name : List ℕ) (c : Content) → takes_role c (row (tag_named name)).0 ≡ true → IsKnownName name
known_name name c h = fine_name name (ap (λ b. b && not (of_documents (tag_named name))) (somewhere c (row (tag_named name)).0 h))

pub document_name : (name : List ℕ) → of_documents (tag_named name) ≡ true → IsKnownName name
document_name name h = fine_name name (and_right (is_nowhere (row (tag_named name)).0) (not (of_documents (tag_named name))) (ap not h))

-- WHAT IS READ AS DATA

abbrev pub InData : Standing → Type 0
InData there = there.kind ≡ kind.None

-- These bytes are read as these tokens where this is true of how the tokenizer stands, and then that is.
pub record Takes (table : Entities) (Here There : Standing → Type 0) (bytes : List ℕ) (tokens : List (Token (List ℕ))) : Type 0 where
  pub codes_are : List ℕ
  pub spells : Spells bytes codes_are
  pub cuts : (end_at : ℕ) (here : Standing) (text rest : List Placed) → Here here → characters text ≡ codes_are → Cuts table end_at here text rest tokens There

abbrev pub Reads : Entities → List ℕ → List (Token (List ℕ)) → Type 0
Reads table bytes tokens = Takes table InData InData bytes tokens

pub reads-nil : (table : Entities) → Reads table [] []
reads-nil table = record
    { codes_are = []; spells = spells-nil; cuts = λ len here text rest k e. cuts_as (sym (no_characters text e)) (cuts_none table len here rest InData k) }

pub reads-append : {table : Entities} {Here Mid There : Standing → Type 0} {bs cs : List ℕ} {ts us : List (Token (List ℕ))} → Takes table Here Mid bs ts
    → Takes table Mid There cs us → Takes table Here There (bs ++ cs) (ts ++ us)
reads-append a b = record {
  codes_are = a.codes_are ++ b.codes_are;
  spells = spells-append a.spells b.spells;
  cuts = λ end_at here text rest k e.
      let s = split text a.codes_are b.codes_are e in let first = a.cuts end_at here s.front (s.back ++ rest) k s.fronts in
      let then = b.cuts end_at (standing_after here first.spans) s.back rest first.leads s.backs in
      cuts_as (sym s.is) (join first then);
}

-- NAMES AND ATTRIBUTES

good_attribute : (name : List ℕ) → is_plain_name name ≡ true → (list_all is_good name ≡ true) × (is_some_name name ≡ true)
good_attribute [] h = absurd cc
good_attribute (b ∷ bs) h = (all_weaker is_plain_name_byte is_good name_byte_good (b ∷ bs) (grind arith), refl)

eq_other : (a b : List ℕ) → bytes_eq a b ≡ false → bytes_eq b a ≡ false
eq_other a b h = false_from_ne_true _ (λ e. let x : a ≡ b = sym ((bytes_eq-Decides b a).0 e) in true≢false (sym ((bytes_eq-Decides a b).1 x) ∙ h))

-- names that are new among others are new with one more that none of them is
new_more : (a : List ℕ) (before : List (List ℕ)) (names : List (List ℕ)) (attrs : List (Attribute (List ℕ))) → AreNew (before ++ names) attrs
    → list_any (λ b. bytes_eq a b.0) attrs ≡ false → AreNew (before ++ (a ∷ names)) attrs
new_more a before names [] new h = tt
new_more a before names (b ∷ others) new h = let both = or_parts (bytes_eq a b.0) _ h in
    (known_more before new.0 (eq_other a b.0 both.0), new_more a (b.0 ∷ before) names others new.1 both.1) where
      known_more : (before : List (List ℕ)) → is_known (before ++ names) b.0 ≡ false → bytes_eq b.0 a ≡ false → is_known (before ++ (a ∷ names)) b.0 ≡ false
      known_more [] k e = or_from _ _ e k
      known_more (x ∷ before) k e = grind (arith, known_more before)

are_new : (attrs : List (Attribute (List ℕ))) → are_plain_attributes attrs ≡ true → AreNew [] attrs
are_new [] h = tt
are_new (a ∷ others) h = (refl, new_more a.0 [] [] others (are_new others (grind arith)) (grind arith))

pub record AttributesRead (table : Entities) (attrs : List (Attribute (List ℕ))) (bytes : List ℕ) : Type 0 where
  pub codes_are : List ℕ
  pub spells : Spells bytes codes_are
  pub are : AreAttributes table attrs codes_are

-- ONE TEXT AT MOST

abbrev pub holds_text : Content → Bool
holds_text content.Text = true
holds_text content.RawText = true
holds_text content.ScriptText = true
holds_text _ = false

pub no_role : (c : Content) (r : Role) → holds_text c ≡ true → takes_role c r ≡ false
no_role content.Text r h = cc
no_role _ r h = cc

pub no_comment : (c : Content) → holds_text c ≡ true → takes_comments c ≡ false
no_comment content.Text h = cc
no_comment _ h = cc

-- the content of the elements whose text is read in a kind
abbrev raw_content : RawKind → Content
raw_content kind.Rcdata = content.Text
raw_content kind.Rawtext = content.RawText
raw_content kind.Script = content.ScriptText
raw_content _ = content.Empty

raw_fits : (k : RawKind) (c : Content) (v : Bool) → is_raw k ≡ true → fits k c v ≡ true → (c ≡ raw_content k) × (v ≡ false)
raw_fits kind.None c v r h = absurd (false≢true r)
raw_fits kind.Rcdata content.Text false r h = (refl, refl)
raw_fits kind.Rawtext content.RawText false r h = (refl, refl)
raw_fits kind.Script content.ScriptText false r h = (refl, refl)
raw_fits _ _ _ r h = absurd (false≢true h)

-- and the contexts hold one text
abbrev text_inside : Bool → Inside
text_inside form = record { content = content.Text; texts = allowed.Any; in_a = false; in_button = false; in_form = form }

text_context : (k : RawKind) (c : Content) (form : Bool) (l : Forest (List ℕ)) → is_raw k ≡ true → fits_context k c ≡ true
    → are_content_if (in_context_of c form) l ≡ true → are_content (text_inside form) l ≡ true
text_context kind.None c form l r h a = cc
text_context _ content.Text form l r h a = cc
text_context _ _ form l r h a = cc

-- A list that is one text, or nothing.
pub record OneText (how : Escaping) (which : Texts) (l : Forest (List ℕ)) : Type 0 where
  pub t : List ℕ
  pub utf8 : IsUtf8 t
  pub clean : has_no_null_or_return t ≡ true
  pub among : is_among_texts which t ≡ true
  pub raw_is : written_among how true l ≡ t
  pub text_is : written_among how false l ≡ escaped how setting.Text t
  pub tokens_are : plain_tokens texts l ≡ map (λ c. character c) (chars t)

one_text : (how : Escaping) (inside : Inside) (l : Forest (List ℕ)) → holds_text inside.content ≡ true → is_among_texts inside.texts [] ≡ true → HoldsUtf8 l
    → are_content inside l ≡ true → OneText how inside.texts l
one_text how inside l h empty u p = go l u (sym (is_one inside (λ r. no_role inside.content r h) (no_comment inside.content h) l) ∙ p) where
  go : (l : Forest (List ℕ)) → HoldsUtf8 l → is_one_text inside.texts l ≡ true → OneText how inside.texts l
  go none u e = let text_is = ap (flat_map (written_char how setting.Text)) (sym chars-nil) in
      record
      { t = []; utf8 = IsUtf8-nil; clean = refl; among = empty; raw_is = refl; text_is = text_is; tokens_are = ap (map (λ c. character c)) (sym chars-nil) }
  go (tree n (forest.text t) none none) u e = let clean : has_no_null_or_return t ≡ true = grind arith in
      let text_is = append-nil (escaped how setting.Text t) in
      record { t = t; utf8 = u.0; clean = clean; among = grind arith; raw_is = append-nil t; text_is = text_is; tokens_are = append-nil _ }
  go (tree n (forest.text t) kids rest) u e = absurd (grind arith)
  go _ u e = absurd (false≢true e)

-- RAW TEXTS

-- how the tokenizer stands after a text of a kind
abbrev HasRead : RawKind → Standing → List Placed → Standing → Type 0
HasRead k here text there = (there.kind ≡ k) × (there.name ≡ here.name) × (has_references k ≡ false → there.front ≡ backwards here.front text)

-- what may be in text without references does not end it, and leaves the tokenizer where an end tag may
ends_raw : (k : RawKind) (t cs name : List ℕ) (text rest : List Placed) (more : List ℕ) → is_raw k ≡ true → (has_references k ≡ false → cs ≡ chars t) → IsUtf8 t
    → is_among_texts (texts_in (raw_content k)) t ≡ true → characters text ≡ cs → characters rest ≡ 60 ∷ more → (has_references k ≡ false
    → NoEnd (Some name) text rest) × ((front : List Placed) → (has_references k ≡ false → front ≡ backwards [] text) → may_end k front ≡ true)
ends_raw kind.Rcdata t cs name text rest more r is u among e f = (λ n. absurd (true≢false n), λ front b. refl)
ends_raw kind.Rawtext t cs name text rest more r is u among e f =
    (λ n. no_end_in (Some name) text rest (chars t) more (e ∙ is n) f (no_part (codes "</") t refl u among), λ front b. refl)
ends_raw kind.Script t cs name text rest more r is u among e f = let both = and_parts (not (has_part (codes "</") t)) (not (has_part (codes "<!--") t)) among in
    let level_is = level_zero text [] (chars t) (e ∙ is refl) refl (no_part (codes "<!--") t refl u both.1) in (
      λ n. no_end_in (Some name) text rest (chars t) more (e ∙ is n) f (no_part (codes "</") t refl u both.0),
      λ front b. ap (may_end kind.Script) (b refl) ∙ ap (λ (n : ℕ). nat_lt n 2) level_is,
    )
ends_raw _ t cs name text rest more r is u among e f = absurd cc

-- DOCTYPES

abbrev pub html_doctype : Token (List ℕ)
html_doctype = doctype (Some (codes "html")) None None false

lowers : (text : List Placed) → lowered text ≡ map to_ascii_lowercase (characters text)
lowers [] = refl
lowers (p ∷ ps) = ap (λ l. to_ascii_lowercase p.ch ∷ l) (lowers ps)

doctype_cuts : (table : Entities) (end_at : ℕ) (here : Standing) (text rest : List Placed) → here.kind ≡ kind.None → characters text ≡ codes "<!DOCTYPE html>"
    → Cuts table end_at here text rest (html_doctype ∷ []) InData
doctype_cuts table end_at here text rest is_data e = let a = split text (codes "<!DOCTYPE") (codes " html>") e in
    let b = split a.back (codes " ") (codes "html>") a.backs in
    let c = split b.back (codes "html") (codes ">") b.backs in
    of_parts a.front b.front c.front c.back a.fronts b.fronts c.fronts c.backs
    (sym (a.is ∙ ap (λ (x : List Placed). a.front ++ x) (b.is ∙ ap (λ (x : List Placed). b.front ++ x) c.is))) where
      of_parts : (opening space name close : List Placed) → characters opening ≡ codes "<!DOCTYPE" → characters space ≡ codes " "
          → characters name ≡ codes "html" → characters close ≡ codes ">" → opening ++ (space ++ (name ++ close)) ≡ text
          → Cuts table end_at here text rest (html_doctype ∷ []) InData
      of_parts opening (s ∷ []) (n ∷ ame) (c ∷ lose) opens spaced named closes is = let name : List Placed = n ∷ ame in
          let close : List Placed = c ∷ lose in
          let html : name_bytes name ≡ codes "html" = name_bytes_are name (codes "html") named refl in
          let found : production.Found = production.with_name (name_bytes name) production.nothing in
          let is_doctype : IsDoctype end_at rest ((s ∷ []) ++ (name ++ close)) found (null_errors name) = record {
            space = s ∷ [];
            after = name ++ close;
            text_is = refl;
            spaces = ap (λ (x : ℕ). is_space x && true) (first_is s [] 32 [] spaced);
            then = production.begins_name (null_errors name) (ap (λ (x : ℕ). not (is_space x || is_greater x)) (first_is n ame 104 (codes "tml") named))
                (record {
                  name = name;
                  after = close;
                  later = [];
                  text_is = refl;
                  runs = record {
                    passes_none = all-characters (λ x. not (is_space x || is_greater x)) name ∙ ap (list_all (λ x. not (is_space x || is_greater x))) named;
                    stops_after = ap (λ (x : ℕ). is_space x || is_greater x) (first_is c lose 62 [] closes);
                  };
                  follows = record
                      { space = []; after = close; text_is = refl; spaces = refl; then = production.name_ends (production.closed closes refl refl) };
                  errors_are = sym (append-nil (null_errors name));
                }) refl;
          } in
          let span : Span = data_span.doctype_span end_at opening ((s ∷ []) ++ (name ++ close)) found (null_errors name) in
          cuts_as is (one span (in_data table end_at here rest span is_data (data_span.doctype opening ((s ∷ []) ++ (name ++ close)) found
          (null_errors name) (lowers opening ∙ ap (map to_ascii_lowercase) opens) is_doctype refl))
          (ap (λ (x : List ℕ). doctype (Some x) None None false ∷ []) html) refl refl)
      of_parts _ _ _ _ opens spaced named closes is = absurd cc

-- PARTS OF A DOCUMENT

pub texts_after : (m : ℕ) (w : What (List ℕ)) (kids rest : Forest (List ℕ)) → HoldsUtf8 (tree m w kids rest) → HoldsUtf8 rest
texts_after m (forest.element x attrs) kids rest u = u.3
texts_after m (forest.text t) kids rest u = u.2
texts_after m (forest.comment t) kids rest u = u.2
texts_after m _ kids rest u = u.1

metadata_name : (t : Tag) → is_metadata t ≡ true → of_documents t ≡ true
metadata_name tag.Html h = refl
metadata_name tag.Head h = refl
metadata_name tag.Body h = refl
metadata_name _ h = h

module _ (table : Entities) (is_table : IsTable table) (core : HasCore table) (how : Escaping) where
  attributes_read : (attrs : List (Attribute (List ℕ))) → AreUtf8 attrs → are_plain_attributes attrs ≡ true
      → AttributesRead table attrs (flat_map (attribute_text how) attrs)
  attributes_read [] u h = record { codes_are = []; spells = spells-nil; are = refl }
  attributes_read (a ∷ others) u h = let clean : has_no_null_or_return a.1 ≡ true = grind arith in let good = good_attribute a.0 (grind arith) in
      let value = escaped_as table core how setting.Value (chars a.1) (scalars-chars a.1 u.1) (clean_text a.1 u.1 clean) in
      let more = attributes_read others u.2 (grind arith) in
      let name_mapped : Spells a.0 a.0 = spells_ascii a.0 (goods_ascii a.0 good.0) in
      let one : Spells (attribute_text how a) (attribute_codes a.0 value.codes_are) = spells-append
      (spells-append (spells-append (spells-append (spells_ascii (codes " ") refl) name_mapped) (spells_ascii (codes "=\"") refl)) value.spells)
      (spells_ascii (codes "\"") refl) in
      let is : IsAttribute table a value.codes_are = record
      { good = good.0; named = good.1; characters_are = chars a.1; value_is = encodes-chars a.1 u.1; value = value.are } in
      let spells = spells-append one more.spells in
      record { codes_are = attribute_codes a.0 value.codes_are ++ more.codes_are; spells = spells; are = (value.codes_are, more.codes_are, refl, is, more.are) }

  -- TAGS

  abbrev pub StartTag : List ℕ → List (Attribute (List ℕ)) → Type 0
  StartTag name attrs = Takes table InData (λ there. there ≡ after_start name) (start_tag_text how name attrs) (start name attrs false ∷ [])

  pub a_start_tag : (name : List ℕ) (attrs : List (Attribute (List ℕ))) → IsElementName name → AreUtf8 attrs → are_plain_attributes attrs ≡ true
      → StartTag name attrs
  a_start_tag name attrs is_name u h = let read = attributes_read attrs u h in
      let name_mapped : Spells name name = spells_ascii name (goods_ascii name is_name.good) in
      let spells = spells-append (spells-append (spells-append (spells_ascii (codes "<") refl) name_mapped) read.spells) (spells_ascii (codes ">") refl) in
      let cuts = λ (len : ℕ). start_tag_cuts table is_table len name attrs read.codes_are is_name read.are (are_new attrs h) in
      record { codes_are = ((codes "<" ++ name) ++ read.codes_are) ++ codes ">"; spells = spells; cuts = cuts }

  pub end_mapped : (name : List ℕ) → IsElementName name → Spells (end_tag_text name) ((codes "</" ++ name) ++ codes ">")
  end_mapped name is_name =
      spells-append (spells-append (spells_ascii (codes "</") refl) (spells_ascii name (goods_ascii name is_name.good))) (spells_ascii (codes ">") refl)

  pub end_tag_reads : (name : List ℕ) → IsElementName name → Reads table (end_tag_text name) (end name ∷ [])
  end_tag_reads name is_name = record
      { codes_are = (codes "</" ++ name) ++ codes ">"; spells = end_mapped name is_name; cuts = λ len. end_tag_cuts table len name is_name }

  -- a start tag after which data goes on
  pub start_tag_reads : (name : List ℕ) (attrs : List (Attribute (List ℕ))) → StartTag name attrs → raw_kind (tag_named name) ≡ kind.None
      → Reads table (start_tag_text how name attrs) (start name attrs false ∷ [])
  start_tag_reads name attrs s is_none = record
      { codes_are = s.codes_are; spells = s.spells; cuts = λ len here text rest k e. led (s.cuts len here text rest k e) (λ there is. rw is is_none) }

  -- TEXTS AND COMMENTS

  pub text_reads : (t : List ℕ) → IsUtf8 t → has_no_null_or_return t ≡ true → Reads table (escaped how setting.Text t) (map (λ c. character c) (chars t))
  text_reads t u clean = let w = escaped_as table core how setting.Text (chars t) (scalars-chars t u) (clean_text t u clean) in
      record {
        codes_are = w.codes_are;
        spells = w.spells;
        cuts = λ end_at here text rest k e.
            led (text_cuts table is_table (chars t) w.codes_are text rest end_at here (ap has_references k) w.are e) (λ there same. same.kind_is ∙ k);
      }

  pub comment_reads : (t : List ℕ) → IsUtf8 t → is_plain_comment t ≡ true → Reads table ((codes "<!--" ++ t) ++ codes "-->") (comment t ∷ [])
  comment_reads t u h = let f = four _ _ _ _ h in let d = and_parts (has_no_null_or_return t) _ f.0 in
      record {
        codes_are = (codes "<!--" ++ chars t) ++ codes "-->";
        spells = spells-append (spells-append (spells_ascii (codes "<!--") refl) (spells_text t u d.0)) (spells_ascii (codes "-->") refl);
        cuts = λ end_at here text rest k e. comment_cuts table end_at (chars t) t text rest here k (record {
          bytes_are = encodes-chars t u;
          clean = clean_text t u d.0;
          closes_not = no_part (codes "-->") t refl u d.1;
          bang_not = no_part (codes "--!>") t refl u f.1;
          arrow_not = no_front (codes ">") t refl u f.2;
          dash_not = no_front (codes "->") t refl u f.3;
        }) e;
      }

  -- a text that is read in a kind, where no end tag stands in it
  record RawText (k : RawKind) (l : Forest (List ℕ)) (t : List ℕ) : Type 0 where
    pub codes_are : List ℕ
    pub spells : Spells (written_among how (has_no_references k) l) codes_are
    pub plainly : has_references k ≡ false → codes_are ≡ chars t
    pub cuts : (len : ℕ) (here : Standing) (text rest : List Placed) → here.kind ≡ k → characters text ≡ codes_are
        → (has_references k ≡ false → NoEnd here.name text rest) → Cuts table len here text rest (plain_tokens texts l) (HasRead k here text)

  raw_text : (k : RawKind) (l : Forest (List ℕ)) (which : Texts) → is_raw k ≡ true → (o : OneText how which l) → RawText k l o.t
  raw_text kind.None l which raw o = absurd (false≢true raw)
  raw_text kind.Rcdata l which raw o = let w = escaped_as table core how setting.Text (chars o.t) (scalars-chars o.t o.utf8) (clean_text o.t o.utf8 o.clean) in
      record {
        codes_are = w.codes_are;
        spells = subst (λ (x : List ℕ). Spells x w.codes_are) (sym o.text_is) w.spells;
        plainly = λ n. absurd (true≢false n);
        cuts = λ len here text rest is e no_end. subst (λ (ts : List (Token (List ℕ))). Cuts table len here text rest ts (HasRead kind.Rcdata here text))
            (sym o.tokens_are) (led (text_cuts table is_table (chars o.t) w.codes_are text rest len here (ap has_references is) w.are e) (λ there same.
            (same.kind_is ∙ is, same.name_is, λ n. absurd (true≢false n))));
      }
  raw_text k l which raw o = record {
    codes_are = chars o.t;
    spells = subst (λ (x : List ℕ). Spells x (chars o.t)) (sym o.raw_is) (spells_text o.t o.utf8 o.clean);
    plainly = λ n. refl;
    cuts = λ len here text rest is e no_end. subst (λ (ts : List (Token (List ℕ))). Cuts table len here text rest ts (HasRead k here text)) (sym o.tokens_are)
        (led (raw_cuts table len (chars o.t) text rest here (ap is_raw is) (ap has_references is) e (clean_text o.t o.utf8 o.clean) (no_end refl))
        (λ there same. (ap (λ (x : Standing). x.kind) same ∙ is, ap (λ (x : Standing). x.name) same, λ n. ap (λ (x : Standing). x.front) same)));
  }

  -- A LIST

  abbrev pub ReadsList : Forest (List ℕ) → Type 0
  ReadsList l = Reads table (written_among how false l) (plain_tokens texts l)

  -- an element, by how its text is read and whether it is void
  abbrev Element : List ℕ → List (Attribute (List ℕ)) → Forest (List ℕ) → RawKind → Bool → Type 0
  Element name attrs kids k v = Reads table (start_tag_text how name attrs ++ (cond v [] (written_among how (has_no_references k) kids ++ end_tag_text name)))
      (start name attrs false ∷ cond v [] (plain_tokens texts kids ++ end name ∷ []))

  -- one whose text is read in a kind of its own
  raw_element : (name : List ℕ) (attrs : List (Attribute (List ℕ))) (kids : Forest (List ℕ)) (which : Texts) (k : RawKind) → is_raw k ≡ true
      → raw_kind (tag_named name) ≡ k → IsElementName name → StartTag name attrs → (o : OneText how which kids)
      → is_among_texts (texts_in (raw_content k)) o.t ≡ true → Element name attrs kids k false
  raw_element name attrs kids which k raw is_kind is_name s o among = let r = raw_text k kids which raw o in
      reads-append s (record {
        codes_are = r.codes_are ++ ((codes "</" ++ name) ++ codes ">");
        spells = spells-append r.spells (end_mapped name is_name);
        cuts = λ len here text rest is e.
            let b = split text r.codes_are ((codes "</" ++ name) ++ codes ">") e in
            let follows : characters (b.back ++ rest) ≡ ((codes "</" ++ name) ++ codes ">") ++ characters rest = both_of b.back rest b.backs refl in
            let more = codes "/" ++ name ++ codes ">" ++ characters rest in
            let ends = ends_raw k o.t r.codes_are name b.front (b.back ++ rest) more raw r.plainly o.utf8 among b.fronts follows in
            let then = r.cuts len (after_start name) b.front (b.back ++ rest) is_kind b.fronts ends.0 in
            let there : Standing = standing_after (after_start name) then.spans in
            let last = raw_end_cuts table len name b.back rest there (ap is_raw then.leads.0 ∙ raw)
            (ap (λ (x : RawKind). may_end x there.front) then.leads.0 ∙ ends.1 there.front then.leads.2) then.leads.1 is_name b.backs in
            subst (λ v. Cuts table len v text rest (plain_tokens texts kids ++ end name ∷ []) InData) (sym is) (cuts_as (sym b.is) (join then last));
      })

  an_element : (name : List ℕ) (attrs : List (Attribute (List ℕ))) (kids : Forest (List ℕ)) (inside : Inside) (k : RawKind) (v : Bool)
      → raw_kind (tag_named name) ≡ k → fits k (row (tag_named name)).1 v ≡ true → IsElementName name → StartTag name attrs → HoldsUtf8 kids
      → (is_raw k ≡ true → are_content (inside_element (tag_named name) inside) kids ≡ true) → ReadsList kids → Element name attrs kids k v
  an_element name attrs kids inside kind.None true is_kind fit is_name s u h kids_read = reads-append (start_tag_reads name attrs s is_kind) (reads-nil table)
  an_element name attrs kids inside kind.None false is_kind fit is_name s u h kids_read =
      reads-append (start_tag_reads name attrs s is_kind) (reads-append kids_read (end_tag_reads name is_name))
  an_element name attrs kids inside kind.Plaintext v is_kind fit is_name s u h kids_read = absurd (false≢true fit)
  an_element name attrs kids inside k v is_kind fit is_name s u h kids_read = let e = raw_fits k (row (tag_named name)).1 v refl fit in
      let within : Inside = inside_element (tag_named name) inside in
      let texts_are : within.texts ≡ texts_in (raw_content k) = rw e.0 refl in
      let o = one_text how within kids (rw e.0 refl) (ap (λ (x : Texts). is_among_texts x []) texts_are) u (h refl) in
      subst (λ (w : Bool). Element name attrs kids k w) (sym e.1)
      (raw_element name attrs kids within.texts k refl is_kind is_name s o (ap (λ (x : Texts). is_among_texts x o.t) (sym texts_are) ∙ o.among))

  again : (v : Bool) (name : List ℕ) (attrs : List (Attribute (List ℕ))) (kids rest : List (Token (List ℕ)))
      → (start name attrs false ∷ cond v [] (kids ++ end name ∷ [])) ++ rest ≡ start name attrs false ∷ cond v rest (kids ++ end name ∷ rest)
  again true name attrs kids rest = refl
  again false name attrs kids rest = ap (λ (x : List (Token (List ℕ))). start name attrs false ∷ x) (append_assoc kids (end name ∷ []) rest)

  -- a node, and then others
  pub element_reads : (m : ℕ) (inside : Inside) (name : List ℕ) (attrs : List (Attribute (List ℕ))) (kids rest : Forest (List ℕ)) → IsKnownName name
      → AreUtf8 attrs → are_plain_attributes attrs ≡ true → HoldsUtf8 kids
      → (is_raw (raw_kind (tag_named name)) ≡ true → are_content (inside_element (tag_named name) inside) kids ≡ true) → ReadsList kids → ReadsList rest
      → ReadsList (tree m (forest.element name attrs) kids rest)
  element_reads m inside name attrs kids rest known u plain us h kids_read rest_read = let s = a_start_tag name attrs known.is_name u plain in
      let element = an_element name attrs kids inside (raw_kind (tag_named name)) (is_void (tag_named name)) refl known.fit known.is_name s us h kids_read in
      subst (λ (ts : List (Token (List ℕ))). Reads table (written_among how false (tree m (forest.element name attrs) kids rest)) ts)
      (again (is_void (tag_named name)) name attrs (plain_tokens texts kids) (plain_tokens texts rest)) (reads-append element rest_read)

  pub text_then : (m : ℕ) (t : List ℕ) (kids rest : Forest (List ℕ)) → IsUtf8 t → has_no_null_or_return t ≡ true → ReadsList rest
      → ReadsList (tree m (forest.text t) kids rest)
  text_then m t kids rest u clean rest_read = reads-append (text_reads t u clean) rest_read

  pub comment_then : (m : ℕ) (t : List ℕ) (kids rest : Forest (List ℕ)) → IsUtf8 t → is_plain_comment t ≡ true → ReadsList rest
      → ReadsList (tree m (forest.comment t) kids rest)
  comment_then m t kids rest u plain rest_read = reads-append (comment_reads t u plain) rest_read

  pub list_reads : (inside : Inside) (l : Forest (List ℕ)) → HoldsUtf8 l → are_content inside l ≡ true → ReadsList l
  list_reads inside none u h = reads-nil table
  list_reads inside (tree n (forest.element name attrs) kids rest) u h = let k = three inside n (forest.element name attrs) kids rest h in
      let f = four _ _ _ _ k.node in
      element_reads n inside name attrs kids rest (known_name name inside.content f.0) u.1 f.2 u.2 (λ raw. k.children)
      (list_reads (inside_element (tag_named name) inside) kids u.2 k.children) (list_reads inside rest u.3 k.others)
  list_reads inside (tree n (forest.text t) kids rest) u h = let k = three inside n (forest.text t) kids rest h in let node = k.node in
      text_then n t kids rest u.0 (grind arith) (list_reads inside rest u.2 k.others)
  list_reads inside (tree n (forest.comment t) kids rest) u h = let k = three inside n (forest.comment t) kids rest h in let node = k.node in
      comment_then n t kids rest u.0 (grind arith) (list_reads inside rest u.2 k.others)
  list_reads inside _ u h = absurd (false≢true h)

  -- CONTEXTS

  -- a cut of the whole text
  whole_read : (bom : Bom) (k : RawKind) (bytes cs : List ℕ) (ts : List (Token (List ℕ))) (There : Standing → Type 0) → Spells bytes cs
      → Cuts table (length bytes) (at_start k) (decoded_text bom bytes) [] ts There → AreRead table bom k bytes (ts ++ eof ∷ [])
  whole_read bom k bytes cs ts There s c = record {
    utf8 = spells_utf8 bytes cs s;
    toks = cut.tokens_of c.spans ++ Eof (length bytes) ∷ [];
    errors = cut.span_errors c.spans ++ end_errors (length bytes) (standing_after (at_start k) c.spans);
    read = record { spans = c.spans; text_is = sym c.text_is; cut = c.cut; tokens_are = refl; errors_are = refl; in_profile = c.in_profile };
    are = map-append token_taken (cut.tokens_of c.spans) (Eof (length bytes) ∷ []) ∙ ap (λ (x : List (Token (List ℕ))). x ++ eof ∷ []) c.tokens_are;
  }

  -- a list that is read as data, from the beginning to the end
  pub as_data : (bom : Bom) (l : Forest (List ℕ)) (r : ReadsList l) → begins_marked bom r.codes_are ≡ false
      → AreRead table bom kind.None (written_among how false l) (plain_tokens texts l ++ eof ∷ [])
  as_data bom l r m = let bytes : List ℕ = written_among how false l in
      whole_read bom kind.None bytes r.codes_are (plain_tokens texts l) InData r.spells
      (r.cuts (length bytes) (at_start kind.None) (decoded_text bom bytes) [] refl (text_characters bom bytes r.codes_are r.spells m))

  some_inside : (o : Option Inside) (l : Forest (List ℕ)) → are_content_if o l ≡ true → (inside : Inside) × (are_content inside l ≡ true)
  some_inside None l h = absurd (false≢true h)
  some_inside (Some inside) l h = (inside, h)

  pub in_kind : (k : RawKind) (c : Content) (form : Bool) (l : Forest (List ℕ)) → fits_context k c ≡ true → HoldsUtf8 l
      → are_content_if (in_context_of c form) l ≡ true → AreRead table Keep k (written_among how (has_no_references k) l) (plain_tokens texts l ++ eof ∷ [])
  in_kind kind.None c form l fit u h = let i = some_inside (in_context_of c form) l h in as_data Keep l (list_reads i.0 l u i.1) refl
  in_kind k c form l fit u h = let o = one_text how (text_inside form) l refl refl u (text_context k c form l refl fit h) in
      let r = raw_text k l allowed.Any refl o in
      let bytes : List ℕ = written_among how (has_no_references k) l in
      let text : List Placed = decoded_text Keep bytes in
      whole_read Keep k bytes r.codes_are (plain_tokens texts l) (HasRead k (at_start k) text) r.spells
      (r.cuts (length bytes) (at_start k) text [] refl (text_characters Keep bytes r.codes_are r.spells refl) (λ n. no_end_of_none text []))

  -- lists that pass a test
  abbrev AreAllRead : (Forest (List ℕ) → Bool) → Type 0
  AreAllRead test = (l : Forest (List ℕ)) → HoldsUtf8 l → test l ≡ true → ReadsList l

  ends_read : AreAllRead ends_document
  ends_read none u h = reads-nil table
  ends_read (tree m w kids rest) u h = absurd (false≢true h)

  leaf_read : (which : Texts) (m : ℕ) (w : What (List ℕ)) (kids rest : Forest (List ℕ)) → HoldsUtf8 (tree m w kids rest) → is_leaf which w kids rest ≡ true
      → ReadsList rest → ReadsList (tree m w kids rest)
  leaf_read which m (forest.comment t) kids rest u h others = comment_then m t kids rest u.0 (and_parts (is_plain_comment t) _ h).0 others
  leaf_read which m (forest.text t) kids rest u h others = text_then m t kids rest u.0 (grind arith) others
  leaf_read which m _ kids rest u h others = absurd (false≢true h)

  leaves_read : (which : Texts) (next : Forest (List ℕ) → Bool) → AreAllRead next → AreAllRead (leaves_then which next)
  leaves_read which next law none u h = law none u h
  leaves_read which next law (tree m w kids rest) u h = go (leaves_read which next law rest (texts_after m w kids rest u)) (is_leaf which w kids rest) refl h
    where
      go : (leaves_then which next rest ≡ true → ReadsList rest) → (b : Bool) → is_leaf which w kids rest ≡ b
          → cond b (leaves_then which next rest) (next (tree m w kids rest)) ≡ true → ReadsList (tree m w kids rest)
      go others true leaf k = leaf_read which m w kids rest u leaf (others k)
      go others false leaf k = law (tree m w kids rest) u k

  doctype_read : (next : Forest (List ℕ) → Bool) → AreAllRead next → AreAllRead (doctype_then next)
  doctype_read next law (tree m (forest.doctype name public_id system_id) kids rest) u h =
      let named : name ≡ codes "html" = (bytes_eq-Decides name (codes "html")).0 (grind arith) in let others : ReadsList rest = law rest u.1 (grind arith) in
      subst (λ (x : List ℕ). ReadsList (tree m (forest.doctype x public_id system_id) kids rest)) (sym named)
      (reads-append (record { codes_are = codes "<!DOCTYPE html>"; spells = spells_ascii (codes "<!DOCTYPE html>") refl; cuts = doctype_cuts table }) others)
  doctype_read next law l u h = law l u h

  element_read : (x : List ℕ) (children next : Forest (List ℕ) → Bool) → IsKnownName x → (raw_kind (tag_named x) ≡ kind.None) → AreAllRead children
      → AreAllRead next → AreAllRead (element_then x children next)
  element_read x children next known as_data law_kids law (tree m (forest.element name attrs) kids rest) u h = let f = four _ _ _ _ h in
      let named : name ≡ x = (bytes_eq-Decides name x).0 f.0 in
      subst (λ (y : List ℕ). ReadsList (tree m (forest.element y attrs) kids rest)) (sym named) (element_reads m inside_head x attrs kids rest known u.1 f.1 u.2
      (λ raw. absurd (let z = ap is_raw as_data in cc)) (law_kids kids u.2 f.2) (law rest u.3 f.3))
  element_read x children next known as_data law_kids law _ u h = absurd (false≢true h)

  metadata_read : AreAllRead are_metadata
  metadata_read none u h = reads-nil table
  metadata_read (tree m (forest.element name attrs) kids rest) u h = let f = four _ _ _ _ h in
      element_reads m inside_head name attrs kids rest (document_name name (metadata_name (tag_named name) f.0)) u.1 f.1 u.2 (λ raw. f.2)
      (list_reads (inside_element (tag_named name) inside_head) kids u.2 f.2) (metadata_read rest u.3 f.3)
  metadata_read (tree m w kids rest) u h = let b = and_parts (is_leaf allowed.WhiteSpace w kids rest) (are_metadata rest) h in
      leaf_read allowed.WhiteSpace m w kids rest u b.0 (metadata_read rest (texts_after m w kids rest u) b.1)

  document_read : AreAllRead is_plain_document
  document_read = leaves_read allowed.None _
      (doctype_read _ (leaves_read allowed.None _ (named (codes "html") are_in_html (comments_then ends_document) refl refl (leaves_read allowed.None _
      (named (codes "head") are_metadata (leaves_then allowed.WhiteSpace body_on) refl refl metadata_read (leaves_read allowed.WhiteSpace _
      (named (codes "body") (is_plain (codes "body")) (comments_then ends_document) refl refl (λ l u h. list_reads _ l u h) comments_read))))
      comments_read))) where
        comments_read : AreAllRead (comments_then ends_document)
        comments_read = leaves_read allowed.None ends_document ends_read

        named : (x : List ℕ) (children next : Forest (List ℕ) → Bool) → of_documents (tag_named x) ≡ true → raw_kind (tag_named x) ≡ kind.None
            → AreAllRead children → AreAllRead next → AreAllRead (element_then x children next)
        named x children next is as_data = element_read x children next (document_name x is) as_data

-- the law
pub tokens_law : PlainTokens
tokens_law table escaping context l is_table core u plain = in_kind table is_table core escaping (raw_kind (tag_named context)) (row (tag_named context)).1
    (is_form_element (tag_named context)) l (all_contexts (tag_named context)) u plain

-- what is written of a plain document begins with `<`
begins_less : (how : Escaping) (l : Forest (List ℕ)) → is_plain_document l ≡ true → begins_with (codes "<") (written_among how false l) ≡ true
begins_less how (tree m (forest.element name attrs) kids rest) h = refl
begins_less how (tree m (forest.comment t) kids rest) h = refl
begins_less how (tree m (forest.doctype name public_id system_id) kids rest) h = refl
begins_less how (tree m (forest.text t) kids rest) h = let no_leaf : is_leaf allowed.None (forest.text t) kids rest ≡ false = grind arith in
    absurd (false≢true (rw no_leaf at h))
begins_less how _ h = absurd (false≢true h)

-- the law of documents
pub document_tokens : PlainDocumentTokens
document_tokens table escaping l is_table core u plain = let r = document_read table is_table core escaping l u plain in
    as_data table is_table core escaping Drop l r (unmarked (written_among escaping false l) r.codes_are r.spells (begins_less escaping l plain))
