-- What a tokenizer holds back, and from where on: a beginning of a span.
use Rattle.htoken.proofs.Names.{arith, nat_tests, ◌≡◌, ℕ, true, false, List, [], ◌∷◌, ◌++◌, sym, refl, ap, ◌∙◌, append_assoc, append-nil, IncorrectlyOpenedComment, ParseError, Placed, RawKind, Texts, characters, lowered, all, begins, is_letter, is_empty, place, stops, error, name_bytes, Entities, IsTable, CommentKind, IsBogus, closed_bogus, IsDoctype, parts_text, attributes_after, ends_name, tag_errors, end_tag_errors, Tok, Span, Event, Start, End, Comment, piece_span, is_declaration, comment_span, may_end, is_raw_end, has_references, raw_end, IsTag, start_tag, end_tag, inside, CanEnd, string_bytes, list_all, before, null_errors, text_bytes, open_taken, closes_bogus, is_plain_in_bogus, HasReadDoctype, closed_span, closed_doctype, TagKind, begins_stops, State, Tokenizer, OpensNothing, from_of, is_raw, tag_mark, doctype_token, Reads, holds, in_ambiguous_ampersand, IsHeld, IsStateOf, IsInMarkup, IsInMarkedTag, IsInReference, less, IsBeginning, HeldBegins, Standing, HoldsFrom, HasTaken}
use Rattle.std.specs.Prelude.{map, Some}
use Rattle.names.specs.declared.raw.RawKind.TheVariants as kind
use Rattle.hmarkup.specs.declared.comment.CommentKind.TheVariants as comment
use Rattle.hmarkup.specs.CommentWalk.{HasReadOf, IsCommentSpan as IsCommentOf}
use Rattle.htag.specs.declared.kind.TagKind.TheVariants as tag
use Rattle.htoken.specs.declared.state.State.TheVariants as state
use Rattle.htoken.specs.Data as d
use Rattle.htoken.proofs.Declaring.{bogus_at}
use Rattle.htoken.proofs.InData.{in_data}
use Rattle.htoken.proofs.InRaw.{in_raw}
use Rattle.htoken.proofs.RawEnds.{a_name, is_whole, letters_stay, is_lower, is_word, raw_word, letters_of}
use Rattle.htoken.specs.Beginning.{nothing}
use Rattle.htoken.proofs.Referring.{reference_is}
use Rattle.htoken.proofs.SomeEnd.{greater, tags_can_end}

pub held_place : (s : State) (table : Entities) (names : Texts) (here : Standing) (t : Tokenizer) (held : List Placed) → IsHeld s table names here t held []
    → from_of s t ≡ place t.next held
held_place state.Comment table names here t held (kind, h) = ap (place t.next) (sym h.starts)
held_place state.Doctype table names here t held h = ap (place t.next) (sym h.starts)
held_place state.Tag table names here t held h = ap (place t.next) (sym h.held_is)
held_place state.Reference table names here t held h = ap (place t.next) (sym h.held_is)
held_place state.AmbiguousAmpersand table names here t held h = absurd h
held_place state.RcdataLessThanSign table names here t held h = ap (place t.next) (sym h.held_is)
held_place (state.RcdataEndTagName at) table names here t held h = ap (place t.next) (sym h.held_is)
held_place _ table names here t held h = ap (place t.next) (sym h.0)

-- where something is held, its place is kept
pub from_held : (s : State) (t : Tokenizer) → (s ≡ state.Text → ⊥) → (s ≡ state.AmbiguousAmpersand → ⊥) → t.at ≡ from_of s t
from_held state.Text t text run = absurd (text refl)
from_held state.AmbiguousAmpersand t text run = absurd (run refl)
from_held _ t text run = refl

pub holds_from : (table : Entities) {start : RawKind} (t : Tokenizer) (names : Texts) (text : List Placed) {taken : List Event}
    → HasTaken table start t names text taken → HoldsFrom table start text taken (from_of t.state t)
holds_from table t names text (holds h) = record {
  front = h.front;
  held = h.held;
  text_is = h.text_is;
  from_is = cc (held_place t.state table names h.here t h.held h.is_held, append-nil text);
  cuts = λ end more.
      let s = h.stands end more in record { spans = s.spans; front_is = s.front_is; cut = s.cut; tokens_are = s.tokens_are; in_profile = s.in_profile };
}
holds_from table t names text (in_ambiguous_ampersand h) = record {
  front = text;
  held = [];
  text_is = sym (append-nil text);
  from_is = cc (append-nil text);
  cuts = λ end more.
      let s = h.stands end more in record { spans = s.spans; front_is = s.front_is; cut = s.cut; tokens_are = s.tokens_are; in_profile = s.in_profile };
}

-- TAGS

record WholeTag (table : Entities) (opening body more : List Placed) : Type 0 where
  span : Span
  text_is : span.text ≡ opening ++ (body ++ more)
  is_tag : IsTag table 0 [] span

module _ {table : Entities} (opening : List Placed) {body : List Placed} (c : CanEnd table body) where
  text_of : ((opening ++ c.name) ++ parts_text c.parts) ++ c.close ≡ opening ++ (body ++ c.more)
  text_of = cc (append_assoc (opening ++ c.name) (parts_text c.parts) c.close, append_assoc opening c.name (parts_text c.parts ++ c.close))

  stop : stops ends_name (parts_text c.parts ++ (c.close ++ [])) ≡ true
  stop = rw (← (append_assoc (parts_text c.parts) c.close [])) (begins_stops ends_name (parts_text c.parts ++ c.close) [] c.ends)

  whole_tag : (which : TagKind) → characters opening ≡ tag_mark which → WholeTag table opening body c.more
  whole_tag tag.Start opens = record {
    span = record {
      text = opening ++ c.name ++ parts_text c.parts ++ c.close;
      tokens = Start (name_bytes c.name) (attributes_after [] c.parts) c.closing (place 0 opening) ∷ [];
      errors = tag_errors c.name c.parts;
    };
    text_is = text_of;
    is_tag = start_tag opening c.name c.parts c.close c.closing
        (record { opens = opens; first = c.first; runs = record { passes_none = c.passes; stops_after = stop }; in_parts = c.are_parts 0 [] }) c.closes refl;
  }
  whole_tag tag.End opens = record {
    span = record {
      text = opening ++ c.name ++ parts_text c.parts ++ c.close;
      tokens = End (name_bytes c.name) (place 0 opening) ∷ [];
      errors = tag_errors c.name c.parts ++ end_tag_errors c.parts c.closing (place 0 opening);
    };
    text_is = text_of;
    is_tag = end_tag opening c.name c.parts c.close c.closing
        (record { opens = opens; first = c.first; runs = record { passes_none = c.passes; stops_after = stop }; in_parts = c.are_parts 0 [] }) c.closes refl;
  }

-- DECLARATIONS

before_close : (text : List Placed) → all is_plain_in_bogus text ≡ true → text ≡ before closes_bogus (text ++ greater ∷ [])
before_close [] h = refl
before_close (p ∷ ps) h = grind (arith, nat_tests, before_close ps)

-- NAMES OF RAW TEXT

abbrev solidus : ℕ → Placed
solidus at = record { ch = 47; at = at }

-- what is left of a name, as a text
abbrev as_placed : List ℕ → List Placed
as_placed left = map (λ c. record { ch = c; at = 0 }) left

some_rest : (left : List ℕ) → is_empty (as_placed left ++ greater ∷ []) ≡ false
some_rest [] = refl
some_rest (c ∷ cs) = refl

-- letters, and what is left of a name that they agree with
record IsRest (letters : List Placed) (left : List ℕ) : Type 0 where
  are_letters : all is_letter (letters ++ as_placed left) ≡ true
  first : begins is_letter (letters ++ as_placed left) ≡ true
  lowers : lowered (letters ++ as_placed left) ≡ lowered letters ++ left

rest_lowers : (letters : List Placed) (left : List ℕ) → list_all is_lower (lowered letters ++ left) ≡ true
    → lowered (letters ++ as_placed left) ≡ lowered letters ++ left
rest_lowers [] [] h = refl
rest_lowers [] (c ∷ cs) h = grind (arith, nat_tests, rest_lowers [] cs)
rest_lowers (l ∷ ls) left h = grind (arith, nat_tests, rest_lowers ls left)

rest_letters : (letters : List Placed) (left : List ℕ) → all is_letter letters ≡ true → list_all is_lower (lowered letters ++ left) ≡ true
    → all is_letter (letters ++ as_placed left) ≡ true
rest_letters [] [] are h = refl
rest_letters [] (c ∷ cs) are h = grind (arith, nat_tests, rest_letters [] cs)
rest_letters (l ∷ ls) left are h = grind (arith, nat_tests, rest_letters ls left)

rest_first : (letters : List Placed) (left : List ℕ) → all is_letter (letters ++ as_placed left) ≡ true → is_word (lowered letters ++ left) ≡ true
    → begins is_letter (letters ++ as_placed left) ≡ true
rest_first [] [] are h = absurd cc
rest_first [] (c ∷ cs) are h = grind arith
rest_first (l ∷ ls) left are h = grind arith

rest_of : (letters : List Placed) (left : List ℕ) → all is_letter letters ≡ true → is_word (lowered letters ++ left) ≡ true → IsRest letters left
rest_of letters left are h = let lower = letters_of (lowered letters ++ left) h in let whole = rest_letters letters left are lower in
    record { are_letters = whole; first = rest_first letters left whole h; lowers = rest_lowers letters left lower }

name_can_end : (table : Entities) (letters : List Placed) (left : List ℕ) → IsRest letters left → CanEnd table letters
name_can_end table letters left r = record {
  more = as_placed left ++ greater ∷ [];
  name = letters ++ as_placed left;
  parts = [];
  close = greater ∷ [];
  closing = false;
  some = some_rest left;
  body_is = sym (append_assoc letters (as_placed left) (greater ∷ []));
  first = r.first;
  passes = letters_stay (letters ++ as_placed left) r.are_letters;
  ends = refl;
  are_parts = λ end rest. tt;
  closes = refl;
}

-- `a>` after a mark
least : (table : Entities) → CanEnd table []
least table = name_can_end table [] (97 ∷ []) (rest_of [] (97 ∷ []) refl refl)

-- BY STATE

module _ {table : Entities} (is_table : IsTable table) {start : RawKind} {names : Texts} {text : List Placed} {taken : List Event} {t : Tokenizer}
    (h : Reads table start t names text [] taken) where
  abbrev Begins : Type 0
  Begins = IsBeginning table h.here h.held

  -- a mark that opens a tag of data
  marked : (which : TagKind) (opening : List Placed) → h.held ≡ opening → characters opening ≡ tag_mark which → h.here.kind ≡ kind.None → Begins
  marked which opening held opens plain = let w = whole_tag opening (least table) which opens in
      inside (least table).more [] 0 w.span (least table).some (cc) (in_data table 0 h.here [] w.span plain (d.tag w.is_tag))

  in_markup : {W V : Type 0} (HasRead : W → List Placed → List ParseError → Type 0) (IsOne : ℕ → List Placed → List Placed → V → List ParseError → Type 0)
      (token : V → ℕ → Tok) (walk : W) (i : IsInMarkup HasRead IsOne token walk table t h.held []) (p : Placed) (ps : List Placed) (value : V)
      (errors : List ParseError) → IsOne 0 [] (i.body ++ (p ∷ ps)) value errors → h.here.kind ≡ kind.None → Begins
  in_markup HasRead IsOne token walk i p ps value errors is plain =
      let span : Span = record { text = i.opening ++ (i.body ++ (p ∷ ps)); tokens = token value t.at ∷ []; errors = i.first ++ errors } in
      inside (p ∷ ps) [] 0 span refl (cc (append_assoc i.opening i.body (p ∷ ps)))
      (in_data table 0 h.here [] span plain (i.opens 0 [] (p ∷ ps) value errors is))

  dash : Placed
  dash = record { ch = 45; at = 0 }

  in_comment : (which : CommentKind) (i : IsInMarkup (HasReadOf which) (IsCommentOf which) Comment t.comment table t h.held []) → h.here.kind ≡ kind.None
      → Begins
  unfolding dash
  in_comment comment.Comment i plain = let c = closed_span comment.Comment t.comment i.body (dash ∷ dash ∷ greater ∷ []) i.own i.has_read refl in
      in_markup (HasReadOf comment.Comment) (IsCommentOf comment.Comment) Comment t.comment i dash (dash ∷ greater ∷ []) c.value c.errors (c.is_span 0 []) plain
  in_comment comment.Bogus i plain = let c = closed_span comment.Bogus t.comment i.body (greater ∷ []) i.own i.has_read refl in
      in_markup (HasReadOf comment.Bogus) (IsCommentOf comment.Bogus) Comment t.comment i greater [] c.value c.errors (c.is_span 0 []) plain

  in_doctype : IsInMarkup HasReadDoctype IsDoctype doctype_token t.doctype table t h.held [] → h.here.kind ≡ kind.None → Begins
  in_doctype i plain = let c = closed_doctype t.doctype i.body (greater ∷ []) i.own i.has_read refl in
      in_markup HasReadDoctype IsDoctype doctype_token t.doctype i greater [] c.value c.errors (c.is_span 0 []) plain

  in_markup_declaration : (bang : ℕ) → h.held ≡ less t ∷ record { ch = 33; at = bang } ∷ t.held.items → OpensNothing t.held.items → h.here.kind ≡ kind.None
      → Begins
  in_markup_declaration bang held is plain = let opening : List Placed = less t ∷ record { ch = 33; at = bang } ∷ [] in
      let body : List Placed = t.held.items ++ greater ∷ [] in
      let none : is_declaration (body ++ []) ≡ false = ap is_declaration (append-nil body) ∙ bogus_at t.held.items greater [] is.none refl in
      let span : Span =
      comment_span 0 opening body (text_bytes t.held.items) (error IncorrectlyOpenedComment (place 0 (body ++ [])) ∷ null_errors t.held.items) in
      let bogus : IsBogus [] body (text_bytes t.held.items) (null_errors t.held.items) =
      closed_bogus t.held.items (greater ∷ []) refl (before_close t.held.items is.plain) refl refl refl in
      inside (greater ∷ []) [] 0 span refl (ap (λ (x : List Placed). x ++ greater ∷ []) (sym held))
      (in_data table 0 h.here [] span plain (d.bogus_declaration opening body (text_bytes t.held.items) (null_errors t.held.items) refl none bogus refl))

  in_tag : IsInMarkedTag table names h.here t h.held [] → Begins
  in_tag i = let c = tags_can_end table names t.tag i.body t.raised.errors.items is_table i.in_tag in
      let w = whole_tag (less t ∷ i.opening) c t.tag.kind i.opens in
      let same = w.text_is ∙ sym (append_assoc (less t ∷ i.opening) i.body c.more) ∙ ap (λ (x : List Placed). x ++ c.more) (sym i.held_is) in
      inside c.more [] 0 w.span c.some same (i.fits 0 [] c.more w.span same w.is_tag)

  referring : has_references h.here.kind ≡ true → IsInReference table h.here t h.held → Begins
  referring may i = let o = open_taken t.reference table i.read (record { ch = 38; at = t.at }) is_table i.has_taken refl in
      inside o.more o.rest 0 (piece_span o.piece) o.is_more (o.text_is ∙ ap (λ (x : List Placed). x ++ o.more) (sym i.held_is))
      (reference_is table 0 h.here o.rest o.piece may o.is_reference)

  -- in raw text: with what is left of the name and a `>` it is the end tag
  module _ (raw : is_raw h.here.kind ≡ true) (may : may_end h.here.kind h.here.front ≡ true) (named : h.here.name ≡ Some (string_bytes t.tag.name)) where
    word : is_word (string_bytes t.tag.name) ≡ true
    word = let s = h.stands 0 [] in raw_word start s.spans h.here (string_bytes t.tag.name) s.leads named raw

    raw_ends : (at : ℕ) (held letters : List Placed) (left : List ℕ) (more : List Placed) → h.held ≡ held → is_empty more ≡ false
        → held ++ more ≡ less t ∷ solidus at ∷ (letters ++ (as_placed left ++ greater ∷ [])) → all is_letter letters ≡ true
        → lowered letters ++ left ≡ string_bytes t.tag.name → Begins
    unfolding name_can_end
    raw_ends at held letters left more held_is some whole are agrees = let rest : IsRest letters left = rest_of letters left are (ap is_word agrees ∙ word) in
        let w = whole_tag (less t ∷ solidus at ∷ []) (name_can_end table letters left rest) tag.End refl in
        let text : w.span.text ≡ less t ∷ solidus at ∷ (letters ++ (as_placed left ++ greater ∷ [])) = w.text_is in
        let name_is : lowered (letters ++ as_placed left) ≡ string_bytes t.tag.name = rest.lowers ∙ agrees in
        let ends : is_raw_end h.here (less t ∷ solidus at ∷ ((letters ++ as_placed left) ++ greater ∷ [])) ≡ true = a_name h.here (string_bytes t.tag.name)
        named (less t) refl at ((letters ++ as_placed left) ++ greater ∷ []) may (rw (← name_is) (is_whole (letters ++ as_placed left) greater [] refl)) in
        inside more [] 0 w.span some (text ∙ sym whole ∙ ap (λ (x : List Placed). x ++ more) (sym held_is))
        (in_raw table 0 h.here [] w.span raw (raw_end (cc (append-nil w.span.text, append_assoc letters (as_placed left) (greater ∷ []))) w.is_tag))

  by_state : (s : State) → IsStateOf s h.here.kind → IsHeld s table names h.here t h.held [] → Begins
  by_state state.Text is_in has = nothing has.0
  by_state state.TagOpen is_in has = marked tag.Start (less t ∷ []) has.0 refl is_in
  by_state (state.EndTagOpen at) is_in has = marked tag.End (less t ∷ record { ch = 47; at = at } ∷ []) has.0 refl is_in
  by_state (state.MarkupDeclarationOpen bang) is_in has = in_markup_declaration bang has.0 has.2 is_in
  by_state state.Comment is_in (which, i) = in_comment which i is_in
  by_state state.Doctype is_in has = in_doctype has is_in
  by_state state.Tag is_in has = in_tag has
  by_state state.Reference is_in has = referring is_in has
  by_state state.AmbiguousAmpersand is_in has = absurd has
  by_state state.RcdataLessThanSign is_in has = raw_ends is_in has.may has.named 0 (less t ∷ []) [] (string_bytes t.tag.name)
      (solidus 0 ∷ (as_placed (string_bytes t.tag.name) ++ greater ∷ [])) has.held_is refl refl refl refl
  by_state (state.RcdataEndTagName at) is_in has = raw_ends is_in has.may has.named at (less t ∷ solidus at ∷ t.held.items) t.held.items has.left
      (as_placed has.left ++ greater ∷ []) has.held_is (some_rest has.left) refl has.letters has.agrees

pub held_begins : HeldBegins
held_begins table start t names text taken is_table (holds h) = record {
  front = h.front;
  held = h.held;
  here = h.here;
  text_is = h.text_is;
  cuts = λ end more.
      let s = h.stands end more in
      (record { spans = s.spans; front_is = s.front_is; cut = s.cut; tokens_are = s.tokens_are; in_profile = s.in_profile }, s.leads);
  from_is = cc (held_place t.state table names h.here t h.held h.is_held, append-nil text);
  begins = by_state is_table h t.state h.is_in h.is_held;
}
held_begins table start t names text taken is_table (in_ambiguous_ampersand h) = record {
  front = text;
  held = [];
  here = h.here;
  text_is = sym (append-nil text);
  cuts = λ end more.
      let s = h.stands end more in
      (record { spans = s.spans; front_is = s.front_is; cut = s.cut; tokens_are = s.tokens_are; in_profile = s.in_profile }, s.leads);
  from_is = cc (append-nil text);
  begins = nothing refl;
}
