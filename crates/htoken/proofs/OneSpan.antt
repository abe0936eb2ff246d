-- One span at most of each kind is at the front of a text.
use Rattle.htoken.proofs.Names.{◌≡◌, ℕ, Bool, true, false, ◌&&◌, eqb, List, [], ◌∷◌, ◌++◌, Option, Some, None, sym, refl, ap, ◌∙◌, false≢true, eqb-true, not_second, Placed, RawKind, begins, spells, and_parts, Entities, Piece, IsReference, Span, piece_span, Standing, plain_piece, is_end_tag_of, is_raw_end, may_end, tag, IsRawSpan, IsSpanOf, IsSpan, has_references, raw_character, raw_reference, raw_end, length, subst, codes, append_assoc, length-map, to_ascii_lowercase, ParseError, IncorrectlyOpenedComment, characters, lowered, place, is_letter, error, CommentKind, IsDoctype, same_front, parts_text, IsTag, IsDataSpan, comment_span, character, reference, less_than_last, less_than_solidus_last, less_than, nothing, comment, bogus_end_tag, bogus_question, bogus_cdata, bogus_declaration, doctype, ErrorCode, CdataInHtmlContent, EofBeforeTagName, InvalidFirstCharacterOfTagName, MissingEndTagName, UnexpectedQuestionMarkInsteadOfTagName, IsCommentSpan, Found, one_doctype, character_span, less_span, doctype_span}
use Rattle.charref.proofs.OneReference.{one_of as one_reference}
use Rattle.names.specs.declared.raw.RawKind.TheVariants as kind
use Rattle.htoken.proofs.Words.{heads, tails, begins_more, is_amp, at_amp, no_reference, same_mark}
use Rattle.hmarkup.specs.declared.comment.CommentKind.TheVariants as comments
use Rattle.hmarkup.proofs.OneSpan.{one_of}
use Rattle.htoken.proofs.OneTag.{Side, IsTagOf, IsOfSide, of_side, side_of, one_of_side, tag_whole}
use Rattle.htoken.proofs.CutClasses as c

-- one character, and what `f` says of it and of what follows
record IsOne (f : Placed → List Placed → Span) (rest : List Placed) (span : Span) : Type 0 where
  p : Placed
  span_is : span ≡ f p rest

record IsAReference (table : Entities) (rest : List Placed) (span : Span) : Type 0 where
  piece : Piece
  is_reference : IsReference table false rest piece
  span_is : span ≡ piece_span piece

abbrev nothing_span : ℕ → List Placed → List Placed → Span
nothing_span end opening close = record { text = opening ++ close; tokens = []; errors = error MissingEndTagName (place end close) ∷ [] }

record IsNothing (end : ℕ) (rest : List Placed) (span : Span) : Type 0 where
  opening : List Placed
  close : List Placed
  opens : characters opening ≡ codes "</"
  closes : characters close ≡ codes ">"
  span_is : span ≡ nothing_span end opening close

-- a comment after a mark, which makes these errors
abbrev marked_span : ℕ → (List Placed → List Placed → List ParseError) → List Placed → List Placed → List Placed → List ℕ → List ParseError → Span
marked_span end first rest opening body contents errors = comment_span end opening body contents (first body rest ++ errors)

record IsMarked (end : ℕ) (kind : CommentKind) (mark : List ℕ) (first : List Placed → List Placed → List ParseError) (rest : List Placed) (span : Span) : Type
    0 where
  opening : List Placed
  body : List Placed
  contents : List ℕ
  errors : List ParseError
  opens : characters opening ≡ mark
  is_span : IsCommentSpan kind end rest body contents errors
  span_is : span ≡ marked_span end first rest opening body contents errors

record IsADoctype (end : ℕ) (rest : List Placed) (span : Span) : Type 0 where
  opening : List Placed
  body : List Placed
  found : Found
  errors : List ParseError
  opens : lowered opening ≡ codes "<!doctype"
  is_doctype : IsDoctype end rest body found errors
  span_is : span ≡ doctype_span end opening body found errors

abbrev alone : Placed → List Placed → Span
alone p rest = character_span p

abbrev less_last : ℕ → Placed → List Placed → Span
less_last end p rest = less_span p (error EofBeforeTagName end)

abbrev less : ℕ → Placed → List Placed → Span
less end p rest = less_span p (error InvalidFirstCharacterOfTagName (place end rest))

abbrev at_body : ErrorCode → ℕ → List Placed → List Placed → List ParseError
at_body code end body rest = error code (place end body) ∷ []

abbrev at_whole : ErrorCode → ℕ → List Placed → List Placed → List ParseError
at_whole code end body rest = error code (place end (body ++ rest)) ∷ []

abbrev no_error : List Placed → List Placed → List ParseError
no_error body rest = []

abbrev Stands : Entities → c.Class → ℕ → List Placed → Span → Type 0
Stands table c.Empty end rest span = ⊥
Stands table c.Alone end rest span = IsOne alone rest span
Stands table c.Ampersand end rest span = IsAReference table rest span
Stands table c.LessLast end rest span = IsOne (less_last end) rest span
Stands table c.Less end rest span = IsOne (less end) rest span
Stands table c.Nothing end rest span = IsNothing end rest span
Stands table (c.ATag side) end rest span = IsTagOf table end side rest span
Stands table c.AComment end rest span = IsMarked end comments.Comment (codes "<!--") no_error rest span
Stands table c.BogusEnd end rest span = IsMarked end comments.Bogus (codes "</") (at_body InvalidFirstCharacterOfTagName end) rest span
Stands table c.BogusQuestion end rest span = IsMarked end comments.Bogus (codes "<") (at_body UnexpectedQuestionMarkInsteadOfTagName end) rest span
Stands table c.BogusCdata end rest span = IsMarked end comments.Bogus (codes "<!") (at_body CdataInHtmlContent end) rest span
Stands table c.BogusDeclaration end rest span = IsMarked end comments.Bogus (codes "<!") (at_whole IncorrectlyOpenedComment end) rest span
Stands table c.ADoctype end rest span = IsADoctype end rest span

marked_whole : (opening body rest : List Placed) (span : Span) → span.text ≡ opening ++ body → span.text ++ rest ≡ opening ++ (body ++ rest)
marked_whole opening body rest span e = cc (append_assoc opening body rest)

-- WHAT STANDS IN A CLASS

module _ (table : Entities) (end : ℕ) (rest : List Placed) (span : Span) where
  -- where the whole text is of a class
  of_class : (k : c.Class) (text : List Placed) → span.text ++ rest ≡ text → c.class_of text ≡ k → Stands table k end rest span
      → Stands table (c.class_of (span.text ++ rest)) end rest span
  of_class k text e is h = rw (ap c.class_of e ∙ is) h

  less_stands : (k : c.Class) (p : Placed) (e : ParseError) → p.ch ≡ 60 → c.class_less rest ≡ k → span ≡ less_span p e → Stands table k end rest span
      → Stands table (c.class_of (span.text ++ rest)) end rest span
  less_stands k p e h is span_is stands = of_class k (p ∷ rest) (ap (λ (s : Span). s.text ++ rest) span_is) (c.past_less p rest h ∙ is) stands

  marked_stands : (k : c.Class) (opening body : List Placed) → span.text ≡ opening ++ body → c.class_of (opening ++ (body ++ rest)) ≡ k
      → Stands table k end rest span → Stands table (c.class_of (span.text ++ rest)) end rest span
  marked_stands k opening body t is stands = of_class k (opening ++ (body ++ rest)) (marked_whole opening body rest span t) is stands

  pub tag_stands : (side : Side) → IsTagOf table end side rest span → c.class_of (span.text ++ rest) ≡ c.ATag side
  tag_stands side h = ap c.class_of (tag_whole end side h.opening h.name h.parts h.after rest h.ends) ∙ c.tag_class side h.opening
      (h.name ++ (parts_text h.parts ++ h.after)) h.front.opens (begins_more is_letter h.name (parts_text h.parts ++ h.after) h.front.first)

  side_stands : (side : Side) → IsTagOf table end side rest span → Stands table (c.class_of (span.text ++ rest)) end rest span
  side_stands side h = rw (tag_stands side h) h

  -- which its production says
  stands_of : IsDataSpan table end rest span → Stands table (c.class_of (span.text ++ rest)) end rest span
  stands_of (character p other is) =
      of_class c.Alone (p ∷ rest) (ap (λ (s : Span). s.text ++ rest) is) (c.alone_class (eqb p.ch 60) (eqb p.ch 38) rest other) (record { p = p; span_is = is })
  stands_of (reference piece h is) = of_class c.Ampersand (piece.text ++ rest) (ap (λ (s : Span). s.text ++ rest) is) (c.amp_class piece.text rest (at_amp h))
      (record { piece = piece; is_reference = h; span_is = is })
  stands_of (less_than_last p h r is) = less_stands c.LessLast p (error EofBeforeTagName end) h (c.end_follows rest r) is (record { p = p; span_is = is })
  stands_of (less_than_solidus_last p h r is) =
      less_stands c.LessLast p (error EofBeforeTagName end) h (c.solidus_and_end_follow rest r) is (record { p = p; span_is = is })
  stands_of (less_than p h r is) =
      less_stands c.Less p (error InvalidFirstCharacterOfTagName (place end rest)) h (c.no_markup_follows rest r) is (record { p = p; span_is = is })
  stands_of (nothing opening close o l is) =
      marked_stands c.Nothing opening close (ap (λ (s : Span). s.text) is) (c.opens_solidus opening (close ++ rest) o ∙ c.greater_follows close rest l)
      (record { opening = opening; close = close; opens = o; closes = l; span_is = is })
  stands_of (tag h) = by (side_of table end rest h) where
    by : IsOfSide table end rest span → Stands table (c.class_of (span.text ++ rest)) end rest span
    by (of_side side k) = side_stands side k
  stands_of (comment opening body contents errors o b is) =
      marked_stands c.AComment opening body (ap (λ (s : Span). s.text) is) (c.opens_comment opening (body ++ rest) o)
      (record { opening = opening; body = body; contents = contents; errors = errors; opens = o; is_span = b; span_is = is })
  stands_of (bogus_end_tag opening body contents errors o first b is) = marked_stands c.BogusEnd opening body (ap (λ (s : Span). s.text) is)
      (c.opens_solidus opening (body ++ rest) o ∙ c.other_ends (body ++ rest) (begins_more _ body rest first))
      (record { opening = opening; body = body; contents = contents; errors = errors; opens = o; is_span = b; span_is = is })
  stands_of (bogus_question opening body contents errors o first b is) = marked_stands c.BogusQuestion opening body (ap (λ (s : Span). s.text) is)
      (c.opens_less opening (body ++ rest) o ∙ c.question_follows (body ++ rest) (begins_more _ body rest first))
      (record { opening = opening; body = body; contents = contents; errors = errors; opens = o; is_span = b; span_is = is })
  stands_of (bogus_cdata opening body contents errors o first b is) =
      marked_stands c.BogusCdata opening body (ap (λ (s : Span). s.text) is) (c.opens_bang opening (body ++ rest) o ∙ c.cdata_more body rest first)
      (record { opening = opening; body = body; contents = contents; errors = errors; opens = o; is_span = b; span_is = is })
  stands_of (bogus_declaration opening body contents errors o first b is) = marked_stands c.BogusDeclaration opening body (ap (λ (s : Span). s.text) is)
      (c.opens_bang opening (body ++ rest) o ∙ c.declaration_follows (body ++ rest) first)
      (record { opening = opening; body = body; contents = contents; errors = errors; opens = o; is_span = b; span_is = is })
  stands_of (doctype opening body found errors o d is) =
      marked_stands c.ADoctype opening body (ap (λ (s : Span). s.text) is) (c.opens_doctype opening (body ++ rest) o)
      (record { opening = opening; body = body; found = found; errors = errors; opens = o; is_doctype = d; span_is = is })

-- ONE OF A CLASS

abbrev Same : List Placed → List Placed → Span → Span → Type 0
Same rest rest' span span' = (span ≡ span') × (rest ≡ rest')

module _ {rest rest' : List Placed} {span span' : Span} (e : span.text ++ rest ≡ span'.text ++ rest') where
  one_character : (f : Placed → List Placed → Span) → ((p : Placed) (more : List Placed) → (f p more).text ≡ p ∷ []) → IsOne f rest span → IsOne f rest' span'
      → Same rest rest' span span'
  one_character f text h k = let whole : h.p ∷ rest ≡ k.p ∷ rest' = cc (text h.p rest, text k.p rest') in
      let others : rest ≡ rest' = tails h.p k.p rest rest' whole in
      (cc (heads h.p k.p rest rest' whole), others)

  one_amp : (table : Entities) → IsAReference table rest span → IsAReference table rest' span' → Same rest rest' span span'
  one_amp table h k = let same = one_reference table false h.piece k.piece rest rest' h.is_reference k.is_reference (cc) in
      (h.span_is ∙ ap piece_span same.0 ∙ sym k.span_is, same.1)

  one_nothing : (end : ℕ) → IsNothing end rest span → IsNothing end rest' span' → Same rest rest' span span'
  one_nothing end h k =
      let marks = same_mark (codes "</") h.opening (h.close ++ rest) k.opening (k.close ++ rest') h.opens k.opens
      (sym (marked_whole h.opening h.close rest span (ap (λ (s : Span). s.text) h.span_is)) ∙ e
      ∙ marked_whole k.opening k.close rest' span' (ap (λ (s : Span). s.text) k.span_is)) in
      let closes = same_mark (codes ">") h.close rest k.close rest' h.closes k.closes marks.1 in
      (cc (marks.0, closes.0), closes.1)

  one_marked : (end : ℕ) (kind : CommentKind) (mark : List ℕ) (first : List Placed → List Placed → List ParseError) → IsMarked end kind mark first rest span
      → IsMarked end kind mark first rest' span' → Same rest rest' span span'
  one_marked end kind mark first h k =
      let marks = same_mark mark h.opening (h.body ++ rest) k.opening (k.body ++ rest') h.opens k.opens
      (sym (marked_whole h.opening h.body rest span (ap (λ (s : Span). s.text) h.span_is)) ∙ e
      ∙ marked_whole k.opening k.body rest' span' (ap (λ (s : Span). s.text) k.span_is)) in
      let same = one_of kind end rest rest' h.body k.body h.contents k.contents h.errors k.errors h.is_span k.is_span marks.1 in
      (h.span_is ∙ (λ i. marked_span end first (same.1 i) (marks.0 i) (same.0 i) (same.2 i) (same.3 i)) ∙ sym k.span_is, same.1)

  one_type : (end : ℕ) → IsADoctype end rest span → IsADoctype end rest' span' → Same rest rest' span span'
  one_type end h k =
      let marks =
      same_front h.opening (h.body ++ rest) k.opening (k.body ++ rest') (sym (marked_whole h.opening h.body rest span (ap (λ (s : Span). s.text) h.span_is))
      ∙ e ∙ marked_whole k.opening k.body rest' span' (ap (λ (s : Span). s.text) k.span_is))
      (sym (length-map h.opening (λ (p : Placed). to_ascii_lowercase p.ch)) ∙ ap length (h.opens ∙ sym k.opens)
      ∙ length-map k.opening (λ (p : Placed). to_ascii_lowercase p.ch)) in
      let same = one_doctype end rest rest' h.body k.body h.found k.found h.errors k.errors h.is_doctype k.is_doctype marks.1 in
      (h.span_is ∙ (λ i. doctype_span end (marks.0 i) (same.0 i) (same.2 i) (same.3 i)) ∙ sym k.span_is, same.1)

one_of_class : (table : Entities) (k : c.Class) (end : ℕ) (rest rest' : List Placed) (span span' : Span) → Stands table k end rest span
    → Stands table k end rest' span' → span.text ++ rest ≡ span'.text ++ rest' → Same rest rest' span span'
one_of_class table c.Empty end rest rest' span span' h k e = absurd h
one_of_class table c.Alone end rest rest' span span' h k e = one_character e alone (λ p more. refl) h k
one_of_class table c.Ampersand end rest rest' span span' h k e = one_amp e table h k
one_of_class table c.LessLast end rest rest' span span' h k e = one_character e (less_last end) (λ p more. refl) h k
one_of_class table c.Less end rest rest' span span' h k e = one_character e (less end) (λ p more. refl) h k
one_of_class table c.Nothing end rest rest' span span' h k e = one_nothing e end h k
one_of_class table (c.ATag side) end rest rest' span span' h k e = one_of_side table rest' span' h k e
one_of_class table c.AComment end rest rest' span span' h k e = one_marked e end comments.Comment (codes "<!--") no_error h k
one_of_class table c.BogusEnd end rest rest' span span' h k e = one_marked e end comments.Bogus (codes "</") (at_body InvalidFirstCharacterOfTagName end) h k
one_of_class table c.BogusQuestion end rest rest' span span' h k e =
    one_marked e end comments.Bogus (codes "<") (at_body UnexpectedQuestionMarkInsteadOfTagName end) h k
one_of_class table c.BogusCdata end rest rest' span span' h k e = one_marked e end comments.Bogus (codes "<!") (at_body CdataInHtmlContent end) h k
one_of_class table c.BogusDeclaration end rest rest' span span' h k e = one_marked e end comments.Bogus (codes "<!") (at_whole IncorrectlyOpenedComment end) h k
one_of_class table c.ADoctype end rest rest' span span' h k e = one_type e end h k

pub one_data_span : (table : Entities) (end : ℕ) (rest rest' : List Placed) (span span' : Span) → IsDataSpan table end rest span
    → IsDataSpan table end rest' span' → span.text ++ rest ≡ span'.text ++ rest' → (span ≡ span') × (rest ≡ rest')
one_data_span table end rest rest' span span' h k e =
    one_of_class table (c.class_of (span.text ++ rest)) end rest rest' span span' (stands_of table end rest span h) (rw e (stands_of table end rest' span' k)) e

pub one_tag : (table : Entities) (end : ℕ) (rest rest' : List Placed) (span span' : Span) → IsTag table end rest span → IsTag table end rest' span'
    → span.text ++ rest ≡ span'.text ++ rest' → (span ≡ span') × (rest ≡ rest')
one_tag table end rest rest' span span' h k e = one_data_span table end rest rest' span span' (tag h) (tag k) e

-- none at the end
pub some_data : (table : Entities) (end : ℕ) (rest : List Placed) (span : Span) → IsDataSpan table end rest span → [] ≡ span.text ++ rest → ⊥
some_data table end rest span h e = subst (λ (x : List Placed). Stands table (c.class_of x) end rest span) (sym e) (stands_of table end rest span h)

-- a raw text ends at a `<`
first_of : (a b c : Bool) → (a && b && c) ≡ true → a ≡ true
first_of true b c h = refl
first_of false b c h = absurd (false≢true h)

end_tag_less : (name : Option (List ℕ)) (text : List Placed) → is_end_tag_of name text ≡ true → begins is_amp text ≡ false
end_tag_less None text h = absurd (false≢true h)
end_tag_less (Some name) [] h = refl
end_tag_less (Some name) (p ∷ ps) h =
    ap (λ (c : ℕ). eqb c 38) (eqb-true p.ch 60 (and_parts (eqb p.ch 60) (spells (47 ∷ []) ps) (first_of (spells (60 ∷ 47 ∷ []) (p ∷ ps)) _ _ h)).0)

module _ (table : Entities) (end : ℕ) (here : Standing) where
  piece_whole : (rest : List Placed) (span : Span) (piece : Piece) → span ≡ piece_span piece → span.text ++ rest ≡ piece.text ++ rest
  piece_whole rest span piece is = ap (λ (s : Span). s.text ++ rest) is

  -- a reference is no end, and no character
  no_end : (rest rest' : List Placed) (span : Span) (piece : Piece) → IsReference table false rest' piece → is_raw_end here (span.text ++ rest) ≡ true
      → span.text ++ rest ≡ piece.text ++ rest' → ⊥
  no_end rest rest' span piece h k e =
      false≢true (sym (end_tag_less here.name (span.text ++ rest) (and_parts (may_end here.kind here.front) (is_end_tag_of here.name (span.text ++ rest)) k).1)
      ∙ ap (begins is_amp) e ∙ begins_more is_amp piece.text rest' (at_amp h))

  module _ (rest rest' : List Placed) (span span' : Span) (e : span.text ++ rest ≡ span'.text ++ rest') where
    one_raw : IsRawSpan table end here rest span → IsRawSpan table end here rest' span' → (span ≡ span') × (rest ≡ rest')
    one_raw (raw_character p n a is) (raw_character p' n' a' is') =
        let whole : p ∷ rest ≡ p' ∷ rest' = sym (piece_whole rest span (plain_piece p) is) ∙ e ∙ piece_whole rest' span' (plain_piece p') is' in
        (cc (heads p p' rest rest' whole), tails p p' rest rest' whole)
    one_raw (raw_character p n a is) (raw_reference piece' r' h' is') = absurd (no_reference p rest rest' piece'
        (not_second (has_references here.kind) (eqb p.ch 38) a r') h' (sym (piece_whole rest span (plain_piece p) is) ∙ e ∙ piece_whole rest' span' piece' is'))
    one_raw (raw_character p n a is) (raw_end k' t') = absurd (false≢true (cc (piece_whole rest span (plain_piece p) is)))
    one_raw (raw_reference piece r h is) (raw_character p' n' a' is') =
        absurd (no_reference p' rest' rest piece (not_second (has_references here.kind) (eqb p'.ch 38) a' r) h
        (sym (piece_whole rest' span' (plain_piece p') is') ∙ sym e ∙ piece_whole rest span piece is))
    one_raw (raw_reference piece r h is) (raw_reference piece' r' h' is') =
        let same = one_reference table false piece piece' rest rest' h h' (sym (piece_whole rest span piece is) ∙ e ∙ piece_whole rest' span' piece' is') in
        (is ∙ ap piece_span same.0 ∙ sym is', same.1)
    one_raw (raw_reference piece r h is) (raw_end k' t') = absurd (no_end rest' rest span' piece h k' (sym e ∙ piece_whole rest span piece is))
    one_raw (raw_end k t) (raw_character p' n' a' is') = absurd (false≢true (cc (piece_whole rest' span' (plain_piece p') is')))
    one_raw (raw_end k t) (raw_reference piece' r' h' is') = absurd (no_end rest rest' span piece' h' k (e ∙ piece_whole rest' span' piece' is'))
    one_raw (raw_end k t) (raw_end k' t') = one_tag table end rest rest' span span' t t' e

    one_span_of : (k : RawKind) → IsSpanOf k table end here rest span → IsSpanOf k table end here rest' span' → (span ≡ span') × (rest ≡ rest')
    one_span_of kind.None h h' = one_data_span table end rest rest' span span' h h' e
    one_span_of _ h h' = one_raw h h'

  module _ (rest : List Placed) (span : Span) (e : [] ≡ span.text ++ rest) where
    some_raw : IsRawSpan table end here rest span → ⊥
    some_raw (raw_character p n a is) = let no_way : [] ≡ p ∷ rest = e ∙ piece_whole rest span (plain_piece p) is in absurd cc
    some_raw (raw_reference piece r h is) = false≢true (ap (begins is_amp) (e ∙ piece_whole rest span piece is) ∙ begins_more is_amp piece.text rest (at_amp h))
    some_raw (raw_end k t) = some_data table end rest span (tag t) e

    some_span_of : (k : RawKind) → IsSpanOf k table end here rest span → ⊥
    some_span_of kind.None h = some_data table end rest span h e
    some_span_of _ h = some_raw h

pub one_span : (table : Entities) (end : ℕ) (here : Standing) (rest rest' : List Placed) (span span' : Span) → IsSpan table end here rest span
    → IsSpan table end here rest' span' → span.text ++ rest ≡ span'.text ++ rest' → (span ≡ span') × (rest ≡ rest')
one_span table end here rest rest' span span' h h' e = one_span_of table end here rest rest' span span' e here.kind h h'

-- none at the end
pub some_span : (table : Entities) (end : ℕ) (here : Standing) (rest : List Placed) (span : Span) → IsSpan table end here rest span → [] ≡ span.text ++ rest → ⊥
some_span table end here rest span h e = some_span_of table end here rest span e here.kind h
