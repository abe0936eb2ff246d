-- What tokens a span gives: one start tag, whose name begins with a letter, or none that is refused.
use Rattle.htoken.proofs.Names.{arith, ◌≡◌, ℕ, Bool, true, false, List, [], ◌∷◌, refl, false≢true, nat_tests, to_ascii_lowercase, Placed, RawKind, begins, is_letter, name_bytes, Entities, Piece, Tok, Start, Span, piece_span, Standing, IsTag, start_tag, end_tag, unfinished, IsDataSpan, character, reference, less_than_last, less_than_solidus_last, less_than, nothing, tag, comment, bogus_end_tag, bogus_question, bogus_cdata, bogus_declaration, doctype, IsRawSpan, IsSpanOf, IsSpan, raw_character, raw_reference, raw_end, has_refused, IsLastName, ◌<◌, map, encode_ascii, encode_utf8_all, without_null, Char, after_tokens, begins_letter}
use Rattle.names.specs.declared.raw.RawKind.TheVariants as kind

-- A NAME

first_letter : (c : ℕ) (others : List ℕ) → is_letter c ≡ true → begins_letter (encode_utf8_all (to_ascii_lowercase (without_null c) ∷ others)) ≡ true
first_letter c others h = let kept : without_null c ≡ c = grind (arith, nat_tests) in let small : to_ascii_lowercase c < 128 = grind (arith, nat_tests) in
    let low : is_letter (to_ascii_lowercase c) ≡ true = grind (arith, nat_tests) in
    cc (encode_ascii (to_ascii_lowercase c) small)

pub name_letter : (name : List Placed) → begins is_letter name ≡ true → begins_letter (name_bytes name) ≡ true
name_letter [] h = absurd (false≢true h)
name_letter (p ∷ ps) h = first_letter p.ch (map (λ (q : Placed). to_ascii_lowercase (without_null q.ch)) ps) h

-- TOKENS

abbrev NoStart : List Tok → Type 0
NoStart (Start name attrs closing at ∷ others) = ⊥
NoStart _ = Unit {0}

pub data IsShape (tokens : List Tok) : Type 0 where
  others : has_refused tokens ≡ false → NoStart tokens → IsShape tokens
  a_start : (name : List ℕ) (attrs : List (List ℕ × List ℕ)) (closing : Bool) (at : ℕ) → tokens ≡ Start name attrs closing at ∷ [] → begins_letter name ≡ true
      → IsShape tokens

none_refused : (at : ℕ) (cs : List ℕ) → has_refused (map (λ (c : ℕ). Char c at) cs) ≡ false
none_refused at [] = refl
none_refused at (c ∷ cs) = none_refused at cs

no_start : (at : ℕ) (cs : List ℕ) → NoStart (map (λ (c : ℕ). Char c at) cs)
no_start at [] = tt
no_start at _ = tt

shape_of : (span span' : Span) → span ≡ span' → IsShape span'.tokens → IsShape span.tokens
shape_of span span' e h = rw e h

piece_shape : (piece : Piece) (span : Span) → span ≡ piece_span piece → IsShape span.tokens
piece_shape piece span is = shape_of span (piece_span piece) is (others (none_refused _ piece.gives) (no_start _ piece.gives))

module _ (table : Entities) (end : ℕ) (rest : List Placed) (span : Span) where
  tag_shape : IsTag table end rest span → IsShape span.tokens
  tag_shape (start_tag opening name parts close closing front c is) =
      shape_of span _ is (a_start (name_bytes name) _ closing _ refl (name_letter name front.first))
  tag_shape (end_tag opening name parts close closing front c is) = shape_of span _ is (others refl tt)
  tag_shape (unfinished mark opening name parts m front r is) = shape_of span _ is (others refl tt)

  data_shape : IsDataSpan table end rest span → IsShape span.tokens
  data_shape (character p other is) = shape_of span _ is (others refl tt)
  data_shape (reference piece h is) = piece_shape piece span is
  data_shape (less_than_last p h r is) = shape_of span _ is (others refl tt)
  data_shape (less_than_solidus_last p h r is) = shape_of span _ is (others refl tt)
  data_shape (less_than p h r is) = shape_of span _ is (others refl tt)
  data_shape (nothing opening close o l is) = shape_of span _ is (others refl tt)
  data_shape (tag h) = tag_shape h
  data_shape (comment opening body contents errors o b is) = shape_of span _ is (others refl tt)
  data_shape (bogus_end_tag opening body contents errors o first b is) = shape_of span _ is (others refl tt)
  data_shape (bogus_question opening body contents errors o first b is) = shape_of span _ is (others refl tt)
  data_shape (bogus_cdata opening body contents errors o first b is) = shape_of span _ is (others refl tt)
  data_shape (bogus_declaration opening body contents errors o first b is) = shape_of span _ is (others refl tt)
  data_shape (doctype opening body found errors o d is) = shape_of span _ is (others refl tt)

  module _ (here : Standing) where
    raw_shape : IsRawSpan table end here rest span → IsShape span.tokens
    raw_shape (raw_character p n a is) = shape_of span _ is (others refl tt)
    raw_shape (raw_reference piece r h is) = piece_shape piece span is
    raw_shape (raw_end k t) = tag_shape t

    shape_by : (k : RawKind) → IsSpanOf k table end here rest span → IsShape span.tokens
    shape_by kind.None h = data_shape h
    shape_by _ h = raw_shape h

pub span_shape : (table : Entities) (end : ℕ) (here : Standing) (rest : List Placed) (span : Span) → IsSpan table end here rest span → IsShape span.tokens
span_shape table end here rest span h = shape_by table end rest span here here.kind h

-- a name stays one
no_start_name : (here : Standing) (text : List Placed) (tokens : List Tok) → IsLastName here.name → NoStart tokens
    → IsLastName (after_tokens here text tokens).name
no_start_name here text (Start name attrs closing at ∷ ts) h n = absurd n
no_start_name here text _ h n = h

pub next_name : (here : Standing) (text : List Placed) (tokens : List Tok) → IsLastName here.name → IsShape tokens
    → IsLastName (after_tokens here text tokens).name
next_name here text tokens h (others r n) = no_start_name here text tokens h n
next_name here text tokens h (a_start name attrs closing at is l) = rw is l
