-- The spans at the front of a text that are there whatever follows are among those that a tokenizer has handed over.
use Rattle.htoken.proofs.Names.{◌≡◌, ℕ, false, List, [], ◌∷◌, ◌++◌, length, sym, ap, ◌∙◌, append_assoc, append-nil, arith, length-append, false≢true, flat_map-append, Placed, RawKind, is_empty, Entities, Span, Event, at_start, IsSpan, spans_text, tokens_of, has_refused, tokens_in, inside, IsCutAt, HoldsBeginning, AreSettled, AreTaken, SettledAreTaken}
use Rattle.htoken.specs.Beginning.{nothing}
use Rattle.htoken.proofs.Held.{held_begins}
use Rattle.htoken.proofs.OneCut.{first, goes_on, one_is_front, refused_parts}
use Rattle.htoken.proofs.OneSpan.{one_span, some_span}

taken_front : (taken : List Event) (spans whole more : List Span) → whole ≡ spans ++ more → tokens_in taken ≡ tokens_of whole
    → has_refused (tokens_of whole) ≡ false → AreTaken taken spans
taken_front taken spans whole more is tokens_are in_profile =
    let both : tokens_of whole ≡ tokens_of spans ++ tokens_of more = ap tokens_of is ∙ flat_map-append (λ (s : Span). s.tokens) spans more in
    record {
      others = tokens_of more;
      tokens_are = tokens_are ∙ both;
      in_profile = (refused_parts (tokens_of spans) (tokens_of more) (sym (ap has_refused both) ∙ in_profile)).0;
    }

-- a text is no shorter than itself with one before it
no_longer : (more a b rest : List Placed) → is_empty more ≡ false → a ++ (b ++ (more ++ rest)) ≡ rest → ⊥
no_longer [] a b rest some e = false≢true (sym some)
no_longer (m ∷ ms) a b rest some e = let long : length (a ++ (b ++ ((m ∷ ms) ++ rest))) ≡ length rest = ap length e in
    omega (arith, length-append a (b ++ ((m ∷ ms) ++ rest)), length-append b ((m ∷ ms) ++ rest), length-append (m ∷ ms) rest)

module _ {table : Entities} {start : RawKind} {text : List Placed} {taken : List Event} {at : ℕ} {spans : List Span}
    (h : HoldsBeginning table start text taken at) (s : AreSettled table start text spans) where
  -- with any text after it
  module _ (end : ℕ) (more : List Placed) where
    abbrev here_cut : IsCutAt table start end h.front (h.held ++ more) taken
    here_cut = (h.cuts end more).0

    texts : spans_text spans ++ (s.rest ++ more) ≡ spans_text here_cut.spans ++ (h.held ++ more)
    texts = sym (append_assoc (spans_text spans) s.rest more) ∙ ap (λ (x : List Placed). x ++ more) (sym s.text_is ∙ h.text_is)
        ∙ append_assoc h.front h.held more ∙ ap (λ (x : List Placed). x ++ (h.held ++ more)) here_cut.front_is

    are_taken : ((span : Span) (others : List Span) → IsSpan table end h.here (spans_text others ++ (s.rest ++ more)) span
        → h.held ++ more ≡ span.text ++ (spans_text others ++ (s.rest ++ more)) → ⊥) → AreTaken taken spans
    are_taken none = elim (one_is_front table end (s.rest ++ more) (h.held ++ more) (at_start start) spans here_cut.spans (s.cut end more) here_cut.cut texts) [
      | first k ↦ taken_front taken spans here_cut.spans k.more k.whole_is here_cut.tokens_are here_cut.in_profile
      | goes_on span others split is whole ↦ absurd (none span others (rw (← (h.cuts end more).1) is) whole)
    ]

  settled_taken : AreTaken taken spans
  settled_taken = elim h.begins [
    | nothing none ↦
        are_taken 0 [] (λ span others is whole. some_span table 0 h.here (spans_text others ++ (s.rest ++ [])) span is (sym (append-nil h.held ∙ none) ∙ whole))
    | inside more rest end span some text is ↦ are_taken end (more ++ rest) (λ other others is' whole.
        let same = one_span table end h.here (spans_text others ++ (s.rest ++ (more ++ rest))) rest other span is' is
        (sym whole ∙ sym (append_assoc h.held more rest) ∙ ap (λ (x : List Placed). x ++ rest) (sym text)) in
        no_longer more (spans_text others) s.rest rest some same.1)
  ]

pub settled_are_taken : SettledAreTaken
settled_are_taken table start t names text taken spans is_table has s = settled_taken (held_begins table start t names text taken is_table has) s
