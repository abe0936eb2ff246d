-- Exactly one cut, and what a front of it gives.
use Rattle.htoken.proofs.Names.{◌≡◌, ℕ, List, [], ◌∷◌, ◌++◌, sym, refl, ap, ◌∙◌, append_assoc, append-nil, flat_map-append, Placed, Entities, Tok, Eof, Span, Standing, at_start, standing_after, spans_text, Cut, tokens_of, tokens_in, eof_of, ExactlyOneCut, OneFront, OneFrontOfRefused}
use Rattle.htoken.proofs.OneSpan.{some_span}
use Rattle.htoken.proofs.OneCut.{first_of, Any, any_fits, none_at_end, InProfile, all_in_profile, none_where_refused, one_whole_cut}
use Rattle.htoken.proofs.SomeCut.{some_cut}

pub exactly_one_cut : ExactlyOneCut
exactly_one_cut table start text end is_table = let k = some_cut table start text end is_table in
    (k, λ other. one_whole_cut table start text end other.spans k.spans other.text_is other.cut k.text_is k.cut)

none_left : (table : Entities) (end : ℕ) (here : Standing) (more : List Span) → Cut table end here more [] → [] ≡ spans_text more → more ≡ []
none_left table end here [] c e = refl
none_left table end here (m ∷ ms) (first, c) e = absurd (some_span table end here (spans_text ms ++ []) m first (cc (append-nil (spans_text ms))))

tokens_append : (xs ys : List Span) → tokens_of (xs ++ ys) ≡ tokens_of xs ++ tokens_of ys
tokens_append xs ys = flat_map-append (λ (s : Span). s.tokens) xs ys

module _ (table : Entities) (end : ℕ) (here : Standing) (spans more : List Span) (given others : List Tok) where
  front_by : (c : Cut table end (standing_after here spans) more []) (rest : List Placed) → rest ≡ spans_text more
      → given ++ others ≡ tokens_of spans ++ eof_of end rest → (left : List Tok) × (tokens_of (spans ++ more) ++ Eof end ∷ [] ≡ given ++ left)
  front_by c [] r f = let none : more ≡ [] = none_left table end (standing_after here spans) more c r in (others, cc (append-nil spans))
  front_by c (p ∷ ps) r f = let last : List Tok = tokens_of more ++ Eof end ∷ [] in (
    others ++ last,
    cc (
      tokens_append spans more,
      append_assoc (tokens_of spans) (tokens_of more) (Eof end ∷ []),
      append-nil (tokens_of spans),
      append_assoc given others last,
    ),
  )

  -- where the text goes on
  front_within : (rest : List Placed) → (rest ≡ [] → ⊥) → given ++ others ≡ tokens_of spans ++ eof_of end rest
      → (left : List Tok) × (tokens_of (spans ++ more) ≡ given ++ left)
  front_within [] some f = absurd (some refl)
  front_within (p ∷ ps) some f =
      (others ++ tokens_of more, cc (tokens_append spans more, append-nil (tokens_of spans), append_assoc given others (tokens_of more)))

pub one_front : OneFront
one_front table start text end tokens errors events h k =
    let first = first_of table end Any (at_start start) k.spans h.spans k.rest [] k.cut h.cut (any_fits table end k.spans)
    (none_at_end table end Any (standing_after (at_start start) h.spans)) (sym k.text_is ∙ h.text_is ∙ sym (append-nil (spans_text h.spans))) in
    let left = front_by table end (at_start start) k.spans first.more (tokens_in events) k.others first.cut k.rest
    (first.rest_is ∙ append-nil (spans_text first.more)) k.front_is in
    (left.0, cc (left.1))

-- a list that ends in one that is not empty is not
not_empty : (xs ys : List Placed) → (ys ≡ [] → ⊥) → xs ++ ys ≡ [] → ⊥
not_empty [] ys some e = some e
not_empty (x ∷ xs) ys some e = cc

pub one_front_of_refused : OneFrontOfRefused
one_front_of_refused table start text end at name tokens events h k =
    let first = first_of table end InProfile (at_start start) k.spans h.spans k.rest h.rest k.cut h.cut (all_in_profile table end k.spans k.in_profile)
    (none_where_refused table end (standing_after (at_start start) h.spans) h.rest name at h.here) (sym k.text_is ∙ h.text_is) in
    let goes_on : h.rest ≡ [] → ⊥ =
    λ e. some_span table end (standing_after (at_start start) h.spans) h.here.after h.here.span h.here.is_span (sym e ∙ h.here.text_is) in
    let left = front_within table end (at_start start) k.spans first.more (tokens_in events) k.others k.rest
    (λ e. not_empty (spans_text first.more) h.rest goes_on (sym first.rest_is ∙ e)) k.front_is in
    (left.0, h.tokens_are ∙ ap tokens_of first.whole_is ∙ left.1)
