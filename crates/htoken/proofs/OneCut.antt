-- A text is cut into spans in one way.
use Rattle.htoken.proofs.Names.{◌≡◌, ℕ, Bool, true, false, List, [], ◌∷◌, ◌++◌, Some, sym, refl, ap, ◌∙◌, subst, append_assoc, append-nil, false≢true, is_some, ParseError, Placed, RefusedName, refused_name, tag_named, neither, or_none, Entities, Tok, Start, Span, Standing, at_start, next, standing_after, end_errors, IsSpan, spans_text, Cut, tokens_of, span_errors, is_refused_tag, has_refused, IsOut, or_left, OneCut, OneListOfTokens, NoTokensOfRefused, OneRefusal}
use Rattle.htoken.proofs.OneSpan.{one_span, some_span}

-- Spans at the front of a cut are its first.
pub record IsFirst (table : Entities) (end : ℕ) (here : Standing) (spans whole : List Span) (rest after : List Placed) : Type 0 where
  pub more : List Span
  pub whole_is : whole ≡ spans ++ more
  pub rest_is : rest ≡ spans_text more ++ after
  pub cut : Cut table end (standing_after here spans) more after

-- Of two cuts of one text one is a front of the other.
pub data OneIsFront (table : Entities) (end : ℕ) (here : Standing) (spans whole : List Span) (rest after : List Placed) : Type 0 where
  first : IsFirst table end here spans whole rest after → OneIsFront table end here spans whole rest after
  goes_on : (span : Span) (others : List Span) → spans ≡ whole ++ span ∷ others → IsSpan table end (standing_after here whole) (spans_text others ++ rest) span
      → after ≡ span.text ++ (spans_text others ++ rest) → OneIsFront table end here spans whole rest after

module _ (table : Entities) (end : ℕ) (rest after : List Placed) where
  after_same : (here : Standing) (s w : Span) (ss ws : List Span) → s ≡ w → OneIsFront table end (next here s) ss ws rest after
      → OneIsFront table end here (s ∷ ss) (w ∷ ws) rest after
  after_same here s w ss ws same (first k) = first (record { more = k.more; whole_is = cc; rest_is = k.rest_is; cut = k.cut })
  after_same here s w ss ws same (goes_on span others split is text) = goes_on span others (cc) (rw (← same) is) text

  pub one_is_front : (here : Standing) (spans whole : List Span) → Cut table end here spans rest → Cut table end here whole after
      → spans_text spans ++ rest ≡ spans_text whole ++ after → OneIsFront table end here spans whole rest after
  one_is_front here [] whole c d e = first (record { more = whole; whole_is = refl; rest_is = e; cut = d })
  one_is_front here (s ∷ ss) [] (is, c) d e = goes_on s ss refl is (sym e ∙ append_assoc s.text (spans_text ss) rest)
  one_is_front here (s ∷ ss) (w ∷ ws) (is, c) (is', d) e =
      let same = one_span table end here (spans_text ss ++ rest) (spans_text ws ++ after) s w is is'
      (sym (append_assoc s.text (spans_text ss) rest) ∙ e ∙ append_assoc w.text (spans_text ws) after) in
      after_same here s w ss ws same.0 (one_is_front (next here s) ss ws c (rw same.0 d) same.1)

module _ (table : Entities) (end : ℕ) (Fits : Span → Type 0) where
  abbrev pub AllFit : List Span → Type 0
  AllFit [] = Unit {0}
  AllFit (s ∷ spans) = Fits s × AllFit spans

  abbrev pub NoneFits : Standing → List Placed → Type 0
  NoneFits here text = (span : Span) (rest : List Placed) → IsSpan table end here rest span → Fits span → text ≡ span.text ++ rest → ⊥

  fit_after : (xs ys : List Span) → AllFit (xs ++ ys) → AllFit ys
  fit_after [] ys f = f
  fit_after (x ∷ xs) ys f = fit_after xs ys f.1

  -- where the spans at the front fit, and none that fits is where the whole cut ends
  pub first_of : (here : Standing) (spans whole : List Span) (rest after : List Placed) → Cut table end here spans rest → Cut table end here whole after
      → AllFit spans → NoneFits (standing_after here whole) after → spans_text spans ++ rest ≡ spans_text whole ++ after
      → IsFirst table end here spans whole rest after
  first_of here spans whole rest after c d f n e = elim (one_is_front table end rest after here spans whole c d e) [
    | first k ↦ k
    | goes_on span others split is text ↦ absurd (n span (spans_text others ++ rest) is (fit_after whole (span ∷ others) (subst AllFit split f)).0 text)
  ]

  no_more : (here : Standing) (more : List Span) (after : List Placed) → Cut table end here more after → AllFit more → NoneFits here (spans_text more ++ after)
      → more ≡ []
  no_more here [] after c f n = refl
  no_more here (m ∷ ms) after (is, c) f n = absurd (n m (spans_text ms ++ after) is f.0 (append_assoc m.text (spans_text ms) after))

  -- Two cuts by spans that fit, each up to where none that fits is, are the same.
  one_cut_up_to : (here : Standing) (spans spans' : List Span) (rest rest' : List Placed) → Cut table end here spans rest → Cut table end here spans' rest'
      → AllFit spans → AllFit spans' → NoneFits (standing_after here spans) rest → NoneFits (standing_after here spans') rest'
      → spans_text spans ++ rest ≡ spans_text spans' ++ rest' → (spans ≡ spans') × (rest ≡ rest')
  one_cut_up_to here spans spans' rest rest' c c' f f' n n' e = let k = first_of here spans spans' rest rest' c c' f n' e in
      let none : k.more ≡ [] = no_more (standing_after here spans) k.more rest' k.cut (fit_after spans k.more (subst AllFit k.whole_is f'))
      (subst (NoneFits (standing_after here spans)) k.rest_is n) in
      (cc (append-nil spans), k.rest_is ∙ ap (λ (x : List Span). spans_text x ++ rest') none)

-- a whole text
abbrev pub Any : Span → Type 0
Any span = Unit {0}

pub any_fits : (table : Entities) (end : ℕ) (spans : List Span) → AllFit table end Any spans
any_fits table end [] = tt
any_fits table end (s ∷ spans) = (tt, any_fits table end spans)

pub none_at_end : (table : Entities) (end : ℕ) (Fits : Span → Type 0) (here : Standing) → NoneFits table end Fits here []
none_at_end table end Fits here span rest is fits e = some_span table end here rest span is e

pub one_whole_cut : OneCut
one_whole_cut table start text end spans spans' t c t' c' = (one_cut_up_to table end Any (at_start start) spans spans' [] [] c c' (any_fits table end spans)
    (any_fits table end spans') (none_at_end table end Any (standing_after (at_start start) spans))
    (none_at_end table end Any (standing_after (at_start start) spans')) (append-nil (spans_text spans) ∙ sym t ∙ t' ∙ sym (append-nil (spans_text spans')))).0

pub one_list_of_tokens : OneListOfTokens
one_list_of_tokens table start text end tokens tokens' errors errors' h k =
    let same : h.spans ≡ k.spans = one_whole_cut table start text end h.spans k.spans h.text_is h.cut k.text_is k.cut in
    let all_of : List Span → List ParseError = λ x. span_errors x ++ end_errors end (standing_after (at_start start) x) in
    (cc, h.errors_are ∙ ap all_of same ∙ sym k.errors_are)

-- A refused text: the cut up to the first start tag of a refused name.
abbrev pub InProfile : Span → Type 0
InProfile span = has_refused span.tokens ≡ false

pub refused_parts : (xs ys : List Tok) → has_refused (xs ++ ys) ≡ false → (has_refused xs ≡ false) × (has_refused ys ≡ false)
refused_parts [] ys h = (refl, h)
refused_parts (x ∷ xs) ys h = let k = neither (is_refused_tag x) (has_refused (xs ++ ys)) h in let m = refused_parts xs ys k.1 in
    (or_none (is_refused_tag x) (has_refused xs) k.0 m.0, m.1)

pub all_in_profile : (table : Entities) (end : ℕ) (spans : List Span) → has_refused (tokens_of spans) ≡ false → AllFit table end InProfile spans
all_in_profile table end [] h = tt
all_in_profile table end (s ∷ spans) h = let k = refused_parts s.tokens (tokens_of spans) h in (k.0, all_in_profile table end spans k.1)

module _ (table : Entities) (end : ℕ) where
  out_refused : {here : Standing} {text : List Placed} {name : RefusedName} {at : ℕ} (out : IsOut table end here text name at)
      → has_refused out.span.tokens ≡ true
  out_refused out = ap has_refused out.gives ∙ or_left (is_some (refused_name (tag_named out.written))) false (ap is_some out.is_out)

  pub none_where_refused : (here : Standing) (text : List Placed) (name : RefusedName) (at : ℕ) → IsOut table end here text name at
      → NoneFits table end InProfile here text
  none_where_refused here text name at out span rest is fits e =
      let same : (span ≡ out.span) × (rest ≡ out.after) = one_span table end here rest out.after span out.span is out.is_span (sym e ∙ out.text_is) in
      false≢true (cc (same.0, out_refused out))

  start_same : (written written' : List ℕ) (attrs attrs' : List (List ℕ × List ℕ)) (closing closing' : Bool) (at at' : ℕ)
      → ◌≡◌ {A = List Tok} (Start written attrs closing at ∷ []) (Start written' attrs' closing' at' ∷ []) → (written ≡ written') × (at ≡ at')
  start_same written written' attrs attrs' closing closing' at at' e = let a : written ≡ written' = cc in let b : at ≡ at' = cc in (a, b)

  one_out : (here : Standing) {here' : Standing} {text text' : List Placed} (name name' : RefusedName) (at at' : ℕ) → here ≡ here' → text ≡ text'
      → IsOut table end here text name at → IsOut table end here' text' name' at' → (name ≡ name') × (at ≡ at')
  one_out here name name' at at' s t h k =
      let same = one_span table end here h.after k.after h.span k.span h.is_span (rw s k.is_span) (sym h.text_is ∙ t ∙ k.text_is) in
      let tokens = start_same h.written k.written h.attrs k.attrs h.closing k.closing at at' (sym h.gives ∙ ap (λ (x : Span). x.tokens) same.0 ∙ k.gives) in
      let names : Some name ≡ Some name' = cc (tokens.0) in
      let first : name ≡ name' = cc in
      (first, tokens.1)

pub no_tokens_of_refused : NoTokensOfRefused
no_tokens_of_refused table start text end at name tokens tokens' errors h k =
    let same : (h.spans ≡ k.spans) × ([] ≡ k.rest) =
    one_cut_up_to table end InProfile (at_start start) h.spans k.spans [] k.rest h.cut k.cut (all_in_profile table end h.spans h.in_profile)
    (all_in_profile table end k.spans k.in_profile) (none_at_end table end InProfile (standing_after (at_start start) h.spans))
    (none_where_refused table end (standing_after (at_start start) k.spans) k.rest name at k.here)
    (append-nil (spans_text h.spans) ∙ sym h.text_is ∙ k.text_is) in
    some_span table end (standing_after (at_start start) k.spans) k.here.after k.here.span k.here.is_span (same.1 ∙ k.here.text_is)

pub one_refusal : OneRefusal
one_refusal table start text end at at' name name' tokens tokens' h k =
    let same : (h.spans ≡ k.spans) × (h.rest ≡ k.rest) =
    one_cut_up_to table end InProfile (at_start start) h.spans k.spans h.rest k.rest h.cut k.cut (all_in_profile table end h.spans h.in_profile)
    (all_in_profile table end k.spans k.in_profile) (none_where_refused table end (standing_after (at_start start) h.spans) h.rest name at h.here)
    (none_where_refused table end (standing_after (at_start start) k.spans) k.rest name' at' k.here) (sym h.text_is ∙ k.text_is) in
    let outs =
    one_out table end (standing_after (at_start start) h.spans) name name' at at' (ap (standing_after (at_start start)) same.0) same.1 h.here k.here in
    (outs.0, outs.1, h.tokens_are ∙ ap tokens_of same.0 ∙ sym k.tokens_are)
