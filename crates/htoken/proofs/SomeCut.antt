-- Each text is cut, and has an answer.
use Rattle.htoken.proofs.Names.{arith, ◌≡◌, ℕ, zero, suc, ◌≤◌, Bool, true, false, ◌&&◌, ◌||◌, eqb, List, [], ◌∷◌, ◌++◌, length, Option, Some, None, sym, refl, ap, ◌∙◌, append_assoc, append-nil, false≢true, eqb-true, nat_tests, is_some, Placed, RawKind, RefusedName, is_letter, refused_name, tag_named, and_parts, or_none, Entities, IsTable, Tok, Eof, Span, Standing, at_start, next, standing_after, is_end_tag_of, is_raw_end, may_end, end_errors, IsRawSpan, IsSpanOf, IsSpan, has_references, raw_character, raw_reference, raw_end, spans_text, Cut, tokens_of, span_errors, has_refused, IsOut, HasTag, IsLastName, some_of, or_second, HasCut, HasAnswer, gives, refuses, SomeSpan, SomeCut, SomeAnswer}
use Rattle.names.specs.declared.raw.RawKind.TheVariants as kind
use Rattle.htoken.proofs.Words.{is_amp, at_amp}
use Rattle.htoken.proofs.OneTag.{Ends}
use Rattle.htoken.proofs.SomePart.{begins_long, shorter, not_empty}
use Rattle.htoken.proofs.SomeData.{data_by, some_tag}
use Rattle.htoken.proofs.Shapes.{IsShape, others, a_start, span_shape, next_name}

-- RAW TEXT

record HasRaw (table : Entities) (end : ℕ) (here : Standing) (text : List Placed) : Type 0 where
  span : Span
  rest : List Placed
  text_is : text ≡ span.text ++ rest
  is_span : IsRawSpan table end here rest span
  long : 1 ≤ length span.text

module _ {table : Entities} (is_table : IsTable table) (end : ℕ) where
  -- an end tag of a name that begins with a letter is a tag
  end_tag_here : (name : Option (List ℕ)) (text : List Placed) → IsLastName name → is_end_tag_of name text ≡ true → HasTag table end text
  end_tag_here (Some []) text n h = absurd (false≢true n)
  end_tag_here (Some (c ∷ cs)) (p ∷ []) n h = absurd (grind arith)
  end_tag_here (Some (c ∷ cs)) (p ∷ q ∷ []) n h = absurd (grind arith)
  end_tag_here (Some (c ∷ cs)) (p ∷ q ∷ r ∷ rs) n h = let less : p.ch ≡ 60 = grind (arith, nat_tests) in let solidus : q.ch ≡ 47 = grind (arith, nat_tests) in
      let letter : is_letter r.ch ≡ true = grind (arith, nat_tests) in
      some_tag table is_table end Ends (p ∷ q ∷ []) r rs (λ i. less i ∷ solidus i ∷ []) letter
  end_tag_here _ _ n h = absurd (false≢true h)

  module _ (here : Standing) (named : IsLastName here.name) where
    raw_char : (p : Placed) (ps : List Placed) (amp : Bool) → (has_references here.kind && eqb p.ch 38) ≡ amp → is_raw_end here (p ∷ ps) ≡ false
        → HasRaw table end here (p ∷ ps)
    raw_char p ps true e f = let both = and_parts (has_references here.kind) (eqb p.ch 38) e in
        let k = some_of table false is_table p (eqb-true p.ch 38 both.1) ps in
        record {
          span = _;
          rest = k.rest;
          text_is = k.text_is;
          is_span = raw_reference k.piece both.0 k.is_reference refl;
          long = begins_long is_amp k.piece.text (at_amp k.is_reference);
        }
    raw_char p ps false e f = record { span = _; rest = ps; text_is = refl; is_span = raw_character p f e refl; long = omega arith }

    raw_by : (p : Placed) (ps : List Placed) (ends : Bool) → is_raw_end here (p ∷ ps) ≡ ends → HasRaw table end here (p ∷ ps)
    raw_by p ps true e = let k = end_tag_here here.name (p ∷ ps) named (and_parts (may_end here.kind here.front) (is_end_tag_of here.name (p ∷ ps)) e).1 in
        record { span = k.span; rest = k.rest; text_is = k.text_is; is_span = raw_end (ap (is_raw_end here) (sym k.text_is) ∙ e) k.is_tag; long = k.long }
    raw_by p ps false e = raw_char p ps (has_references here.kind && eqb p.ch 38) refl e

    span_by : (p : Placed) (ps : List Placed) (k : RawKind)
        → (span : Span) × (rest : List Placed) × (p ∷ ps ≡ span.text ++ rest) × IsSpanOf k table end here rest span × (1 ≤ length span.text)
    span_by p ps kind.None = let k = data_by is_table end p ps (eqb p.ch 60) refl in (k.span, k.rest, k.text_is, k.is_span, k.long)
    span_by p ps _ = let k = raw_by p ps (is_raw_end here (p ∷ ps)) refl in (k.span, k.rest, k.text_is, k.is_span, k.long)

pub some_span : SomeSpan
some_span table end here p text is_table named = let k = span_by is_table end here named p text here.kind in
    record { span = k.0; rest = k.1; text_is = k.2; is_span = k.3; long = k.4 }

-- CUTS

module _ {table : Entities} (is_table : IsTable table) (end : ℕ) where
  cut_by : (n : ℕ) (here : Standing) (text : List Placed) → IsLastName here.name → length text ≤ n → HasCut table end here text
  cut_by n here [] named l = record { spans = []; text_is = refl; cut = tt }
  cut_by zero here (p ∷ ps) named l = absurd (not_empty p ps l)
  cut_by (suc n) here (p ∷ ps) named l = let k = some_span table end here p ps is_table named in
      let v = cut_by n (next here k.span) k.rest (next_name here k.span.text k.span.tokens named (span_shape table end here k.rest k.span k.is_span))
      (shorter (p ∷ ps) k.span.text k.rest n k.text_is k.long l) in
      record {
        spans = k.span ∷ v.spans;
        text_is = k.text_is ∙ ap (λ (x : List Placed). k.span.text ++ x) v.text_is;
        cut = (rw (← (v.text_is ∙ sym (append-nil (spans_text v.spans)))) k.is_span, v.cut);
      }

pub some_cut : SomeCut
some_cut table start text end is_table = cut_by is_table end (length text) (at_start start) text tt (omega arith)

-- ANSWERS

refused_append : (xs ys : List Tok) → has_refused (xs ++ ys) ≡ (has_refused xs || has_refused ys)
refused_append [] ys = refl
refused_append (x ∷ xs) ys = grind (arith, refused_append xs ys)

first_only : (b : Bool) → (b || false) ≡ true → b ≡ true
first_only b h = grind arith

record HasName (found : Option RefusedName) : Type 0 where
  name : RefusedName
  is : found ≡ Some name

name_of : (found : Option RefusedName) → is_some found ≡ true → HasName found
name_of None h = absurd (false≢true h)
name_of (Some name) h = record { name = name; is = refl }

record IsRefusedFrom (table : Entities) (end : ℕ) (here : Standing) (text : List Placed) : Type 0 where
  front : List Span
  rest : List Placed
  name : RefusedName
  at : ℕ
  text_is : text ≡ spans_text front ++ rest
  cut : Cut table end here front rest
  in_profile : has_refused (tokens_of front) ≡ false
  out : IsOut table end (standing_after here front) rest name at

module _ (table : Entities) (end : ℕ) where
  out_of : (here : Standing) (span : Span) (after : List Placed) → IsSpan table end here after span → has_refused span.tokens ≡ true → IsShape span.tokens
      → IsRefusedFrom table end here (span.text ++ after)
  out_of here span after is h (others none starts) = absurd (false≢true (sym none ∙ h))
  out_of here span after is h (a_start name attrs closing at tokens l) =
      let found = name_of (refused_name (tag_named name)) (first_only (is_some (refused_name (tag_named name))) (ap has_refused (sym tokens) ∙ h)) in
      record {
        front = [];
        rest = span.text ++ after;
        name = found.name;
        at = at;
        text_is = refl;
        cut = tt;
        in_profile = refl;
        out = record
            { span = span; after = after; text_is = refl; is_span = is; written = name; attrs = attrs; closing = closing; gives = tokens; is_out = found.is };
      }

  refused_by : (here : Standing) (s : Span) (ss : List Span) → IsSpan table end here (spans_text ss) s → (b : Bool) → has_refused s.tokens ≡ b
      → (has_refused (tokens_of ss) ≡ true → IsRefusedFrom table end (next here s) (spans_text ss)) → has_refused (s.tokens ++ tokens_of ss) ≡ true
      → IsRefusedFrom table end here (s.text ++ spans_text ss)
  refused_by here s ss is true e after h = out_of here s (spans_text ss) is e (span_shape table end here (spans_text ss) s is)
  refused_by here s ss is false e after h =
      let k = after (or_second (has_refused s.tokens) (has_refused (tokens_of ss)) (sym (refused_append s.tokens (tokens_of ss)) ∙ h) e) in
      record {
        front = s ∷ k.front;
        rest = k.rest;
        name = k.name;
        at = k.at;
        text_is = cc (append_assoc s.text (spans_text k.front) k.rest);
        cut = (rw (← k.text_is) is, k.cut);
        in_profile = refused_append s.tokens (tokens_of k.front) ∙ or_none (has_refused s.tokens) (has_refused (tokens_of k.front)) e k.in_profile;
        out = k.out;
      }

  refused_from : (here : Standing) (spans : List Span) → Cut table end here spans [] → has_refused (tokens_of spans) ≡ true
      → IsRefusedFrom table end here (spans_text spans)
  refused_from here [] c h = absurd (false≢true h)
  refused_from here (s ∷ ss) (first, c) h =
      refused_by here s ss (rw (← (append-nil (spans_text ss))) first) (has_refused s.tokens) refl (refused_from (next here s) ss c) h

  answer_by : (start : RawKind) {text : List Placed} (k : HasCut table end (at_start start) text) (b : Bool) → has_refused (tokens_of k.spans) ≡ b
      → HasAnswer table start text end
  answer_by start k true e = let r = refused_from (at_start start) k.spans k.cut e in
      refuses (tokens_of r.front) r.name r.at
      (record { spans = r.front; rest = r.rest; text_is = k.text_is ∙ r.text_is; cut = r.cut; tokens_are = refl; in_profile = r.in_profile; here = r.out })
  answer_by start k false e = gives (tokens_of k.spans ++ Eof end ∷ []) (span_errors k.spans ++ end_errors end (standing_after (at_start start) k.spans))
      (record { spans = k.spans; text_is = k.text_is; cut = k.cut; tokens_are = refl; errors_are = refl; in_profile = e })

pub some_answer : SomeAnswer
some_answer table start text end is_table = let k = some_cut table start text end is_table in answer_by table end start k (has_refused (tokens_of k.spans)) refl
