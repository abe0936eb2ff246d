-- The bytes of an input have exactly one answer and one parse, or refusal, and what settled spans at its front give is first in them.
use Rattle.hlaws.proofs.Names.{◌≡◌, ℕ, Bool, List, ap, IsPermutation, IsSorted, ParseError, code_rank, error_cmp, ranks_by, ◌++◌, Some, refl, sym, ◌∙◌, ErrorCode, slice_get, IsTotalOrder, nat_cmp, is_lt, Equal, then_total, on_total, nat_cmp_total, exact_pairs, exact_unsigned, input_codes, token_codes, tree_codes, arith, nat_tests, length, Option, None, subst, Placed, RawKind, Entities, Tok, Tokens, Policy, read_len, refusal_of, IsPermutation-sym, IsPermutation-trans, Result, Ok, Err, RefusedName, Refusal, OutOfProfile, input_errors, HasAnswer, gives, refuses, one_list_of_tokens, no_tokens_of_refused, one_refusal, some_answer, ExactlyOne, in_order, order-permutes, order-sorted, decoded, Answers, read_text, refused_text, OneAnswer, IsRefused, false, [], ◌∷◌, map, append-nil, map-append, Span, Gives, at_start, start_kind, spans_text, Cut, has_refused, AreFront, eof_of, texts, Outcome, Goes, Refused, PlacedToken, State, Step, Steps, and, reads_in, input_text, ParseOptions, fragment, Parse, Parses, manner, policy, start_of, refused_token, refused_tag, accepted, token_placed, tokens_in, tokens_of, refused, ParseCase, document, first_state, refused_bytes, OneParse, Reached, after, texts-all, reached-orderly, some-step, steps-one, one_front, one_front_of_refused, true, append_assoc, flat_map-append, character_of, Eof, Standing, next, standing_after, IsSpan, refused_parts, one_is_front, first as at_front, Manner, how_of, settled_in, goes_on, AreSettled, some_span, as_document, AreSettledIn, settled_text, leads_on, FrontsOfAnswered, FrontsOfParsed, RulesRefuse, ProfileRefuses}
use Rattle.hserialize.proofs.Sorting.{tied_equal, sorted-once as once-sorted}
use Rattle.names.specs.declared.error.ErrorCode.TheVariants as code
use Rattle.names.specs.declared.raw.RawKind.TheVariants as raw
use Rattle.hparse.specs.Answer.{refused_bytes as bytes_refused, accepted as taken}
use Rattle.hmodes.specs.Reached as reached
use Rattle.hmodes.specs.Step.{none}
use Rattle.htoken.proofs.OneCut.{goes_on as further}

-- Each error code is at its rank among the codes, so that no two have one rank.
abbrev every : List ErrorCode
every = input_codes ++ token_codes ++ tree_codes

code-at : (c : ErrorCode) → slice_get every (code_rank c) ≡ Some c
code-at code.ControlCharacterInInputStream = refl
code-at _ = refl

one-code : (a b : ErrorCode) → code_rank a ≡ code_rank b → a ≡ b
one-code a b ranks = let same : Some a ≡ Some b = sym (code-at a) ∙ ap (slice_get every) ranks ∙ code-at b in cc

error-total : IsTotalOrder error_cmp
error-total = then_total (on_total (λ (e : ParseError). e.at) nat_cmp_total) (on_total (λ (e : ParseError). code_rank e.code) nat_cmp_total)

abbrev before : ParseError → ParseError → Bool
before a b = is_lt (error_cmp a b)

-- of two errors that are not one, one comes first
equal-one : (a b : ParseError) → error_cmp a b ≡ Equal → a ≡ b
equal-one a b e = let both = exact_pairs nat_cmp nat_cmp exact_unsigned exact_unsigned (a.at, code_rank a.code) (b.at, code_rank b.code) e in
    let places : a.at ≡ b.at = ap (λ (p : ℕ × ℕ). p.0) both in
    let codes : a.code ≡ b.code = one-code a.code b.code (ap (λ (p : ℕ × ℕ). p.1) both) in
    λ i. record { code = codes i; at = places i }

pub sorted-once : (xs ys : List ParseError) → IsPermutation xs ys → IsSorted error_cmp xs → IsSorted error_cmp ys → xs ≡ ys
sorted-once xs ys moved up up' =
    once-sorted before (ranks_by error-total (λ (e : ParseError). e)) (λ _. Unit {0}) (λ x y _ _ p q. equal-one x y (tied_equal error_cmp error-total x y p q))
    xs ys moved up up' (λ k d inside. tt)

-- bytes that are not refused are all read
pub all-read : (how : Policy) (bytes : List ℕ) → refusal_of how bytes ≡ None → read_len how bytes ≡ length bytes
all-read how bytes e = grind (arith, nat_tests)

pub at-end : {table : Entities} {kind : RawKind} {text : List Placed} {tokens : List Tok} {errors : List ParseError} (how : Policy) (bytes : List ℕ)
    → refusal_of how bytes ≡ None → Tokens table kind text (length bytes) tokens errors → Tokens table kind text (read_len how bytes) tokens errors
at-end {table} {kind} {text} {tokens} {errors} how bytes whole read =
    subst (λ (n : ℕ). Tokens table kind text n tokens errors) (sym (all-read how bytes whole)) read

pub never-both : {A : Type 0} (x : A) (o : Option A) → o ≡ Some x → o ≡ None → ⊥
never-both x o e f = let clash : Some x ≡ None = sym e ∙ f in cc

-- errors in order
pub one-list : (errors all all' : List ParseError) → IsPermutation errors all → IsPermutation errors all' → IsSorted error_cmp all → IsSorted error_cmp all'
    → all ≡ all'
one-list errors all all' p p' = sorted-once all all' (IsPermutation-trans all errors all' (IsPermutation-sym errors all p) p')

module _ (table : Entities) (how : Policy) (bytes : List ℕ) where
  abbrev input : List Placed
  input = read_text how bytes

  abbrev read_end : ℕ
  read_end = read_len how bytes

  -- the text is refused for a start tag
  the-refusal : (tokens : List Tok) (name : RefusedName) (at : ℕ) → IsRefused table raw.None input read_end tokens name at
      → (x : Result (List Tok × List ParseError) Refusal) → Answers table how bytes x → x ≡ Err (OutOfProfile name at)
  the-refusal tokens name at out x (refused_text refusal h) =
      let same = one_refusal table raw.None input read_end h.at at h.name name h.tokens tokens h.refused out in
      ap (λ (r : Refusal). Err r) h.refusal_is ∙ (λ i. Err (OutOfProfile (same.0 i) (same.1 i)))
  the-refusal tokens name at out x (bytes_refused refusal tokens' errors read r) =
      absurd (no_tokens_of_refused table raw.None input read_end at name tokens' tokens errors read out)
  the-refusal tokens name at out x (taken tokens' errors sorted read p s whole) =
      absurd (no_tokens_of_refused table raw.None input read_end at name tokens' tokens errors (at-end how bytes whole read) out)

  -- the text has tokens
  module _ (tokens : List Tok) (errors : List ParseError) (read : Tokens table raw.None input read_end tokens errors) where
    abbrev all : List ParseError
    all = input_errors (decoded how bytes) ++ errors

    abbrev result : Option Refusal → Result (List Tok × List ParseError) Refusal
    result (Some r) = Err r
    result None = Ok (tokens, in_order all)

    the-result : (x : Result (List Tok × List ParseError) Refusal) → Answers table how bytes x → x ≡ result (refusal_of how bytes)
    the-result x (refused_text refusal h) = absurd (no_tokens_of_refused table raw.None input read_end h.at h.name tokens h.tokens errors read h.refused)
    the-result x (bytes_refused refusal tokens' errors' read' r) = ap result (sym r)
    the-result x (taken tokens' errors' sorted read' p s whole) =
        let same = one_list_of_tokens table raw.None input read_end tokens tokens' errors errors' read (at-end how bytes whole read') in
        let moved = subst (λ (es : List ParseError). IsPermutation (input_errors (decoded how bytes) ++ es) sorted) (sym same.1) p in
        let lists = one-list all sorted (in_order all) moved (order-permutes all) s (order-sorted all) in
        (λ i. Ok (sym same.0 i, lists i)) ∙ ap result (sym whole)

    is-result : (r : Option Refusal) → refusal_of how bytes ≡ r → Answers table how bytes (result r)
    is-result (Some refusal) e = bytes_refused refusal tokens errors read e
    is-result None e = let whole = subst (λ (n : ℕ). Tokens table raw.None input n tokens errors) (all-read how bytes e) read in
        taken tokens errors (in_order all) whole (order-permutes all) (order-sorted all) e

  one-of : HasAnswer table raw.None input read_end → ExactlyOne (Answers table how bytes)
  one-of (refuses tokens name at out) =
      let is = refused_text (OutOfProfile name at) (record { tokens = tokens; name = name; at = at; refused = out; refusal_is = refl }) in
      record { one = Err (OutOfProfile name at); is = is; other = the-refusal tokens name at out }
  one-of (gives tokens errors read) = let one = result tokens errors read (refusal_of how bytes) in
      record { one = one; is = is-result tokens errors read (refusal_of how bytes) refl; other = the-result tokens errors read }

pub one_answer : OneAnswer
one_answer table how bytes is_table = one-of table how bytes (some_answer table raw.None (read_text how bytes) (read_len how bytes) is_table)

-- what refuses one of them refuses it whatever follows
refused-more : (ts us : List (PlacedToken (List ℕ))) (s : State (List ℕ)) (r : Refusal) → Steps texts ts s (Refused r) → Steps texts (ts ++ us) s (Refused r)
refused-more [] us s r steps = elim steps [ ]
refused-more (t ∷ ts) us s r (and first rest) = and first (refused-more ts us _ r rest)
refused-more (t ∷ ts) us s r (refused first) = refused first

some-steps : (ts : List (PlacedToken (List ℕ))) (s : State (List ℕ)) → Reached texts s → (o : Outcome (State (List ℕ))) × Steps texts ts s o
some-steps [] s h = (Goes s, none)
some-steps (t ∷ ts) s h =
    by (some-step texts texts-all.img t.at t.token s (reached-orderly texts texts-all s h).sound) (λ u first. some-steps ts u (after h first)) where
      by : (o : Outcome (State (List ℕ))) × Step texts t.at t.token s o
          → ((u : State (List ℕ)) → Step texts t.at t.token s (Goes u) → (o : Outcome (State (List ℕ))) × Steps texts ts u o)
          → (o : Outcome (State (List ℕ))) × Steps texts (t ∷ ts) s o
      by (Goes u, first) rest = let others = rest u first in (others.0, and first others.1)
      by (Refused r, first) rest = (Refused r, refused first)

reached-first : (opts : ParseOptions) (parse_case : ParseCase) → Reached texts (first_state opts parse_case)
reached-first opts document = reached.document opts.quirks opts.limits
reached-first opts (fragment context) = reached.fragment context opts.limits

-- tokens and nothing else as what a sink was handed
given : (ts : List Tok) → tokens_in (map Gives ts) ≡ ts
given [] = refl
given (t ∷ ts) = ap (λ (x : List Tok). t ∷ x) (given ts)

module _ (opts : ParseOptions) (parse_case : ParseCase) (bytes : List ℕ) where
  abbrev kind : RawKind
  kind = start_kind (start_of parse_case)

  abbrev text : List Placed
  text = input_text (manner opts parse_case) bytes

  abbrev end : ℕ
  end = read_len (policy opts parse_case) bytes

  abbrev Leads : List Tok → Outcome (State (List ℕ)) → Type 0
  Leads tokens o = Steps texts (map token_placed tokens) (first_state opts parse_case) o

  -- what a front of tokens is refused for they are refused for
  refused-whole : (tokens front others : List Tok) (r : Refusal) → tokens ≡ front ++ others → Leads front (Refused r) → Leads tokens (Refused r)
  refused-whole tokens front others r are h = subst (λ (ts : List (PlacedToken (List ℕ))). Steps texts ts (first_state opts parse_case) (Refused r))
      (sym (ap (map token_placed) are ∙ map-append token_placed front others))
      (refused-more (map token_placed front) (map token_placed others) (first_state opts parse_case) r h)

  led : (tokens tokens' : List Tok) (o : Outcome (State (List ℕ))) → tokens ≡ tokens' → Leads tokens o → Leads tokens' o
  led tokens tokens' o same h = subst (λ (ts : List Tok). Leads ts o) same h

  -- the rules refuse tokens of the spans at the front of the text
  pub refused-front : (tokens others : List Tok) (spans : List Span) (rest : List Placed) (r : Refusal) → text ≡ spans_text spans ++ rest
      → Cut opts.table end (at_start kind) spans rest → has_refused (tokens_of spans) ≡ false → tokens ++ others ≡ tokens_of spans ++ eof_of end rest
      → Leads tokens (Refused r) → Parses opts parse_case bytes (Err r)
  refused-front tokens others spans rest r text_is cut in_profile front_is steps = let is = ap (λ (ts : List Tok). ts ++ others) (given tokens) ∙ front_is in
      let front : AreFront opts.table kind text end (map Gives tokens) = record
      { spans = spans; rest = rest; others = others; text_is = text_is; cut = cut; in_profile = in_profile; front_is = is } in
      refused_token r (map Gives tokens) front (led tokens (tokens_in (map Gives tokens)) (Refused r) (sym (given tokens)) steps)

  -- a result that the outcome of these tokens decides
  abbrev Decided : (Outcome (State (List ℕ)) → Result Parse Refusal) → List Tok → Result Parse Refusal → Type 0
  Decided answer tokens x = (o : Outcome (State (List ℕ))) × Leads tokens o × (x ≡ answer o)

  only : (answer : Outcome (State (List ℕ)) → Result Parse Refusal) (tokens : List Tok) (o : Outcome (State (List ℕ))) → Leads tokens o
      → Parses opts parse_case bytes (answer o) → ((y : Result Parse Refusal) → Parses opts parse_case bytes y → Decided answer tokens y)
      → ExactlyOne (Parses opts parse_case bytes)
  only answer tokens o steps is decided = record
      { one = answer o; is = is; other = λ y k. let d = decided y k in d.2 ∙ ap answer (steps-one texts _ _ d.0 o d.1 steps) }

  -- the text is refused for a start tag
  module _ (tokens : List Tok) (name : RefusedName) (at : ℕ) (out : IsRefused opts.table kind text end tokens name at) where
    abbrev out_of_profile : Outcome (State (List ℕ)) → Result Parse Refusal
    out_of_profile (Refused r) = Err r
    out_of_profile (Goes state) = Err (OutOfProfile name at)

    of-refused : (x : Result Parse Refusal) → Parses opts parse_case bytes x → Decided out_of_profile tokens x
    of-refused x (refused_token r events front steps) = let k = one_front_of_refused opts.table kind text end at name tokens events out front in
        (Refused r, refused-whole tokens (tokens_in events) k.0 r k.1 steps, refl)
    of-refused x (refused_tag name' at' tokens' state out' steps) = let same = one_refusal opts.table kind text end at' at name' name tokens' tokens out' out in
        (Goes state, led tokens' tokens (Goes state) same.2 steps, λ i. Err (OutOfProfile (same.0 i) (same.1 i)))
    of-refused x (refused_bytes r errors state builds e) =
        absurd (no_tokens_of_refused opts.table kind text end at name builds.tokens tokens errors builds.read out)
    of-refused x (accepted errors sorted state builds p s whole) =
        absurd (no_tokens_of_refused opts.table kind text end at name builds.tokens tokens errors (at-end (policy opts parse_case) bytes whole builds.read) out)

    is-refused : (o : Outcome (State (List ℕ))) → Leads tokens o → Parses opts parse_case bytes (out_of_profile o)
    is-refused (Goes state) steps = refused_tag name at tokens state out steps
    is-refused (Refused r) steps = refused-front tokens (eof_of end out.rest) out.spans out.rest r out.text_is out.cut out.in_profile
        (ap (λ (ts : List Tok). ts ++ eof_of end out.rest) out.tokens_are) steps

  -- the text has tokens
  module _ (tokens : List Tok) (errors : List ParseError) (read : Tokens opts.table kind text end tokens errors) where
    abbrev all_errors : State (List ℕ) → List ParseError
    all_errors state = input_errors (reads_in (manner opts parse_case) bytes) ++ (errors ++ state.site.errors)

    abbrev answer : Outcome (State (List ℕ)) → Option Refusal → Result Parse Refusal
    answer (Refused r) refusal = Err r
    answer (Goes state) (Some r) = Err r
    answer (Goes state) None = Ok (record { trees = state.site.nodes.trees; errors = in_order (all_errors state) })

    abbrev by_bytes : Outcome (State (List ℕ)) → Result Parse Refusal
    by_bytes o = answer o (refusal_of (policy opts parse_case) bytes)

    of-tokens : (x : Result Parse Refusal) → Parses opts parse_case bytes x → Decided by_bytes tokens x
    of-tokens x (refused_token r events front steps) = let k = one_front opts.table kind text end tokens errors events read front in
        (Refused r, refused-whole tokens (tokens_in events) k.0 r k.1 steps, refl)
    of-tokens x (refused_tag name at tokens' state out steps) = absurd (no_tokens_of_refused opts.table kind text end at name tokens tokens' errors read out)
    of-tokens x (refused_bytes r es state builds e) = let same = one_list_of_tokens opts.table kind text end builds.tokens tokens es errors builds.read read in
        (Goes state, led builds.tokens tokens (Goes state) same.0 builds.steps, ap (answer (Goes state)) (sym e))
    of-tokens x (accepted es sorted state builds p s e) =
        let same = one_list_of_tokens opts.table kind text end tokens builds.tokens errors es read (at-end (policy opts parse_case) bytes e builds.read) in
        let all : List ParseError = all_errors state in
        let lists : sorted ≡ in_order all = one-list all sorted (in_order all) (subst
        (λ (x : List ParseError). IsPermutation (input_errors (reads_in (manner opts parse_case) bytes) ++ (x ++ state.site.errors)) sorted) (sym same.1) p)
        (order-permutes all) s (order-sorted all) in (
          Goes state,
          led builds.tokens tokens (Goes state) (sym same.0) builds.steps,
          (λ i. Ok (record { trees = state.site.nodes.trees; errors = lists i })) ∙ ap (answer (Goes state)) (sym e),
        )

    is-answer : (o : Outcome (State (List ℕ))) → Leads tokens o → (r : Option Refusal) → refusal_of (policy opts parse_case) bytes ≡ r
        → Parses opts parse_case bytes (answer o r)
    is-answer (Refused r) steps o e = refused-front tokens [] read.spans [] r (read.text_is ∙ sym (append-nil (spans_text read.spans))) read.cut read.in_profile
        (append-nil tokens ∙ read.tokens_are) steps
    is-answer (Goes state) steps (Some r) e = refused_bytes r errors state (record { tokens = tokens; read = read; steps = steps }) e
    is-answer (Goes state) steps None e = let all = all_errors state in
        let end_read = subst (λ (n : ℕ). Tokens opts.table kind text n tokens errors) (all-read (policy opts parse_case) bytes e) read in
        accepted errors (in_order all) state (record { tokens = tokens; read = end_read; steps = steps }) (order-permutes all) (order-sorted all) e

  exactly-one : HasAnswer opts.table kind text end → ExactlyOne (Parses opts parse_case bytes)
  exactly-one (refuses tokens name at out) = let k = some-steps (map token_placed tokens) (first_state opts parse_case) (reached-first opts parse_case) in
      only (out_of_profile tokens name at out) tokens k.0 k.1 (is-refused tokens name at out k.0 k.1) (of-refused tokens name at out)
  exactly-one (gives tokens errors read) = let k = some-steps (map token_placed tokens) (first_state opts parse_case) (reached-first opts parse_case) in
      only (by_bytes tokens errors read) tokens k.0 k.1 (is-answer tokens errors read k.0 k.1 (refusal_of (policy opts parse_case) bytes) refl)
      (of-tokens tokens errors read)

pub one_parse : OneParse
one_parse opts parse_case bytes is_table = exactly-one opts parse_case bytes
    (some_answer opts.table (start_kind (start_of parse_case)) (input_text (manner opts parse_case) bytes) (read_len (policy opts parse_case) bytes) is_table)

-- the text of more bytes
later : (m : Manner) (bytes more : List ℕ) → (after : List Placed) × (input_text m (bytes ++ more) ≡ settled_text m bytes ++ after)
later m bytes more = let how = how_of m in let k = goes_on true how.bom how.bad how.limit bytes more in
    (map character_of k.0, ap (map character_of) k.1 ∙ map-append character_of (settled_in m bytes) k.0)

-- What a whole text gives begins with what the settled spans of a front give.
record IsFirst (spans : List Span) (tokens : List Tok) : Type 0 where
  others : List Tok
  tokens_are : tokens ≡ tokens_of spans ++ others
  in_profile : has_refused (tokens_of spans) ≡ false

module _ (table : Entities) (start : RawKind) (front after : List Placed) (spans : List Span) (s : AreSettled table start front spans) where
  settled_first : (end : ℕ) (text : List Placed) (tokens : List Tok) (errors : List ParseError) → text ≡ front ++ after
      → Tokens table start text end tokens errors → IsFirst spans tokens
  settled_first end text tokens errors is read =
      elim (one_is_front table end (s.rest ++ after) [] (at_start start) spans read.spans (s.cut end after) read.cut texts_are) [
        | at_front k ↦
            let both : tokens_of read.spans ≡ tokens_of spans ++ tokens_of k.more =
            ap tokens_of k.whole_is ∙ flat_map-append (λ (x : Span). x.tokens) spans k.more in
            record {
              others = tokens_of k.more ++ Eof end ∷ [];
              tokens_are = read.tokens_are ∙ ap (λ (x : List Tok). x ++ Eof end ∷ []) both ∙ append_assoc (tokens_of spans) (tokens_of k.more) (Eof end ∷ []);
              in_profile = (refused_parts (tokens_of spans) (tokens_of k.more) (sym (ap has_refused both) ∙ read.in_profile)).0;
            }
        | further span others split is_span whole ↦
            absurd (some_span table end (standing_after (at_start start) read.spans) (spans_text others ++ (s.rest ++ after)) span is_span whole)
      ] where
        texts_are : spans_text spans ++ (s.rest ++ after) ≡ spans_text read.spans ++ []
        texts_are = sym (append_assoc (spans_text spans) s.rest after) ∙ ap (λ (x : List Placed). x ++ after) (sym s.text_is) ∙ sym is ∙ read.text_is
            ∙ sym (append-nil (spans_text read.spans))

pub fronts_of_answered : FrontsOfAnswered
fronts_of_answered table bad limit bytes more answer (taken tokens errors sorted read p o whole) = let m = as_document table bad limit in
    let l = later m bytes more in
    record {
      undecided = λ refusal stays. never-both refusal _ (stays more) whole;
      in_profile = λ spans s. (settled_first table (start_kind m.start) (settled_text m bytes) l.0 spans s _ _ tokens errors l.1 read).in_profile;
    }

pub fronts_of_parsed : FrontsOfParsed
fronts_of_parsed opts parse_case bytes more parse (accepted errors sorted state builds p o whole) = let m = manner opts parse_case in
    let l = later m bytes more in
    let firsts : (spans : List Span) → AreSettledIn m bytes spans → IsFirst spans builds.tokens =
    λ spans s. settled_first opts.table (start_kind (start_of parse_case)) (settled_text m bytes) l.0 spans s _ _ builds.tokens errors l.1 builds.read in
    record {
      text = record { undecided = λ refusal stays. never-both refusal _ (stays more) whole; in_profile = λ spans s. (firsts spans s).in_profile };
      steps = λ spans s.
          let k = firsts spans s in leads_on builds.tokens (tokens_of spans) k.others (first_state opts parse_case) state k.tokens_are builds.steps;
    }

pub rules_refuse : RulesRefuse
rules_refuse opts parse_case bytes spans refusal s (in_profile, steps) more = let m = manner opts parse_case in let l = later m bytes more in
    let rest : List Placed = s.rest ++ l.0 in
    let end : ℕ = read_len (policy opts parse_case) (bytes ++ more) in
    refused-front opts parse_case (bytes ++ more) (tokens_of spans) (eof_of end rest) spans rest refusal
    (l.1 ∙ ap (λ (x : List Placed). x ++ l.0) s.text_is ∙ append_assoc (spans_text spans) s.rest l.0) (s.cut end l.0) in_profile refl steps

spans_text-snoc : (spans : List Span) (span : Span) (rest : List Placed) → spans_text (spans ++ span ∷ []) ++ rest ≡ spans_text spans ++ (span.text ++ rest)
spans_text-snoc spans span rest = ap (λ (x : List Placed). x ++ rest)
    (flat_map-append (λ (s : Span). s.text) spans (span ∷ []) ∙ ap (λ (x : List Placed). spans_text spans ++ x) (append-nil span.text))
    ∙ append_assoc (spans_text spans) span.text rest

-- the last span of a cut
last_span : (table : Entities) (end : ℕ) (here : Standing) (spans : List Span) (span : Span) (rest : List Placed) → Cut table end here (spans ++ span ∷ []) rest
    → Cut table end here spans (span.text ++ rest) × IsSpan table end (standing_after here spans) rest span
last_span table end here [] span rest (is, c) = (tt, is)
last_span table end here (s ∷ ss) span rest (is, c) = let k = last_span table end (next here s) ss span rest c in
    ((subst (λ (x : List Placed). IsSpan table end here x s) (spans_text-snoc ss span rest) is, k.0), k.1)

pub profile_refuses : ProfileRefuses
profile_refuses opts parse_case bytes spans span written attrs closing at name state s (in_profile, steps) are is_out more =
    let m = manner opts parse_case in let l = later m bytes more in let end : ℕ = read_len (policy opts parse_case) (bytes ++ more) in
    let after : List Placed = s.rest ++ l.0 in
    let cut = last_span opts.table end (at_start (start_kind (start_of parse_case))) spans span after (s.cut end l.0) in
    refused_tag name at (tokens_of spans) state (record {
      spans = spans;
      rest = span.text ++ after;
      text_is = l.1 ∙ ap (λ x. x ++ l.0) s.text_is ∙ append_assoc (spans_text (spans ++ span ∷ [])) s.rest l.0 ∙ spans_text-snoc spans span after;
      cut = cut.0;
      tokens_are = refl;
      in_profile = in_profile;
      here = record
          { span = span; after = after; text_is = refl; is_span = cut.1; written = written; attrs = attrs; closing = closing; gives = are; is_out = is_out };
    }) steps
