-- Characters that stand for themselves; where a reference is, and what follows it as text.
use Rattle.htoken.proofs.Names.{◌≡◌, ℕ, suc, Bool, true, false, not, cond, ◌&&◌, eqb, List, [], ◌∷◌, ◌++◌, map, length, drop, take, reverse, zero, sym, refl, ap, ◌∙◌, subst, Option, Some, None, arith, append_assoc, append-nil, nat_tests, take-append-drop, nat_lt, list_all, UnknownNamedCharacterReference, ParseError, Placed, RawKind, all, begins, past, is_alphanumeric, error_if, Reference, WalkState, characters_of, errors_of, Entities, Piece, IsTable, IsReference, named, kept, unknown, decimal, hexadecimal, no_digits, alone, backwards, and_parts, Tok, Span, Event, Gives, Char, piece_span, Standing, next, IsSpan, has_references, raw_reference, known_errors, piece_events, read_events, run_events, has_refused, tokens_in, errors_in, Stands, nat_eq, starts_with, Base, Decimal, Hexadecimal, IsWalkHeld, IsSign, in_name, after_sign, after_x, in_number, number_sign, small_x, capital_x, is_digit_of, Entry, longest, longer_entry, is_empty_list, all-append, all-characters, all_weaker, characters, ◌==◌, ◌||◌, no_null_error, and_no, IsDataSpan, character, character_span, IsRawSpan, raw_character}
use Rattle.htoken.specs.Data as d
use Rattle.htoken.proofs.Cutting.{stands_on, tokens_in-append, errors_in-append, tokens_in-map, errors_in-map, stands_same}
use Rattle.htoken.proofs.InRaw.{span_of, after_characters}
use Rattle.htoken.proofs.RawEnds.{other_goes_on}

abbrev pub is_itself : ℕ → Bool
is_itself c = not (c == 60 || c == 38 || c == 0)

module _ (c : ℕ) (h : is_itself c ≡ true) where
  no_less : eqb c 60 ≡ false
  no_less = grind (arith, nat_tests)

  no_sign : eqb c 38 ≡ false
  no_sign = grind (arith, nat_tests)

  no_null : eqb c 0 ≡ false
  no_null = grind (arith, nat_tests)

-- such a character as a span
abbrev pub plain_span : Placed → Span
plain_span p = record { text = p ∷ []; tokens = Char p.ch p.at ∷ []; errors = [] }

as_character : (p : Placed) → eqb p.ch 0 ≡ false → plain_span p ≡ character_span p
as_character p some = ap (λ (es : List ParseError). record { text = p ∷ []; tokens = Char p.ch p.at ∷ []; errors = es }) (sym (no_null_error p some))

module _ (table : Entities) (end : ℕ) (here : Standing) (rest : List Placed) (p : Placed) (plain : is_itself p.ch ≡ true) where
  in_raw : IsRawSpan table end here rest (plain_span p)
  in_raw = raw_character p (other_goes_on here p rest (no_less p.ch plain)) (and_no (has_references here.kind) (eqb p.ch 38) (no_sign p.ch plain))
      (cc (as_character p (no_null p.ch plain), no_null p.ch plain))

  in_data : IsDataSpan table end rest (plain_span p)
  in_data = let less : eqb p.ch 60 ≡ false = no_less p.ch plain in let sign : eqb p.ch 38 ≡ false = no_sign p.ch plain in
      character p (rw (less, sign) refl) (as_character p (no_null p.ch plain))

  pub plain_is : IsSpan table end here rest (plain_span p)
  plain_is = span_of here.kind table end here rest (plain_span p) (λ other. in_data) (λ raw. in_raw)

pub plain_stands : (table : Entities) (start : RawKind) (end : ℕ) (qs front rest : List Placed) (here : Standing) (taken : List Event) (later : List ParseError)
    → all is_itself qs ≡ true → Stands table start end front (qs ++ rest) here taken later
    → Stands table start end (front ++ qs) rest (after_characters here qs) (taken ++ run_events qs) later
plain_stands table start end [] front rest here taken later k s = rw (append-nil front) (rw (append-nil taken) s)
plain_stands table start end (q ∷ qs) front rest here taken later k s = let parts = and_parts (is_itself q.ch) (all is_itself qs) k in
    let one : Stands table start end (front ++ q ∷ []) (qs ++ rest) (record here { front = q ∷ here.front }) (taken ++ Gives (Char q.ch q.at) ∷ []) later =
    rw (← (append-nil later)) (stands_on (qs ++ rest) (plain_span q) later s (plain_is table end here (qs ++ rest) q parts.0) refl) in
    let many =
    plain_stands table start end qs (front ++ q ∷ []) rest (record here { front = q ∷ here.front }) (taken ++ Gives (Char q.ch q.at) ∷ []) later parts.1 one in
    rw (← (append_assoc front (q ∷ []) qs)) (rw (← (append_assoc taken (Gives (Char q.ch q.at) ∷ []) (run_events qs))) many)

-- what a walk has taken is plain
pub all_imp : (f g : ℕ → Bool) (xs : List Placed) → ((c : ℕ) → f c ≡ true → g c ≡ true) → all f xs ≡ true → all g xs ≡ true
all_imp f g xs i h = all-characters g xs ∙ all_weaker f g i (characters xs) (sym (all-characters f xs) ∙ h)

pub all-drop : (f : ℕ → Bool) (n : ℕ) (xs : List Placed) → all f xs ≡ true → all f (drop n xs) ≡ true
all-drop f zero xs h = h
all-drop f (suc n) [] h = refl
all-drop f (suc n) (x ∷ xs) h = all-drop f n xs (and_parts (f x.ch) (all f xs) h).1

pub alphanumeric_itself : (c : ℕ) → is_alphanumeric c ≡ true → is_itself c ≡ true
alphanumeric_itself c h = grind (arith, nat_tests)

digit_kept : (base : Base) (c : ℕ) → is_digit_of base c ≡ true → is_itself c ≡ true
digit_kept Decimal c h = grind (arith, nat_tests)
digit_kept Hexadecimal c h = grind (arith, nat_tests)

sign_kept : {base : Base} {text : List Placed} → IsSign base text → all is_itself text ≡ true
sign_kept (number_sign p e) = ap (λ (c : ℕ). is_itself c && true) e
sign_kept (small_x p q e f) = rw (e, f) refl
sign_kept (capital_x p q e f) = rw (e, f) refl

pub held_kept : {table : Entities} {in_value : Bool} {s : WalkState} (text : List Placed) → IsWalkHeld table in_value s text → all is_itself text ≡ true
held_kept text (in_name search x read plain goes) = all_imp is_alphanumeric is_itself text alphanumeric_itself plain
held_kept text (after_sign x sign) = sign_kept sign
held_kept text (after_x x sign) = sign_kept sign
held_kept text (in_number base value sign digits x is signed first digit v) =
    ap (all is_itself) is ∙ all-append is_itself sign digits (sign_kept signed) (all_imp (is_digit_of base) is_itself digits (digit_kept base) digit)

-- A REFERENCE

pub reference_is : (table : Entities) (end : ℕ) (here : Standing) (rest : List Placed) (piece : Piece) → has_references here.kind ≡ true
    → IsReference table false rest piece → IsSpan table end here rest (piece_span piece)
reference_is table end here rest piece may is =
    span_of here.kind table end here rest (piece_span piece) (λ other. d.reference piece is refl) (λ raw. raw_reference piece may is refl)

pub no_tag : (cs : List ℕ) (at : ℕ) → has_refused (map (λ c. Char c at) cs) ≡ false
no_tag [] at = refl
no_tag (c ∷ cs) at = no_tag cs at

-- it gives a character at least
longest_in : (test : Entry → Bool) (entries : Entities) (text : List ℕ) (e : Entry) → longest entries text ≡ Some e → list_all test entries ≡ true
    → test e ≡ true
longest_in test [] text e is h = absurd cc
longest_in test (x ∷ xs) text e is h = by (starts_with nat_eq text x.key) (longest xs text) (λ o same. longest_in test xs text o same parts.1) is where
  parts : (test x ≡ true) × (list_all test xs ≡ true)
  parts = and_parts (test x) (list_all test xs) h

  last : (b : Bool) (o : Entry) → test o ≡ true → cond b (Some x) (Some o) ≡ Some e → test e ≡ true
  last true o k f = let same : x ≡ e = cc in ap test (sym same) ∙ parts.0
  last false o k f = let same : o ≡ e = cc in ap test (sym same) ∙ k

  by : (b : Bool) (o : Option Entry) → ((y : Entry) → o ≡ Some y → test y ≡ true) → cond b (longer_entry x o) o ≡ Some e → test e ≡ true
  by true None k f = let same : x ≡ e = cc in ap test (sym same) ∙ parts.0
  by true (Some o) k f = last (nat_lt (length o.key) (length x.key)) o (k o refl) f
  by false None k f = absurd cc
  by false (Some o) k f = k e f

abbrev pub IsSomeText : List ℕ → Type 0
IsSomeText cs = (c : ℕ) × (others : List ℕ) × (cs ≡ c ∷ others)

not_empty : (cs : List ℕ) → not (is_empty_list cs) ≡ true → IsSomeText cs
not_empty [] e = absurd cc
not_empty (c ∷ cs) e = (c, cs, refl)

pub gives_some : (table : Entities) {rest : List Placed} {piece : Piece} → IsTable table → IsReference table false rest piece → IsSomeText piece.gives
gives_some table t (named amp name entry a b found is k e) =
    rw e (not_empty entry.stands_for (longest_in (λ x. not (is_empty_list x.stands_for)) table _ entry found t.characters))
gives_some table t (kept amp entry a b c k e) = rw e (38, [], refl)
gives_some table t (unknown amp a b c e) = rw e (38, [], refl)
gives_some table t (decimal opening digits close a b c k e) = rw e (_, [], refl)
gives_some table t (hexadecimal opening digits close a b c k e) = rw e (_, [], refl)
gives_some table t (no_digits amp a b c e) = rw e (38, [], refl)
gives_some table t (alone amp a b e) = rw e (38, [], refl)

pub next_is : (here : Standing) (text : List Placed) (errors : List ParseError) (cs : List ℕ) → IsSomeText cs
    → next here (piece_span (record { text = text; gives = cs; errors = errors })) ≡ record here { front = reverse text ++ here.front }
next_is here text errors cs (c, others, e) = rw e refl

-- ITS EVENTS

-- the error of a run that is not known yet
abbrev pub run_errors : Reference → ℕ → List Placed → List ParseError
run_errors found at after = error_if (found.is_ambiguous && begins (λ c. eqb c 59) (past is_alphanumeric after)) UnknownNamedCharacterReference at

-- where the text is after a reference of this many characters, and the others
abbrev pub after_reference : Standing → ℕ → List Placed → ℕ → Standing
after_reference here at text count = record here { front = backwards (reverse (record { ch = 38; at = at } ∷ take count text) ++ here.front) (drop count text) }

-- A reference has been read: `count` characters of the text after the `&` belong to it; `after` follows what is read again.
module _ {table : Entities} (start : RawKind) (end : ℕ) (front : List Placed) (here : Standing) (taken : List Event) (at : ℕ) (text : List Placed) (count : ℕ)
    (found : Reference) (may : has_references here.kind ≡ true) (is_table : IsTable table) where
  abbrev amp : Placed
  amp = record { ch = 38; at = at }

  abbrev piece : List Placed → Piece
  piece after = record { text = amp ∷ take count text; gives = characters_of found.characters; errors = errors_of found at after }

  abbrev there : Standing
  there = record here { front = reverse (amp ∷ take count text) ++ here.front }

  pub stands_piece : (rest after : List Placed) → IsReference table false (drop count text ++ rest) (piece after)
      → Stands table start end front ((amp ∷ take count text) ++ (drop count text ++ rest)) here taken []
      → Stands table start end (front ++ (amp ∷ take count text)) (drop count text ++ rest) there (taken ++ piece_events found at) (run_errors found at after)
  stands_piece rest after is s = let span : Span = piece_span (piece after) in
      let one = stands_on (drop count text ++ rest) span [] s (reference_is table end here (drop count text ++ rest) (piece after) may is)
      (no_tag (characters_of found.characters) at) in
      let two = subst (λ (x : Standing).
      Stands table start end (front ++ (amp ∷ take count text)) (drop count text ++ rest) x (taken ++ map Gives span.tokens) (errors_of found at after))
      (next_is here (amp ∷ take count text) (errors_of found at after) (characters_of found.characters) (gives_some table is_table is)) one in
      stands_same (taken ++ piece_events found at) (errors_of found at after) (run_errors found at after)
      (tokens_in-append taken (piece_events found at) ∙ ap (λ (x : List Tok). tokens_in taken ++ x)
      (tokens_in-map (known_errors found at) (map (λ c. Char c at) (characters_of found.characters)) ∙ sym (tokens_in-map [] span.tokens))
      ∙ sym (tokens_in-append taken (map Gives span.tokens))) (cc (
        errors_in-append taken (piece_events found at),
        errors_in-map (known_errors found at) (map (λ c. Char c at) (characters_of found.characters)),
        append_assoc (errors_in taken) (known_errors found at) (run_errors found at after),
        append-nil (errors_in taken),
        errors_in-map [] span.tokens,
        errors_in-append taken (map Gives span.tokens),
      )) two

  -- and what is read again is plain
  pub stands_read : all is_itself (drop count text) ≡ true → (rest after : List Placed) → IsReference table false (drop count text ++ rest) (piece after)
      → Stands table start end front ((amp ∷ text) ++ rest) here taken [] → Stands table start end (front ++ (amp ∷ text)) rest
      (after_reference here at text count) (taken ++ read_events found at text count) (run_errors found at after)
  stands_read plain rest after is s =
      let whole : (amp ∷ take count text) ++ drop count text ≡ amp ∷ text = ap (λ (x : List Placed). amp ∷ x) (take-append-drop count text) in
      let split : (amp ∷ text) ++ rest ≡ (amp ∷ take count text) ++ (drop count text ++ rest) =
      ap (λ (x : List Placed). x ++ rest) (sym whole) ∙ append_assoc (amp ∷ take count text) (drop count text) rest in
      let two = plain_stands table start end (drop count text) (front ++ (amp ∷ take count text)) rest there (taken ++ piece_events found at)
      (run_errors found at after) plain (stands_piece rest after is (subst (λ (x : List Placed). Stands table start end front x here taken []) split s)) in
      subst (λ (x : List Placed).
      Stands table start end x rest (after_reference here at text count) (taken ++ read_events found at text count) (run_errors found at after))
      (append_assoc front (amp ∷ take count text) (drop count text) ∙ ap (λ (x : List Placed). front ++ x) whole) (subst (λ (x : List Event).
      Stands table start end ((front ++ (amp ∷ take count text)) ++ drop count text) rest (after_reference here at text count) x (run_errors found at after))
      (append_assoc taken (piece_events found at) (run_events (drop count text))) two)
