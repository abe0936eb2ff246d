-- The text at the front of a run, and what ends it.
use Rattle.htoken.proofs.Names.{◌≡◌, ◌≤◌, ◌<◌, ℕ, zero, suc, ◌+◌, true, false, eqb, ◌||◌, List, [], ◌∷◌, ◌++◌, map, length, take, drop, sym, refl, ap, ◌∙◌, subst, arith, Result, Ok, Err, append_assoc, append-nil, and_from, drop-length, length-append, length-take-le, take_all, take_at, drop_at, nat_tests, chars-IsAscii, chars-nil, list_all, prefix_len, is_ascii, len_utf8, chars, IsUtf8, UnknownNamedCharacterReference, ParseError, Placed, RawKind, Refusal, Texts, all, begins, past, is_alphanumeric, placed, error_if, is_clean, is_plain_character, is_text_byte, IsCut, all_placed, cut_more, placed_cut, placed_more, Entities, Piece, IsReference, named, kept, unknown, decimal, hexadecimal, no_digits, alone, ampersand, backwards, Script, TextWithReferences, Tokenizer, bare_errors, first_placed, IsBare, IsFront, Memory, Tok, Span, Item, Event, Gives, Reports, Char, piece_span, HandsEvents, is_script, run_events, FollowsAll, has_references, Standing, next, tokens_in, errors_in, eof_of, AreFront, Stands, Reads, holds, Takes, take_ran_out, take_took, take_sink_refused, IsBetween, after_last, text_front, chars_cut, has_characters, events_with_references, IsTakenFront, length-drop, all_weaker, map-append, drop-drop, Hands, gives_item, run_tokens, Handed, len_utf8_ascii, and_parts, ascii_chars, each_ascii, ascii_cut}
use Rattle.htoken.specs.declared.state.State.TheVariants as state
use Rattle.htoken.proofs.Going.{takes_both, held_in, reads_as, reads_front, reads_text}
use Rattle.htoken.proofs.Cutting.{stands_on, tokens_in-append, errors_in-append, stands_told, stands_same, no_tokens_told, errors_told}
use Rattle.htoken.proofs.Handing.{HandsEvents-append, reports_given, run_given}
use Rattle.htoken.proofs.InRaw.{after_characters}
use Rattle.htoken.proofs.Fronts.{all_itself}
use Rattle.htoken.proofs.InReference.{no_script}
use Rattle.htoken.proofs.Scripting.{all_followed}
use Rattle.htoken.proofs.Referring.{all_imp, alphanumeric_itself, reference_is, is_itself, plain_stands}

pub all_ascii : (xs : List ℕ) → list_all is_alphanumeric xs ≡ true → list_all is_ascii xs ≡ true
all_ascii xs h = all_weaker is_alphanumeric is_ascii (λ c letter. grind (arith, letter, nat_tests)) xs h

-- a run that begins with an ASCII text of `n` bytes
module _ (x : ℕ) (xs ys run : List ℕ) (is : run ≡ x ∷ (xs ++ ys)) (n : ℕ) (long : n ≡ 1 + length xs) (ascii : list_all is_ascii (x ∷ xs) ≡ true)
    (u : IsUtf8 run) where
  small : x < 128
  small = grind (arith, (and_parts (is_ascii x) (list_all is_ascii xs) ascii).0, nat_tests)

  pub begun_taken : take n run ≡ x ∷ xs
  begun_taken = ap (take n) is ∙ take_at (x ∷ xs) ys n (omega (arith, long))

  pub begun_left : drop n run ≡ ys
  begun_left = ap (drop n) is ∙ drop_at (x ∷ xs) ys n (omega (arith, long))

  pub begun_cut : IsCut n run
  begun_cut = ascii_cut n run (omega (arith, long, ap length is, length-append (x ∷ xs) ys)) (ap (list_all is_ascii) begun_taken ∙ ascii) u

  pub begun_text : (at : ℕ) → placed at (chars (take n run)) ≡ record { ch = x; at = at } ∷ placed (at + 1) xs
  begun_text at = cc (begun_taken, chars-IsAscii (x ∷ xs) (each_ascii (x ∷ xs) ascii), len_utf8_ascii x small)

  pub begun_first : (at : ℕ) → first_placed at run ≡ record { ch = x; at = at } ∷ []
  begun_first at = cc ((ascii_chars (x ∷ xs) ys ascii (subst IsUtf8 is u)).1)

pub bare_within : {table : Entities} {kind : RawKind} {r : List ℕ} {size : ℕ} → IsBare table kind r size → size < length r
bare_within is = omega (arith, is.count_is, ap length is.run_is, length-append is.letters (is.next ∷ is.others))

pub bare_cut_of : {table : Entities} {kind : RawKind} (run : List ℕ) (size : ℕ) → IsBare table kind run size → IsUtf8 run → IsCut size run
bare_cut_of run size is u = begun_cut 38 is.letters (is.next ∷ is.others) run is.run_is size is.count_is (all_ascii is.letters is.alphanumeric) u

-- EVENTS

tokens_run : (ps : List Placed) → tokens_in (run_events ps) ≡ map (λ p. Char p.ch p.at) ps
tokens_run [] = refl
tokens_run (p ∷ ps) = ap (λ (x : List Tok). Char p.ch p.at ∷ x) (tokens_run ps)

errors_run : (ps : List Placed) → errors_in (run_events ps) ≡ []
errors_run [] = refl
errors_run (p ∷ ps) = errors_run ps

-- the errors of a text, and then the characters that it gives
abbrev pub text_events : List ParseError → List Placed → List Event
text_events errors ps = map Reports errors ++ run_events ps

-- two texts, one after the other, are one text with the errors of both
module _ (taken : List Event) (es fs : List ParseError) (xs ys : List Placed) where
  both_errors : errors_in (taken ++ text_events (es ++ fs) (xs ++ ys)) ≡ errors_in ((taken ++ text_events es xs) ++ text_events fs ys)
  both_errors = simp (errors_in-append, errors_told, errors_run, append-nil, append_assoc)

  pub both_stand : (table : Entities) (start : RawKind) (end : ℕ) (front rest : List Placed) (here : Standing)
      → Stands table start end front rest here ((taken ++ text_events es xs) ++ text_events fs ys) []
      → Stands table start end front rest here (taken ++ text_events (es ++ fs) (xs ++ ys)) []
  both_stand table start end front rest here s = stands_same (taken ++ text_events (es ++ fs) (xs ++ ys)) [] []
      (simp (tokens_in-append, no_tokens_told, tokens_run, map-append (λ (p : Placed). Char p.ch p.at), append_assoc))
      (ap (λ (x : List ParseError). x ++ []) both_errors) s

-- the errors may come after the text
module _ (taken : List Event) (errors : List ParseError) (ps : List Placed) where
  text_first_tokens : tokens_in (taken ++ text_events errors ps) ≡ tokens_in ((taken ++ run_events ps) ++ map Reports errors)
  text_first_tokens = simp (tokens_in-append, no_tokens_told, tokens_run, append-nil)

  text_first_errors : errors_in (taken ++ text_events errors ps) ≡ errors_in ((taken ++ run_events ps) ++ map Reports errors)
  text_first_errors = simp (errors_in-append, errors_told, errors_run, append-nil)

-- AN `&` THAT IS TEXT

two_or_more : (o p : Placed) (ps : List Placed) (q : Placed) → o ∷ p ∷ ps ≡ q ∷ [] → ⊥
two_or_more o p ps q e = absurd cc

no_sign : (rest : List Placed) → begins (λ c. eqb c 35) rest ≡ true → begins is_alphanumeric rest ≡ true → ⊥
no_sign [] sign letter = absurd cc
no_sign (r ∷ rs) sign letter = let other : eqb r.ch 35 ≡ false = grind (arith, letter, nat_tests) in absurd cc

not_alone : (rest : List Placed) → begins (λ c. is_alphanumeric c || eqb c 35) rest ≡ false → begins is_alphanumeric rest ≡ true → ⊥
not_alone [] other letter = absurd cc
not_alone (r ∷ rs) other letter = let one : (is_alphanumeric r.ch || eqb r.ch 35) ≡ true = rw letter refl in absurd cc

-- where a piece is an `&` alone and letters follow, no key is there
pub unknown_is : {table : Entities} (rest : List Placed) {piece : Piece} (amp : Placed) → IsReference table false rest piece → piece.text ≡ amp ∷ []
    → begins is_alphanumeric rest ≡ true
    → piece ≡ ampersand amp (error_if (begins (λ c. eqb c 59) (past is_alphanumeric rest)) UnknownNamedCharacterReference amp.at)
unknown_is rest amp (named a [] entry is letter found key k e) text letters = absurd cc
unknown_is rest amp (named a (n ∷ ns) entry is letter found key k e) text letters = let same = ap (λ (x : Piece). x.text) (sym e) ∙ text in absurd cc
unknown_is rest amp (kept a entry is letter found k e) text letters = absurd cc
unknown_is rest amp (unknown a is letter found e) text letters = let same : a ≡ amp = cc in rw (e, same) refl
unknown_is rest amp (decimal [] digits close is digit runs k e) text letters = absurd cc
unknown_is rest amp (decimal (o ∷ []) digits close is digit runs k e) text letters = absurd cc
unknown_is rest amp (decimal (o ∷ p ∷ ps) digits close is digit runs k e) text letters =
    absurd (two_or_more o p (ps ++ digits ++ close) amp (ap (λ (x : Piece). x.text) (sym e) ∙ text))
unknown_is rest amp (hexadecimal [] digits close is digit runs k e) text letters = absurd cc
unknown_is rest amp (hexadecimal (o ∷ []) digits close is digit runs k e) text letters = absurd cc
unknown_is rest amp (hexadecimal (o ∷ p ∷ ps) digits close is digit runs k e) text letters =
    absurd (two_or_more o p (ps ++ digits ++ close) amp (ap (λ (x : Piece). x.text) (sym e) ∙ text))
unknown_is rest amp (no_digits a is sign none e) text letters = absurd (no_sign rest sign letters)
unknown_is rest amp (alone a is other e) text letters = absurd (not_alone rest other letters)

-- it is a span, and so are the letters and digits after it
module _ {table : Entities} {start : RawKind} {end : ℕ} {front : List Placed} {here : Standing} {taken : List Event} (may : has_references here.kind ≡ true)
    (amp : Placed) (letters rest : List Placed) (errors : List ParseError) where
  bare_stands : IsReference table false (letters ++ rest) (ampersand amp errors) → all is_alphanumeric letters ≡ true
      → Stands table start end front ((amp ∷ letters) ++ rest) here taken [] → Stands table start end (front ++ (amp ∷ letters)) rest
      (after_characters here (amp ∷ letters)) (taken ++ text_events errors (record { ch = 38; at = amp.at } ∷ letters)) []
  bare_stands is plain s = let span : Span = piece_span (ampersand amp errors) in
      let one = stands_on (letters ++ rest) span [] s (reference_is table end here (letters ++ rest) (ampersand amp errors) may is) refl in
      let two : Stands table start end ((front ++ amp ∷ []) ++ letters) rest (after_characters here (amp ∷ letters))
      ((taken ++ Gives (Char 38 amp.at) ∷ []) ++ run_events letters) errors =
      plain_stands table start end letters (front ++ amp ∷ []) rest (record here { front = amp ∷ here.front }) (taken ++ Gives (Char 38 amp.at) ∷ []) errors
      (all_imp is_alphanumeric is_itself letters alphanumeric_itself plain) one in
      let given : (taken ++ Gives (Char 38 amp.at) ∷ []) ++ run_events letters ≡ taken ++ run_events (record { ch = 38; at = amp.at } ∷ letters) =
      append_assoc taken (Gives (Char 38 amp.at) ∷ []) (run_events letters) in
      let three = stands_told errors
      (subst (λ (x : List Event). Stands table start end ((front ++ amp ∷ []) ++ letters) rest (after_characters here (amp ∷ letters)) x errors) given two) in
      subst (λ (x : List Placed).
      Stands table start end x rest (after_characters here (amp ∷ letters)) (taken ++ text_events errors (record { ch = 38; at = amp.at } ∷ letters)) [])
      (append_assoc front (amp ∷ []) letters) (stands_same (taken ++ text_events errors (record { ch = 38; at = amp.at } ∷ letters)) [] []
      (text_first_tokens taken errors (record { ch = 38; at = amp.at } ∷ letters))
      (ap (λ (x : List ParseError). x ++ []) (text_first_errors taken errors (record { ch = 38; at = amp.at } ∷ letters))) three)

-- A FRONT OF A RUN

backwards_on : (seen xs ys : List Placed) → backwards (backwards seen xs) ys ≡ backwards seen (xs ++ ys)
backwards_on seen [] ys = refl
backwards_on seen (x ∷ xs) ys = backwards_on (x ∷ seen) xs ys

pub length_left : (n : ℕ) (xs : List ℕ) → n ≤ length xs → n + length (drop n xs) ≡ length xs
length_left n xs h = omega (arith, h, length-drop n xs)

-- the first character of a text is the first of a front that is not empty
first_of_some : (at : ℕ) (cs others : List ℕ) → false ≡ eqb (length cs) 0 → (tail : List Placed) × (placed at cs ≡ placed at (take 1 (cs ++ others)) ++ tail)
first_of_some at [] others some = absurd cc
first_of_some at (c ∷ cs) others some = (placed (at + len_utf8 c) cs, refl)

pub first_split : (at n : ℕ) (run : List ℕ) → IsCut n run → 0 < n → (tail : List Placed) × (placed at (chars (take n run)) ≡ first_placed at run ++ tail)
first_split at n run cut some = let long : length (take n run) ≡ n = length-take-le n run cut.within in
    let filled : false ≡ eqb (length (take n run)) 0 = grind (arith, nat_tests) in
    let is = first_of_some at (chars (take n run)) (chars (drop n run)) (has_characters (take n run) cut.front filled) in
    (is.0, cc (is.1, chars_cut n run cut))

-- the same where nothing is in the front
split_on : (at n : ℕ) (run : List ℕ) → IsCut n run
    → (tail : List Placed) × (placed at (chars (take n run)) ++ first_placed (at + n) (drop n run) ≡ first_placed at run ++ tail)
split_on at zero run cut = let same : at + 0 ≡ at = omega arith in ([], cc (chars-nil, append-nil (first_placed at run)))
split_on at (suc n) run cut = let ahead : List Placed = first_placed (at + suc n) (drop (suc n) run) in
    let first = first_split at (suc n) run cut (omega arith) in
    (first.0 ++ ahead, cc (first.1, append_assoc (first_placed at run) first.0 ahead))

module _ (table : Entities) (kind : RawKind) (run : List ℕ) (at : ℕ) where
  -- characters that stand for themselves
  pub front_plain : (n : ℕ) → IsCut n run → all is_itself (placed at (chars (take n run))) ≡ true
      → IsFront table kind run at n [] (placed at (chars (take n run)))
  front_plain n cut plain = record {
    cut = cut;
    stands = λ start text here taken is s end more.
        let part : List Placed = placed at (chars (take n run)) in let ahead : List Placed = first_placed (at + n) (drop n run) in
        let split = split_on at n run cut in
        plain_stands table start end part text (ahead ++ more) here taken [] plain (subst (λ (x : List Placed). Stands table start end text x here taken [])
        (sym (append_assoc (first_placed at run) split.0 more) ∙ ap (λ (x : List Placed). x ++ more) (sym split.1) ∙ append_assoc part ahead more)
        (s end (split.0 ++ more)));
  }

  pub front_text : IsUtf8 run → list_all is_clean (chars run) ≡ true → (n : ℕ) → n ≡ prefix_len is_text_byte run
      → IsFront table kind run at n [] (placed at (chars (take n run)))
  front_text u clean n is = let front = text_front run u clean in let part : List ℕ = chars (take (prefix_len is_text_byte run) run) in
      rw is (front_plain (prefix_len is_text_byte run) front.0 (all_itself (placed at part) (all_placed is_plain_character at part front.1)))

  -- an `&` that is text, with the letters and digits after it
  pub front_bare : IsUtf8 run → (size : ℕ) (is : IsBare table kind run size)
      → IsFront table kind run at size (bare_errors is.letters is.next at) (placed at (chars (take size run)))
  front_bare u size is = let after : List ℕ = is.next ∷ is.others in
      let ascii : list_all is_ascii (38 ∷ is.letters) ≡ true = all_ascii is.letters is.alphanumeric in
      let amp : Placed = record { ch = 38; at = at } in
      let next : Placed = record { ch = is.next; at = at + size } in
      let rest : List Placed = placed (at + 1) is.letters in
      let errors : List ParseError = bare_errors is.letters is.next at in
      let part_of = begun_text 38 is.letters after run is.run_is size is.count_is ascii u at in
      let here_is = begun_first 38 is.letters after run is.run_is size is.count_is ascii u at in
      let left = begun_left 38 is.letters after run is.run_is size is.count_is ascii u in
      let next_is : first_placed (at + size) (drop size run) ≡ next ∷ [] = ap (first_placed (at + size)) left
      ∙ begun_first is.next [] is.others after refl 1 refl (and_from _ _ is.ascii refl) (subst IsUtf8 left (bare_cut_of run size is u).back) (at + size) in
      record {
        cut = bare_cut_of run size is u;
        stands = λ start text here taken same s end more. subst (λ (x : List Placed).
            Stands table start end (text ++ x) (first_placed (at + size) (drop size run) ++ more) (after_characters here x) (taken ++ text_events errors x) [])
            (sym part_of) (subst (λ (x : List Placed).
            Stands table start end (text ++ (amp ∷ rest)) (x ++ more) (after_characters here (amp ∷ rest)) (taken ++ text_events errors (amp ∷ rest)) [])
            (sym next_is) (bare_stands (ap has_references same ∙ is.may) amp rest (next ∷ more) errors (is.is_text at more)
            (all_placed is_alphanumeric (at + 1) is.letters is.alphanumeric)
            (subst (λ (x : List Placed). Stands table start end text (x ++ (rest ++ next ∷ more)) here taken []) here_is (s end (rest ++ next ∷ more)))));
      }

  -- a front, and one after it
  pub front_both : (n m : ℕ) (es fs : List ParseError) (gs hs : List Placed) → IsFront table kind run at n es gs
      → IsFront table kind (drop n run) (at + n) m fs hs → IsFront table kind run at (n + m) (es ++ fs) (gs ++ hs)
  front_both n m es fs gs hs f g = let part : List Placed = placed at (chars (take n run)) in
      let more_part : List Placed = placed (at + n) (chars (take m (drop n run))) in
      let ahead : List Placed = first_placed (at + (n + m)) (drop (n + m) run) in
      let both : placed at (chars (take (n + m) run)) ≡ part ++ more_part = placed_more n m run f.cut g.cut at in
      let far : at + n + m ≡ at + (n + m) = omega arith in
      let ahead_is : first_placed (at + n + m) (drop m (drop n run)) ≡ ahead = cc (drop-drop m n run) in
      record {
        cut = cut_more n m run f.cut g.cut;
        stands = λ start text here taken is s end more.
            let there : Standing = after_characters here part in
            let last : Stands table start end ((text ++ part) ++ more_part) (first_placed (at + n + m) (drop m (drop n run)) ++ more)
            (after_characters there more_part) ((taken ++ text_events es gs) ++ text_events fs hs) [] =
            g.stands start (text ++ part) there (taken ++ text_events es gs) is (f.stands start text here taken is s) end more in
            rw both (rw (← (append_assoc text part more_part)) (rw (← (backwards_on here.front part more_part)) (both_stand taken es fs gs hs table start end
            ((text ++ part) ++ more_part) (ahead ++ more) (after_characters there more_part) (rw (← ahead_is) last))));
      }

  -- a front of text, and one after it
  pub front_on : (n m : ℕ) (es fs : List ParseError) → IsFront table kind run at n es (placed at (chars (take n run)))
      → IsFront table kind (drop n run) (at + n) m fs (placed (at + n) (chars (take m (drop n run))))
      → IsFront table kind run at (n + m) (es ++ fs) (placed at (chars (take (n + m) run)))
  front_on n m es fs f g = subst (IsFront table kind run at (n + m) (es ++ fs)) (sym (placed_more n m run f.cut g.cut at))
      (front_both n m es fs (placed at (chars (take n run))) (placed (at + n) (chars (take m (drop n run)))) f g)

-- the same front of the same run
pub front_moved : {table : Entities} {kind : RawKind} {run rest : List ℕ} {at there n : ℕ} {errors : List ParseError} {given : List Placed} → rest ≡ run
    → there ≡ at → IsFront table kind rest there n errors given → IsFront table kind run at n errors given
front_moved {table = table} {kind = kind} {run = run} {there = there} {n = n} {errors = errors} {given = given} same here front =
    rw (← here) (rw (← same) front)

-- where nothing is held, and this comes next
module _ {S : Type 0} (gives : S → Item → Result (Unit {0}) Refusal → S → Type 0) {table : Entities} {start : RawKind} {names : Texts}
    {text ahead : List Placed} {taken : List Event} {t : Tokenizer} (h : Reads table start t names text ahead taken) (in_text : t.state ≡ state.Text) where
  none : (h.held ≡ []) × (t.raised.errors.items ≡ []) × IsBetween h.here t
  none = held_in h state.Text in_text

  text_is : text ≡ h.front
  text_is = cc (none.0, append-nil h.front)

  here_stands : (end : ℕ) (more : List Placed) → Stands table start end text (ahead ++ more) h.here taken []
  here_stands end more = subst (λ (x : List Placed). Stands table start end x (ahead ++ more) h.here taken []) (sym text_is)
      (subst (λ (x : List Placed). Stands table start end h.front (x ++ (ahead ++ more)) h.here taken []) none.0 (h.stands end more))

  -- the sink has refused an error
  pub error_refused : (run : List Placed) (tail : List Placed) → run ≡ ahead ++ tail → (old s : S) (e : Refusal) (errors : List ParseError)
      → HandsEvents gives names old (map Reports errors) (Err e) s → Takes gives table start text run taken names old (Err e) s t
  error_refused run tail is old s e errors told = take_sink_refused e (map Reports errors) refl told (λ more end.
      let rest : List Placed = ahead ++ (tail ++ more) in let then = here_stands end (tail ++ more) in
      record {
        spans = then.spans;
        rest = rest;
        others = eof_of end rest;
        text_is = cc (append_assoc ahead tail more);
        cut = then.cut;
        in_profile = then.in_profile;
        front_is = ap (λ (x : List Tok). x ++ eof_of end rest) (tokens_in-append taken (map Reports errors)
            ∙ ap (λ (x : List Tok). tokens_in taken ++ x) (no_tokens_told errors) ∙ append-nil (tokens_in taken) ∙ then.tokens_are);
      })

  -- a front has been read
  module _ {run : List ℕ} {at count : ℕ} {errors : List ParseError} {given : List Placed} (front : IsFront t.table.now t.kind run at count errors given)
      (tail : List Placed) (begins : first_placed at run ≡ ahead ++ tail) where
    abbrev part : List Placed
    part = placed at (chars (take count run))

    abbrev next_ahead : List Placed
    next_ahead = first_placed (at + count) (drop count run)

    front_stands : (end : ℕ) (more : List Placed)
        → Stands table start end (text ++ part) (next_ahead ++ more) (after_characters h.here part) (taken ++ text_events errors given) []
    front_stands = rw (← h.table_is) (front.stands start text h.here taken (sym h.kind_is)
        (λ end more. rw h.table_is (subst (λ (x : List Placed). Stands table start end text x h.here taken [])
        (sym (append_assoc ahead tail more) ∙ ap (λ (x : List Placed). x ++ more) (sym begins)) (here_stands end (tail ++ more)))))

    pub front_reads : (new : Tokenizer) → new ≡ record t { next = new.next; script = new.script; with_references = new.with_references }
        → new.next ≡ after_last ((text ++ part) ++ next_ahead) → (is_script t.kind ≡ true → FollowsAll t.script part new.script)
        → Reads table start new names (text ++ part) next_ahead (taken ++ text_events errors given)
    front_reads new then next follows =
        reads_text (after_characters h.here part) (ap (λ (x : Tokenizer). x.refused) then ∙ h.accepts) (ap (λ (x : Tokenizer). x.table.now) then ∙ h.table_is)
        next front_stands (ap (λ (x : Tokenizer). x.kind) then ∙ h.kind_is) (rw (ap (λ (x : Tokenizer). x.last) then) h.name_is)
        (ap (λ (x : Tokenizer). x.state) then ∙ in_text) (ap (λ (x : Tokenizer). x.raised.errors.items) then ∙ none.1) (record {
          named = λ raw name e. cc (none.2.named raw name e);
          leveled = λ script. all_followed part new.script h.here.front (follows (ap is_script h.kind_is ∙ script)) (none.2.leveled script);
        })

-- A FRONT, AND WHAT ENDS IT

first_then : (at : ℕ) (cs : List ℕ) → placed at cs ≡ placed at (take 1 cs) ++ drop 1 (placed at cs)
first_then at [] = refl
first_then at (c ∷ cs) = refl

-- a front of a run, and what comes next in the run, are a front of the text
pub run_front : (table : Entities) (start : RawKind) (t : Tokenizer) (names : Texts) (text : List Placed) (run : List ℕ) (at count : ℕ) (taken : List Event)
    → IsCut count run → Reads table start t names (text ++ placed at (chars (take count run))) (first_placed (at + count) (drop count run)) taken
    → (more : List Placed) (end : ℕ) → AreFront table start (text ++ (placed at (chars run) ++ more)) end taken
run_front table start t names text run at count taken cut h more end = let part : List Placed = placed at (chars (take count run)) in
    let left : List Placed = placed (at + count) (chars (drop count run)) in
    let ahead : List Placed = first_placed (at + count) (drop count run) in
    let tail : List Placed = drop 1 left in
    let split : left ≡ ahead ++ tail = first_then (at + count) (chars (drop count run)) in
    subst (λ (x : List Placed). AreFront table start x end taken) (append_assoc text part (ahead ++ (tail ++ more))
    ∙ ap (λ (x : List Placed). text ++ (part ++ x)) (sym (append_assoc ahead tail more) ∙ ap (λ (x : List Placed). x ++ more) (sym split))
    ∙ ap (λ (x : List Placed). text ++ x) (sym (append_assoc part left more) ∙ ap (λ (x : List Placed). x ++ more) (sym (placed_cut count run cut at))))
    (reads_front ahead h end (tail ++ more))

-- the same events in another order
reads_same : (table : Entities) (start : RawKind) (t : Tokenizer) (names : Texts) {text : List Placed} (ahead : List Placed) (taken others : List Event)
    → tokens_in others ≡ tokens_in taken → errors_in others ≡ errors_in taken → Reads table start t names text ahead taken
    → Reads table start t names text ahead others
reads_same table start t names ahead taken others tokens errors h = reads_as h t names ahead others refl refl h.next_is
    (λ end more. stands_same others [] [] tokens (ap (λ (x : List ParseError). x ++ []) errors) (h.stands end more)) refl h.name_is h.is_in h.is_held

-- text was handed over, and before it its errors
module _ {S : Type 0} (gives : S → ParseError → Result (Unit {0}) Refusal → S → Type 0) (gives_token : S → Handed → Result (Unit {0}) Refusal → S → Type 0)
    {table : Entities} {start : RawKind} {names : Texts} {text : List Placed} {taken : List Event} {t : Tokenizer} (h : Reads table start t names text [] taken)
    (in_text : t.state ≡ state.Text) {run : List ℕ} {at count : ℕ} {errors : List ParseError}
    (front : IsFront t.table.now t.kind run at count errors (placed at (chars (take count run)))) (old mid : S) (told : Hands gives old errors (Ok tt) mid)
    (new : Tokenizer) (then : new ≡ record t { script = new.script }) (part : List Placed) (part_is : part ≡ placed at (chars (take count run)))
    (follows : is_script t.kind ≡ true → FollowsAll t.script part new.script) where
  abbrev text_part : List Placed
  text_part = placed at (chars (take count run))

  given_reads : (next : Tokenizer) → next ≡ record new { next = next.next }
      → next.next ≡ after_last ((text ++ placed at (chars (take count run))) ++ first_placed (at + count) (drop count run))
      → Reads table start next names (text ++ placed at (chars (take count run))) (first_placed (at + count) (drop count run))
      (taken ++ text_events errors (placed at (chars (take count run))))
  given_reads next next_then next_is = let is : next ≡ record t { next = next.next; script = new.script } = cc in
      let script_is : next.script ≡ new.script = ap (λ (x : Tokenizer). x.script) is in
      let with_references_is : next.with_references ≡ t.with_references = ap (λ (x : Tokenizer). x.with_references) is in
      front_reads (gives_item gives gives_token) h in_text front (first_placed at run) refl next (cc) next_is
      (λ script. subst (FollowsAll t.script text_part) (sym script_is) (rw (← part_is) (follows script)))

  both_told : (s : S) (answer : Result (Unit {0}) Refusal) → Hands gives_token mid (run_tokens part) answer s
      → HandsEvents (gives_item gives gives_token) names old (text_events errors (placed at (chars (take count run)))) answer s
  both_told s answer given = HandsEvents-append (gives_item gives gives_token) names old mid s (map Reports errors) (run_events text_part) answer
      (reports_given gives gives_token names errors old mid (Ok tt) told) (run_given gives gives_token names mid s text_part answer (rw (← part_is) given))

  pub text_given : (s : S) → Hands gives_token mid (run_tokens part) (Ok tt) s
      → IsTakenFront (gives_item gives gives_token) table start new names text taken run at count old s
  text_given s given = record { events = text_events errors text_part; handed = both_told s (Ok tt) given; reads = given_reads }

  pub text_refused : (s : S) (e : Refusal) (last : Tokenizer) → Hands gives_token mid (run_tokens part) (Err e) s
      → Takes (gives_item gives gives_token) table start text (placed at (chars run)) taken names old (Err e) s last
  text_refused s e last given = let next : Tokenizer = record new { next = after_last ((text ++ text_part) ++ first_placed (at + count) (drop count run)) } in
      take_sink_refused e (text_events errors text_part) refl (both_told s (Err e) given)
      (run_front table start next names text run at count (taken ++ text_events errors text_part) front.cut (given_reads next refl refl))

module _ {S : Type 0} {gives : S → Item → Result (Unit {0}) Refusal → S → Type 0} {table : Entities} {start : RawKind} {names : Texts} {text : List Placed}
    {taken : List Event} {t : Tokenizer} {run : List ℕ} {at count : ℕ} {old mid : S}
    (front : IsTakenFront gives table start t names text taken run at count old mid) (cut : IsCut count run) where
  abbrev front_part : List Placed
  front_part = placed at (chars (take count run))

  abbrev next_part : List Placed
  next_part = first_placed (at + count) (drop count run)

  abbrev left : List Placed
  left = placed (at + count) (chars (drop count run))

  -- nothing comes after it
  pub all_taken : count ≡ length run → (new : Tokenizer) → new ≡ record t { next = new.next } → new.next ≡ after_last (text ++ placed at (chars run))
      → Takes gives table start text (placed at (chars (take count run))) taken names old (Ok tt) mid new
  all_taken all new then next = let whole : take count run ≡ run = take_all count run (omega (arith, all)) in
      let none_next : next_part ≡ [] = cc (all, drop-length run, chars-nil) in
      take_took front.events refl front.handed (holds (rw (← none_next) (front.reads new then (cc (next, append-nil (text ++ front_part))))))

  -- something does
  pub then_taken : (n : ℕ) (last : S) (after : Tokenizer) → IsCut n (drop count run) → Takes gives table start (text ++ placed at (chars (take count run)))
      (placed (at + count) (chars (take n (drop count run)))) (taken ++ front.events) names mid (Ok tt) last after
      → Takes gives table start text (placed at (chars (take (count + n) run))) taken names old (Ok tt) last after
  then_taken n last after again h = rw (placed_more count n run cut again at) (takes_both front_part front.events front.handed h)

  pub then_refused : (e : Refusal) (last : S) (after : Tokenizer) → Takes gives table start (text ++ placed at (chars (take count run)))
      (placed (at + count) (chars (drop count run))) (taken ++ front.events) names mid (Err e) last after
      → Takes gives table start text (placed at (chars run)) taken names old (Err e) last after
  then_refused e last after h = rw (placed_cut count run cut at) (takes_both front_part front.events front.handed h)

  -- more was handed over as one text
  module _ (in_text : t.state ≡ state.Text) (may : has_references t.kind ≡ true) where
    abbrev there : Tokenizer
    there = record t { next = after_last ((text ++ front_part) ++ next_part) }

    here_reads : Reads table start there names (text ++ front_part) next_part (taken ++ front.events)
    here_reads = front.reads there refl refl

    module _ {size : ℕ} {errors : List ParseError} {given : List Placed}
        (more : IsFront t.table.now t.kind (drop count run) (at + count) size errors given) where
      abbrev all_events : List Event
      all_events = front.events ++ events_with_references given errors

      on_reads : (new next : Tokenizer) → new ≡ record t { with_references = new.with_references } → next ≡ record new { next = next.next }
          → next.next ≡ after_last ((text ++ placed at (chars (take (count + size) run))) ++ first_placed (at + (count + size)) (drop (count + size) run))
          → Reads table start next names (text ++ placed at (chars (take (count + size) run))) (first_placed (at + (count + size)) (drop (count + size) run))
          (taken ++ all_events)
      on_reads new next then next_then next_is = let more_part : List Placed = placed (at + count) (chars (take size (drop count run))) in
          let far : at + count + size ≡ at + (count + size) = omega arith in
          let ahead_is : first_placed (at + count + size) (drop size (drop count run)) ≡ first_placed (at + (count + size)) (drop (count + size) run) =
          ap (λ (k : ℕ). first_placed k (drop size (drop count run))) far ∙ ap (first_placed (at + (count + size))) (drop-drop size count run) in
          let text_is : (text ++ front_part) ++ more_part ≡ text ++ placed at (chars (take (count + size) run)) =
          append_assoc text front_part more_part ∙ ap (λ (x : List Placed). text ++ x) (sym (placed_more count size run cut more.cut at)) in
          let is : next ≡ record t { next = next.next; with_references = new.with_references } =
          next_then ∙ ap (λ (x : Tokenizer). record x { next = next.next }) then in
          let before : List Event = taken ++ front.events in
          let same : (before ++ run_events given) ++ map Reports errors ≡ taken ++ all_events =
          append_assoc before (run_events given) (map Reports errors) ∙ append_assoc taken front.events (events_with_references given errors) in
          reads_same table start next names (first_placed (at + (count + size)) (drop (count + size) run)) (before ++ text_events errors given)
          (taken ++ all_events) (sym (text_first_tokens before errors given ∙ ap tokens_in same))
          (sym (text_first_errors before errors given ∙ ap errors_in same))
          (rw (← text_is) (rw (← ahead_is) (front_reads gives here_reads in_text more [] (sym (append-nil next_part)) next (is
          ∙ ap (λ (x : Script). record t { next = next.next; script = x; with_references = new.with_references }) (sym (ap (λ (x : Tokenizer). x.script) is))
          ∙ ap (λ (x : TextWithReferences). record t { next = next.next; script = next.script; with_references = x })
          (sym (ap (λ (x : Tokenizer). x.with_references) is)))
          (next_is ∙ ap after_last (ap (λ (x : List Placed). x ++ first_placed (at + (count + size)) (drop (count + size) run)) (sym text_is)
          ∙ ap (λ (x : List Placed). ((text ++ front_part) ++ more_part) ++ x) (sym ahead_is))) (λ script. absurd (no_script t.kind may script)))))

      pub with_references_given : (new : Tokenizer) → new ≡ record t { with_references = new.with_references } → (s : S)
          → HandsEvents gives names mid (events_with_references given errors) (Ok tt) s
          → IsTakenFront gives table start new names text taken run at (count + size) old s
      with_references_given new then s handed = record {
        events = all_events;
        handed = HandsEvents-append gives names old mid s front.events (events_with_references given errors) (Ok tt) front.handed handed;
        reads = λ next next_then next_is. on_reads new next then next_then next_is;
      }

      pub with_references_not : (e : Refusal) (s : S) (last : Tokenizer) → HandsEvents gives names mid (events_with_references given errors) (Err e) s
          → Takes gives table start text (placed at (chars run)) taken names old (Err e) s last
      with_references_not e s last handed =
          let next : Tokenizer = record t
          { next = after_last ((text ++ placed at (chars (take (count + size) run))) ++ first_placed (at + (count + size)) (drop (count + size) run)) } in
          take_sink_refused e all_events refl
          (HandsEvents-append gives names old mid s front.events (events_with_references given errors) (Err e) front.handed handed) (run_front table start next
          names text run at (count + size) (taken ++ all_events) (cut_more count size run cut more.cut) (on_reads t next refl refl refl))

    pub with_references_out : (e : Refusal) (last : Tokenizer) → e ≡ Memory
        → Takes gives table start text (placed at (chars run)) taken names old (Err e) mid last
    with_references_out e last is = take_ran_out front.events (ap (λ (x : Refusal). Err x) is) front.handed
        (run_front table start there names text run at count (taken ++ front.events) cut here_reads)
