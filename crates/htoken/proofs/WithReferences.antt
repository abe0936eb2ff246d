-- An `&` that is text, and a whole reference, as a run shows them; what is gathered of a run as one text.
use Rattle.htoken.proofs.Names.{◌≡◌, ◌+◌, ◌-◌, ℕ, true, List, [], ◌∷◌, ◌++◌, take, drop, sym, refl, ap, ◌∙◌, subst, arith, Ok, Option, None, Some, IfSome, is_some, and_from, nat_tests, list_all-append, chars-nil, IsUtf8-nil, encode_utf8_all, list_all, chars, IsUtf8, ParseError, Placed, RawKind, all, characters, placed, characters_of, Entities, Reference, is_clean, clean_rest, Hands, TextWithReferences, all_at, AddsReferences, EndsFront, Front, WholeReference, IsCut, cut_more, IsFront, IsGathered, IsWhole, known_errors, IsTextWithReferences, has_references, map-append, chars_from_encodes, encodes-chars, encode_utf8_all-append, characters_placed, nothing_front, all_weaker, is_not_null, StartsAt, false, ◌<◌, length, length-take-le, drop-drop, get_or-drop, slice_index, is_text_byte, ◌≤◌, zero, suc, Bool, eqb, ◌&&◌, ◌||◌, map, reverse, append_assoc, append-nil, Result, Err, prefix_len, is_ascii, length-append, length-drop, take-append-drop, take_all, take_at, drop_at, prefix_len-le-length, prefix_len_stops, UnknownNamedCharacterReference, Refusal, Texts, begins, past, is_alphanumeric, error_if, IsRead, errors_of, IsReference, IsTable, alone, ampersand, all_placed, Tokenizer, bare_errors, first_placed, IsBare, piece_events, HandsEvents, Standing, run_events, Item, Event, Gives, Reports, Char, after_place, later_errors, after_last, Reads, Stands, Takes, take_sink_refused, backwards, reverse-append, get_or-append_seam, counted, take_more, and_parts, all-characters, IsTakenFront, placed_more, ascii_chars, ascii_placed, ascii_taken, length-placed}
use Rattle.htoken.proofs.InMarkup.{keeps, kept}
use Rattle.htoken.proofs.InText.{front_both, front_plain, length_left, text_events, all_ascii, unknown_is, begun_taken, begun_left, begun_cut, begun_text, begun_first, front_reads, run_front, all_taken}
use Rattle.htoken.proofs.Referring.{gives_some, IsSomeText, is_itself, run_errors, stands_piece}
use Rattle.htoken.specs.declared.state.State.TheVariants as state
use Rattle.htoken.proofs.Going.{takes_both, after_last-snoc}
use Rattle.htoken.proofs.InReference.{no_script}
use Rattle.htoken.proofs.Fronts.{next_ascii}
use Rattle.htoken.proofs.Cutting.{later_told, later_same}

-- its error: none where no letter or digit is after it
pub bare_error : (letters : List ℕ) (next at size : ℕ) → size ≡ 1 + length letters → (size ≡ 1 → ⊥)
    → bare_errors letters next at ≡ error_if (eqb next 59) UnknownNamedCharacterReference at
bare_error [] next at size is more = absurd (more (omega (arith, is)))
bare_error (l ∷ ls) next at size is more = refl

-- the character after it
pub after_bare : (letters : List ℕ) (next : ℕ) (others run : List ℕ) (size : ℕ) → run ≡ 38 ∷ letters ++ next ∷ others → size ≡ 1 + length letters
    → slice_index run size ≡ next
after_bare letters next others run size is long = let size_is : size ≡ length (38 ∷ letters) = omega (arith, long) in
    cc (size_is, get_or-append_seam (38 ∷ letters) next others 0)

pub alone_bare : (table : Entities) (kind : RawKind) (run : List ℕ) → has_references kind ≡ true → slice_index run 0 ≡ 38 → 1 < length run
    → is_alphanumeric (slice_index run 1) ≡ false → (slice_index run 1 ≡ 35 → ⊥) → is_ascii (slice_index run 1) ≡ true → IsBare table kind run 1
alone_bare table kind [] may amp long other sign ascii = absurd (omega (arith, long))
alone_bare table kind (a ∷ []) may amp long other sign ascii = absurd (omega (arith, long))
alone_bare table kind (a ∷ b ∷ rest) may amp long other sign ascii = record {
  may = may;
  letters = [];
  next = b;
  others = rest;
  run_is = ap (λ (x : ℕ). x ∷ b ∷ rest) amp;
  count_is = refl;
  alphanumeric = refl;
  ascii = ascii;
  is_text = λ at more.
      let none : (is_alphanumeric b || eqb b 35) ≡ false = grind (arith, other, sign, nat_tests) in alone (record { ch = 38; at = at }) refl none refl;
}

-- a front that passes is counted
counted_long : (test : ℕ → Bool) (xs : List ℕ) (k : ℕ) → k ≤ length xs → list_all test (take k xs) ≡ true → k ≤ prefix_len test xs
counted_long test xs zero within h = omega arith
counted_long test [] (suc k) within h = absurd (omega (arith, within))
counted_long test (x ∷ xs) (suc k) within h = let parts = and_parts (test x) (list_all test (take k xs)) h in
    let more = counted_long test xs k (omega (arith, within)) parts.1 in
    rw parts.0 (omega (arith, more))

-- a list is what comes before a place, what is there, and what comes after it
seam : (n : ℕ) (xs : List ℕ) → n < length xs → xs ≡ take n xs ++ slice_index xs n ∷ drop (n + 1) xs
seam n [] h = absurd (omega (arith, h))
seam zero (x ∷ xs) h = refl
seam (suc n) (x ∷ xs) h = let e : suc n + 1 ≡ suc (n + 1) = omega arith in rw e (ap (λ (l : List ℕ). x ∷ l) (seam n xs (omega (arith, h))))

-- the letters after it show that no key begins it
module _ (table : Entities) (kind : RawKind) (bytes : List ℕ) (found : Reference) (k : ℕ) (some : 0 < k) (within : k ≤ length bytes)
    (is_ambiguous : found.is_ambiguous ≡ true) (read : (at : ℕ) (after : List Placed) → IsRead table false (placed at (take k bytes)) after found) where
  abbrev count : ℕ
  count = prefix_len is_alphanumeric bytes

  letters_read : list_all is_alphanumeric (take k bytes) ≡ true
  letters_read = sym (all-characters is_alphanumeric (placed 0 (take k bytes)) ∙ ap (list_all is_alphanumeric) (characters_placed 0 (take k bytes)))
      ∙ ((read 0 []).run is_ambiguous).1

  few : k ≤ count
  few = counted_long is_alphanumeric bytes k within letters_read

  abbrev letters : List ℕ
  letters = take count bytes

  abbrev later : List ℕ
  later = take (count - k) (drop k bytes)

  letters_are : letters ≡ take k bytes ++ later
  letters_are = let sum : k + (count - k) ≡ count = omega (arith, few) in cc (take_more k (count - k) bytes)

  plain : list_all is_alphanumeric letters ≡ true
  plain = counted is_alphanumeric bytes

  placed_letters : (at : ℕ) → placed at letters ≡ placed at (take k bytes) ++ placed (at + k) later
  placed_letters at = let long : length (take k bytes) ≡ k = length-take-le k bytes within in
      cc (letters_are, ascii_placed at (take k bytes) later (all_ascii (take k bytes) letters_read), long)

  letters_begin : (at : ℕ) (rest : List Placed) → begins is_alphanumeric (placed at (take k bytes) ++ rest) ≡ true
  letters_begin at rest = by (take k bytes) letters_read (length-take-le k bytes within) where
    by : (xs : List ℕ) → list_all is_alphanumeric xs ≡ true → length xs ≡ k → begins is_alphanumeric (placed at xs ++ rest) ≡ true
    by [] h l = absurd (omega (arith, l, some))
    by (x ∷ xs) h l = (and_parts (is_alphanumeric x) (list_all is_alphanumeric xs) h).0

  module _ (at next : ℕ) (more : List Placed) (other : is_alphanumeric next ≡ false) where
    abbrev amp : Placed
    amp = record { ch = 38; at = at }

    abbrev text : List Placed
    text = placed (at + 1) (take k bytes)

    abbrev last : Placed
    last = record { ch = next; at = at + (1 + count) }

    abbrev after : List Placed
    after = placed (at + 1 + k) later ++ last ∷ more

    rest_is : text ++ after ≡ placed (at + 1) letters ++ last ∷ more
    rest_is = cc (append_assoc text (placed (at + 1 + k) later) (last ∷ more), placed_letters (at + 1))

    found_at : IsReference table false (text ++ after) (record { text = amp ∷ []; gives = characters_of found.characters; errors = errors_of found at after })
    found_at = let r = read (at + 1) after in let none : length text - found.left ≡ 0 = omega (arith, (r.run is_ambiguous).0) in
        subst (λ (n : ℕ). IsReference table false (drop n text ++ after)
        (record { text = amp ∷ take n text; gives = characters_of found.characters; errors = errors_of found at after })) none (r.reads amp refl)

    pub bare_is : IsReference table false (placed (at + 1) letters ++ last ∷ more) (ampersand amp (error_if (eqb next 59) UnknownNamedCharacterReference at))
    bare_is = rw (← rest_is)
        (rw (← (ap (later_errors at) rest_is ∙ later_same at (placed (at + 1) letters) (last ∷ more) (all_placed is_alphanumeric (at + 1) letters plain)
        ∙ later_told at last more other)) (rw (← (unknown_is (text ++ after) amp found_at refl (letters_begin (at + 1) after))) found_at))

  pub letters_bare : (run : List ℕ) → run ≡ 38 ∷ bytes → has_references kind ≡ true → count < length bytes → is_ascii (slice_index bytes count) ≡ true
      → IsBare table kind run (1 + count)
  letters_bare run is may left ascii = let long : length letters ≡ count = length-take-le count bytes (prefix_len-le-length is_alphanumeric bytes) in
      record {
        may = may;
        letters = letters;
        next = slice_index bytes count;
        others = drop (count + 1) bytes;
        run_is = is ∙ ap (λ (x : List ℕ). 38 ∷ x) (seam count bytes left);
        count_is = ap (λ (n : ℕ). 1 + n) (sym long);
        alphanumeric = plain;
        ascii = ascii;
        is_text = λ at more.
            let next : ℕ = slice_index bytes count in
            rw (bare_error letters next at (1 + count) (ap (λ (n : ℕ). 1 + n) (sym long)) (λ one. omega (arith, one, few, some)))
            (bare_is at next more (prefix_len_stops is_alphanumeric bytes 0 left));
      }

-- what comes after the first of a text
pub rest_of : (xs : List ℕ) → take (length xs - 1) (drop 1 xs) ≡ drop 1 xs
rest_of xs = take_all (length xs - 1) (drop 1 xs) (omega (arith, length-drop 1 xs))

-- A WHOLE REFERENCE

pub whole_is : {table : Entities} (kind : RawKind) (run bytes : List ℕ) (found : Reference) (count : ℕ) → has_references kind ≡ true → IsTable table
    → run ≡ 38 ∷ bytes → count ≤ length bytes → list_all is_ascii (take count bytes) ≡ true → found.is_ambiguous ≡ false → found.left ≤ 1
    → ((at : ℕ) (after : List Placed) → IsRead table false (placed at (take count bytes)) after found) → IsWhole table kind run found count
whole_is kind run bytes found count may is_table is within ascii known left reads = record {
  may = may;
  is_table = is_table;
  shown = take count bytes;
  others = drop count bytes;
  run_is = is ∙ ap (λ (x : List ℕ). 38 ∷ x) (sym (take-append-drop count bytes));
  count_is = sym (length-take-le count bytes within);
  ascii = ascii;
  known = known;
  left = left;
  reads = reads;
}

-- the run up to where it is shown
module _ {table : Entities} {kind : RawKind} {run : List ℕ} (u : IsUtf8 run) {found : Reference} {count : ℕ} (is : IsWhole table kind run found count) where
  long : count + 1 ≡ 1 + length is.shown
  long = omega (arith, is.count_is)

  pub whole_cut : IsCut (count + 1) run
  whole_cut = begun_cut 38 is.shown is.others run is.run_is (count + 1) long is.ascii u

  shown_is : take (count + 1) run ≡ 38 ∷ is.shown
  shown_is = begun_taken 38 is.shown is.others run is.run_is (count + 1) long is.ascii u

  pub whole_alone : IsWhole table kind (take (count + 1) run) found count
  whole_alone = record {
    may = is.may;
    is_table = is.is_table;
    shown = is.shown;
    others = [];
    run_is = shown_is ∙ sym (append-nil (38 ∷ is.shown));
    count_is = is.count_is;
    ascii = is.ascii;
    known = is.known;
    left = is.left;
    reads = is.reads;
  }

  pub whole_long : length (take (count + 1) run) ≡ count + 1
  whole_long = omega (arith, ap length shown_is, long)

  pub whole_next : (text : List Placed) (at : ℕ) → after_place (at + count) ≡ after_last (text ++ placed at (chars (take (count + 1) run)))
  whole_next text at = cc
      (next_ascii text at 38 is.shown is.ascii, ascii_taken (count + 1) run whole_cut.within (ap (list_all is_ascii) shown_is ∙ is.ascii), shown_is)

-- the characters of a reference as text
given_is : (cs : List ℕ) (at : ℕ) → map Gives (map (λ c. Char c at) cs) ≡ run_events (all_at at cs)
given_is [] at = refl
given_is (c ∷ cs) at = ap (λ (x : List Event). Gives (Char c at) ∷ x) (given_is cs at)

backwards_is : (seen xs : List Placed) → reverse xs ++ seen ≡ backwards seen xs
backwards_is seen [] = refl
backwards_is seen (x ∷ xs) = cc (reverse-append (x ∷ []) xs, append_assoc (reverse xs) (x ∷ []) seen, backwards_is (x ∷ seen) xs)

-- what one ASCII character or none, and others after it, begin with
first_ahead : (n : ℕ) (xs others : List ℕ) (more : List Placed) → length xs ≤ 1 → list_all is_ascii xs ≡ true → IsUtf8 (xs ++ others)
    → (rest : List Placed) × (placed n xs ++ rest ≡ first_placed n (xs ++ others) ++ more)
first_ahead n [] others more few ascii u = (first_placed n others ++ more, refl)
first_ahead n (x ∷ []) others more few ascii u = (more, ap (λ (cs : List ℕ). placed n (take 1 cs) ++ more) (sym (ascii_chars (x ∷ []) others ascii u).1))
first_ahead n (x ∷ y ∷ xs) others more few ascii u = absurd (omega (arith, few))

-- it is a front of the run: what it leaves comes next
module _ {table : Entities} {kind : RawKind} {run : List ℕ} (at : ℕ) (u : IsUtf8 run) {found : Reference} {count : ℕ}
    (is : IsWhole table kind run found count) where
  abbrev size : ℕ
  size = count - found.left

  abbrev mine : List ℕ
  mine = take size is.shown

  abbrev theirs : List ℕ
  theirs = drop size is.shown

  abbrev shown_text : List Placed
  shown_text = placed (at + 1) is.shown

  pub few_left : found.left ≤ count
  few_left = omega (arith, (is.reads (at + 1) []).within, length-placed (at + 1) is.shown, is.count_is)

  mine_long : length mine ≡ size
  mine_long = length-take-le size is.shown (omega (arith, is.count_is))

  own_size : length shown_text - found.left ≡ size
  own_size = omega (arith, length-placed (at + 1) is.shown, is.count_is)

  both : mine ++ theirs ≡ is.shown
  both = take-append-drop size is.shown

  ascii : (list_all is_ascii mine ≡ true) × (list_all is_ascii theirs ≡ true)
  ascii = and_parts (list_all is_ascii mine) (list_all is_ascii theirs) (cc (list_all-append is_ascii mine theirs, both))

  run_split : run ≡ 38 ∷ (mine ++ (theirs ++ is.others))
  run_split = cc (both, append_assoc mine theirs is.others)

  size_is : 1 + size ≡ 1 + length mine
  size_is = omega (arith, mine_long)

  mine_cut : IsCut (1 + size) run
  mine_cut = begun_cut 38 mine (theirs ++ is.others) run run_split (1 + size) size_is ascii.0 u

  pub mine_left : drop (1 + size) run ≡ theirs ++ is.others
  mine_left = begun_left 38 mine (theirs ++ is.others) run run_split (1 + size) size_is ascii.0 u

  text_split : shown_text ≡ placed (at + 1) mine ++ placed (at + (1 + size)) theirs
  text_split = let far : at + 1 + length mine ≡ at + (1 + size) = omega (arith, mine_long) in cc (both, ascii_placed (at + 1) mine theirs ascii.0)

  mine_placed : length (placed (at + 1) mine) ≡ size
  mine_placed = length-placed (at + 1) mine ∙ mine_long

  pub first_of_whole : first_placed at run ≡ record { ch = 38; at = at } ∷ []
  first_of_whole = begun_first 38 mine (theirs ++ is.others) run run_split (1 + size) size_is ascii.0 u at

  theirs_few : length theirs ≡ found.left
  theirs_few = omega (arith, few_left, is.count_is, length-drop size is.shown)

  -- the character that it leaves
  pub left_ascii : (found.left ≡ 0 → ⊥) → is_ascii (slice_index (drop (1 + size) run) 0) ≡ true
  left_ascii leaves = cc (mine_left, by theirs (omega (arith, theirs_few, leaves)) ascii.1) where
    by : (xs : List ℕ) → 0 < length xs → list_all is_ascii xs ≡ true → is_ascii (slice_index (xs ++ is.others) 0) ≡ true
    by [] some all = absurd (omega (arith, some))
    by (x ∷ xs) some all = (and_parts (is_ascii x) (list_all is_ascii xs) all).0

  pub front_whole : IsFront table kind run at (1 + size) (known_errors found at) (all_at at (characters_of found.characters))
  front_whole = record {
    cut = mine_cut;
    stands = λ start text here taken same s end more.
        let sign : Placed = record { ch = 38; at = at } in let own : ℕ = length shown_text - found.left in
        let ahead : List Placed = first_placed (at + (1 + size)) (drop (1 + size) run) in
        let next = first_ahead (at + (1 + size)) theirs is.others more (omega (arith, theirs_few, is.left)) ascii.1 (subst IsUtf8 mine_left mine_cut.back) in
        let rest : List Placed = next.0 in
        let cs : List ℕ = characters_of found.characters in
        let before : Stands table start end text ((sign ∷ take own shown_text) ++ (drop own shown_text ++ rest)) here taken [] =
        subst (λ (x : List Placed). Stands table start end text x here taken []) (ap (λ (x : List Placed). x ++ (shown_text ++ rest)) first_of_whole
        ∙ ap (λ (x : List Placed). sign ∷ (x ++ rest)) (sym (take-append-drop own shown_text))
        ∙ ap (λ (x : List Placed). sign ∷ x) (append_assoc (take own shown_text) (drop own shown_text) rest)) (s end (shown_text ++ rest)) in
        let later : run_errors found at rest ≡ [] =
        ap (λ (b : Bool). error_if (b && begins (λ c. eqb c 59) (past is_alphanumeric rest)) UnknownNamedCharacterReference at) is.known in
        let there : Standing = record here { front = reverse (sign ∷ take own shown_text) ++ here.front } in
        let one : Stands table start end (text ++ (sign ∷ take own shown_text)) (drop own shown_text ++ rest) there (taken ++ piece_events found at) [] =
        subst (λ (es : List ParseError).
        Stands table start end (text ++ (sign ∷ take own shown_text)) (drop own shown_text ++ rest) there (taken ++ piece_events found at) es) later
        (stands_piece start end text here taken at shown_text own found (ap has_references same ∙ is.may) is.is_table rest rest
        ((is.reads (at + 1) rest).reads sign refl) before) in
        let part_is : sign ∷ take own shown_text ≡ placed at (chars (take (1 + size) run)) =
        ap (λ (x : List Placed). sign ∷ x) (ap (λ (n : ℕ). take n shown_text) own_size ∙ ap (take size) text_split
        ∙ take_at (placed (at + 1) mine) (placed (at + (1 + size)) theirs) size mine_placed)
        ∙ sym (begun_text 38 mine (theirs ++ is.others) run run_split (1 + size) size_is ascii.0 u at) in
        let left_is : drop own shown_text ++ rest ≡ ahead ++ more = ap (λ (x : List Placed). x ++ rest) (ap (λ (n : ℕ). drop n shown_text) own_size
        ∙ ap (drop size) text_split ∙ drop_at (placed (at + 1) mine) (placed (at + (1 + size)) theirs) size mine_placed) ∙ next.1
        ∙ ap (λ (x : List ℕ). first_placed (at + (1 + size)) x ++ more) (sym mine_left) in
        let given : piece_events found at ≡ text_events (known_errors found at) (all_at at cs) =
        ap (λ (x : List Event). map Reports (known_errors found at) ++ x) (given_is cs at) in
        subst (λ (x : List Placed). Stands table start end (text ++ x) (ahead ++ more) (record here { front = backwards here.front x })
        (taken ++ text_events (known_errors found at) (all_at at cs)) []) part_is
        (subst (λ (x : List Placed). Stands table start end (text ++ (sign ∷ take own shown_text)) (ahead ++ more) (record here { front = x })
        (taken ++ text_events (known_errors found at) (all_at at cs)) []) (backwards_is here.front (sign ∷ take own shown_text))
        (subst (λ (x : List Event). Stands table start end (text ++ (sign ∷ take own shown_text)) (ahead ++ more) there (taken ++ x) []) given (subst
        (λ (x : List Placed). Stands table start end (text ++ (sign ∷ take own shown_text)) x there (taken ++ piece_events found at) []) left_is one)));
  }

-- AN ASCII CHARACTER

pub mark_ascii : (byte : ℕ) → is_text_byte byte ≡ false → is_ascii byte ≡ true
mark_ascii byte mark = grind (arith, mark, nat_tests)

pub ascii_first : (run : List ℕ) (at c : ℕ) → IsUtf8 run → 0 < length run → c ≡ slice_index run 0 → is_ascii (slice_index run 0) ≡ true
    → (first_placed at run ≡ record { ch = c; at = at } ∷ []) × (placed at (chars (take 1 run)) ≡ record { ch = c; at = at } ∷ []) × IsCut 1 run
ascii_first [] at c u some is one = absurd (omega (arith, some))
ascii_first (x ∷ xs) at c u some is one = let all : list_all is_ascii (x ∷ []) ≡ true = and_from _ _ one refl in
    let same : record { ch = x; at = at } ∷ [] ≡ record { ch = c; at = at } ∷ [] = ap (λ (n : ℕ). record { ch = n; at = at } ∷ []) (sym is) in (
      begun_first x [] xs (x ∷ xs) refl 1 refl all u at ∙ same,
      begun_text x [] xs (x ∷ xs) refl 1 refl all u at ∙ same,
      begun_cut x [] xs (x ∷ xs) refl 1 refl all u,
    )

pub ascii_next : (before : List Placed) (at count : ℕ) (run : List ℕ) → IsCut count run → count < length run → is_ascii (slice_index run count) ≡ true
    → after_place (at + count) ≡ after_last (before ++ first_placed (at + count) (drop count run))
ascii_next before at count run cut within ascii = let left : List ℕ = drop count run in
    let here : slice_index left 0 ≡ slice_index run count = get_or-drop count run 0 0 ∙ ap (λ (n : ℕ). slice_index run n) (omega arith) in
    let first =
    ascii_first left (at + count) (slice_index left 0) cut.back (omega (arith, within, length_left count run cut.within)) refl (ap is_ascii here ∙ ascii) in
    sym (ap (λ (x : List Placed). after_last (before ++ x)) first.0 ∙ after_last-snoc 0 before (record { ch = slice_index left 0; at = at + count }))

-- A WHOLE REFERENCE IS TAKEN, and after it the character that it leaves

module _ {S : Type 0} (gives : S → Item → Result (Unit {0}) Refusal → S → Type 0) {table : Entities} {start : RawKind} {names : Texts} {text : List Placed}
    {taken : List Event} {t : Tokenizer} {run : List ℕ} (at : ℕ) (u : IsUtf8 run) {found : Reference} {count : ℕ}
    (is : IsWhole t.table.now t.kind run found count) (in_text : t.state ≡ state.Text) (h : Reads table start t names text (first_placed at run) taken) where
  abbrev own : ℕ
  own = 1 + (count - found.left)

  -- it is a front of this run, which begins as that
  module _ {r : List ℕ} (v : IsUtf8 r) (w : IsWhole t.table.now t.kind r found count) where
    whole_reads : (new : Tokenizer) → new ≡ record t { next = new.next }
        → new.next ≡ after_last ((text ++ placed at (chars (take own r))) ++ first_placed (at + own) (drop own r))
        → Reads table start new names (text ++ placed at (chars (take own r))) (first_placed (at + own) (drop own r)) (taken ++ piece_events found at)
    whole_reads new then next = rw (given_is (characters_of found.characters) at) (front_reads gives h in_text (front_whole at v w) []
        (first_of_whole at v w ∙ sym (first_of_whole at u is) ∙ sym (append-nil (first_placed at run))) new (then ∙ (λ i. record t
        { next = new.next; script = sym (ap (λ (x : Tokenizer). x.script) then) i; with_references = sym (ap (λ (x : Tokenizer). x.with_references) then) i }))
        next (λ script. absurd (no_script t.kind is.may script)))

    whole_front : (old mid : S) → HandsEvents gives names old (piece_events found at) (Ok tt) mid
        → IsTakenFront gives table start t names text taken r at own old mid
    whole_front old mid handed = record { events = piece_events found at; handed = handed; reads = whole_reads }

  abbrev alone_run : List ℕ
  alone_run = take (count + 1) run

  alone_utf8 : IsUtf8 alone_run
  alone_utf8 = (whole_cut u is).front

  alone_is : IsWhole t.table.now t.kind alone_run found count
  alone_is = whole_alone u is

  alone_cut : IsCut own alone_run
  alone_cut = (front_whole at alone_utf8 alone_is).cut

  pub whole_refused : (new : Tokenizer) (old s : S) (e : Refusal) → HandsEvents gives names old (piece_events found at) (Err e) s
      → Takes gives table start text (placed at (chars (take (count + 1) run))) taken names old (Err e) s new
  whole_refused new old s e handed =
      let there : Tokenizer = record t
      { next = after_last ((text ++ placed at (chars (take own alone_run))) ++ first_placed (at + own) (drop own alone_run)) } in
      take_sink_refused e (piece_events found at) refl handed
      (run_front table start there names text alone_run at own (taken ++ piece_events found at) alone_cut (whole_reads alone_utf8 alone_is there refl refl))

  module _ (new : Tokenizer) (then : new ≡ record t { next = new.next }) (next : new.next ≡ after_place (at + count)) where
    pub whole_ends : found.left ≡ 0 → (old s : S) → HandsEvents gives names old (piece_events found at) (Ok tt) s
        → Takes gives table start text (placed at (chars (take (count + 1) run))) taken names old (Ok tt) s new
    whole_ends ends old s handed = let all : own ≡ length alone_run = omega (arith, ends, whole_long u is) in
        rw (← (take_all own alone_run (omega (arith, all))))
        (all_taken (whole_front alone_utf8 alone_is old s handed) alone_cut all new then (next ∙ whole_next u is text at))

    pub whole_then : (found.left ≡ 0 → ⊥) → (p : Placed) → p ≡ record { ch = slice_index run count; at = at + count }
        → (old mid s : S) (answer : Result (Unit {0}) Refusal) (after : Tokenizer) → HandsEvents gives names old (piece_events found at) (Ok tt) mid
        → ((front : List Placed) (before : List Event) → Reads table start new names front (p ∷ []) before
        → Takes gives table start front (p ∷ []) before names mid answer s after)
        → Takes gives table start text (placed at (chars (take (count + 1) run))) taken names old answer s after
    whole_then leaves p p_is old mid s answer after handed takes = let own_is : own ≡ count = omega (arith, is.left, leaves, few_left at u is) in
        let front : IsTakenFront gives table start t names text taken run at count old mid =
        subst (λ (n : ℕ). IsTakenFront gives table start t names text taken run at n old mid) own_is (whole_front u is old mid handed) in
        let cut : IsCut count run = subst (λ (n : ℕ). IsCut n run) own_is (front_whole at u is).cut in
        let less : count < length run = omega (arith, is.count_is, ap length is.run_is, length-append (38 ∷ is.shown) is.others) in
        let here : slice_index (drop count run) 0 ≡ slice_index run count = get_or-drop count run 0 0 ∙ ap (λ (n : ℕ). slice_index run n) (omega arith) in
        let ascii : is_ascii (slice_index (drop count run) 0) ≡ true =
        subst (λ (n : ℕ). is_ascii (slice_index (drop n run) 0) ≡ true) own_is (left_ascii at u is leaves) in
        let first =
        ascii_first (drop count run) (at + count) (slice_index run count) cut.back (omega (arith, less, length_left count run cut.within)) (sym here) ascii in
        let only : record { ch = slice_index run count; at = at + count } ∷ [] ≡ p ∷ [] = ap (λ (x : Placed). x ∷ []) (sym p_is) in
        let part : List Placed = placed at (chars (take count run)) in
        let reads = front.reads new then (next ∙ ascii_next (text ++ part) at count run cut less (ap is_ascii (sym here) ∙ ascii)) in
        subst (λ (x : List Placed). Takes gives table start text x taken names old answer s after)
        (ap (λ (x : List Placed). part ++ x) (sym (first.1 ∙ only)) ∙ sym (placed_more count 1 run cut first.2 at))
        (takes_both part front.events front.handed (takes (text ++ part) (taken ++ front.events)
        (subst (λ (x : List Placed). Reads table start new names (text ++ part) x (taken ++ front.events)) (first.0 ∙ only) reads)))

starts_both : (gs ps : List Placed) (at there : ℕ) → StartsAt gs at → StartsAt ps there → (gs ≡ [] → there ≡ at) → StartsAt (gs ++ ps) at
starts_both [] [] at there first next same = tt
starts_both [] (p ∷ ps) at there first next same = next ∙ same refl
starts_both (g ∷ gs) ps at there first next same = first

none_both : (gs ps : List Placed) → gs ++ ps ≡ [] → (gs ≡ []) × (ps ≡ [])
none_both [] ps none = (refl, none)
none_both (g ∷ gs) ps none = absurd cc

starts_placed : (at : ℕ) (cs : List ℕ) → StartsAt (placed at cs) at
starts_placed at [] = tt
starts_placed at (c ∷ cs) = refl

starts_all_at : (at : ℕ) (cs : List ℕ) → StartsAt (all_at at cs) at
starts_all_at at [] = tt
starts_all_at at (c ∷ cs) = refl

some_there : (at : ℕ) (cs : List ℕ) → IsSomeText cs → all_at at cs ≡ [] → ⊥
some_there at [] (c, others, is) none = absurd cc
some_there at (c ∷ cs) some none = absurd cc

characters-all_at : (at : ℕ) (cs : List ℕ) → characters (all_at at cs) ≡ cs
characters-all_at at [] = refl
characters-all_at at (c ∷ cs) = ap (λ (x : List ℕ). c ∷ x) (characters-all_at at cs)

module _ (table : Entities) (kind : RawKind) (run : List ℕ) (at : ℕ) where
  pub front_none : IsUtf8 run → IsFront table kind run at 0 [] []
  front_none u = let none : placed at (chars (take 0 run)) ≡ [] = ap (placed at) chars-nil in
      subst (IsFront table kind run at 0 []) none (front_plain table kind run at 0 (nothing_front run u).cut (ap (all is_itself) none))

  pub gathered_none : IsUtf8 run → (s : TextWithReferences) → s.raised.errors.items ≡ [] → s.text ≡ [] → IsGathered table kind run at 0 s
  gathered_none u s raised text = record {
    given = [];
    front = rw raised (front_none u);
    text_is = text;
    utf8 = subst IsUtf8 (sym text) IsUtf8-nil;
    not_null = refl;
    starts = tt;
    some = λ e. refl;
  }

  pub gathered_more : (n m : ℕ) (s : TextWithReferences) {t : TextWithReferences} → IsGathered table kind run at n s → {rest : List ℕ} → rest ≡ drop n run
      → AddsReferences table kind rest (at + n) m s t → IsGathered table kind run at (n + m) t
  gathered_more n m s g is a = record {
    given = g.given ++ a.given;
    front = rw a.raised_is (front_both table kind run at n m s.raised.errors.items a.errors g.given a.given g.front (rw (← is) a.front));
    text_is = cc (encode_utf8_all-append (characters g.given) (characters a.given), map-append (λ (p : Placed). p.ch) g.given a.given);
    utf8 = a.utf8;
    not_null = ap (list_all is_not_null) (map-append (λ (p : Placed). p.ch) g.given a.given)
        ∙ list_all-append is_not_null (characters g.given) (characters a.given) ∙ and_from _ _ g.not_null a.not_null;
    starts = starts_both g.given a.given at (at + n) g.starts a.starts (λ none. omega (arith, g.some none));
    some = λ none. let both = none_both g.given a.given none in omega (arith, g.some both.0, a.some both.1);
  }

  -- text, and an `&` that is text
  pub text_adds : list_all is_clean (chars run) ≡ true → (old new : TextWithReferences) (n : ℕ) (errors : List ParseError)
      → IsFront table kind run at n errors (placed at (chars (take n run))) → new.raised.errors.items ≡ old.raised.errors.items ++ errors
      → new.text ≡ old.text ++ take n run → IsUtf8 new.text → AddsReferences table kind run at n old new
  text_adds clean old new n errors front raised_is text_is utf8 = let part : List ℕ = chars (take n run) in
      let are : characters (placed at part) ≡ part = characters_placed at part in
      let bytes : encode_utf8_all (characters (placed at part)) ≡ take n run = ap encode_utf8_all are ∙ encodes-chars (take n run) front.cut.front in
      record {
        errors = errors;
        given = placed at part;
        front = front;
        raised_is = raised_is;
        text_is = text_is ∙ ap (λ (x : List ℕ). old.text ++ x) (sym bytes);
        utf8 = utf8;
        not_null =
            ap (list_all is_not_null) are ∙ all_weaker is_clean is_not_null (λ c h. grind (arith, h, nat_tests)) part (clean_rest n run front.cut clean).0;
        starts = starts_placed at part;
        some = λ none. cc (length-take-le n run front.cut.within);
      }

  -- the sink may take it as a run
  pub gathered_with_references : {n : ℕ} (s : TextWithReferences) (g : IsGathered table kind run at n s)
      → (list_all is_not_null (chars s.text) ≡ true) × IsTextWithReferences g.given s.text at
  gathered_with_references s g = let are : characters g.given ≡ chars s.text = chars_from_encodes (characters g.given) s.text g.utf8 (sym g.text_is) in
      (ap (list_all is_not_null) (sym are) ∙ g.not_null, record { characters_are = are; starts = g.starts })

-- what is known of the rest of a run, of its byte at an index and of the reference that comes there, is known of the run
pub front_later : (table : Entities) (kind : RawKind) (run rest : List ℕ) (n : ℕ) (more : Front) → rest ≡ drop n run → IsCut n run → IsCut more.count rest
    → (more.count < length rest → is_text_byte (slice_index rest more.count) ≡ false)
    → IfSome more.next (λ it. IsWhole table kind (drop more.count rest) it.found it.size)
    → EndsFront table kind run (record { count = n + more.count; next = more.next })
front_later table kind run rest n more is cut again ends whole = record {
  cut = cut_more n more.count run cut (subst (IsCut more.count) is again);
  ends = λ l.
      let few : more.count < length rest = omega (arith, l, ap length is, length_left n run cut.within) in cc (get_or-drop n run more.count 0, ends few);
  whole = rw (← (ap (drop more.count) is ∙ drop-drop more.count n run)) whole;
}

-- and the other way round
pub front_here : (table : Entities) (kind : RawKind) (run rest : List ℕ) (front : Front) → rest ≡ drop front.count run → EndsFront table kind run front
    → EndsFront table kind rest (record { count = 0; next = front.next })
front_here table kind run rest front is e = record {
  cut = record { within = omega arith; front = IsUtf8-nil; back = subst IsUtf8 (sym is) e.cut.back };
  ends = λ l.
      let same : front.count + 0 ≡ front.count = omega arith in
      let less : front.count < length run = omega (arith, l, ap length is, length_left front.count run e.cut.within) in
      cc (get_or-drop front.count run 0 0, e.ends less);
  whole = rw is e.whole;
}

pub whole_of : (table : Entities) (kind : RawKind) (run : List ℕ) (whole : Option WholeReference) (first : WholeReference) → whole ≡ Some first
    → IfSome whole (λ it. IsWhole table kind run it.found it.size) → IsWhole table kind run first.found first.size
whole_of table kind run whole first is may = subst (λ w. IfSome w (λ it. IsWhole table kind run it.found it.size)) is may

-- a whole reference is where references may be
pub may_of : (table : Entities) (kind : RawKind) (run : List ℕ) (whole : Option WholeReference) → is_some whole ≡ true
    → IfSome whole (λ it. IsWhole table kind run it.found it.size) → has_references kind ≡ true
may_of table kind run None some h = absurd cc
may_of table kind run (Some it) some h = h.may

-- a whole reference
module _ {table : Entities} {kind : RawKind} {run : List ℕ} (at : ℕ) (u : IsUtf8 run) {found : Reference} {size : ℕ} (is : IsWhole table kind run found size)
    (own : ℕ) (own_is : own ≡ 1 + size - found.left) where
  abbrev stands_for : List ℕ
  stands_for = characters_of found.characters

  own_length : own ≡ 1 + (size - found.left)
  own_length = omega (arith, own_is, few_left at u is)

  pub reference_adds : list_all is_not_null stands_for ≡ true → (old new : TextWithReferences)
      → Hands keeps old.raised (known_errors found at) (Ok tt) new.raised → new.text ≡ old.text ++ encode_utf8_all stands_for → IsUtf8 new.text
      → AddsReferences table kind run at own old new
  reference_adds not_null old new known text_is utf8 = let are : characters (all_at at stands_for) ≡ stands_for = characters-all_at at stands_for in
      record {
        errors = known_errors found at;
        given = all_at at stands_for;
        front = rw own_length (front_whole at u is);
        raised_is = kept old.raised new.raised (known_errors found at) known;
        text_is = cc;
        utf8 = utf8;
        not_null = ap (list_all is_not_null) are ∙ not_null;
        starts = starts_all_at at stands_for;
        some = λ none. absurd (some_there at stands_for (gives_some table is.is_table ((is.reads 1 []).reads (record { ch = 38; at = 0 }) refl)) none);
      }
