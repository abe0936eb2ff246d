-- An attribute that stands whole in a run.
use Rattle.htag.proofs.Vocabulary.{◌≡◌, ◌<◌, ◌≤◌, ℕ, ◌+◌, ◌-◌, Bool, true, false, not, ◌||◌, eqb, List, [], ◌∷◌, ◌++◌, length, take, drop, sym, refl, ap, ◌∙◌, subst, append_assoc, append-nil, arith, nat_tests, and_parts, Some, get_or, length-take-le, take-append-drop, take_all, flat_map, list_all, len_utf8, ParseError, Placed, MissingWhitespaceBetweenAttributes, UnexpectedEqualsSignBeforeAttributeName, Texts, all, begins, stops, characters, error_if, is_equals, is_greater, is_quote, is_space, past, place, placed, all_weaker, all_placed, Entities, Piece, TagWalk, AreValue, pieces_text, value_bytes, IsInTag, is_unquoted_byte, is_word_byte, Attribute, IsPart, Part, attribute_name_errors, attribute_part, ends_attribute_name, ends_name, ends_unquoted, name_errors_here, unquoted_errors, value_errors, take_at, drop-drop, list_all-append, chars-nil, is_ascii, chars, IsUtf8, is_clean, IsCut, clean_rest, IsQuietFront, next_at, and_from, length-append, drop_at, IsCharBoundary, has_characters, IsPlainAttribute, IsWritten, PlainValue, get_or-append_seam, drop-length, chars-append, chars-IsAscii, encodes-chars, IsCharBoundary-before_ascii, IsCharBoundary-from_drop, IsUtf8-take, IsUtf8-drop, slice_range, EndsAs, IsAttributeName}
use Rattle.htext.proofs.Parts.{placed-append as placed_text}
use Rattle.htag.specs.declared.tag_state.TagState.TheVariants as phase
use Rattle.htag.proofs.Ascii.{ascii_chars, ascii_placed, cut_at, each_ascii}
use Rattle.htag.proofs.Even.{even_of, not_odd}
use Rattle.htag.proofs.Keeping.{held_in, past_is, body_then, part_read}
use Rattle.htag.proofs.InRun.{next_then, word_ascii, word_bytes, word_errors, word_in_name, word_no_equals}
use Rattle.htag.proofs.Parts.{holds_same, past-space}
use Rattle.htag.proofs.QuietValues.{all_chars}
use Rattle.htag.proofs.Values.{space_ends, spaces_follow}

-- The front of this text is a part of a tag with this attribute and without errors, where this character comes next, and after it is white space.
record HasFront (table : Entities) (attribute : Attribute) (first text : List Placed) (next : ℕ) : Type 0 where
  pub own : List Placed
  pub spaces : List Placed
  pub text_is : text ≡ own ++ spaces
  pub begins_so : own ≡ first ++ drop 1 own
  pub are_spaces : all is_space spaces ≡ true
  pub is_part : (last : ℕ) (rest : List Placed) → characters (take 1 rest) ≡ next ∷ []
      → IsPart table last (spaces ++ rest) (record { text = own; attribute = Some attribute; errors = [] })

-- what follows begins with this character
follows : (test : ℕ → Bool) (c : ℕ) (rest : List Placed) → test c ≡ true → characters (take 1 rest) ≡ c ∷ [] → stops test rest ≡ true
follows test c [] passes is = absurd cc
follows test c (p ∷ ps) passes is = let same : p.ch ≡ c = cc in ap test same ∙ passes

none_follows : (spaces : List Placed) (c : ℕ) (rest : List Placed) → all is_space spaces ≡ true → not (is_space c || is_equals c) ≡ true
    → characters (take 1 rest) ≡ c ∷ [] → begins is_equals (past is_space (spaces ++ rest)) ≡ false
none_follows spaces c [] are other is = absurd cc
none_follows spaces c (p ∷ ps) are other is = let same : p.ch ≡ c = cc in
    let here : not (is_space p.ch || is_equals p.ch) ≡ true = ap (λ (n : ℕ). not (is_space n || is_equals n)) same ∙ other in
    let space : is_space p.ch ≡ false = grind (arith, here, nat_tests) in
    let equals : is_equals p.ch ≡ false = grind (arith, here, nat_tests) in
    ap (begins is_equals) (past-space spaces p ps are space) ∙ equals

ends_attribute : (c : ℕ) → (eqb c 47 || is_greater c) ≡ true → (ends_attribute_name c ≡ true) × (not (is_space c || is_equals c) ≡ true)
ends_attribute c h = (grind (arith, h, nat_tests), grind (arith, h, nat_tests))

pub unquoted_inside : (c : ℕ) → is_unquoted_byte c ≡ true → not (ends_unquoted c) ≡ true
unquoted_inside c h = grind (arith, h, nat_tests)

first_passes : (test other : ℕ → Bool) → ((c : ℕ) → test c ≡ true → other c ≡ true) → (at : ℕ) (xs : List ℕ) → 0 < length xs → list_all test xs ≡ true
    → begins other (placed at xs) ≡ true
first_passes test other weaker at [] some h = absurd (omega (arith, some))
first_passes test other weaker at (x ∷ xs) some h = weaker x (and_parts (test x) (list_all test xs) h).0

unquoted_begun : (c : ℕ) → is_unquoted_byte c ≡ true → not (ends_unquoted c || is_quote c) ≡ true
unquoted_begun c h = grind (arith, h, nat_tests)

-- what is no ASCII
wide_unquoted : (c : ℕ) → 128 ≤ c → is_unquoted_byte c ≡ true
wide_unquoted c h = grind (arith, h, nat_tests)

wide_quoted : (mark : ℕ) → is_quote mark ≡ true → (c : ℕ) → 128 ≤ c → not (eqb c mark) ≡ true
wide_quoted mark quote c h = grind (arith, h, quote, nat_tests)

some_chars : (bytes : List ℕ) → IsUtf8 bytes → 0 < length bytes → 0 < length (chars bytes)
some_chars bytes u some = let one : false ≡ eqb (length bytes) 0 = grind (arith, some, nat_tests) in
    let begun = has_characters bytes u one in grind (arith, begun, nat_tests)

pub unquoted_even : (c : ℕ) → is_unquoted_byte c ≡ true → not_odd c ≡ true
unquoted_even c h = grind (arith, h, nat_tests)

-- pieces without errors and without characters that are faults
no_text : {X : Type 0} (xs ys : List X) → xs ++ ys ≡ [] → (xs ≡ []) × (ys ≡ [])
no_text [] ys e = (refl, e)
no_text (x ∷ xs) ys e = absurd cc

all_both : (test : ℕ → Bool) (xs ys : List Placed) → all test (xs ++ ys) ≡ true → (all test xs ≡ true) × (all test ys ≡ true)
all_both test [] ys h = (refl, h)
all_both test (x ∷ xs) ys h = let k = and_parts (test x.ch) (all test (xs ++ ys)) h in let l = all_both test xs ys k.1 in
    (and_from (test x.ch) (all test xs) k.0 l.0, l.1)

pub even_quiet : (pieces : List Piece) → value_errors pieces ≡ [] → all not_odd (pieces_text pieces) ≡ true → unquoted_errors pieces ≡ []
even_quiet [] none even = refl
even_quiet (p ∷ ps) none even = let errors = no_text p.errors (value_errors ps) none in let texts = all_both not_odd p.text (pieces_text ps) even in
    ap (λ (x : List ParseError). (x ++ p.errors) ++ unquoted_errors ps) (even_of p.text texts.0)
    ∙ ap (λ (x : List ParseError). x ++ unquoted_errors ps) errors.0 ∙ even_quiet ps errors.1 texts.1

module _ (run : List ℕ) (size : ℕ) (found : PlainValue) (found_is : IsPlainAttribute run size found) (u : IsUtf8 run) where
  abbrev name : List ℕ
  name = take size run

  abbrev before : List ℕ
  before = found_is.value.before

  abbrev pub value : List ℕ
  value = found_is.value.value

  abbrev after : List ℕ
  after = found_is.value.after

  abbrev next : ℕ
  next = found_is.value.next

  abbrev far : List ℕ
  far = found_is.value.after ++ found_is.value.next ∷ found_is.value.others

  abbrev pub from : ℕ
  from = size + found.before

  abbrev pub to : ℕ
  to = size + found.before + found.value

  abbrev pub end : ℕ
  end = size + found.before + found.value + found.after

  -- all but the value is ASCII
  name_ascii : list_all is_ascii (take size run) ≡ true
  name_ascii = all_weaker is_word_byte is_ascii word_ascii (take size run) found_is.words

  outside : (list_all is_ascii found_is.value.before ≡ true) × (list_all is_ascii found_is.value.after ≡ true) × (is_ascii found_is.value.next ≡ true)
  outside = by found_is.value.written where
    by : IsWritten before value after next → (list_all is_ascii before ≡ true) × (list_all is_ascii after ≡ true) × (is_ascii next ≡ true)
    by (IsWritten.quoted mark quote b inside a ends) = (rw b (grind (arith, nat_tests)), rw a (grind (arith, nat_tests)), grind (arith, nat_tests))
    by (IsWritten.unquoted b long inside a ends) = (rw b (grind (arith, nat_tests)), rw a (grind (arith, nat_tests)), grind (arith, nat_tests))
    by (IsWritten.missing b none a ends) = (rw b (grind (arith, nat_tests)), rw a (grind (arith, nat_tests)), grind (arith, nat_tests))
    by (IsWritten.apart space b none a is_white small other) = (rw b (grind (arith, nat_tests)), rw a (grind (arith, nat_tests)), grind (arith, nat_tests))

  -- what is left after each part
  whole : run ≡ name ++ (before ++ (value ++ far))
  whole = sym (take-append-drop size run) ∙ ap (λ (x : List ℕ). name ++ x) found_is.value.run_is

  past_name : IsUtf8 (before ++ (value ++ far))
  past_name = (ascii_chars name (before ++ (value ++ far)) name_ascii (subst IsUtf8 whole u)).0

  past_sign : IsUtf8 (value ++ far)
  past_sign = (ascii_chars before (value ++ far) outside.0 past_name).0

  pub long : length run ≡ size + found.before + found.value + found.after + length (found_is.value.next ∷ found_is.value.others)
  long = omega (arith, simp length-append at (ap length whole), length-take-le size run found_is.within)

  left_value : drop (size + found.before) run ≡ value ++ far
  left_value = sym (drop-drop found.before size run) ∙ ap (drop found.before) found_is.value.run_is
      ∙ drop_at before (value ++ far) found.before (sym found_is.value.before_is)

  left_far : drop (size + found.before + found.value) run ≡ far
  left_far = sym (drop-drop found.value from run) ∙ ap (drop found.value) left_value ∙ drop_at value far found.value (sym found_is.value.value_is)

  left_next : drop (size + found.before + found.value + found.after) run ≡ found_is.value.next ∷ found_is.value.others
  left_next = sym (drop-drop found.after to run) ∙ ap (drop found.after) left_far
      ∙ drop_at after (next ∷ found_is.value.others) found.after (sym found_is.value.after_is)

  far_head : (x : ℕ) × (xs : List ℕ) × (far ≡ x ∷ xs) × (x < 128)
  far_head = by after outside.1 where
    by : (ys : List ℕ) → list_all is_ascii ys ≡ true → (x : ℕ) × (xs : List ℕ) × (ys ++ next ∷ found_is.value.others ≡ x ∷ xs) × (x < 128)
    by [] h = let last = outside.2 in (next, found_is.value.others, refl, grind (arith, last, nat_tests))
    by (y ∷ ys) h = let k = and_parts (is_ascii y) (list_all is_ascii ys) h in (y, ys ++ next ∷ found_is.value.others, refl, grind (arith, k.0, nat_tests))

  value_edge : IsCharBoundary (value ++ far) (length value)
  value_edge = let (x, xs, is, small) = far_head in let all : value ++ far ≡ value ++ x ∷ xs = ap (λ (y : List ℕ). value ++ y) is in
      IsCharBoundary-before_ascii (value ++ far) (length value) (omega (arith, ap length all, length-append value (x ∷ xs)))
      (omega (arith, small, ap (λ (y : List ℕ). get_or y (length value) 0) all, get_or-append_seam value x xs 0))

  pub value_utf8 : IsUtf8 found_is.value.value
  value_utf8 = subst IsUtf8 (take_at value far (length value) refl) (IsUtf8-take (value ++ far) (length value) past_sign value_edge)

  far_utf8 : IsUtf8 far
  far_utf8 = subst IsUtf8 (drop_at value far (length value) refl) (IsUtf8-drop (value ++ far) (length value) past_sign value_edge)

  next_utf8 : IsUtf8 (found_is.value.next ∷ found_is.value.others)
  next_utf8 = (ascii_chars after (next ∷ found_is.value.others) outside.1 far_utf8).0

  pub name_edge : IsCharBoundary run size
  name_edge = IsCharBoundary-from_drop run size found_is.within (subst IsUtf8 (sym found_is.value.run_is) past_name)

  pub from_edge : IsCharBoundary run (size + found.before)
  from_edge = IsCharBoundary-from_drop run from (omega (arith, long)) (subst IsUtf8 (sym left_value) past_sign)

  pub to_edge : IsCharBoundary run (size + found.before + found.value)
  to_edge = IsCharBoundary-from_drop run to (omega (arith, long)) (subst IsUtf8 (sym left_far) far_utf8)

  pub end_cut : IsCut (size + found.before + found.value + found.after) run
  end_cut = cut_at end run u (IsCharBoundary-from_drop run end (omega (arith, long)) (subst IsUtf8 (sym left_next) next_utf8))

  pub written_is : slice_range run (size + found.before) (size + found.before + found.value) ≡ found_is.value.value
  written_is = let size : to - from ≡ found.value = omega arith in
      ap (λ (n : ℕ). take n (drop from run)) size ∙ ap (take found.value) left_value ∙ take_at value far found.value (sym found_is.value.value_is)

  pub written_clean : list_all is_clean (chars run) ≡ true → list_all is_clean (chars found_is.value.value) ≡ true
  written_clean clean = (and_parts (list_all is_clean (chars value)) (list_all is_clean (chars far))
      (sym (ap (list_all is_clean) (chars-append value far value_utf8) ∙ list_all-append is_clean (chars value) (chars far))
      ∙ ap (λ (x : List ℕ). list_all is_clean (chars x)) (sym left_value) ∙ (clean_rest from run (cut_at from run u from_edge) clean).1)).0

  taken : take (size + found.before + found.value + found.after) run ≡ name ++ (before ++ (value ++ after))
  taken = let all : run ≡ (name ++ (before ++ (value ++ after))) ++ next ∷ found_is.value.others = whole ∙ simp append_assoc in
      ap (take end) all ∙ take_at (name ++ (before ++ (value ++ after))) (next ∷ found_is.value.others) end
      (simp length-append (omega (arith, length-take-le size run found_is.within)))

  taken_chars : chars (take (size + found.before + found.value + found.after) run) ≡ name ++ (before ++ (chars value ++ after))
  taken_chars = let a = ascii_chars name (before ++ (value ++ after)) name_ascii (subst IsUtf8 taken end_cut.front) in
      let b = ascii_chars before (value ++ after) outside.0 a.0 in
      ap chars taken ∙ a.1 ∙ ap (λ (x : List ℕ). name ++ x) (b.1 ∙ ap (λ (x : List ℕ). before ++ x)
      (chars-append value after value_utf8 ∙ ap (λ (x : List ℕ). chars value ++ x) (chars-IsAscii after (each_ascii after outside.1))))

  module _ (at : ℕ) where
    abbrev after_name : ℕ
    after_name = at + length name

    abbrev in_value : ℕ
    in_value = at + length name + length before

    abbrev text : List Placed
    text = placed (at + length name + length before) (chars value)

    abbrev close : List Placed
    close = placed (at + length name + length before + length value) after

    front_placed : placed at (chars (take end run)) ≡ placed at name ++ (placed after_name before ++ (text ++ close))
    front_placed = ap (placed at) taken_chars ∙ ascii_placed at name (before ++ (chars value ++ after)) name_ascii
        ∙ (λ i. placed at name ++ ascii_placed after_name before (chars value ++ after) outside.0 i)
        ∙ (λ i. placed at name ++ (placed after_name before ++ placed_text in_value (chars value) after i))
        ∙ (λ i. placed at name ++ (placed after_name before ++ (text ++ placed (in_value + length (encodes-chars value value_utf8 i)) after)))

    next_is : next_at at run end ≡ record { ch = next; at = at + end } ∷ []
    next_is = let one : list_all is_ascii (next ∷ []) ≡ true = and_from (is_ascii next) true outside.2 refl in
        ap (λ (x : List ℕ). placed (at + end) (take 1 (chars x))) left_next
        ∙ ap (λ (x : List ℕ). placed (at + end) (take 1 x)) (ascii_chars (next ∷ []) found_is.value.others one next_utf8).1

    -- THE NAME

    name_some : 0 < length name
    name_some = omega (arith, found_is.some, length-take-le size run found_is.within)

    named : (attribute_name_errors (placed at name) ≡ []) × (all (λ c. not (ends_attribute_name c)) (drop 1 (placed at name)) ≡ true)
        × (place 0 (placed at name) ≡ at)
    named = by name name_some found_is.words where
      by : (xs : List ℕ) → 0 < length xs → list_all is_word_byte xs ≡ true → (attribute_name_errors (placed at xs) ≡ [])
          × (all (λ c. not (ends_attribute_name c)) (drop 1 (placed at xs)) ≡ true) × (place 0 (placed at xs) ≡ at)
      by [] some words = absurd (omega (arith, some))
      by (x ∷ xs) some words = let k = and_parts (is_word_byte x) (list_all is_word_byte xs) words in (
        ap (λ (b : Bool). error_if b UnexpectedEqualsSignBeforeAttributeName at ++ flat_map name_errors_here (placed at (x ∷ xs))) (word_no_equals x k.0)
            ∙ word_errors at (x ∷ xs) words,
        all_placed (λ c. not (ends_attribute_name c)) (at + len_utf8 x) xs
            (all_weaker is_word_byte (λ c. not (ends_attribute_name c)) (λ c h. grind (arith, h, nat_tests)) xs k.1),
        refl,
      )

    is_name : (rest : List Placed) → stops ends_attribute_name rest ≡ true → IsAttributeName (placed at name) rest
    is_name rest stop = record {
      first = first_passes is_word_byte (λ c. not (ends_name c)) word_in_name at name name_some found_is.words;
      runs = record { passes_none = named.1; stops_after = stop };
    }

    -- THE PART, with this value

    module _ (table : Entities) (bytes : List ℕ) (quiet : IsQuietFront table found_is.value.value (length found_is.value.value) [] bytes)
        (plain : found.plain ≡ true → bytes ≡ found_is.value.value) where
      abbrev pieces : List Piece
      pieces = (quiet.reads (at + length name + length before)).pieces

      text_is : text ≡ pieces_text pieces
      text_is = ap (λ (x : List ℕ). placed in_value (chars x)) (sym (take_all (length value) value (omega arith))) ∙ (quiet.reads in_value).text_is

      are : AreValue table pieces
      are = subst (AreValue table) (append-nil pieces) ((quiet.reads in_value).are [] tt
          (sym (ap (λ (x : List ℕ). placed (in_value + length value) (chars x)) (drop-length value) ∙ ap (placed (in_value + length value)) chars-nil)))

      value_is : bytes ≡ value_bytes pieces
      value_is = (quiet.reads in_value).bytes

      none : value_errors pieces ≡ []
      none = (quiet.reads in_value).quiet

      abbrev pub attribute : Attribute
      attribute = record { name = take size run; value = bytes; at = at }

      abbrev whole_text : List Placed
      whole_text = placed at (chars (take (size + found.before + found.value + found.after) run))

      -- by what follows the name
      part_is : (own others : List Placed) (given : List ℕ) (errors : List ParseError) → own ≡ placed at name ++ others → bytes ≡ given → errors ≡ []
          → record { text = own; attribute = Some attribute; errors = [] } ≡ attribute_part (placed at name) others given errors
      part_is own others given errors own_is same quiet_too =
          let none_too : [] ≡ attribute_name_errors (placed at name) ++ errors = λ i. sym named.0 i ++ sym quiet_too i in
          λ i. record {
            text = own_is i;
            attribute = Some (record { name = sym (word_bytes at name found_is.words) i; value = same i; at = sym named.2 i });
            errors = none_too i;
          }

      whole_is : (others : List Placed) → placed after_name before ++ (text ++ close) ≡ others → placed at (chars (take end run)) ≡ placed at name ++ others
      whole_is others are = front_placed ∙ ap (λ (x : List Placed). placed at name ++ x) are

      nothing_between : before ≡ [] → value ≡ [] → placed after_name before ++ (text ++ close) ≡ close
      nothing_between before_is no_value =
          (λ i. placed after_name (before_is i) ++ (placed in_value (chars (no_value i)) ++ close)) ∙ ap (λ (x : List ℕ). placed in_value x ++ close) chars-nil

      -- the part is all of it
      all_own : ((last : ℕ) (rest : List Placed) → characters (take 1 rest) ≡ next ∷ []
          → IsPart table last rest (record { text = whole_text; attribute = Some attribute; errors = [] }))
          → HasFront table attribute (next_at at run 0) whole_text next
      all_own is = record {
        own = whole_text;
        spaces = [];
        text_is = sym (append-nil whole_text);
        begins_so = next_then at end run end_cut (omega (arith, found_is.some));
        are_spaces = refl;
        is_part = is;
      }

      front_here : IsWritten before value after next → HasFront table attribute (next_at at run 0) whole_text next
      front_here (IsWritten.quoted mark quote before_is inside after_is ends) = all_own (λ last rest follow.
          let sign : List Placed = record { ch = 61; at = after_name } ∷ [] in let opens : List Placed = record { ch = mark; at = after_name + 1 } ∷ [] in
          let closes : List Placed = record { ch = mark; at = in_value + length value } ∷ [] in
          IsPart.quoted (placed at name) sign opens closes pieces mark (is_name sign refl) refl refl quote
          (ap (all (λ c. not (eqb c mark))) (sym text_is) ∙ all_placed (λ c. not (eqb c mark)) in_value (chars value)
          (all_chars (λ c. not (eqb c mark)) (wide_quoted mark quote) value value_utf8 inside)) are refl
          (part_is whole_text (sign ++ opens ++ pieces_text pieces ++ closes) (value_bytes pieces)
          (value_errors pieces ++ error_if (not (stops ends_name rest)) MissingWhitespaceBetweenAttributes (place last rest))
          (whole_is (sign ++ opens ++ pieces_text pieces ++ closes)
          (λ i. placed after_name (before_is i) ++ (text_is i ++ placed (in_value + length value) (after_is i)))) value_is
          (ap (λ (x : List ParseError). x ++ error_if (not (stops ends_name rest)) MissingWhitespaceBetweenAttributes (place last rest)) none
          ∙ ap (λ (b : Bool). error_if (not b) MissingWhitespaceBetweenAttributes (place last rest)) (follows ends_name next rest ends follow))))
      front_here (IsWritten.unquoted before_is some inside after_is ends) = all_own (λ last rest follow.
          let sign : List Placed = record { ch = 61; at = after_name } ∷ [] in
          let passes : list_all is_unquoted_byte (chars value) ≡ true = all_chars is_unquoted_byte wide_unquoted value value_utf8 inside in
          IsPart.unquoted (placed at name) sign pieces (is_name sign refl) refl
          (ap (begins (λ c. not (ends_unquoted c || is_quote c))) (sym text_is) ∙ first_passes is_unquoted_byte (λ c. not (ends_unquoted c || is_quote c))
          unquoted_begun in_value (chars value) (some_chars value value_utf8 some) passes) (record {
            passes_none = ap (all (λ c. not (ends_unquoted c))) (sym text_is) ∙ all_placed (λ c. not (ends_unquoted c)) in_value (chars value)
                (all_weaker is_unquoted_byte (λ c. not (ends_unquoted c)) unquoted_inside (chars value) passes);
            stops_after = follows ends_unquoted next rest ends follow;
          }) are (part_is whole_text (sign ++ pieces_text pieces) (value_bytes pieces) (unquoted_errors pieces)
          (whole_is (sign ++ pieces_text pieces) ((λ i. placed after_name (before_is i) ++ (text_is i ++ placed (in_value + length value) (after_is i)))
          ∙ (λ i. sign ++ append-nil (pieces_text pieces) i))) value_is (even_quiet pieces none (ap (all not_odd) (sym text_is)
          ∙ all_placed not_odd in_value (chars value) (all_weaker is_unquoted_byte not_odd unquoted_even (chars value) passes)))))
      front_here (IsWritten.missing before_is no_value after_is ends) = all_own (λ last rest follow.
          let given : bytes ≡ [] = plain (found_is.value.bare (found_is.value.before_is ∙ ap length before_is)) ∙ no_value in
          let other = ends_attribute next ends in
          IsPart.bare (placed at name) (is_name rest (follows ends_attribute_name next rest other.0 follow)) (none_follows [] next rest refl other.1 follow)
          (part_is whole_text [] [] [] (whole_is [] (nothing_between before_is no_value ∙ ap (placed (in_value + length value)) after_is)) given refl))
      front_here (IsWritten.apart space before_is no_value after_is is_white small other) =
          let given : bytes ≡ [] = plain (found_is.value.bare (found_is.value.before_is ∙ ap length before_is)) ∙ no_value in
          let white : all is_space close ≡ true =
          ap (λ (x : List ℕ). all is_space (placed (in_value + length value) x)) after_is ∙ and_from (is_space space) true is_white refl in
          let stops_here : (rest : List Placed) → stops ends_attribute_name (close ++ rest) ≡ true =
          λ rest. ap (λ (x : List ℕ). stops ends_attribute_name (placed (in_value + length value) x ++ rest)) after_is ∙ space_ends space is_white in
          let named : placed at (chars name) ≡ placed at name = ap (placed at) (chars-IsAscii name (each_ascii name name_ascii)) in
          record {
            own = placed at name;
            spaces = close;
            text_is = whole_is close (nothing_between before_is no_value);
            begins_so = subst (λ (x : List Placed). x ≡ next_at at run 0 ++ drop 1 x) named (next_then at size run (cut_at size run u name_edge) found_is.some);
            are_spaces = white;
            is_part = λ last rest follow. IsPart.bare (placed at name) (is_name (close ++ rest) (stops_here rest))
                (none_follows close next rest white other follow) (part_is (placed at name) [] [] [] (sym (append-nil (placed at name))) given refl);
          }

      -- it has been taken
      pub whole_taken : {names later_names : Texts} {walk mid new : TagWalk} {body : List Placed} {errors later : List ParseError}
          → IsInTag table names walk body (next_at at run 0) errors → walk.phase ≡ phase.BeforeAttributeName → mid.name ≡ walk.name → mid.seen ≡ walk.seen
          → mid.attrs ≡ walk.attrs → mid.any ≡ walk.any → EndsAs attribute names later_names mid errors new later
          → IsInTag table later_names new (body ++ placed at (chars (take end run))) (next_at at run end) later
      whole_taken {later_names = later_names} {new = new} {body = body} {errors = errors} {later = later} h before_it name_same seen attrs any ends =
          let front = front_here found_is.value.written in let part : Part = record { text = front.own; attribute = Some attribute; errors = [] } in
          let p : Placed = record { ch = next; at = at + end } in
          let after : List Placed = front.spaces ++ p ∷ [] in
          let nothing = held_in h before_it in
          let gone = past_is h before_it in
          let ended = ends.ends h.parts part refl (holds_same seen attrs any h.has_attributes) in
          let fed : List Placed = next_at at run 0 in
          let early : IsInTag table later_names new (body ++ part.text) after later = part_read h {later = later} part (body ++ part.text) after
          (drop 1 part.text ++ after) (body_then h nothing.0 part.text) (ap (λ (x : List Placed). x ++ (fed ++ (drop 1 part.text ++ after))) nothing.0
          ∙ sym (append_assoc fed (drop 1 part.text) after) ∙ ap (λ (x : List Placed). x ++ after) (sym front.begins_so))
          (λ last more. rw (append_assoc front.spaces (p ∷ []) more) (front.is_part last (p ∷ more) refl)) [] (sym (append-nil h.own ∙ nothing.1))
          (rw (append-nil errors) ended.1) (ends.name_is ∙ name_same) ends.phase_is ended.0 gone in
          rw (next_is, front.text_is, ← append_assoc body front.own front.spaces) (spaces_follow front.spaces p ends.phase_is front.are_spaces early)
