-- Values that are read at once: characters that stand for themselves, and references without errors.
use Rattle.htag.proofs.Vocabulary.{◌≡◌, ℕ, suc, ◌+◌, ◌-◌, ◌≤◌, ◌<◌, Bool, true, false, not, ◌&&◌, eqb, List, [], ◌∷◌, ◌++◌, length, take, drop, sym, refl, ap, ◌∙◌, subst, transport, append_assoc, append-nil, arith, nat_tests, and_parts, None, encode_utf8_all, flat_map-append, list_all, prefix_len, slice_index, all_weaker, take-append-drop, length-take-le, take_all, ParseError, Placed, all, error_if, placed, all_placed, Entities, Piece, IsReference, IsRead, characters_of, errors_of, Reference, AreValue, IsValuePiece, pieces_text, plain_pieces, value_bytes, value_errors, is_ascii, chars, IsUtf8, drop-drop, take_at, list_all-append, chars-nil, is_clean, is_quoted_byte, IsCut, clean_rest, IsQuietFront, is_no_reference, len_utf8, and_from, drop_at, length-append, encodes-chars, MissingSemicolonAfterCharacterReference, front_of_test, ends_in_semicolon, is_kept_as_text, named, kept, unknown, decimal, hexadecimal, no_digits, alone, take_more, cut_more, placed_cut, placed_more}
use Rattle.htag.proofs.Ascii.{ascii_chars, ascii_cut, ascii_placed, ascii_taken}
use Rattle.htag.proofs.InRun.{characters_placed}
use Rattle.htag.proofs.Pieces.{alone_bytes, alone_errors, pieces_text-append, plain_text, value_bytes-append}

-- CHARACTERS

-- one that stands for itself
abbrev is_itself : ℕ → Bool
is_itself c = is_clean c && is_no_reference c

no_sign : (c : ℕ) → is_itself c ≡ true → eqb c 38 ≡ false
no_sign c h = grind (arith, h, nat_tests)

no_null : (c : ℕ) → is_itself c ≡ true → eqb c 0 ≡ false
no_null c h = grind (arith, h, nat_tests)

itself : (cs : List ℕ) → list_all is_clean cs ≡ true → list_all is_no_reference cs ≡ true → list_all is_itself cs ≡ true
itself [] h k = refl
itself (c ∷ cs) h k = let a = and_parts (is_clean c) (list_all is_clean cs) h in let b = and_parts (is_no_reference c) (list_all is_no_reference cs) k in
    and_from (is_itself c) (list_all is_itself cs) (and_from (is_clean c) (is_no_reference c) a.0 b.0) (itself cs a.1 b.1)

are_alone : (table : Entities) (text : List Placed) (more : List Piece) → all is_itself text ≡ true → AreValue table more
    → AreValue table (plain_pieces text ++ more)
are_alone table [] more h are = are
are_alone table (p ∷ ps) more h are = let k = and_parts (is_itself p.ch) (all is_itself ps) h in
    (IsValuePiece.plain p (no_sign p.ch k.0) refl, are_alone table ps more k.1 are)

-- the front of a run, as characters that stand for themselves
module _ (run : List ℕ) (count : ℕ) (cut : IsCut count run) (clean : list_all is_clean (chars run) ≡ true)
    (plain : list_all is_no_reference (chars (take count run)) ≡ true) (at : ℕ) where
  abbrev front : List Placed
  front = placed at (chars (take count run))

  pub front_passes : all is_itself (placed at (chars (take count run))) ≡ true
  front_passes = all_placed is_itself at (chars (take count run)) (itself (chars (take count run)) (clean_rest count run cut clean).0 plain)

  pub front_quiet : value_errors (plain_pieces (placed at (chars (take count run)))) ≡ []
  front_quiet = alone_errors is_itself no_sign no_null true (λ e. absurd cc) front front_passes

  pub front_bytes : take count run ≡ value_bytes (plain_pieces (placed at (chars (take count run))))
  front_bytes = sym (alone_bytes is_itself no_sign no_null front front_passes ∙ ap encode_utf8_all (characters_placed at (chars (take count run)))
      ∙ encodes-chars (take count run) cut.front)

-- this many bytes that are no `&`
pub plain_front : (table : Entities) (run : List ℕ) (count : ℕ) (old : List ℕ) → IsCut count run → list_all is_clean (chars run) ≡ true
    → list_all is_no_reference (chars (take count run)) ≡ true → IsQuietFront table run count old (old ++ take count run)
plain_front table run count old cut clean plain = record {
  cut = cut;
  reads = λ at.
      let text = placed at (chars (take count run)) in
      record {
        pieces = plain_pieces text;
        text_is = sym (plain_text text);
        are = λ more are is. are_alone table text more (front_passes run count cut clean plain at) are;
        quiet = front_quiet run count cut clean plain at;
        bytes = ap (λ (x : List ℕ). old ++ x) (front_bytes run count cut clean plain at);
      };
}

-- up to the first `&`
pub text_front : (table : Entities) (run : List ℕ) (count : ℕ) (old : List ℕ) → IsUtf8 run → list_all is_clean (chars run) ≡ true
    → count ≡ prefix_len (is_quoted_byte 38) run → IsQuietFront table run count old (old ++ take count run)
text_front table run count old u clean is =
    let (cut, plain) = subst (λ (n : ℕ). IsCut n run × (list_all (is_quoted_byte 38) (chars (take n run)) ≡ true)) (sym is)
    (front_of_test (is_quoted_byte 38) (λ byte l. grind (arith, l, nat_tests)) run u) in
    plain_front table run count old cut clean
    (all_weaker (is_quoted_byte 38) is_no_reference (λ c h. grind (arith, h, nat_tests)) (chars (take count run)) plain)

pub first_amp : (run : List ℕ) → 0 < length run → slice_index run 0 ≡ 38 → run ≡ 38 ∷ drop 1 run
first_amp [] some is = absurd (omega (arith, some))
first_amp (x ∷ xs) some is = ap (λ (c : ℕ). c ∷ xs) is

all_counted : (test : ℕ → Bool) (xs : List ℕ) → list_all test xs ≡ true → prefix_len test xs ≡ length xs
all_counted test [] h = refl
all_counted test (x ∷ xs) h = let k = and_parts (test x) (list_all test xs) h in rw k.0 (omega (arith, all_counted test xs k.1))

-- all of it
pub plain_value : (table : Entities) (run : List ℕ) → IsUtf8 run → list_all is_clean (chars run) ≡ true → list_all is_no_reference run ≡ true
    → IsQuietFront table run (length run) [] run
plain_value table run u clean plain = let long : prefix_len is_no_reference run ≡ length run = all_counted is_no_reference run plain in
    let (cut, passes) = subst (λ (n : ℕ). IsCut n run × (list_all is_no_reference (chars (take n run)) ≡ true)) long
    (front_of_test is_no_reference (λ byte l. grind (arith, l, nat_tests)) run u) in
    subst (IsQuietFront table run (length run) []) (take_all (length run) run (omega arith)) (plain_front table run (length run) [] cut clean passes)

-- what all bytes pass, all characters do
pub all_chars : (test : ℕ → Bool) → ((byte : ℕ) → 128 ≤ byte → test byte ≡ true) → (run : List ℕ) → IsUtf8 run → list_all test run ≡ true
    → list_all test (chars run) ≡ true
all_chars test long run u h = let n : ℕ = prefix_len test run in
    ap (λ (x : List ℕ). list_all test (chars x)) (sym (take_all n run (omega (arith, all_counted test run h)))) ∙ (front_of_test test long run u).1

-- ONE AFTER ANOTHER

pub nothing_read : (table : Entities) (run old : List ℕ) → IsUtf8 run → IsQuietFront table run 0 old old
nothing_read table run old u = record {
  cut = ascii_cut 0 run (omega arith) refl u;
  reads = λ at. record { pieces = []; text_is = ap (placed at) chars-nil; are = λ more are is. are; quiet = refl; bytes = sym (append-nil old) };
}

pub more_read : (table : Entities) (run : List ℕ) (n m : ℕ) (old mid new : List ℕ) → IsQuietFront table run n old mid
    → IsQuietFront table (drop n run) m mid new → IsQuietFront table run (n + m) old new
more_read table run n m old mid new first then = record {
  cut = cut_more n m run first.cut then.cut;
  reads = λ at.
      let a = first.reads at in let b = then.reads (at + n) in let end : at + n + m ≡ at + (n + m) = omega arith in
      record {
        pieces = a.pieces ++ b.pieces;
        text_is = placed_more n m run first.cut then.cut at ∙ ap (λ (x : List Placed). x ++ placed (at + n) (chars (take m (drop n run)))) a.text_is
            ∙ ap (λ (x : List Placed). pieces_text a.pieces ++ x) b.text_is ∙ sym (pieces_text-append a.pieces b.pieces);
        are = λ more are is.
            let left : pieces_text more ≡ placed (at + n + m) (chars (drop m (drop n run))) =
            is ∙ ap (λ (k : ℕ). placed k (chars (drop (n + m) run))) (sym end) ∙ ap (λ (x : List ℕ). placed (at + n + m) (chars x)) (sym (drop-drop m n run)) in
            subst (AreValue table) (sym (append_assoc a.pieces b.pieces more))
            (a.are (b.pieces ++ more) (b.are more are left) (pieces_text-append b.pieces more ∙ ap (λ (x : List Placed). x ++ pieces_text more) (sym b.text_is)
            ∙ ap (λ (x : List Placed). placed (at + n) (chars (take m (drop n run))) ++ x) left ∙ sym (placed_cut m (drop n run) then.cut (at + n))));
        quiet = flat_map-append (λ (x : Piece). x.errors) a.pieces b.pieces ∙ ap (λ (x : List ParseError). x ++ value_errors b.pieces) a.quiet ∙ b.quiet;
        bytes = b.bytes ∙ ap (λ (x : List ℕ). x ++ value_bytes b.pieces) a.bytes ∙ append_assoc old (value_bytes a.pieces) (value_bytes b.pieces)
            ∙ ap (λ (x : List ℕ). old ++ x) (sym (value_bytes-append a.pieces b.pieces));
      };
}

-- A REFERENCE

-- one that raises no error is one in a value too
in_value : (table : Entities) (rest : List Placed) (piece : Piece) → IsReference table false rest piece → piece.errors ≡ [] → IsReference table true rest piece
in_value table rest piece (named amp name entry a b c d e is) quiet =
    named amp name entry a b c d (closed (ends_in_semicolon entry.key) refl (sym (ap (λ (x : Piece). x.errors) is) ∙ quiet)) is where
      closed : (b : Bool) → ends_in_semicolon entry.key ≡ b → error_if (not (ends_in_semicolon entry.key)) MissingSemicolonAfterCharacterReference amp.at ≡ []
          → is_kept_as_text true entry.key rest ≡ false
      closed true f none = rw f refl
      closed false f none =
          let never : error_if true MissingSemicolonAfterCharacterReference amp.at ≡ [] =
          ap (λ (b : Bool). error_if (not b) MissingSemicolonAfterCharacterReference amp.at) (sym f) ∙ none in
          absurd cc
in_value table rest piece (kept amp entry a b c d is) quiet = absurd cc
in_value table rest piece (unknown amp a b c is) quiet = unknown amp a b c is
in_value table rest piece (decimal opening digits close a b c d is) quiet = decimal opening digits close a b c d is
in_value table rest piece (hexadecimal opening digits close a b c d is) quiet = hexadecimal opening digits close a b c d is
in_value table rest piece (no_digits amp a b c is) quiet = no_digits amp a b c is
in_value table rest piece (alone amp a b is) quiet = alone amp a b is

no_errors : (found : Reference) → found.missing_semicolon ≡ false → found.fault ≡ None → found.is_ambiguous ≡ false → (at : ℕ) (after : List Placed)
    → errors_of found at after ≡ []
no_errors found missing fault run at after = rw (missing, fault, run) refl

pub length-placed : (at : ℕ) (xs : List ℕ) → length (placed at xs) ≡ length xs
length-placed at [] = refl
length-placed at (x ∷ xs) = ap suc (length-placed (at + len_utf8 x) xs)

-- what a look-up has settled, whatever comes after it
module _ (table : Entities) (run bytes : List ℕ) (u : IsUtf8 run) (run_is : run ≡ 38 ∷ bytes) (k : ℕ) (within : k ≤ length bytes)
    (ascii : list_all is_ascii (take k bytes) ≡ true) (found : Reference) (missing : found.missing_semicolon ≡ false) (fault : found.fault ≡ None)
    (no_run : found.is_ambiguous ≡ false) (read : (at : ℕ) (after : List Placed) → IsRead table false (placed at (take k bytes)) after found) where
  abbrev own : List ℕ
  own = take (k - found.left) bytes

  abbrev left : List ℕ
  left = take found.left (drop (k - found.left) bytes)

  few : found.left ≤ k
  few = omega (arith, (read 0 []).within, length-placed 0 (take k bytes), length-take-le k bytes within)

  size : length own ≡ k - found.left
  size = length-take-le (k - found.left) bytes (omega (arith, within))

  shown : take k bytes ≡ own ++ left
  shown = let sum : (k - found.left) + found.left ≡ k = omega (arith, few) in
      ap (λ (n : ℕ). take n bytes) (sym sum) ∙ take_more (k - found.left) found.left bytes

  both : (list_all is_ascii own ≡ true) × (list_all is_ascii left ≡ true)
  both = and_parts (list_all is_ascii own) (list_all is_ascii left) (sym (list_all-append is_ascii own left) ∙ ap (list_all is_ascii) (sym shown) ∙ ascii)

  rest_is : drop (k - found.left) bytes ≡ left ++ drop k bytes
  rest_is = let sum : (k - found.left) + found.left ≡ k = omega (arith, few) in
      sym (take-append-drop found.left (drop (k - found.left) bytes))
      ∙ ap (λ (x : List ℕ). left ++ x) (drop-drop found.left (k - found.left) bytes ∙ ap (λ (n : ℕ). drop n bytes) sum)

  rest_utf8 : IsUtf8 (left ++ drop k bytes)
  rest_utf8 = let all : list_all is_ascii (38 ∷ own) ≡ true = both.0 in
      subst IsUtf8 rest_is (ascii_chars (38 ∷ own) (drop (k - found.left) bytes) all
      (subst IsUtf8 (run_is ∙ ap (λ (x : List ℕ). 38 ∷ x) (sym (take-append-drop (k - found.left) bytes))) u)).0

  is_settled : (at : ℕ) → IsReference table true (placed (at + (1 + k - found.left)) (chars (drop (k - found.left) bytes)))
      (record { text = record { ch = 38; at = at } ∷ placed (at + 1) own; gives = characters_of found.characters; errors = [] })
  is_settled at = let after : List Placed = placed (at + 1 + k) (chars (drop k bytes)) in let amp : Placed = record { ch = 38; at = at } in
      let text : List Placed = placed (at + 1) (take k bytes) in
      let n : ℕ = length text - found.left in
      let n_is : n ≡ length (placed (at + 1) own) = omega
      (arith, length-placed (at + 1) (take k bytes), length-take-le k bytes within, length-placed (at + 1) own, size) in
      let text_is : text ≡ placed (at + 1) own ++ placed (at + 1 + length own) left = ap (placed (at + 1)) shown ∙ ascii_placed (at + 1) own left both.0 in
      let taken : take n text ≡ placed (at + 1) own = ap (take n) text_is ∙ take_at (placed (at + 1) own) (placed (at + 1 + length own) left) n (sym n_is) in
      let dropped : drop n text ≡ placed (at + 1 + length own) left =
      ap (drop n) text_is ∙ drop_at (placed (at + 1) own) (placed (at + 1 + length own) left) n (sym n_is) in
      let here : at + 1 + length own ≡ at + (1 + k - found.left) = omega (arith, size, few) in
      let far : at + 1 + length own + length left ≡ at + 1 + k = omega
      (arith, size, few, ap length shown, length-append own left, length-take-le k bytes within) in
      let then : drop n text ++ after ≡ placed (at + (1 + k - found.left)) (chars (drop (k - found.left) bytes)) =
      (λ i. dropped i ++ placed (sym far i) (chars (drop k bytes))) ∙ sym (ascii_placed (at + 1 + length own) left (chars (drop k bytes)) both.1)
      ∙ ap (placed (at + 1 + length own)) (sym (ascii_chars left (drop k bytes) both.1 rest_utf8).1) ∙ (λ i. placed (here i) (chars (sym rest_is i))) in
      in_value table _ _ (transport (λ i. IsReference table false (then i)
      (record { text = amp ∷ taken i; gives = characters_of found.characters; errors = no_errors found missing fault no_run at after i }))
      ((read (at + 1) after).reads amp refl)) refl

  pub reference_front : (old : List ℕ) → IsQuietFront table run (1 + k - found.left) old (old ++ encode_utf8_all (characters_of found.characters))
  reference_front old = let count : ℕ = 1 + k - found.left in let rest : List ℕ = drop (k - found.left) bytes in
      let whole : run ≡ (38 ∷ own) ++ rest = run_is ∙ (λ i. 38 ∷ sym (take-append-drop (k - found.left) bytes) i) in
      let long : length (38 ∷ own) ≡ count = omega (arith, size, few) in
      let taken : take count run ≡ 38 ∷ own = ap (take count) whole ∙ take_at (38 ∷ own) rest count long in
      let left_is : drop count run ≡ rest = ap (drop count) whole ∙ drop_at (38 ∷ own) rest count long in
      let within_run : count ≤ length run = omega (arith, long, ap length whole, length-append (38 ∷ own) rest) in
      let ascii_run : list_all is_ascii (take count run) ≡ true = ap (list_all is_ascii) taken ∙ both.0 in
      record {
        cut = ascii_cut count run within_run ascii_run u;
        reads = λ at.
            let piece : Piece = record { text = record { ch = 38; at = at } ∷ placed (at + 1) own; gives = characters_of found.characters; errors = [] } in
            record {
              pieces = piece ∷ [];
              text_is = ap (placed at) (ascii_taken count run within_run ascii_run ∙ taken) ∙ sym (append-nil piece.text);
              are = λ more are is. (
                IsValuePiece.reference (subst (λ (x : List Placed). IsReference table true x piece)
                    (ap (λ (x : List ℕ). placed (at + count) (chars x)) (sym left_is) ∙ sym is) (is_settled at)),
                are,
              );
              quiet = refl;
              bytes = ap (λ (x : List ℕ). old ++ encode_utf8_all x) (sym (append-nil (characters_of found.characters)));
            };
      }
