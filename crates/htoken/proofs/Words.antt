-- Words on texts: marks at the front of a text, and runs of characters. A value is cut into pieces in one way.
use Rattle.htoken.proofs.Names.{arith, ◌≡◌, ℕ, Bool, true, false, eqb, nat_lt, List, [], ◌∷◌, ◌++◌, sym, refl, ap, ◌∙◌, codes, false≢true, nat_tests, to_ascii_lowercase, Placed, characters, lowered, begins, Entities, Piece, IsReference, IsValuePiece, plain, plain_piece, pieces_text, AreValue, one_of, named, kept, unknown, decimal, hexadecimal, no_digits, alone, not, length, length-map, stops, all, and_parts, first_is, same_front}
use Rattle.htag.specs.Value.{reference}
pub use Rattle.names.proofs.Words.{heads, tails, begins-append as begins_more}

-- after one mark
pub same_mark : (cs : List ℕ) (xs ys xs' ys' : List Placed) → characters xs ≡ cs → characters xs' ≡ cs → xs ++ ys ≡ xs' ++ ys' → (xs ≡ xs') × (ys ≡ ys')
same_mark cs xs ys xs' ys' h k e =
    same_front xs ys xs' ys' e (sym (length-map xs (λ (p : Placed). p.ch)) ∙ ap length (h ∙ sym k) ∙ length-map xs' (λ (p : Placed). p.ch))

-- A text begins with one run of characters that pass, up to one that fails or the end.
pub one_run : (test : ℕ → Bool) (xs after ys others : List Placed) → all test xs ≡ true → begins test after ≡ false → all test ys ≡ true
    → begins test others ≡ false → xs ++ after ≡ ys ++ others → (xs ≡ ys) × (after ≡ others)
one_run test [] after [] others h i k l e = (refl, e)
one_run test [] after (y ∷ ys) others h i k l e = absurd (false≢true (cc ((and_parts (test y.ch) (all test ys) k).0)))
one_run test (x ∷ xs) after [] others h i k l e = absurd (false≢true (cc ((and_parts (test x.ch) (all test xs) h).0)))
one_run test (x ∷ xs) after (y ∷ ys) others h i k l e =
    let same = one_run test xs after ys others (and_parts (test x.ch) (all test xs) h).1 i (and_parts (test y.ch) (all test ys) k).1 l
    (tails x y (xs ++ after) (ys ++ others) e) in
    (cc (heads x y (xs ++ after) (ys ++ others) e, same.0), same.1)

-- what a run runs to does not pass
pub goes_no_further : (test : ℕ → Bool) (after : List Placed) → stops test after ≡ true → begins (λ c. not (test c)) after ≡ false
goes_no_further test [] h = refl
goes_no_further test (p ∷ ps) h = ap not h

-- one character
pub record IsSingle (text : List Placed) (c : ℕ) : Type 0 where
  pub p : Placed
  pub text_is : text ≡ p ∷ []
  pub ch_is : p.ch ≡ c

pub single : (text : List Placed) (c : ℕ) → characters text ≡ c ∷ [] → IsSingle text c
single (p ∷ []) c h = record { p = p; text_is = refl; ch_is = first_is p [] c [] h }
single _ c h = absurd cc

pub no_mark : (c : ℕ) (text more : List Placed) → characters text ≡ c ∷ [] → [] ≡ text ++ more → ⊥
no_mark c [] more h e = absurd cc
no_mark c (p ∷ ps) more h e = absurd cc

-- what is lowered to no letter is that
pub lower_is : (c k : ℕ) → to_ascii_lowercase c ≡ k → nat_lt k 97 ≡ true → c ≡ k
lower_is c k h l = grind (arith, nat_tests)

abbrev pub is_amp : ℕ → Bool
is_amp c = eqb c 38

amp_of : (p : Placed) → p.ch ≡ 38 → eqb p.ch 38 ≡ true
amp_of p h = ap (λ (c : ℕ). eqb c 38) h

opens_number : (opening more : List Placed) → characters opening ≡ codes "&#" → begins is_amp (opening ++ more) ≡ true
opens_number [] more h = absurd cc
opens_number (p ∷ ps) more h = let is : p.ch ≡ 38 = cc in amp_of p is

opens_hex : (opening more : List Placed) → lowered opening ≡ codes "&#x" → begins is_amp (opening ++ more) ≡ true
opens_hex [] more h = absurd cc
opens_hex (p ∷ ps) more h = let low : to_ascii_lowercase p.ch ≡ 38 = cc in amp_of p (lower_is p.ch 38 low refl)

module _ {table : Entities} {in_value : Bool} where
  -- a reference begins with `&`
  pub at_amp : {rest : List Placed} {piece : Piece} → IsReference table in_value rest piece → begins is_amp piece.text ≡ true
  at_amp (named amp name entry is b l k kept' p) = rw p (amp_of amp is)
  at_amp (kept amp entry is b l kept' p) = rw p (amp_of amp is)
  at_amp (unknown amp is b l p) = rw p (amp_of amp is)
  at_amp (decimal opening digits close o d r s p) = rw p (begins_more is_amp (opening ++ digits) close (opens_number opening digits o))
  at_amp (hexadecimal opening digits close o d r s p) = rw p (begins_more is_amp (opening ++ digits) close (opens_hex opening digits o))
  at_amp (no_digits amp is sign none p) = rw p (amp_of amp is)
  at_amp (alone amp is none p) = rw p (amp_of amp is)

  -- another character is no reference
  pub no_reference : (p : Placed) (more rest : List Placed) (piece : Piece) → eqb p.ch 38 ≡ false → IsReference table in_value rest piece
      → p ∷ more ≡ piece.text ++ rest → ⊥
  no_reference p more rest piece n h e = absurd (false≢true (cc (begins_more is_amp piece.text rest (at_amp h))))

  pub one_piece : (rest rest' : List Placed) (piece piece' : Piece) → IsValuePiece table in_value rest piece → IsValuePiece table in_value rest' piece'
      → piece.text ++ rest ≡ piece'.text ++ rest' → (piece ≡ piece') × (rest ≡ rest')
  one_piece rest rest' piece piece' (plain p n is) (plain p' n' is') e = let whole : p ∷ rest ≡ p' ∷ rest' = cc in
      (is ∙ ap plain_piece (heads p p' rest rest' whole) ∙ sym is', tails p p' rest rest' whole)
  one_piece rest rest' piece piece' (plain p n is) (reference h') e =
      absurd (no_reference p rest rest' piece' n h' (ap (λ (x : Piece). x.text ++ rest) (sym is) ∙ e))
  one_piece rest rest' piece piece' (reference h) (plain p' n' is') e =
      absurd (no_reference p' rest' rest piece n' h (ap (λ (x : Piece). x.text ++ rest') (sym is') ∙ sym e))
  one_piece rest rest' piece piece' (reference h) (reference h') e = one_of table in_value piece piece' rest rest' h h' e

  pub some_piece : (rest more : List Placed) (piece : Piece) → IsValuePiece table in_value rest piece → [] ≡ piece.text ++ more → ⊥
  some_piece rest more piece (plain p n is) e = let none : [] ≡ p ∷ more = e ∙ ap (λ (x : Piece). x.text ++ more) is in absurd cc
  some_piece rest more piece (reference h) e = absurd (false≢true (ap (begins is_amp) e ∙ begins_more is_amp piece.text more (at_amp h)))

pub one_value : (table : Entities) (pieces pieces' : List Piece) → AreValue table pieces → AreValue table pieces' → pieces_text pieces ≡ pieces_text pieces'
    → pieces ≡ pieces'
one_value table [] [] h h' e = refl
one_value table [] (q ∷ qs) h h' e = absurd (some_piece (pieces_text qs) (pieces_text qs) q h'.0 e)
one_value table (p ∷ ps) [] h h' e = absurd (some_piece (pieces_text ps) (pieces_text ps) p h.0 (sym e))
one_value table (p ∷ ps) (q ∷ qs) h h' e = let same = one_piece (pieces_text ps) (pieces_text qs) p q h.0 h'.0 e in
    cc (same.0, one_value table ps qs h.1 h'.1 same.1)
