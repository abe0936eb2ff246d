-- Pieces of a value, one after another.
use Rattle.htag.proofs.Vocabulary.{◌≡◌, ℕ, Bool, true, false, not, ◌&&◌, ◌||◌, eqb, List, [], ◌∷◌, ◌++◌, sym, refl, ap, ◌∙◌, subst, append_assoc, append-nil, arith, encode_utf8_all, encode_utf8, flat_map, nat_tests, flat_map-append, encodes-append, UnexpectedCharacterInUnquotedAttributeValue, ParseError, Placed, characters, all, is_alphanumeric, error_if, null_errors, without_null, and_parts, Entities, Piece, IsValuePiece, AreValue, pieces_text, plain_piece, value_bytes, is_odd, BeginsPiece, pieces_errors, plain_pieces, all-characters, all_weaker, errors_at}

pub pieces_text-append : (xs ys : List Piece) → pieces_text (xs ++ ys) ≡ pieces_text xs ++ pieces_text ys
pieces_text-append xs ys = flat_map-append (λ (x : Piece). x.text) xs ys

pub pieces_text-one : (xs : List Piece) (piece : Piece) → pieces_text (xs ++ piece ∷ []) ≡ pieces_text xs ++ piece.text
pieces_text-one xs piece = pieces_text-append xs (piece ∷ []) ∙ ap (λ (x : List Placed). pieces_text xs ++ x) (append-nil piece.text)

pub value_bytes-append : (xs ys : List Piece) → value_bytes (xs ++ ys) ≡ value_bytes xs ++ value_bytes ys
value_bytes-append xs ys = ap encode_utf8_all (flat_map-append (λ (x : Piece). x.gives) xs ys)
    ∙ encodes-append (flat_map (λ (x : Piece). x.gives) xs) (flat_map (λ (x : Piece). x.gives) ys)

pub value_bytes-one : (xs : List Piece) (piece : Piece) → value_bytes (xs ++ piece ∷ []) ≡ value_bytes xs ++ encode_utf8_all piece.gives
value_bytes-one xs piece = value_bytes-append xs (piece ∷ []) ∙ ap (λ (x : List ℕ). value_bytes xs ++ encode_utf8_all x) (append-nil piece.gives)

pub pieces_errors-append : (quoted : Bool) (xs ys : List Piece) → pieces_errors quoted (xs ++ ys) ≡ pieces_errors quoted xs ++ pieces_errors quoted ys
pieces_errors-append true xs ys = flat_map-append (λ (x : Piece). x.errors) xs ys
pieces_errors-append false xs ys = flat_map-append (λ (x : Piece). errors_at UnexpectedCharacterInUnquotedAttributeValue is_odd x.text ++ x.errors) xs ys

pub plain_raises : (quoted : Bool) (p : Placed)
    → pieces_errors quoted (plain_piece p ∷ []) ≡ error_if (not quoted && is_odd p.ch) UnexpectedCharacterInUnquotedAttributeValue p.at ++ null_errors (p ∷ [])
plain_raises true p = append-nil (null_errors (p ∷ []))
plain_raises false p = append-nil (errors_at UnexpectedCharacterInUnquotedAttributeValue is_odd (p ∷ []) ++ null_errors (p ∷ []))
    ∙ ap (λ (x : List ParseError). x ++ null_errors (p ∷ [])) (append-nil (error_if (is_odd p.ch) UnexpectedCharacterInUnquotedAttributeValue p.at))

-- a text without the characters that are faults in a value
abbrev pub is_even : List Placed → Type 0
is_even text = errors_at UnexpectedCharacterInUnquotedAttributeValue is_odd text ≡ []

pub errors-even : (quoted : Bool) (piece : Piece) → is_even piece.text → pieces_errors quoted (piece ∷ []) ≡ piece.errors
errors-even true piece even = append-nil piece.errors
errors-even false piece even =
    append-nil (errors_at UnexpectedCharacterInUnquotedAttributeValue is_odd piece.text ++ piece.errors) ∙ ap (λ (x : List ParseError). x ++ piece.errors) even

-- the characters that may be in a reference before its last one
abbrev pub is_quiet : ℕ → Bool
is_quiet c = is_alphanumeric c || eqb c 35

-- what passes a test passes a weaker one
pub all_imp : (test other : ℕ → Bool) → ((c : ℕ) → test c ≡ true → other c ≡ true) → (text : List Placed) → all test text ≡ true → all other text ≡ true
all_imp test other weaker text h = all-characters other text ∙ all_weaker test other weaker (characters text) (sym (all-characters test text) ∙ h)

pub quiet_run : (text : List Placed) → all is_alphanumeric text ≡ true → all is_quiet text ≡ true
quiet_run text h = all_imp is_alphanumeric is_quiet (λ c letter. ap (λ (b : Bool). b || eqb c 35) letter) text h

module _ (c : ℕ) (h : is_quiet c ≡ true) where
  pub quiet_plain : eqb c 38 ≡ false
  quiet_plain = grind (arith, nat_tests)

  pub quiet_null : eqb c 0 ≡ false
  quiet_null = grind (arith, nat_tests)

  pub quiet_odd : is_odd c ≡ false
  quiet_odd = grind (arith, nat_tests)

-- they are pieces by themselves
pub plain_text : (text : List Placed) → pieces_text (plain_pieces text) ≡ text
plain_text [] = refl
plain_text (p ∷ ps) = ap (λ (x : List Placed). p ∷ x) (plain_text ps)

-- characters that stand for themselves
module _ (test : ℕ → Bool) (plain : (c : ℕ) → test c ≡ true → eqb c 38 ≡ false) (some : (c : ℕ) → test c ≡ true → eqb c 0 ≡ false) where
  pub alone_bytes : (text : List Placed) → all test text ≡ true → value_bytes (plain_pieces text) ≡ encode_utf8_all (characters text)
  alone_bytes [] h = refl
  alone_bytes (p ∷ ps) h = let parts = and_parts (test p.ch) (all test ps) h in let is_some : eqb p.ch 0 ≡ false = some p.ch parts.0 in
      value_bytes-append (plain_piece p ∷ []) (plain_pieces ps)
      ∙ ap (λ (x : List ℕ). x ++ value_bytes (plain_pieces ps)) (append-nil (encode_utf8 (without_null p.ch)))
      ∙ ap (λ (x : List ℕ). encode_utf8 (without_null p.ch) ++ x) (alone_bytes ps parts.1) ∙ rw is_some refl

  pub alone_errors : (quoted : Bool) → (quoted ≡ false → (c : ℕ) → test c ≡ true → is_odd c ≡ false) → (text : List Placed) → all test text ≡ true
      → pieces_errors quoted (plain_pieces text) ≡ []
  alone_errors true even [] h = refl
  alone_errors false even [] h = refl
  alone_errors true even (p ∷ ps) h = let parts = and_parts (test p.ch) (all test ps) h in let is_some : eqb p.ch 0 ≡ false = some p.ch parts.0 in
      rw is_some (alone_errors true even ps parts.1)
  alone_errors false even (p ∷ ps) h = let parts = and_parts (test p.ch) (all test ps) h in let is_some : eqb p.ch 0 ≡ false = some p.ch parts.0 in
      let is_even : is_odd p.ch ≡ false = even refl p.ch parts.0 in
      rw (is_some, is_even) (alone_errors false even ps parts.1)

pub plain_bytes : (text : List Placed) → all is_quiet text ≡ true → value_bytes (plain_pieces text) ≡ encode_utf8_all (characters text)
plain_bytes text h = alone_bytes is_quiet quiet_plain quiet_null text h

pub plain_errors : (quoted : Bool) (text : List Placed) → all is_quiet text ≡ true → pieces_errors quoted (plain_pieces text) ≡ []
plain_errors quoted text h = alone_errors is_quiet quiet_plain quiet_null quoted (λ e. quiet_odd) text h

-- BEGINNINGS OF VALUES

module _ (table : Entities) where
  pub begins_further : (pieces : List Piece) (next others : List Placed) → BeginsPiece table pieces next → BeginsPiece table pieces (next ++ others)
  begins_further pieces next others b = record { value = λ more rest are is. b.value more (others ++ rest) are (is ∙ append_assoc next others rest) }

  -- a piece more
  pub begins_piece : (pieces : List Piece) (piece : Piece) (next : List Placed) → BeginsPiece table pieces (piece.text ++ next)
      → ((rest : List Placed) → IsValuePiece table true (next ++ rest) piece) → BeginsPiece table (pieces ++ piece ∷ []) next
  begins_piece pieces piece next b is_piece = record {
    value = λ more rest are is. subst (AreValue table) (sym (append_assoc pieces (piece ∷ []) more))
        (b.value (piece ∷ more) rest (subst (λ (x : List Placed). IsValuePiece table true x piece) (sym is) (is_piece rest), are)
        (ap (λ (x : List Placed). piece.text ++ x) is ∙ sym (append_assoc piece.text next rest)));
  }

  -- characters more
  pub begins_alone : (test : ℕ → Bool) → ((c : ℕ) → test c ≡ true → eqb c 38 ≡ false) → (text : List Placed) (pieces : List Piece) (next : List Placed)
      → all test text ≡ true → BeginsPiece table pieces (text ++ next) → BeginsPiece table (pieces ++ plain_pieces text) next
  begins_alone test plain [] pieces next h b = subst (λ (x : List Piece). BeginsPiece table x next) (sym (append-nil pieces)) b
  begins_alone test plain (p ∷ ps) pieces next h b = let parts = and_parts (test p.ch) (all test ps) h in
      subst (λ (x : List Piece). BeginsPiece table x next) (append_assoc pieces (plain_piece p ∷ []) (plain_pieces ps)) (begins_alone test plain ps
      (pieces ++ plain_piece p ∷ []) next parts.1 (begins_piece pieces (plain_piece p) (ps ++ next) b (λ rest. IsValuePiece.plain p (plain p.ch parts.0) refl)))

  pub begins_plain : (text : List Placed) (pieces : List Piece) (next : List Placed) → all is_quiet text ≡ true → BeginsPiece table pieces (text ++ next)
      → BeginsPiece table (pieces ++ plain_pieces text) next
  begins_plain text pieces next h b = begins_alone is_quiet quiet_plain text pieces next h b
