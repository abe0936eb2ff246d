-- A reference of which no key is known when its walk ends: its run of alphanumerics goes on.
use Rattle.htag.proofs.Vocabulary.{◌≡◌, ℕ, ◌-◌, Bool, true, false, ◌&&◌, eqb, List, [], ◌∷◌, ◌++◌, length, take, drop, sym, refl, ap, ◌∙◌, subst, append-nil, arith, codes, UnknownNamedCharacterReference, ParseError, Placed, characters, lowered, begins, all, past, is_alphanumeric, error_if, Reference, IsRead, characters_of, errors_of, Entities, Piece, IsReference, ampersand, and_parts, reference_errors, nat_tests}

run_ends : (run : List Placed) → all is_alphanumeric run ≡ true → begins (λ c. eqb c 59) (past is_alphanumeric run) ≡ false
run_ends [] h = refl
run_ends (p ∷ ps) h = let k = and_parts (is_alphanumeric p.ch) (all is_alphanumeric ps) h in rw k.0 (run_ends ps k.1)

no_sign : (run : List Placed) → all is_alphanumeric run ≡ true → begins (λ c. eqb c 35) run ≡ true → ⊥
no_sign [] h sign = cc
no_sign (p ∷ ps) h sign = let letter : is_alphanumeric p.ch ≡ true = (and_parts (is_alphanumeric p.ch) (all is_alphanumeric ps) h).0 in
    let is : eqb p.ch 35 ≡ true = sign in
    grind (arith, nat_tests)

-- an `&` by itself before such a run
alone_before : (table : Entities) (amp : Placed) (run : List Placed) (piece : Piece) → all is_alphanumeric run ≡ true → IsReference table true run piece
    → piece.text ≡ amp ∷ [] → (piece.gives ≡ 38 ∷ []) × (piece.errors ≡ [])
alone_before table amp run piece letters (IsReference.named amp' name entry is letter found key kept e) text =
    absurd (no name letter (sym (ap (λ (x : Piece). x.text) e) ∙ text)) where
      no : (xs : List Placed) → begins is_alphanumeric xs ≡ true → amp' ∷ xs ≡ amp ∷ [] → ⊥
      no [] l t = cc
      no (x ∷ xs) l t = cc
alone_before table amp run piece letters (IsReference.kept amp' entry is letter found kept e) text =
    (ap (λ (x : Piece). x.gives) e, ap (λ (x : Piece). x.errors) e)
alone_before table amp run piece letters (IsReference.unknown amp' is letter none e) text = (
  ap (λ (x : Piece). x.gives) e,
  ap (λ (x : Piece). x.errors) e ∙ ap (λ (b : Bool). error_if b UnknownNamedCharacterReference amp'.at) (run_ends run letters),
)
alone_before table amp run piece letters (IsReference.decimal opening digits close is digit runs closes e) text =
    absurd (no opening is (sym (ap (λ (x : Piece). x.text) e) ∙ text)) where
      no : (xs : List Placed) → characters xs ≡ codes "&#" → xs ++ digits ++ close ≡ amp ∷ [] → ⊥
      no [] l t = cc
      no (x ∷ []) l t = cc
      no (x ∷ y ∷ xs) l t = cc
alone_before table amp run piece letters (IsReference.hexadecimal opening digits close is digit runs closes e) text =
    absurd (no opening is (sym (ap (λ (x : Piece). x.text) e) ∙ text)) where
      no : (xs : List Placed) → lowered xs ≡ codes "&#x" → xs ++ digits ++ close ≡ amp ∷ [] → ⊥
      no [] l t = cc
      no (x ∷ []) l t = cc
      no (x ∷ y ∷ xs) l t = cc
alone_before table amp run piece letters (IsReference.no_digits amp' is sign none e) text = absurd (no_sign run letters sign)
alone_before table amp run piece letters (IsReference.alone amp' is none e) text = (ap (λ (x : Piece). x.gives) e, ap (λ (x : Piece). x.errors) e)

module _ (table : Entities) (amp : Placed) (is : amp.ch ≡ 38) (text : List Placed) (found : Reference)
    (read : (after : List Placed) → IsRead table true text after found) (is_ambiguous : found.is_ambiguous ≡ true) where
  none_off : length text - found.left ≡ 0
  none_off = let run = (read []).run is_ambiguous in omega (arith, run.0)

  pub run_letters : all is_alphanumeric text ≡ true
  run_letters = ((read []).run is_ambiguous).1

  abbrev piece_at : List Placed → Piece
  piece_at after = record { text = amp ∷ []; gives = characters_of found.characters; errors = errors_of found amp.at after }

  reads : (after : List Placed) → IsReference table true (text ++ after) (piece_at after)
  reads after = subst (λ (n : ℕ). IsReference table true (drop n text ++ after)
      (record { text = amp ∷ take n text; gives = characters_of found.characters; errors = errors_of found amp.at after })) none_off ((read after).reads amp is)

  told : (characters_of found.characters ≡ 38 ∷ []) × (errors_of found amp.at [] ≡ [])
  told = alone_before table amp text (piece_at []) run_letters
      (subst (λ (x : List Placed). IsReference table true x (piece_at [])) (append-nil text) (reads [])) refl

  pub run_gives : characters_of found.characters ≡ 38 ∷ []
  run_gives = told.0

  pub run_quiet : reference_errors found amp.at ≡ []
  run_quiet = sym (append-nil (reference_errors found amp.at))
      ∙ ap (λ (b : Bool). reference_errors found amp.at ++ error_if (b && false) UnknownNamedCharacterReference amp.at) (sym is_ambiguous) ∙ told.1

  -- whatever comes after the run
  pub run_unknown : (after : List Placed) → IsReference table true (text ++ after)
      (ampersand amp (error_if (begins (λ c. eqb c 59) (past is_alphanumeric after)) UnknownNamedCharacterReference amp.at))
  run_unknown after = let late : List ParseError = error_if (begins (λ c. eqb c 59) (past is_alphanumeric after)) UnknownNamedCharacterReference amp.at in
      let errors : errors_of found amp.at after ≡ late = ap (λ (b : Bool).
      reference_errors found amp.at ++ error_if (b && begins (λ c. eqb c 59) (past is_alphanumeric after)) UnknownNamedCharacterReference amp.at)
      is_ambiguous ∙ ap (λ (x : List ParseError). x ++ late) run_quiet in
      subst (IsReference table true (text ++ after)) (λ i. record { text = amp ∷ []; gives = told.0 i; errors = errors i }) (reads after)
