-- A value, a character at a time.
use Rattle.htag.proofs.Vocabulary.{◌≡◌, ℕ, zero, suc, ◌+◌, ◌-◌, ◌≤◌, Bool, true, false, true≢false, ◌&&◌, eqb, List, [], ◌∷◌, ◌++◌, length, take, drop, sym, refl, ap, ◌∙◌, subst, transport, append-nil, append_assoc, arith, encode_utf8_all, encode_utf8, string_bytes, take-append-drop, take_all, encodes-append, UnknownNamedCharacterReference, ParseError, Placed, characters, begins, all, past, is_alphanumeric, error_if, and_parts, and_both, Reference, IsRead, characters_of, errors_of, Entities, Piece, IsReference, IsTable, ampersand, all-append, Pending, ValueWalk, IsValuePiece, AreValue, pieces_text, value_bytes, BeginsPiece, HasHeld, IsInValue, pieces_errors, plain_pieces, reference_errors, nat_tests, is_no_reference, and_right, take-append-le, drop-append-le, drop-map, drop_all, length-map, map-append, Walk, is_number, held_characters, WalkHasTaken, LeavesLast, kept_all, kept_nothing, is_other, drop-kept, drop-kept-end, InReference, InAmbiguousAmpersand, IsWholeValue, TellsReference}
use Rattle.std.proofs.Common.{length-append}
use Rattle.charref.specs.declared.reference_state.ReferenceState.{ReferenceState as WalkState}
use Rattle.htag.specs.declared.piece.Pending.TheVariants as reading
use Rattle.htag.proofs.Pieces.{pieces_text-append, pieces_text-one, value_bytes-append, value_bytes-one, pieces_errors-append, is_even, errors-even, is_quiet, quiet_run, quiet_plain, plain_text, plain_bytes, plain_errors, begins_alone, begins_further, begins_piece, begins_plain}
use Rattle.htag.proofs.Even.{quiet_held, reference_even, alone_even}
use Rattle.htag.proofs.Running.{run_gives, run_letters, run_quiet, run_unknown}

pub looks_ahead : {table : Entities} {quoted : Bool} {walk : ValueWalk} {text next : List Placed} {errors : List ParseError}
    → IsInValue table quoted walk text [] errors → IsInValue table quoted walk text next errors
looks_ahead {table} {next = next} h = record {
  pieces = h.pieces;
  held = h.held;
  text_is = h.text_is;
  begins_value = rw append-nil at (begins_further table h.pieces (h.held ++ []) next h.begins_value);
  errors_are = h.errors_are;
  has_held = h.has_held;
}

quiet_drop : (n : ℕ) (text : List Placed) → all is_quiet text ≡ true → all is_quiet (drop n text) ≡ true
quiet_drop zero text h = h
quiet_drop (suc n) [] h = refl
quiet_drop (suc n) (p ∷ ps) h = quiet_drop n ps (and_parts (is_quiet p.ch) (all is_quiet ps) h).1

are_plain : (table : Entities) (text : List Placed) → all is_quiet text ≡ true → AreValue table (plain_pieces text)
are_plain table [] h = tt
are_plain table (p ∷ ps) h = let parts = and_parts (is_quiet p.ch) (all is_quiet ps) h in
    (IsValuePiece.plain p (quiet_plain p.ch parts.0) refl, are_plain table ps parts.1)

-- a character more is kept, where no number is read
pub other_kept : (old next : WalkState) (taken : List Placed) (p : Placed) (held : List ℕ) → (is_number old ≡ true → is_number next ≡ true)
    → is_number next ≡ false → held ≡ characters (held_characters old taken) → held ++ p.ch ∷ [] ≡ characters (held_characters next (taken ++ p ∷ []))
other_kept old next taken p held leads other e =
    ap (λ (x : List ℕ). x ++ p.ch ∷ []) (e ∙ ap characters (kept_all old taken (is_other old (λ number. true≢false (sym (leads number) ∙ other)))))
    ∙ sym (map-append (λ (q : Placed). q.ch) taken (p ∷ [])) ∙ ap characters (sym (kept_all next (taken ++ p ∷ []) other))

-- a character more, written after others
one_more_encoded : (front cs : List ℕ) (c : ℕ) → (front ++ encode_utf8_all cs) ++ encode_utf8 c ≡ front ++ encode_utf8_all (cs ++ c ∷ [])
one_more_encoded front cs c = append_assoc front (encode_utf8_all cs) (encode_utf8 c)
    ∙ ap (λ (x : List ℕ). front ++ x) (ap (λ (x : List ℕ). encode_utf8_all cs ++ x) (sym (append-nil (encode_utf8 c))) ∙ sym (encodes-append cs (c ∷ [])))

-- A PIECE IS KNOWN, AND CHARACTERS AFTER IT

module _ (pieces : List Piece) (piece : Piece) (back : List Placed) (quiet : all is_quiet back ≡ true) where
  abbrev all_pieces : List Piece
  all_pieces = (pieces ++ piece ∷ []) ++ plain_pieces back

  resolved_text : pieces_text all_pieces ≡ pieces_text pieces ++ (piece.text ++ back)
  resolved_text = pieces_text-append (pieces ++ piece ∷ []) (plain_pieces back) ∙ (λ i. pieces_text-one pieces piece i ++ plain_text back i)
      ∙ append_assoc (pieces_text pieces) piece.text back

  resolved_bytes : value_bytes all_pieces ≡ value_bytes pieces ++ (encode_utf8_all piece.gives ++ encode_utf8_all (characters back))
  resolved_bytes = value_bytes-append (pieces ++ piece ∷ []) (plain_pieces back) ∙ (λ i. value_bytes-one pieces piece i ++ plain_bytes back quiet i)
      ∙ append_assoc (value_bytes pieces) (encode_utf8_all piece.gives) (encode_utf8_all (characters back))

  resolved_errors : (quoted : Bool) → is_even piece.text → pieces_errors quoted all_pieces ≡ pieces_errors quoted pieces ++ piece.errors
  resolved_errors quoted even = pieces_errors-append quoted (pieces ++ piece ∷ []) (plain_pieces back)
      ∙ ap (λ (x : List ParseError). pieces_errors quoted (pieces ++ piece ∷ []) ++ x) (plain_errors quoted back quiet)
      ∙ append-nil (pieces_errors quoted (pieces ++ piece ∷ [])) ∙ pieces_errors-append quoted pieces (piece ∷ [])
      ∙ ap (λ (x : List ParseError). pieces_errors quoted pieces ++ x) (errors-even quoted piece even)

  module _ {table : Entities} {quoted : Bool} {new : ValueWalk} {text : List Placed} {own : List ParseError} (even : is_even piece.text)
      (bytes : string_bytes new.text ≡ value_bytes pieces ++ (encode_utf8_all piece.gives ++ encode_utf8_all (characters back)))
      (text_is : text ≡ pieces_text pieces ++ (piece.text ++ back)) (own_is : own ≡ pieces_errors quoted pieces) where
    resolve : (next : List Placed) → BeginsPiece table pieces (piece.text ++ (back ++ next))
        → ((rest : List Placed) → IsValuePiece table true ((back ++ next) ++ rest) piece) → new.reading ≡ reading.Nothing
        → IsInValue table quoted new text next (own ++ piece.errors)
    resolve next b is_piece nothing = record {
      pieces = all_pieces;
      held = [];
      text_is = text_is ∙ sym resolved_text ∙ sym (append-nil (pieces_text all_pieces));
      begins_value = begins_plain table back (pieces ++ piece ∷ []) next quiet (begins_piece table pieces piece (back ++ next) b is_piece);
      errors_are = ap (λ (x : List ParseError). x ++ piece.errors) own_is ∙ sym (resolved_errors quoted even);
      has_held = subst (λ (x : Pending). HasHeld x table new all_pieces []) (sym nothing) (refl, bytes ∙ sym resolved_bytes);
    }

    resolve_end : BeginsPiece table pieces (piece.text ++ back) → IsValuePiece table true back piece → IsWholeValue table quoted new text (own ++ piece.errors)
    resolve_end b is_piece = record {
      pieces = all_pieces;
      text_is = text_is ∙ sym resolved_text;
      are = subst (AreValue table) (sym (append_assoc pieces (piece ∷ []) (plain_pieces back))) (b.value (piece ∷ plain_pieces back) []
          (subst (λ (x : List Placed). IsValuePiece table true x piece) (sym (plain_text back)) is_piece, are_plain table back quiet)
          (ap (λ (x : List Placed). piece.text ++ x) (plain_text back) ∙ sym (append-nil (piece.text ++ back))));
      errors_are = ap (λ (x : List ParseError). x ++ piece.errors) own_is ∙ sym (resolved_errors quoted even);
      bytes = bytes ∙ sym resolved_bytes;
    }

-- what a reference gives, and characters that were held
pub told_then_given : (found : Reference) (old mid : ValueWalk) (errors later : List ParseError) (count : ℕ) (bytes : List ℕ)
    → TellsReference found old errors mid later → bytes ≡ string_bytes mid.text ++ encode_utf8_all (drop (length mid.held.items - count) mid.held.items) → bytes
    ≡ (string_bytes old.text ++ encode_utf8_all (characters_of found.characters)) ++ encode_utf8_all (drop (length old.held.items - count) old.held.items)
told_then_given found old mid errors later count bytes t e =
    e ∙ (λ i. t.bytes i ++ encode_utf8_all (drop (length (t.held_is i).items - count) (t.held_is i).items))

-- CHARACTERS MORE, where nothing is held

module _ {table : Entities} {quoted : Bool} {old : ValueWalk} {text fed : List Placed} {own : List ParseError} (h : IsInValue table quoted old text fed own)
    (nothing : old.reading ≡ reading.Nothing) where
  nothing_held : (h.held ≡ []) × (string_bytes old.text ≡ value_bytes h.pieces)
  nothing_held = subst (λ (x : Pending). HasHeld x table old h.pieces h.held) nothing h.has_held

  text_so_far : text ++ fed ≡ pieces_text h.pieces ++ fed
  text_so_far =
      ap (λ (x : List Placed). x ++ fed) (h.text_is ∙ ap (λ (x : List Placed). pieces_text h.pieces ++ x) nothing_held.0 ∙ append-nil (pieces_text h.pieces))

  begins_here : BeginsPiece table h.pieces fed
  begins_here = subst (λ (x : List Placed). BeginsPiece table h.pieces (x ++ fed)) nothing_held.0 h.begins_value

  -- none of them is an `&`
  pub plain_steps : {new : ValueWalk} → new.reading ≡ old.reading → string_bytes new.text ≡ string_bytes old.text ++ value_bytes (plain_pieces fed)
      → all is_no_reference fed ≡ true → IsInValue table quoted new (text ++ fed) [] (own ++ pieces_errors quoted (plain_pieces fed))
  plain_steps {new} same bytes plain = record {
    pieces = h.pieces ++ plain_pieces fed;
    held = [];
    text_is = text_so_far ∙ ap (λ (x : List Placed). pieces_text h.pieces ++ x) (sym (plain_text fed)) ∙ sym (pieces_text-append h.pieces (plain_pieces fed))
        ∙ sym (append-nil (pieces_text (h.pieces ++ plain_pieces fed)));
    begins_value = begins_alone table is_no_reference (λ c other. grind (arith, other, nat_tests)) fed h.pieces [] plain
        (subst (BeginsPiece table h.pieces) (sym (append-nil fed)) begins_here);
    errors_are =
        ap (λ (x : List ParseError). x ++ pieces_errors quoted (plain_pieces fed)) h.errors_are ∙ sym (pieces_errors-append quoted h.pieces (plain_pieces fed));
    has_held = subst (λ (x : Pending). HasHeld x table new (h.pieces ++ plain_pieces fed) []) (sym (same ∙ nothing))
        (refl, bytes ∙ ap (λ (x : List ℕ). x ++ value_bytes (plain_pieces fed)) nothing_held.1 ∙ sym (value_bytes-append h.pieces (plain_pieces fed)));
  }

-- A CHARACTER MORE

module _ {table : Entities} {quoted : Bool} {old : ValueWalk} (new : ValueWalk) {p : Placed} {text : List Placed} {own : List ParseError}
    (h : IsInValue table quoted old text (p ∷ []) own) where
  held_in : {r : Pending} → old.reading ≡ r → HasHeld r table old h.pieces h.held
  held_in e = subst (λ (x : Pending). HasHeld x table old h.pieces h.held) e h.has_held

  text_more : text ++ p ∷ [] ≡ pieces_text h.pieces ++ (h.held ++ p ∷ [])
  text_more = ap (λ (x : List Placed). x ++ p ∷ []) h.text_is ∙ append_assoc (pieces_text h.pieces) h.held (p ∷ [])

  -- it is held too
  held_more : {r : Pending} → new.reading ≡ r → (e : List ParseError) → e ≡ [] → HasHeld r table new h.pieces (h.held ++ p ∷ [])
      → IsInValue table quoted new (text ++ p ∷ []) [] (own ++ e)
  held_more next e none has = record {
    pieces = h.pieces;
    held = h.held ++ p ∷ [];
    text_is = text_more;
    begins_value = subst (BeginsPiece table h.pieces) (sym (append-nil (h.held ++ p ∷ []))) h.begins_value;
    errors_are = rw (none, append-nil own) h.errors_are;
    has_held = subst (λ (x : Pending). HasHeld x table new h.pieces (h.held ++ p ∷ [])) (sym next) has;
  }

  -- an `&`, where nothing is held
  pub amp_step : {w : Walk} → old.reading ≡ reading.Nothing → new.reading ≡ reading.Reference w → p.ch ≡ 38 → IsTable table → WalkHasTaken w table true []
      → new.at ≡ p.at → new.held.items ≡ [] → new.text ≡ old.text → IsInValue table quoted new (text ++ p ∷ []) [] (own ++ [])
  amp_step {w} nothing next is is_table taken place empty same = held_more next [] refl (record {
    amp = p;
    taken = [];
    held_is = ap (λ (x : List Placed). x ++ p ∷ []) (held_in nothing).0;
    is_amp = is;
    is_table = is_table;
    has_taken = taken;
    at_is = place;
    kept_is = empty ∙ ap characters (sym (kept_nothing w.state));
    bytes = ap string_bytes same ∙ (held_in nothing).1;
  })

  -- where a reference is being read
  module _ (w : Walk) (before : old.reading ≡ reading.Reference w) where
    abbrev held_here : InReference table w old h.pieces h.held
    held_here = held_in before

    pub reference_on : (w' : Walk) → new.reading ≡ reading.Reference w'
        → ((taken : List Placed) → WalkHasTaken w table true taken → WalkHasTaken w' table true (taken ++ p ∷ [])) → ((taken : List Placed)
        → old.held.items ≡ characters (held_characters w.state taken) → new.held.items ≡ characters (held_characters w'.state (taken ++ p ∷ [])))
        → new.at ≡ old.at → new.text ≡ old.text → IsInValue table quoted new (text ++ p ∷ []) [] (own ++ [])
    reference_on w' next takes keeps place same = let r = held_here in
        held_more next [] refl (record {
          amp = r.amp;
          taken = r.taken ++ p ∷ [];
          held_is = ap (λ (x : List Placed). x ++ p ∷ []) r.held_is;
          is_amp = r.is_amp;
          is_table = r.is_table;
          has_taken = takes r.taken r.has_taken;
          at_is = place ∙ r.at_is;
          kept_is = keeps r.taken r.kept_is;
          bytes = ap string_bytes same ∙ r.bytes;
        })

    module _ (found : Reference)
        (read : (taken : List Placed) → WalkHasTaken w table true taken → (after : List Placed) → IsRead table true (taken ++ p ∷ []) after found)
        (number : is_number w.state ≡ true → LeavesLast found) where
      abbrev all_taken : List Placed
      all_taken = held_here.taken ++ p ∷ []

      quiet_taken : all is_quiet held_here.taken ≡ true
      quiet_taken = quiet_held table true w.state held_here.taken held_here.has_taken.held

      one_more : length all_taken ≡ length held_here.taken + 1
      one_more = length-append held_here.taken (p ∷ [])

      module _ (no_run : found.is_ambiguous ≡ false) where
        errors_known : (after : List Placed) → errors_of found held_here.amp.at after ≡ reference_errors found held_here.amp.at
        errors_known after = ap (λ (b : Bool). reference_errors found held_here.amp.at
            ++ error_if (b && begins (λ c. eqb c 59) (past is_alphanumeric after)) UnknownNamedCharacterReference held_here.amp.at) no_run
            ∙ append-nil (reference_errors found held_here.amp.at)

        -- the piece is so much of what was taken
        abbrev piece_of : List Placed → Piece
        piece_of front = record { text = held_here.amp ∷ front; gives = characters_of found.characters; errors = reference_errors found held_here.amp.at }

        is_piece : (front back : List Placed) → take (length all_taken - found.left) all_taken ≡ front → drop (length all_taken - found.left) all_taken ≡ back
            → (rest : List Placed) → IsReference table true (back ++ rest) (piece_of front)
        is_piece front back taken left rest = transport (λ i. IsReference table true (left i ++ rest)
            (record { text = held_here.amp ∷ taken i; gives = characters_of found.characters; errors = errors_known rest i }))
            ((read held_here.taken held_here.has_taken rest).reads held_here.amp held_here.is_amp)

        told_here : own ++ reference_errors found held_here.amp.at ≡ own ++ reference_errors found old.at
        told_here = ap (λ (x : ℕ). own ++ reference_errors found x) (sym held_here.at_is)

        -- it ends with the character
        pub reference_ends : found.left ≡ 0 → new.reading ≡ reading.Nothing
            → string_bytes new.text ≡ string_bytes old.text ++ encode_utf8_all (characters_of found.characters)
            → IsInValue table quoted new (text ++ p ∷ []) [] (own ++ reference_errors found old.at)
        reference_ends none nothing bytes =
            let whole : take (length all_taken - found.left) all_taken ≡ all_taken =
            ap (λ (n : ℕ). take (length all_taken - n) all_taken) none ∙ take_all (length all_taken - 0) all_taken (omega arith) in
            let nothing_left : drop (length all_taken - found.left) all_taken ≡ [] =
            ap (λ (n : ℕ). drop (length all_taken - n) all_taken) none ∙ drop_all (length all_taken - 0) all_taken (omega arith) in
            let is : (rest : List Placed) → IsReference table true ([] ++ rest) (piece_of all_taken) = is_piece all_taken [] whole nothing_left in
            let held_more : h.held ++ p ∷ [] ≡ held_here.amp ∷ all_taken = ap (λ (x : List Placed). x ++ p ∷ []) held_here.held_is in
            subst (IsInValue table quoted new (text ++ p ∷ []) []) told_here
            (resolve h.pieces (piece_of all_taken) [] refl (reference_even table true [] (piece_of all_taken) held_here.is_table (is []))
            (bytes ∙ ap (λ (x : List ℕ). x ++ encode_utf8_all (characters_of found.characters)) held_here.bytes
            ∙ ap (λ (x : List ℕ). value_bytes h.pieces ++ x) (sym (append-nil (encode_utf8_all (characters_of found.characters)))))
            (text_more ∙ ap (λ (x : List Placed). pieces_text h.pieces ++ x) (held_more ∙ sym (append-nil (held_here.amp ∷ all_taken)))) h.errors_are []
            (subst (BeginsPiece table h.pieces) (held_more ∙ sym (append-nil (held_here.amp ∷ all_taken))) h.begins_value)
            (λ rest. IsValuePiece.reference (is rest)) nothing)

        -- it ends before it
        pub reference_read : 1 ≤ found.left → new.reading ≡ reading.Nothing → string_bytes new.text ≡ (string_bytes old.text
            ++ encode_utf8_all (characters_of found.characters)) ++ encode_utf8_all (drop (length old.held.items - (found.left - 1)) old.held.items)
            → IsInValue table quoted new text (p ∷ []) (own ++ reference_errors found old.at)
        reference_read some nothing bytes = let taken : List Placed = held_here.taken in let k : ℕ = length all_taken - found.left in
            let within : k ≤ length taken = omega (arith, one_more, some) in
            let front : List Placed = take k taken in
            let back : List Placed = drop k taken in
            let is : (rest : List Placed) → IsReference table true ((back ++ p ∷ []) ++ rest) (piece_of front) =
            is_piece front (back ++ p ∷ []) (take-append-le k taken (p ∷ []) within) (drop-append-le k taken (p ∷ []) within) in
            let quiet : all is_quiet back ≡ true = quiet_drop k taken quiet_taken in
            let kept_here : List Placed = held_characters w.state taken in
            let same : length old.held.items - (found.left - 1) ≡ length kept_here + 1 - found.left =
            (let e : length old.held.items ≡ length kept_here = ap length held_here.kept_is ∙ length-map kept_here (λ (q : Placed). q.ch) in
            omega (arith, e, some)) in
            let given : drop (length old.held.items - (found.left - 1)) old.held.items ≡ characters back =
            ap (λ (n : ℕ). drop n old.held.items) same ∙ ap (drop (length kept_here + 1 - found.left)) held_here.kept_is
            ∙ drop-map (λ (q : Placed). q.ch) (length kept_here + 1 - found.left) kept_here
            ∙ ap characters (drop-kept w.state taken found.left (λ n. (number n).1) ∙ ap (λ (n : ℕ). drop (n - found.left) taken) (sym one_more)) in
            let joined : h.held ≡ (held_here.amp ∷ front) ++ back =
            held_here.held_is ∙ ap (λ (x : List Placed). held_here.amp ∷ x) (sym (take-append-drop k taken)) in
            subst (IsInValue table quoted new text (p ∷ [])) told_here
            (resolve h.pieces (piece_of front) back quiet (reference_even table true ((back ++ p ∷ []) ++ []) (piece_of front) held_here.is_table (is []))
            (bytes ∙ (λ i. (held_here.bytes i ++ encode_utf8_all (characters_of found.characters)) ++ encode_utf8_all (given i))
            ∙ append_assoc (value_bytes h.pieces) (encode_utf8_all (characters_of found.characters)) (encode_utf8_all (characters back)))
            (h.text_is ∙ ap (λ (x : List Placed). pieces_text h.pieces ++ x) joined) h.errors_are (p ∷ []) (subst (BeginsPiece table h.pieces)
            (ap (λ (x : List Placed). x ++ p ∷ []) joined ∙ append_assoc (held_here.amp ∷ front) back (p ∷ [])) h.begins_value)
            (λ rest. IsValuePiece.reference (is rest)) nothing)

      -- no key begins with it
      pub run_begins : found.is_ambiguous ≡ true → new.reading ≡ reading.AmbiguousAmpersand → new.at ≡ old.at → string_bytes new.text
          ≡ ((string_bytes old.text ++ encode_utf8_all (characters_of found.characters)) ++ encode_utf8_all old.held.items) ++ encode_utf8 p.ch
          → IsInValue table quoted new (text ++ p ∷ []) [] (own ++ reference_errors found old.at)
      run_begins is_ambiguous next place bytes = let taken : List Placed = held_here.taken in
          let reads : (after : List Placed) → IsRead table true all_taken after found = read taken held_here.has_taken in
          let kept : old.held.items ≡ characters taken =
          held_here.kept_is ∙ ap characters (kept_all w.state taken (is_other w.state (λ n. true≢false (sym is_ambiguous ∙ (number n).0)))) in
          held_more next (reference_errors found old.at)
          (ap (reference_errors found) held_here.at_is ∙ run_quiet table held_here.amp held_here.is_amp all_taken found reads is_ambiguous) (record {
            amp = held_here.amp;
            run = all_taken;
            held_is = ap (λ (x : List Placed). x ++ p ∷ []) held_here.held_is;
            is_amp = held_here.is_amp;
            is_run = run_letters table held_here.amp held_here.is_amp all_taken found reads is_ambiguous;
            unknown = run_unknown table held_here.amp held_here.is_amp all_taken found reads is_ambiguous;
            at_is = place ∙ held_here.at_is;
            bytes =
                bytes ∙ (λ i. ((held_here.bytes i ++ encode_utf8_all (run_gives table held_here.amp held_here.is_amp all_taken found reads is_ambiguous i))
                ++ encode_utf8_all (kept i)) ++ encode_utf8 p.ch)
                ∙ ap (λ (x : List ℕ). x ++ encode_utf8 p.ch) (append_assoc (value_bytes h.pieces) (encode_utf8_all (38 ∷ []))
                (encode_utf8_all (characters taken)) ∙ (λ i. value_bytes h.pieces ++ sym (encodes-append (38 ∷ []) (characters taken)) i))
                ∙ one_more_encoded (value_bytes h.pieces) (38 ∷ characters taken) p.ch
                ∙ ap (λ (x : List ℕ). value_bytes h.pieces ++ encode_utf8_all (38 ∷ x)) (sym (map-append (λ (q : Placed). q.ch) taken (p ∷ [])));
          })

  -- in a run
  module _ (before : old.reading ≡ reading.AmbiguousAmpersand) where
    abbrev run_here : InAmbiguousAmpersand table old h.pieces h.held
    run_here = held_in before

    pub run_on : new.reading ≡ old.reading → new.at ≡ old.at → string_bytes new.text ≡ string_bytes old.text ++ encode_utf8 p.ch → is_alphanumeric p.ch ≡ true
        → IsInValue table quoted new (text ++ p ∷ []) [] (own ++ [])
    run_on same place bytes letter = let r = run_here in
        held_more (same ∙ before) [] refl (record {
          amp = r.amp;
          run = r.run ++ p ∷ [];
          held_is = ap (λ (x : List Placed). x ++ p ∷ []) r.held_is;
          is_amp = r.is_amp;
          is_run = all-append is_alphanumeric r.run (p ∷ []) r.is_run (and_both (is_alphanumeric p.ch) true letter refl);
          unknown = λ after. subst (λ (x : List Placed). IsReference table true x
              (ampersand r.amp (error_if (begins (λ c. eqb c 59) (past is_alphanumeric after)) UnknownNamedCharacterReference r.amp.at)))
              (sym (append_assoc r.run (p ∷ []) after)) (subst (λ (x : List Placed).
              IsReference table true (r.run ++ (p ∷ after)) (ampersand r.amp (error_if (begins (λ c. eqb c 59) x) UnknownNamedCharacterReference r.amp.at)))
              (past_letter after) (r.unknown (p ∷ after)));
          at_is = place ∙ r.at_is;
          bytes = bytes ∙ ap (λ (x : List ℕ). x ++ encode_utf8 p.ch) r.bytes ∙ one_more_encoded (value_bytes h.pieces) (38 ∷ characters r.run) p.ch
              ∙ ap (λ (x : List ℕ). value_bytes h.pieces ++ encode_utf8_all (38 ∷ x)) (sym (map-append (λ (q : Placed). q.ch) r.run (p ∷ [])));
        }) where
          past_letter : (after : List Placed) → past is_alphanumeric (p ∷ after) ≡ past is_alphanumeric after
          past_letter after = rw letter refl

    pub run_ends : new.reading ≡ reading.Nothing → string_bytes new.text ≡ string_bytes old.text → is_alphanumeric p.ch ≡ false
        → IsInValue table quoted new text (p ∷ []) (own ++ error_if (eqb p.ch 59) UnknownNamedCharacterReference old.at)
    run_ends nothing bytes other = let r = run_here in let piece : Piece = ampersand r.amp (error_if (eqb p.ch 59) UnknownNamedCharacterReference r.amp.at) in
        subst (λ (x : ℕ). IsInValue table quoted new text (p ∷ []) (own ++ error_if (eqb p.ch 59) UnknownNamedCharacterReference x)) (sym r.at_is)
        (resolve h.pieces piece r.run (quiet_run r.run r.is_run) (alone_even r.amp r.is_amp)
        (bytes ∙ r.bytes ∙ ap (λ (x : List ℕ). value_bytes h.pieces ++ x) (encodes-append (38 ∷ []) (characters r.run)))
        (h.text_is ∙ ap (λ (x : List Placed). pieces_text h.pieces ++ x) r.held_is) h.errors_are (p ∷ [])
        (subst (BeginsPiece table h.pieces) (ap (λ (x : List Placed). x ++ p ∷ []) r.held_is) h.begins_value) (λ rest. IsValuePiece.reference
        (subst (λ (x : List Placed). IsReference table true x piece) (sym (append_assoc r.run (p ∷ []) rest)) (subst (λ (x : List Placed).
        IsReference table true (r.run ++ (p ∷ rest)) (ampersand r.amp (error_if (begins (λ c. eqb c 59) x) UnknownNamedCharacterReference r.amp.at)))
        (past_other rest) (r.unknown (p ∷ rest))))) nothing) where
          past_other : (after : List Placed) → past is_alphanumeric (p ∷ after) ≡ p ∷ after
          past_other after = rw other refl

-- THE END

module _ {table : Entities} {quoted : Bool} {old : ValueWalk} (new : ValueWalk) {text : List Placed} {own : List ParseError}
    (h : IsInValue table quoted old text [] own) where
  holds_at_end : {r : Pending} → old.reading ≡ r → HasHeld r table old h.pieces h.held
  holds_at_end e = subst (λ (x : Pending). HasHeld x table old h.pieces h.held) e h.has_held

  begins_end : BeginsPiece table h.pieces h.held
  begins_end = subst (BeginsPiece table h.pieces) (append-nil h.held) h.begins_value

  pub ends_plain : old.reading ≡ reading.Nothing → string_bytes new.text ≡ string_bytes old.text → IsWholeValue table quoted new text (own ++ [])
  ends_plain nothing bytes = let e = holds_at_end nothing in
      record {
        pieces = h.pieces;
        text_is = h.text_is ∙ ap (λ (x : List Placed). pieces_text h.pieces ++ x) e.0 ∙ append-nil (pieces_text h.pieces);
        are = subst (AreValue table) (append-nil h.pieces) (begins_end.value [] [] tt (ap (λ (x : List Placed). x ++ []) (sym e.0)));
        errors_are = append-nil own ∙ h.errors_are;
        bytes = bytes ∙ e.1;
      }

  pub ends_run : old.reading ≡ reading.AmbiguousAmpersand → string_bytes new.text ≡ string_bytes old.text → IsWholeValue table quoted new text (own ++ [])
  ends_run before bytes = let r = holds_at_end before in
      resolve_end h.pieces (ampersand r.amp []) r.run (quiet_run r.run r.is_run) (alone_even r.amp r.is_amp)
      (bytes ∙ r.bytes ∙ ap (λ (x : List ℕ). value_bytes h.pieces ++ x) (encodes-append (38 ∷ []) (characters r.run)))
      (h.text_is ∙ ap (λ (x : List Placed). pieces_text h.pieces ++ x) r.held_is) h.errors_are (subst (BeginsPiece table h.pieces) r.held_is begins_end)
      (IsValuePiece.reference (subst (λ (x : List Placed). IsReference table true x (ampersand r.amp [])) (append-nil r.run) (r.unknown [])))

  module _ (w : Walk) (before : old.reading ≡ reading.Reference w) (found : Reference)
      (read : (taken : List Placed) → WalkHasTaken w table true taken → IsRead table true taken [] found)
      (number : is_number w.state ≡ true → found.left ≡ 0) where
    pub ends_reference : string_bytes new.text ≡ (string_bytes old.text ++ encode_utf8_all (characters_of found.characters))
        ++ encode_utf8_all (drop (length old.held.items - found.left) old.held.items)
        → IsWholeValue table quoted new text (own ++ reference_errors found old.at)
    ends_reference bytes = let r : InReference table w old h.pieces h.held = holds_at_end before in let k : ℕ = length r.taken - found.left in
        let front : List Placed = take k r.taken in
        let back : List Placed = drop k r.taken in
        let piece : Piece = record { text = r.amp ∷ front; gives = characters_of found.characters; errors = reference_errors found r.amp.at } in
        let errors : errors_of found r.amp.at [] ≡ reference_errors found r.amp.at =
        ap (λ (b : Bool). reference_errors found r.amp.at ++ error_if b UnknownNamedCharacterReference r.amp.at) (and_right found.is_ambiguous false refl)
        ∙ append-nil (reference_errors found r.amp.at) in
        let is : IsReference table true back piece = transport
        (λ i. IsReference table true (append-nil back i) (record { text = r.amp ∷ front; gives = characters_of found.characters; errors = errors i }))
        ((read r.taken r.has_taken).reads r.amp r.is_amp) in
        let quiet : all is_quiet back ≡ true = quiet_drop k r.taken (quiet_held table true w.state r.taken r.has_taken.held) in
        let kept_here : List Placed = held_characters w.state r.taken in
        let given : drop (length old.held.items - found.left) old.held.items ≡ characters back = ap (λ (x : List ℕ). drop (length x - found.left) x) r.kept_is
        ∙ ap (λ (n : ℕ). drop (n - found.left) (characters kept_here)) (length-map kept_here (λ (q : Placed). q.ch))
        ∙ drop-map (λ (q : Placed). q.ch) (length kept_here - found.left) kept_here ∙ ap characters (drop-kept-end w.state r.taken found.left number) in
        let joined : h.held ≡ (r.amp ∷ front) ++ back = r.held_is ∙ ap (λ (x : List Placed). r.amp ∷ x) (sym (take-append-drop k r.taken)) in
        subst (λ (x : ℕ). IsWholeValue table quoted new text (own ++ reference_errors found x)) (sym r.at_is)
        (resolve_end h.pieces piece back quiet (reference_even table true back piece r.is_table is)
        (bytes ∙ (λ i. (r.bytes i ++ encode_utf8_all (characters_of found.characters)) ++ encode_utf8_all (given i))
        ∙ append_assoc (value_bytes h.pieces) (encode_utf8_all (characters_of found.characters)) (encode_utf8_all (characters back)))
        (h.text_is ∙ ap (λ (x : List Placed). pieces_text h.pieces ++ x) joined) h.errors_are (subst (BeginsPiece table h.pieces) joined begins_end)
        (IsValuePiece.reference is))
