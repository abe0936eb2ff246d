-- What a walk through an attribute's value has read.
use Rattle.std.specs.Prelude.{◌≡◌, ℕ, ◌-◌, Bool, true, false, ◌==◌, List, [], ◌∷◌, ◌++◌, length, drop, map, option_to_list, encode_utf8_all}
use Rattle.std.specs.String.{string_bytes}
use Rattle.names.specs.declared.error.ErrorCode.TheVariants.{MissingSemicolonAfterCharacterReference, UnknownNamedCharacterReference}
use Rattle.names.specs.declared.error.ParseError.{ParseError}
use Rattle.names.specs.declared.placed.Placed.{Placed}
use Rattle.names.specs.Placed.{characters, begins, all, past, is_alphanumeric, error, error_if}
use Rattle.charref.specs.declared.reference.Reference.{Reference}
use Rattle.charref.specs.declared.walk.Walk.{Walk}
use Rattle.charref.specs.Held.{held_characters}
use Rattle.charref.specs.Pieces.{characters_of}
use Rattle.charref.specs.Reference.{Entities, Piece, IsReference, IsTable, ampersand}
use Rattle.charref.specs.Walk.{WalkHasTaken}
use Rattle.htag.specs.declared.piece.Pending.{Pending}
use Rattle.htag.specs.declared.piece.Pending.TheVariants as reading
use Rattle.htag.specs.declared.piece.ValueWalk.{ValueWalk}
use Rattle.htag.specs.Tag.{value_errors, unquoted_errors}
use Rattle.htag.specs.Value.{AreValue, pieces_text, plain_piece, value_bytes}

-- the errors of pieces, in quotes or not
abbrev pub pieces_errors : Bool → List Piece → List ParseError
pieces_errors true pieces = value_errors pieces
pieces_errors false pieces = unquoted_errors pieces

abbrev pub plain_pieces : List Placed → List Piece
plain_pieces text = map plain_piece text

-- A value begins with these pieces, where more of its pieces begin with this text.
pub record BeginsPiece (table : Entities) (pieces : List Piece) (next : List Placed) : Type 0 where
  pub value : (more : List Piece) (rest : List Placed) → AreValue table more → pieces_text more ≡ next ++ rest → AreValue table (pieces ++ more)

-- after an `&` that may be a reference's: the characters that may be read again are kept
pub record InReference (table : Entities) (reference : Walk) (walk : ValueWalk) (pieces : List Piece) (held : List Placed) : Type 0 where
  pub amp : Placed
  pub taken : List Placed
  pub held_is : held ≡ amp ∷ taken
  pub is_amp : amp.ch ≡ 38
  pub is_table : IsTable table
  pub has_taken : WalkHasTaken reference table true taken
  pub at_is : walk.at ≡ amp.at
  pub kept_is : walk.held.items ≡ characters (held_characters reference.state taken)
  pub bytes : string_bytes walk.text ≡ value_bytes pieces

-- after an `&` that no key begins: its run of alphanumerics is in the walk's text
pub record InAmbiguousAmpersand (table : Entities) (walk : ValueWalk) (pieces : List Piece) (held : List Placed) : Type 0 where
  pub amp : Placed
  pub run : List Placed
  pub held_is : held ≡ amp ∷ run
  pub is_amp : amp.ch ≡ 38
  pub is_run : all is_alphanumeric run ≡ true
  pub unknown : (after : List Placed)
      → IsReference table true (run ++ after) (ampersand amp
      (error_if (begins (λ c. c == 59) (past is_alphanumeric after)) UnknownNamedCharacterReference amp.at))
  pub at_is : walk.at ≡ amp.at
  pub bytes : string_bytes walk.text ≡ value_bytes pieces ++ encode_utf8_all (38 ∷ characters run)

-- what is held of a piece that is not known yet
abbrev pub HasHeld : Pending → Entities → ValueWalk → List Piece → List Placed → Type 0
HasHeld reading.Nothing table walk pieces held = (held ≡ []) × (string_bytes walk.text ≡ value_bytes pieces)
HasHeld (reading.Reference reference) table walk pieces held = InReference table reference walk pieces held
HasHeld reading.AmbiguousAmpersand table walk pieces held = InAmbiguousAmpersand table walk pieces held

-- The walk has read this text of a value, in quotes or not, and these errors were raised. `ahead` is known to come next.
pub record IsInValue (table : Entities) (quoted : Bool) (walk : ValueWalk) (text ahead : List Placed) (errors : List ParseError) : Type 0 where
  pub pieces : List Piece
  pub held : List Placed
  pub text_is : text ≡ pieces_text pieces ++ held
  pub begins_value : BeginsPiece table pieces (held ++ ahead)
  pub errors_are : errors ≡ pieces_errors quoted pieces
  pub has_held : HasHeld walk.reading table walk pieces held

-- The text is a whole value, which the walk has.
pub record IsWholeValue (table : Entities) (quoted : Bool) (walk : ValueWalk) (text : List Placed) (errors : List ParseError) : Type 0 where
  pub pieces : List Piece
  pub text_is : text ≡ pieces_text pieces
  pub are : AreValue table pieces
  pub errors_are : errors ≡ pieces_errors quoted pieces
  pub bytes : string_bytes walk.text ≡ value_bytes pieces

-- What taking a character does, and what the end of the value: they raise more errors.
pub record TakesInValue (table : Entities) (quoted : Bool) (old : ValueWalk) (p : Placed) (errors : List ParseError) (new : ValueWalk)
    (later : List ParseError) : Type 0 where
  pub more : List ParseError
  pub later_is : later ≡ errors ++ more
  pub takes : (text : List Placed) (own : List ParseError) → IsInValue table quoted old text (p ∷ []) own
      → IsInValue table quoted new (text ++ p ∷ []) [] (own ++ more)

pub record EndsValue (old : ValueWalk) (errors : List ParseError) (new : ValueWalk) (later : List ParseError) : Type 0 where
  pub more : List ParseError
  pub later_is : later ≡ errors ++ more
  pub ends : (table : Entities) (quoted : Bool) (text : List Placed) (own : List ParseError) → IsInValue table quoted old text [] own
      → IsWholeValue table quoted new text (own ++ more)

-- the errors of a reference at this place, but for that of its run
abbrev pub reference_errors : Reference → ℕ → List ParseError
reference_errors found at = error_if found.missing_semicolon MissingSemicolonAfterCharacterReference at
    ++ map (λ code. error code at) (option_to_list found.fault)

-- Its characters and its errors are added.
pub record TellsReference (found : Reference) (old : ValueWalk) (errors : List ParseError) (new : ValueWalk) (later : List ParseError) : Type 0 where
  pub reading_is : new.reading ≡ old.reading
  pub at_is : new.at ≡ old.at
  pub held_is : new.held ≡ old.held
  pub bytes : string_bytes new.text ≡ string_bytes old.text ++ encode_utf8_all (characters_of found.characters)
  pub later_is : later ≡ errors ++ reference_errors found old.at

-- The last characters held are added, this many.
pub record GivesBack (count : ℕ) (old new : ValueWalk) : Type 0 where
  pub reading_is : new.reading ≡ old.reading
  pub bytes : string_bytes new.text ≡ string_bytes old.text ++ encode_utf8_all (drop (length old.held.items - count) old.held.items)
