-- The reference that a walk returns, as a piece of the text.
use Rattle.std.specs.Prelude.{◌≡◌, ℕ, ◌-◌, ◌≤◌, Bool, true, false, Option, Some, None, ◌&&◌, ◌==◌, List, [], ◌∷◌, ◌++◌, map, length, take, drop, option_to_list}
use Rattle.names.specs.declared.error.ParseError.{ParseError}
use Rattle.names.specs.declared.error.ErrorCode.{ErrorCode}
use Rattle.names.specs.declared.error.ErrorCode.TheVariants.{MissingSemicolonAfterCharacterReference, UnknownNamedCharacterReference}
use Rattle.names.specs.declared.placed.Placed.{Placed}
use Rattle.names.specs.Placed.{all, begins, past, is_alphanumeric, error, error_if}
use Rattle.charref.specs.declared.last.Last.{Last}
use Rattle.charref.specs.declared.last.Last.TheVariants.{Alphanumeric, Semicolon, Equals, Other}
use Rattle.charref.specs.declared.reference.Characters.{Characters}
use Rattle.charref.specs.declared.reference.Characters.TheVariants.{One, Two}
use Rattle.charref.specs.declared.reference.Reference.{Reference}
use Rattle.charref.specs.Last.{is_letter_or_digit}
use Rattle.charref.specs.Reference.{Entities, IsReference, numbered, number_fault}

abbrev pub characters_of : Characters → List ℕ
characters_of (One only) = only ∷ []
characters_of (Two first second) = first ∷ second ∷ []

-- the errors of a reference at this byte, where `after` follows all characters taken
abbrev pub errors_of : Reference → ℕ → List Placed → List ParseError
errors_of found at after =
    error_if found.missing_semicolon MissingSemicolonAfterCharacterReference at
    ++ map (λ code. error code at) (option_to_list found.fault)
    ++ error_if (found.is_ambiguous && begins (λ c. c == 59) (past is_alphanumeric after)) UnknownNamedCharacterReference at

-- This reference is at the `&` before `text` and `after`, and leaves the last `left` characters of the text to be read again.
pub record IsRead (table : Entities) (in_value : Bool) (text after : List Placed) (found : Reference) : Type 0 where
  pub within : found.left ≤ length text
  -- in a run, only alphanumerics were read, and all of them are read again
  pub run : found.is_ambiguous ≡ true → (found.left ≡ length text) × (all is_alphanumeric text ≡ true)
  pub reads : (amp : Placed) → amp.ch ≡ 38 → IsReference table in_value (drop (length text - found.left) text ++ after)
      (record { text = amp ∷ take (length text - found.left) text; gives = characters_of found.characters; errors = errors_of found amp.at after })

-- an `&` that is text, where `left` characters were read after it
abbrev pub text_reference : ℕ → Option ErrorCode → Bool → Reference
text_reference left fault ambiguous = record { characters = One 38; left = left; missing_semicolon = false; fault = fault; is_ambiguous = ambiguous }

-- the same because no key matches
abbrev pub unknown_fault : Last → Option ErrorCode
unknown_fault Alphanumeric = None
unknown_fault Semicolon = Some UnknownNamedCharacterReference
unknown_fault Equals = None
unknown_fault Other = None

abbrev pub unknown_of : ℕ → Last → Reference
unknown_of left last = text_reference left (unknown_fault last) (is_letter_or_digit last)

-- a numeric reference
abbrev pub number_reference : ℕ → ℕ → Bool → Reference
number_reference value left missing =
    record { characters = One (numbered value); left = left; missing_semicolon = missing; fault = number_fault value; is_ambiguous = false }
