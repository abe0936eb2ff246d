-- What a sink is handed: the characters of a text, and the errors of the input stream (HTML Standard, #preprocessing-the-input-stream).
use Rattle.std.specs.Prelude.{ℕ, zero, suc, ◌+◌, Bool, not, ◌&&◌, ◌||◌, ◌==◌, List, [], ◌∷◌, ◌++◌, map}
use Rattle.std.specs.List.{flat_map}
use Rattle.std.specs.Char.{is_control}
use Rattle.names.specs.Placed.{is_space, is_noncharacter, error, error_if}
use Rattle.names.specs.declared.placed.Placed.{Placed}
use Rattle.names.specs.declared.error.ParseError.{ParseError}
use Rattle.names.specs.declared.error.ErrorCode.TheVariants.{ControlCharacterInInputStream, NoncharacterInInputStream, ReplacedBytes}
use Rattle.htext.specs.Text.{Read, Whole, Bad, character_of}

-- a control that is neither white space nor NUL
abbrev pub is_stray_control : ℕ → Bool
is_stray_control c = is_control c && not (c == 0 || is_space c)

-- the errors of the input stream that a character raises (#preprocessing-the-input-stream)
abbrev pub char_errors : Placed → List ParseError
char_errors p = error_if (is_stray_control p.ch) ControlCharacterInInputStream p.at
    ++ error_if (is_noncharacter p.ch) NoncharacterInInputStream p.at

-- the errors of a character or a bad part, and those of a text
abbrev pub read_errors : Read → List ParseError
read_errors (Whole p) = char_errors p
read_errors (Bad at) = error ReplacedBytes at ∷ []

abbrev pub input_errors : List Read → List ParseError
input_errors text = flat_map read_errors text

-- what a sink is handed: a character, or an error of the input stream
pub data CharItem : Type 0 where
  Character : Placed → CharItem
  InputError : ParseError → CharItem

-- the items of a character or a bad part, the errors first, and those of a text
abbrev pub read_items : Read → List CharItem
read_items r = map InputError (read_errors r) ++ Character (character_of r) ∷ []

abbrev pub items : List Read → List CharItem
items text = flat_map read_items text

-- this many bad parts of one byte each, from this place on
abbrev pub bad_each : ℕ → ℕ → List Read
bad_each at zero = []
bad_each at (suc n) = Bad at ∷ bad_each (at + 1) n

-- the characters among what is handed over, and the errors
abbrev pub characters_among : List CharItem → List Placed
characters_among [] = []
characters_among (Character p ∷ rest) = p ∷ characters_among rest
characters_among (InputError e ∷ rest) = characters_among rest

abbrev pub errors_among : List CharItem → List ParseError
errors_among [] = []
errors_among (Character p ∷ rest) = errors_among rest
errors_among (InputError e ∷ rest) = e ∷ errors_among rest
