-- How tokens are printed: a line each, but one line for characters that are next to each other.
use Rattle.std.specs.Prelude.{ℕ, Option, None, Some, List, [], ◌∷◌, ◌++◌, if◌then◌else◌, codes, decimal, encode_utf8}
use Rattle.std.specs.List.{flat_map}
use Rattle.htoken.specs.Token.{Tok, Doctype, Start, End, Comment, Char, Eof}
use Rattle.hwrite.specs.Quoted.{quoted}

-- a line: its place, which is a byte of the input (from 0), and words or the text of characters
pub data Line : Type 0 where
  Words : (at : ℕ) (words : List ℕ) → Line
  Characters : (at : ℕ) (text : List ℕ) → Line

-- an attribute of a start tag
abbrev pub attribute_words : List ℕ × List ℕ → List ℕ
attribute_words attribute = codes " " ++ quoted attribute.0 ++ codes "=" ++ quoted attribute.1

-- a text between quotes, or `-` where there is none
abbrev pub quoted_or_none : Option (List ℕ) → List ℕ
quoted_or_none None = codes "-"
quoted_or_none (Some text) = quoted text

-- the line of a token by itself
abbrev pub line_of : Tok → Line
line_of (Doctype name public system forced at) =
    Words at
    (codes "doctype " ++ quoted_or_none name ++ codes " " ++ quoted_or_none public ++ codes " " ++ quoted_or_none system
    ++ (if forced then codes " quirks" else []))
line_of (Start name attrs closing at) = Words at (codes "start " ++ quoted name ++ flat_map attribute_words attrs ++ (if closing then codes " /" else []))
line_of (End name at) = Words at (codes "end " ++ quoted name)
line_of (Comment text at) = Words at (codes "comment " ++ quoted text)
line_of (Char ch at) = Characters at (encode_utf8 ch)
line_of (Eof at) = Words at (codes "eof")

-- A line before others: characters and those right after them are one line, at the place of the first.
abbrev pub joined : Line → List Line → List Line
joined (Characters at text) (Characters later more ∷ lines) = Characters at (text ++ more) ∷ lines
joined line lines = line ∷ lines

-- the lines of tokens
abbrev pub lines_of : List Tok → List Line
lines_of [] = []
lines_of (token ∷ tokens) = joined (line_of token) (lines_of tokens)

-- a line as it is printed
abbrev pub line_text : Line → List ℕ
line_text (Words at words) = decimal at ++ codes " " ++ words ++ codes "\n"
line_text (Characters at text) = decimal at ++ codes " chars " ++ quoted text ++ codes "\n"

-- tokens as they are printed
abbrev pub token_lines : List Tok → List ℕ
token_lines tokens = flat_map line_text (lines_of tokens)
