-- Laws of the cut of a text: what is in it is there in one way only.
use Rattle.std.specs.Prelude.{◌≡◌, ℕ, List, [], ◌++◌}
use Rattle.names.specs.declared.error.ParseError.{ParseError}
use Rattle.names.specs.declared.placed.Placed.{Placed}
use Rattle.names.specs.declared.raw.RawKind.{RawKind}
use Rattle.names.specs.declared.raw.RefusedName.{RefusedName}
use Rattle.charref.specs.Reference.{Entities}
use Rattle.htoken.specs.Token.{Tok, Span}
use Rattle.htoken.specs.Standing.{Standing, at_start}
use Rattle.htag.specs.Tag.{Part, IsPart}
use Rattle.htoken.specs.Tag.{IsTag}
use Rattle.htoken.specs.Data.{IsDataSpan}
use Rattle.htoken.specs.Spans.{IsSpan}
use Rattle.htoken.specs.Tokens.{spans_text, Cut, Tokens, IsRefused}

-- One part of a tag at most is at the front of a text, and one tag, and one span of each kind of text.
abbrev pub OnePart : Type 0
OnePart = (table : Entities) (end : ℕ) (rest rest' : List Placed) (part part' : Part) → IsPart table end rest part → IsPart table end rest' part'
    → part.text ++ rest ≡ part'.text ++ rest' → (part ≡ part') × (rest ≡ rest')

abbrev pub OneTag : Type 0
OneTag = (table : Entities) (end : ℕ) (rest rest' : List Placed) (span span' : Span) → IsTag table end rest span → IsTag table end rest' span'
    → span.text ++ rest ≡ span'.text ++ rest' → (span ≡ span') × (rest ≡ rest')

abbrev pub OneSpanOfData : Type 0
OneSpanOfData = (table : Entities) (end : ℕ) (rest rest' : List Placed) (span span' : Span) → IsDataSpan table end rest span → IsDataSpan table end rest' span'
    → span.text ++ rest ≡ span'.text ++ rest' → (span ≡ span') × (rest ≡ rest')

abbrev pub OneSpan : Type 0
OneSpan = (table : Entities) (end : ℕ) (here : Standing) (rest rest' : List Placed) (span span' : Span) → IsSpan table end here rest span
    → IsSpan table end here rest' span'
    → span.text ++ rest ≡ span'.text ++ rest' → (span ≡ span') × (rest ≡ rest')

-- A whole text that begins in a kind is cut into spans in one way at most.
abbrev pub OneCut : Type 0
OneCut = (table : Entities) (start : RawKind) (text : List Placed) (end : ℕ) (spans spans' : List Span) → text ≡ spans_text spans
    → Cut table end (at_start start) spans []
    → text ≡ spans_text spans' → Cut table end (at_start start) spans' [] → spans ≡ spans'

-- So it has one list of tokens at most, and one of errors.
abbrev pub OneListOfTokens : Type 0
OneListOfTokens = (table : Entities) (start : RawKind) (text : List Placed) (end : ℕ) (tokens tokens' : List Tok) (errors errors' : List ParseError)
    → Tokens table start text end tokens errors
    → Tokens table start text end tokens' errors' → (tokens ≡ tokens') × (errors ≡ errors')

-- A text that is refused has no tokens, and is refused for one name at one place, after one list of tokens.
abbrev pub NoTokensOfRefused : Type 0
NoTokensOfRefused = (table : Entities) (start : RawKind) (text : List Placed) (end at : ℕ) (name : RefusedName) (tokens tokens' : List Tok)
    (errors : List ParseError)
    → Tokens table start text end tokens errors
    → IsRefused table start text end tokens' name at → ⊥

abbrev pub OneRefusal : Type 0
OneRefusal = (table : Entities) (start : RawKind) (text : List Placed) (end at at' : ℕ) (name name' : RefusedName) (tokens tokens' : List Tok)
    → IsRefused table start text end tokens name at
    → IsRefused table start text end tokens' name' at' → (name ≡ name') × (at ≡ at') × (tokens ≡ tokens')
