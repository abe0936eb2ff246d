-- The lines of tokens, as they come: what a draft holds, what tokens do to it, and the lines it becomes.
use Rattle.std.specs.Prelude.{◌≡◌, ℕ, Bool, true, false, List, [], ◌∷◌, ◌++◌, Option, None, Some, Result, Ok, MatchResult, codes, decimal, flat_map, map}
use Rattle.std.specs.Borrow.{Bor}
use Rattle.std.specs.String.{string_bytes}
use Rattle.names.specs.declared.attr.Attr.{Attr}
use Rattle.names.specs.declared.error.ParseError.{ParseError}
use Rattle.names.specs.declared.refusal.Refusal.{Refusal}
use Rattle.names.specs.declared.refusal.Refusal.TheVariants.{Memory}
use Rattle.names.specs.Names.{Texts, text_of}
use Rattle.htoken.specs.declared.token.Token.{Token}
use Rattle.htoken.specs.declared.token.Token.TheVariants as code
use Rattle.htoken.specs.Token.{Handed, Alone, WithNames, Tok, doctype_token, Start, End, Comment, Char, Eof}
use Rattle.hwrite.specs.declared.lines.Draft.{Draft}
use Rattle.hwrite.specs.Quoted.{quote_escaped}
use Rattle.hwrite.specs.TokenLines.{Line, Characters, joined, line_of, line_text}

-- the texts of a table of names, if there is one
abbrev pub draft_table : Option (Bor Texts) → Texts
draft_table None = []
draft_table (Some names) = names.now

-- an attribute and a token with their names as texts
abbrev pub draft_attribute : Texts → Attr → List ℕ × List ℕ
draft_attribute names attr = (text_of names attr.name, attr.value)

abbrev pub tok_of : Texts → Token → Tok
tok_of names (code.Doctype doctype at) = doctype_token doctype.value at
tok_of names (code.Start name attrs closing at) = Start (text_of names name) (map (draft_attribute names) attrs.items) closing at
tok_of names (code.End name at) = End (text_of names name) at
tok_of names (code.Comment text at) = Comment (string_bytes text) at
tok_of names (code.Char ch at) = Char ch at
tok_of names (code.Eof at) = Eof at

-- the same of what a sink is handed: what comes alone has no names
abbrev pub tok_handed : Handed → Tok
tok_handed (Alone token) = tok_of [] token
tok_handed (WithNames names token) = tok_of names token

-- this text was added, and a line of characters is open then or is not
pub record AddsText (old new : Draft) (text : List ℕ) (is_open : Bool) : Type 0 where
  pub text_is : string_bytes new.text ≡ string_bytes old.text ++ text
  pub open_is : new.in_characters ≡ is_open

-- what is written before characters at this place, where a line of characters is open or is not, and what ends such a line
abbrev pub beginning_of_characters : Bool → ℕ → List ℕ
beginning_of_characters true at = []
beginning_of_characters false at = decimal at ++ codes " " ++ codes "chars \""

abbrev pub end_of_characters : Bool → List ℕ
end_of_characters true = codes "\"\n"
end_of_characters false = []

-- what is still to be written of lines, right after characters that are their line's so far
abbrev pub after_characters : List Line → List ℕ
after_characters (Characters at text ∷ lines) = quote_escaped text ++ (codes "\"\n" ++ flat_map line_text lines)
after_characters lines = codes "\"\n" ++ flat_map line_text lines

-- what is still to be written of lines, where a line of characters is open or not
abbrev pub to_write : Bool → List Line → List ℕ
to_write true lines = after_characters lines
to_write false lines = flat_map line_text lines

-- what a draft is once these lines have come
abbrev pub drafted : Draft → List Line → List ℕ
drafted draft lines = string_bytes draft.text ++ to_write draft.in_characters lines

-- A token was drafted: with the lines after it, a draft comes to what it came to with those and the token's.
abbrev pub Drafts : Draft → Tok → Draft → Type 0
Drafts old tok new = (lines : List Line) → drafted new lines ≡ drafted old (joined (line_of tok) lines)

-- the steps of a draft as a sink: it takes all tokens while there is memory, and keeps no errors
abbrev pub DraftsToken : Draft → Handed → Result (Unit {0}) Refusal → Draft → Type 0
DraftsToken old handed answer new = MatchResult answer (λ _. Drafts old (tok_handed handed) new) (λ e. e ≡ Memory)

abbrev pub PassesError : Draft → ParseError → Result (Unit {0}) Refusal → Draft → Type 0
PassesError old error answer new = (answer ≡ Ok tt) × (new ≡ old)
