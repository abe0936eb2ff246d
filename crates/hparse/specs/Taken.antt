-- A token of the tokenizer as the tree rules take it.
use Rattle.std.specs.Prelude.{ℕ, List}
use Rattle.htoken.specs.Token.{Tok}
use Rattle.htoken.specs.Token as tok
use Rattle.hmodes.specs.State.{Token, PlacedToken, doctype, start, end, comment, character, eof}

abbrev pub token_taken : Tok → Token (List ℕ)
token_taken (tok.Doctype name public_id system_id forced at) = doctype name public_id system_id forced
token_taken (tok.Start name attrs closing at) = start name attrs closing
token_taken (tok.End name at) = end name
token_taken (tok.Comment t at) = comment t
token_taken (tok.Char ch at) = character ch
token_taken (tok.Eof at) = eof

-- the place of its first byte
abbrev pub read_token_at : Tok → ℕ
read_token_at (tok.Doctype name public_id system_id forced at) = at
read_token_at (tok.Start name attrs closing at) = at
read_token_at (tok.End name at) = at
read_token_at (tok.Comment t at) = at
read_token_at (tok.Char ch at) = at
read_token_at (tok.Eof at) = at

abbrev pub token_placed : Tok → PlacedToken (List ℕ)
token_placed t = record { token = token_taken t; at = read_token_at t }
