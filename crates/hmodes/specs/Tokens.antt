-- The tokens that the tokenizer gives, as the rules see them.
use Rattle.std.specs.Prelude.{ℕ, map}
use Rattle.std.specs.String.{string_bytes}
use Rattle.hnodes.specs.Rows.{attribute_of}
use Rattle.htoken.specs.declared.token.Token.{Token as Given}
use Rattle.htoken.specs.declared.token.Token.TheVariants as given
pub use Rattle.htoken.specs.Token.{token_at}
use Rattle.hmodes.specs.State.{Token, doctype, start, end, comment, character, eof}

abbrev pub token_of : Given → Token ℕ
token_of (given.Doctype found at) = doctype found.value.name found.value.public found.value.system found.value.forced
token_of (given.Start name attrs closing at) = start name (map attribute_of attrs.items) closing
token_of (given.End name at) = end name
token_of (given.Comment text at) = comment (string_bytes text)
token_of (given.Char ch at) = character ch
token_of (given.Eof at) = eof
