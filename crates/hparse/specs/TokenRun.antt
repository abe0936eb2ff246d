-- What the tokens of a run stand for.
use Rattle.std.specs.Prelude.{List}
use Rattle.std.specs.List.{AllZip}
use Rattle.names.specs.Names.{Texts}
use Rattle.htoken.specs.declared.token.Token.{Token}
use Rattle.htoken.specs.Token.{Tok, TokenMeans}

-- each token stands for one, in order
abbrev pub TokensMean : Texts → List Token → List Tok → Type 0
TokensMean names tokens meant = AllZip (TokenMeans names) tokens meant
