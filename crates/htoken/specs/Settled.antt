-- The spans at the front of a text that are settled: they are there whatever follows it.
use Rattle.std.specs.Prelude.{◌≡◌, ℕ, false, List, ◌++◌}
use Rattle.names.specs.declared.placed.Placed.{Placed}
use Rattle.names.specs.declared.raw.RawKind.{RawKind}
use Rattle.names.specs.Names.{Texts}
use Rattle.charref.specs.Reference.{Entities, IsTable}
use Rattle.htoken.specs.declared.tokenizer.Tokenizer.{Tokenizer}
use Rattle.htoken.specs.Token.{Tok, Span, Event}
use Rattle.htoken.specs.Standing.{at_start}
use Rattle.htoken.specs.Tokenizing.{HasTaken}
use Rattle.htoken.specs.Tokens.{spans_text, Cut, tokens_of, has_refused, tokens_in}

-- These spans are at the front of a text that begins in this kind, whatever follows it.
pub record AreSettled (table : Entities) (start : RawKind) (text : List Placed) (spans : List Span) : Type 0 where
  pub rest : List Placed
  pub text_is : text ≡ spans_text spans ++ rest
  pub cut : (end : ℕ) (more : List Placed) → Cut table end (at_start start) spans (rest ++ more)

-- What a sink has taken begins with the tokens of these spans, and none of them is a start tag that the profile leaves out.
pub record AreTaken (taken : List Event) (spans : List Span) : Type 0 where
  pub others : List Tok
  pub tokens_are : tokens_in taken ≡ tokens_of spans ++ others
  pub in_profile : has_refused (tokens_of spans) ≡ false

-- A tokenizer has handed over the tokens of every span of its text that is settled.
abbrev pub SettledAreTaken : Type 0
SettledAreTaken = (table : Entities) (start : RawKind) (t : Tokenizer) (names : Texts) (text : List Placed) (taken : List Event) (spans : List Span)
    → IsTable table → HasTaken table start t names text taken → AreSettled table start text spans → AreTaken taken spans
