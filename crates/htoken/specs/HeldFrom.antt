-- From where on a tokenizer holds its text.
use Rattle.std.specs.Prelude.{◌≡◌, ℕ, false, List, ◌++◌}
use Rattle.names.specs.declared.placed.Placed.{Placed}
use Rattle.names.specs.declared.raw.RawKind.{RawKind}
use Rattle.names.specs.Placed.{place}
use Rattle.charref.specs.Reference.{Entities}
use Rattle.htoken.specs.declared.state.State.{State}
use Rattle.htoken.specs.declared.state.State.TheVariants as state
use Rattle.htoken.specs.declared.tokenizer.Tokenizer.{Tokenizer}
use Rattle.htoken.specs.Token.{Span, Event}
use Rattle.htoken.specs.Standing.{at_start}
use Rattle.htoken.specs.Tokens.{spans_text, Cut, tokens_of, has_refused, tokens_in}
use Rattle.htoken.specs.Tokenizing.{after_last}

-- Whatever text comes after, this front of the text that was fed is cut into spans, and the tokens that were taken are theirs.
pub record IsCutAt (table : Entities) (start : RawKind) (end : ℕ) (front rest : List Placed) (taken : List Event) : Type 0 where
  pub spans : List Span
  pub front_is : front ≡ spans_text spans
  pub cut : Cut table end (at_start start) spans rest
  pub tokens_are : tokens_in taken ≡ tokens_of spans
  pub in_profile : has_refused (tokens_of spans) ≡ false

-- What has been fed is such a front and what is held, which begins at this place: where nothing is held, right after the last character.
pub record HoldsFrom (table : Entities) (start : RawKind) (text : List Placed) (taken : List Event) (at : ℕ) : Type 0 where
  pub front : List Placed
  pub held : List Placed
  pub text_is : text ≡ front ++ held
  pub from_is : at ≡ place (after_last text) held
  pub cuts : (end : ℕ) (more : List Placed) → IsCutAt table start end front (held ++ more) taken

-- the place, by the state
abbrev pub from_of : State → Tokenizer → ℕ
from_of state.Text t = t.next
from_of state.AmbiguousAmpersand t = t.next
from_of other t = t.at
