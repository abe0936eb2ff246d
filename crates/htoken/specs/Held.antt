-- A law of what a tokenizer holds back.
use Rattle.std.specs.Prelude.{◌≡◌, ℕ, List, ◌++◌}
use Rattle.names.specs.declared.placed.Placed.{Placed}
use Rattle.names.specs.declared.raw.RawKind.{RawKind}
use Rattle.names.specs.Names.{Texts}
use Rattle.names.specs.Placed.{place}
use Rattle.charref.specs.Reference.{Entities, IsTable}
use Rattle.htoken.specs.declared.tokenizer.Tokenizer.{Tokenizer}
use Rattle.htoken.specs.Token.{Event}
use Rattle.htoken.specs.Standing.{Standing, at_start, standing_after}
use Rattle.htoken.specs.Beginning.{IsBeginning}
use Rattle.htoken.specs.HeldFrom.{IsCutAt, from_of}
use Rattle.htoken.specs.Tokenizing.{HasTaken, after_last}

-- What has been fed is a front that is cut into spans, whatever follows, whose tokens were taken, and what is held, which begins at
-- this place and is a beginning of a longer span of the kind that is after them.
pub record HoldsBeginning (table : Entities) (start : RawKind) (text : List Placed) (taken : List Event) (at : ℕ) : Type 0 where
  pub front : List Placed
  pub held : List Placed
  pub here : Standing
  pub text_is : text ≡ front ++ held
  pub cuts : (end : ℕ) (more : List Placed) → (cut : IsCutAt table start end front (held ++ more) taken) × (standing_after (at_start start) cut.spans ≡ here)
  pub from_is : at ≡ place (after_last text) held
  pub begins : IsBeginning table here held

abbrev pub HeldBegins : Type 0
HeldBegins = (table : Entities) (start : RawKind) (t : Tokenizer) (names : Texts) (text : List Placed) (taken : List Event) → IsTable table
    → HasTaken table start t names text taken
    → HoldsBeginning table start text taken (from_of t.state t)
