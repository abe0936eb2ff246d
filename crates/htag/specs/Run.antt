-- Runs of clean characters in a tag.
use Rattle.std.specs.Prelude.{◌≡◌, ℕ, ◌+◌, Bool, true, false, List, ◌++◌, take, drop, Result, Ok, Err, MatchResult, IfOk, OnOk}
use Rattle.std.specs.Char.{is_ascii}
use Rattle.std.specs.List.{prefix_len}
use Rattle.std.specs.Str.{chars}
use Rattle.names.specs.declared.error.ParseError.{ParseError}
use Rattle.names.specs.declared.placed.Placed.{Placed}
use Rattle.names.specs.declared.refusal.Refusal.{Refusal}
use Rattle.names.specs.declared.refusal.Refusal.TheVariants.{Memory}
use Rattle.names.specs.Names.{Grows, Texts}
use Rattle.names.specs.Placed.{placed}
use Rattle.charref.specs.Reference.{Entities}
use Rattle.htext.specs.Run.{is_quoted_byte, is_unquoted_byte, IsCut}
use Rattle.htag.specs.declared.tag_state.TagState.{TagState}
use Rattle.htag.specs.declared.tag_state.TagState.TheVariants as phase
use Rattle.htag.specs.declared.walk.TagWalk.{TagWalk}
use Rattle.htag.specs.TagWalk.{IsInTag, IsWholeTag, WholeOrNot}

-- So many bytes at the front of a run stand for themselves in the value of an attribute, where a walk is in this state.
pub data IsValueRun (state : TagState) (run : List ℕ) (count : ℕ) : Type 0 where
  quoted : (mark : ℕ) → state ≡ phase.AttributeValueQuoted mark → is_ascii mark ≡ true → count ≡ prefix_len (is_quoted_byte mark) run
      → IsValueRun state run count
  unquoted : state ≡ phase.AttributeValueUnquoted → count ≡ prefix_len is_unquoted_byte run → IsValueRun state run count

-- what comes next in a run after this many bytes of it, the first of which is at `at`
abbrev pub next_at : ℕ → List ℕ → ℕ → List Placed
next_at at run count = placed (at + count) (take 1 (chars (drop count run)))

-- the tag may have ended; or it goes on, and what comes next is known to
abbrev pub EndsOrNot : Bool → Entities → Texts → TagWalk → List Placed → List Placed → List ParseError → Type 0
EndsOrNot true table names walk body ahead errors = IsWholeTag table names walk body errors
EndsOrNot false table names walk body ahead errors = IsInTag table names walk body ahead errors

-- What taking the front of this run does, whose first character is at this place: after a text of a tag it takes so many bytes as the answer
-- says, and the answer says whether the tag has ended with them.
pub record TakesFront (table : Entities) (before after : Texts) (at : ℕ) (run : List ℕ) (old : TagWalk) (errors : List ParseError)
    (answer : Result (ℕ × Bool) Refusal) (new : TagWalk) (later : List ParseError) : Type 0 where
  pub cut : IfOk answer (λ it. IsCut it.0 run)
  pub takes : (body : List Placed) → IsInTag table before old body (next_at at run 0) errors
      → MatchResult answer (λ it. EndsOrNot it.1 table after new (body ++ placed at (chars (take it.0 run))) (next_at at run it.0) later) (λ e. e ≡ Memory)
  pub grows : Grows before after
  pub kind : OnOk answer (new.kind ≡ old.kind)

-- an answer of what never ends a tag
abbrev pub not_ended : Result ℕ Refusal → Result (ℕ × Bool) Refusal
not_ended (Ok count) = Ok (count, false)
not_ended (Err e) = Err e

abbrev pub TakesTagRun : Entities → Texts → List Placed → ℕ → List ℕ → Result (ℕ × Bool) Refusal → TagWalk → List ParseError → Type 0
TakesTagRun table names body at run answer walk errors =
    MatchResult answer (λ it. WholeOrNot it.1 table names walk (body ++ placed at (chars (take it.0 run))) errors) (λ e. e ≡ Memory)
