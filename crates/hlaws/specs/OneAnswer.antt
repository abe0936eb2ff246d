-- Laws of the answer: the bytes of an input have exactly one.
use Rattle.std.specs.Prelude.{◌≡◌, ℕ, List}
use Rattle.htext.specs.Text.{Policy}
use Rattle.charref.specs.Reference.{Entities, IsTable}
use Rattle.hparse.specs.Answer.{Answers}
use Rattle.hparse.specs.Parse.{ParseOptions, ParseCase, Parses}

-- one of these is, and no other
pub record ExactlyOne {A : Type 0} (P : A → Type 0) : Type 0 where
  pub one : A
  pub is : P one
  pub other : (x : A) → P x → x ≡ one

-- The bytes of a document have one list of tokens and one of errors in their order, or are refused for one reason.
abbrev pub OneAnswer : Type 0
OneAnswer = (table : Entities) (how : Policy) (bytes : List ℕ) → IsTable table → ExactlyOne (Answers table how bytes)

-- The bytes of a document or of a fragment have one tree and one list of errors in their order, or are refused for one reason.
abbrev pub OneParse : Type 0
OneParse = (opts : ParseOptions) (parse_case : ParseCase) (bytes : List ℕ) → IsTable opts.table → ExactlyOne (Parses opts parse_case bytes)
