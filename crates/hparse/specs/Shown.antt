-- What a run shows of an answer.
use Rattle.std.specs.Prelude.{◌≡◌, ℕ, List, [], Result, Ok, Err}
use Rattle.names.specs.declared.refusal.Refusal.{Refusal}
use Rattle.names.specs.declared.refusal.Refusal.TheVariants.{Memory}
use Rattle.htext.specs.declared.BadBytes.{BadBytes}
use Rattle.htext.specs.Text.{Policy}
use Rattle.charref.specs.Reference.{Entities}
use Rattle.htoken.specs.Token.{Tok, gives_item}
use Rattle.htoken.specs.declared.token.Start.TheVariants.{Document}
use Rattle.hparse.specs.declared.collect.Collected.{Collected}
use Rattle.hparse.specs.declared.reading.Reading.{Reading}
use Rattle.hparse.specs.declared.token_run.TokenRun.{TokenRun}
use Rattle.hparse.specs.Answer.{Answers}
use Rattle.hparse.specs.Collecting.{KeepsError, KeepsToken}
use Rattle.hparse.specs.Fed.{HasRead}
use Rattle.hparse.specs.Input.{Began}
use Rattle.hparse.specs.TokenRun.{TokensMean}

-- The result is the answer of the bytes, unless memory ran out.
pub data ShowsRun (table : Entities) (how : Policy) (bytes : List ℕ) (result : Result TokenRun Refusal) : Type 0 where
  ran_out : result ≡ Err Memory → ShowsRun table how bytes result
  refuses : (refusal : Refusal) → result ≡ Err refusal → Answers table how bytes (Err refusal) → ShowsRun table how bytes result
  accepts : (run : TokenRun) (tokens : List Tok) → result ≡ Ok run → TokensMean run.names run.tokens.items tokens
      → Answers table how bytes (Ok (tokens, run.errors.items)) → ShowsRun table how bytes result

-- The bytes of a document have been read, whose tokens and errors are collected.
pub record HasReadTokens (table : Entities) (bad : BadBytes) (limit : ℕ) (reading : Reading Collected) (bytes : List ℕ) : Type 0 where
  pub began : Began Collected
  pub no_tokens : began.sink.tokens.items ≡ []
  pub no_errors : began.sink.errors.items ≡ []
  pub has_read : HasRead (gives_item KeepsError KeepsToken) (record { table = table; start = Document; bad = bad; limit = limit }) began reading bytes
