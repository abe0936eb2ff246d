-- The answer of an input: its tokens and errors, or what it is refused for.
use Rattle.std.specs.Prelude.{◌≡◌, ℕ, List, ◌++◌, length, map, None, Some, Result, Ok, Err}
use Rattle.std.specs.Ordering.{nat_cmp, ordering_then}
use Rattle.std.specs.declared.cmp.Ordering.{Ordering}
use Rattle.std.specs.List.Sorted.{IsPermutation, IsSorted}
use Rattle.names.specs.declared.error.ParseError.{ParseError}
use Rattle.names.specs.declared.placed.Placed.{Placed}
use Rattle.names.specs.declared.raw.RawKind.TheVariants as kind
use Rattle.names.specs.declared.refusal.Refusal.{Refusal}
use Rattle.names.specs.declared.refusal.Refusal.TheVariants.{OutOfProfile}
use Rattle.names.specs.declared.raw.RefusedName.{RefusedName}
use Rattle.names.specs.Codes.{code_rank}
use Rattle.htext.specs.declared.BadBytes.{BadBytes}
use Rattle.htext.specs.declared.Bom.TheVariants.{Drop}
use Rattle.htext.specs.Text.{Policy, character_of, decoded, read_len, refusal_of}
use Rattle.htext.specs.Items.{input_errors}
use Rattle.charref.specs.Reference.{Entities}
use Rattle.htoken.specs.Token.{Tok}
use Rattle.htoken.specs.Tokens.{Tokens, IsRefused}

-- how a document is read: it loses a leading byte order mark
abbrev pub of_document : BadBytes → ℕ → Policy
of_document bad limit = record { bom = Drop; bad = bad; limit = limit }

-- the text that is read of the bytes
abbrev pub read_text : Policy → List ℕ → List Placed
read_text how bytes = map character_of (decoded how bytes)

-- errors are in the order of their places, and at one place in that of their codes
abbrev pub error_cmp : ParseError → ParseError → Ordering
error_cmp a b = ordering_then (nat_cmp a.at b.at) (nat_cmp (code_rank a.code) (code_rank b.code))

-- A document's text is refused for a start tag that is in it.
pub record IsTextRefusal (table : Entities) (text : List Placed) (end : ℕ) (refusal : Refusal) : Type 0 where
  pub tokens : List Tok
  pub name : RefusedName
  pub at : ℕ
  pub refused : IsRefused table kind.None text end tokens name at
  pub refusal_is : refusal ≡ OutOfProfile name at

-- The answer of the bytes of a document, whose references are those of the table.
pub data Answers (table : Entities) (how : Policy) (bytes : List ℕ) : Result (List Tok × List ParseError) Refusal → Type 0 where
  -- what is read is refused, taken as a whole input
  refused_text : (refusal : Refusal) → IsTextRefusal table (read_text how bytes) (read_len how bytes) refusal → Answers table how bytes (Err refusal)
  -- what is read is not, but bytes follow it
  refused_bytes : (refusal : Refusal) (tokens : List Tok) (errors : List ParseError)
      → Tokens table kind.None (read_text how bytes) (read_len how bytes) tokens errors
      → refusal_of how bytes ≡ Some refusal → Answers table how bytes (Err refusal)
  -- what is read is all of them: the errors are those of the input stream and of the tokens, as often as they are raised
  accepted : (tokens : List Tok) (errors sorted : List ParseError) → Tokens table kind.None (read_text how bytes) (length bytes) tokens errors
      → IsPermutation (input_errors (decoded how bytes) ++ errors) sorted → IsSorted error_cmp sorted
      → refusal_of how bytes ≡ None → Answers table how bytes (Ok (tokens, sorted))
