-- What parsing the bytes of a document or of a fragment gives: a tree and parse errors, or what they are refused for.
use Rattle.std.specs.Prelude.{◌≡◌, ℕ, Bool, not, ◌&&◌, ◌||◌, nat_le, bytes_eq, codes, List, ◌++◌, length, map, None, Some, Result, Ok}
use Rattle.std.specs.Prelude.{Err}
use Rattle.std.specs.List.Sorted.{IsPermutation, IsSorted}
use Rattle.names.specs.declared.error.ParseError.{ParseError}
use Rattle.names.specs.declared.raw.RefusedName.{RefusedName}
use Rattle.names.specs.declared.refusal.Refusal.{Refusal}
use Rattle.names.specs.declared.refusal.Refusal.TheVariants.{OutOfProfile}
use Rattle.names.specs.Sets.{is_refused, raw_kind}
use Rattle.names.specs.Tags.{tag_named}
use Rattle.htext.specs.Items.{input_errors}
use Rattle.htext.specs.declared.BadBytes.{BadBytes}
use Rattle.htext.specs.Text.{Policy, read_len, refusal_of}
use Rattle.charref.specs.Reference.{Entities}
use Rattle.hmarkup.specs.Quirks.{QuirkLine}
use Rattle.htoken.specs.declared.token.Start.{Start}
use Rattle.htoken.specs.declared.token.Start.TheVariants as start
use Rattle.htoken.specs.Standing.{start_kind}
use Rattle.htoken.specs.Token.{Tok, Event}
use Rattle.htoken.specs.Tokens.{Tokens, IsRefused, AreFront, tokens_in}
use Rattle.hnodes.specs.Forest.{Forest}
use Rattle.hadopt.specs.Naming.{texts}
use Rattle.hadopt.specs.Site.{Goes, Refused}
use Rattle.hmodes.specs.Beginning.{Limits, document_begins, fragment_begins}
use Rattle.hmodes.specs.State.{State}
use Rattle.hmodes.specs.Step.{Steps}
use Rattle.hserialize.specs.Plain.{is_plain_name}
use Rattle.hparse.specs.Answer.{error_cmp}
use Rattle.hparse.specs.Input.{Manner, how_of, reads_in, input_text}
use Rattle.hparse.specs.Taken.{token_placed}

-- what is parsed: a document, or a fragment in the context of an element of this name (#html-fragment-parsing-algorithm)
pub data ParseCase : Type 0 where
  document : ParseCase
  fragment : (context : List ℕ) → ParseCase

-- the options of a parse: the references, the quirks list, what becomes of bad bytes, the most bytes, how large the tree may become, and
-- whether it is asked where its nodes came from
pub record ParseOptions : Type 0 where
  pub table : Entities
  pub quirks : List QuirkLine
  pub bad : BadBytes
  pub input : ℕ
  pub limits : Limits
  pub places : Bool

abbrev pub start_of : ParseCase → Start
start_of document = start.Document
start_of (fragment context) = start.Context (raw_kind (tag_named context))

abbrev pub manner : ParseOptions → ParseCase → Manner
manner opts parse_case = record { table = opts.table; start = start_of parse_case; bad = opts.bad; limit = opts.input }

-- how its bytes are read
abbrev pub policy : ParseOptions → ParseCase → Policy
policy opts parse_case = how_of (manner opts parse_case)

-- the state in which it begins
abbrev pub first_state : ParseOptions → ParseCase → State (List ℕ)
first_state opts document = document_begins opts.quirks opts.limits
first_state opts (fragment context) = fragment_begins texts context opts.limits

-- the document, or a fragment's root element
abbrev pub root_of : ParseCase → ℕ
root_of document = 0
root_of (fragment context) = 1

-- the tree that was built, where each node has its number, and the errors in their order
pub record Parse : Type 0 where
  pub trees : Forest (List ℕ)
  pub errors : List ParseError

module _ (opts : ParseOptions) (parse_case : ParseCase) (bytes : List ℕ) where
  -- The tokens of what is read of the bytes lead the rules to this state, and the text raises these errors.
  pub record Builds (end : ℕ) (errors : List ParseError) (state : State (List ℕ)) : Type 0 where
    pub tokens : List Tok
    pub read : Tokens opts.table (start_kind (start_of parse_case)) (input_text (manner opts parse_case) bytes) end tokens errors
    pub steps : Steps texts (map token_placed tokens) (first_state opts parse_case) (Goes state)

  -- What the bytes are parsed as.
  pub data Parses : Result Parse Refusal → Type 0 where
    -- the rules refuse one of its tokens
    refused_token : (refusal : Refusal) (events : List Event)
        → AreFront opts.table (start_kind (start_of parse_case)) (input_text (manner opts parse_case) bytes) (read_len (policy opts parse_case) bytes) events
        → Steps texts (map token_placed (tokens_in events)) (first_state opts parse_case) (Refused refusal) → Parses (Err refusal)
    -- it has a start tag that is left out of the profile, and the rules take the tokens before that
    refused_tag : (name : RefusedName) (at : ℕ) (tokens : List Tok) (state : State (List ℕ))
        → IsRefused opts.table (start_kind (start_of parse_case)) (input_text (manner opts parse_case) bytes)
        (read_len (policy opts parse_case) bytes) tokens name at
        → Steps texts (map token_placed tokens) (first_state opts parse_case) (Goes state) → Parses (Err (OutOfProfile name at))
    -- the rules take all of its tokens, but bytes follow it
    refused_bytes : (refusal : Refusal) (errors : List ParseError) (state : State (List ℕ)) → Builds (read_len (policy opts parse_case) bytes) errors state
        → refusal_of (policy opts parse_case) bytes ≡ Some refusal → Parses (Err refusal)
    -- it is all of the bytes: the errors are those of the input stream, of the tokens and of the rules, as often as they are raised
    accepted : (errors sorted : List ParseError) (state : State (List ℕ)) → Builds (length bytes) errors state
        → IsPermutation (input_errors (reads_in (manner opts parse_case) bytes) ++ (errors ++ state.site.errors)) sorted → IsSorted error_cmp sorted
        → refusal_of (policy opts parse_case) bytes ≡ None → Parses (Ok (record { trees = state.site.nodes.trees; errors = sorted }))

-- whether this may be the name of a fragment's context: a lower letter, then lower letters, digits, `-`, `_` and `:`
abbrev pub is_context : List ℕ → Bool
is_context name = nat_le (length name) 64 && is_plain_name name && not (bytes_eq name (codes "colgroup") || is_refused (tag_named name))
