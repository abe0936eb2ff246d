-- What reading an input gives, for a sink of the tokens and errors of its text. `gives` says what a step of the sink does.
use Rattle.std.specs.Prelude.{◌≡◌, ℕ, List, [], ◌∷◌, ◌++◌, length, map, None, Some, Result, Ok, Err}
use Rattle.std.specs.List.Sorted.{IsPermutation}
use Rattle.names.specs.declared.error.ParseError.{ParseError}
use Rattle.names.specs.declared.placed.Placed.{Placed}
use Rattle.names.specs.declared.raw.RefusedName.{RefusedName}
use Rattle.names.specs.declared.refusal.Refusal.{Refusal}
use Rattle.names.specs.declared.refusal.Refusal.TheVariants.{Memory, OutOfProfile}
use Rattle.names.specs.Names.{Texts, Grows}
use Rattle.names.specs.Sink.{Hands}
use Rattle.htext.specs.declared.BadBytes.{BadBytes}
use Rattle.htext.specs.declared.Bom.{Bom}
use Rattle.htext.specs.declared.Bom.TheVariants.{Drop, Keep}
use Rattle.htext.specs.Text.{Policy, Read, character_of, decoded, settled, read_len, refusal_of}
use Rattle.htext.specs.Items.{input_errors}
use Rattle.charref.specs.Reference.{Entities}
use Rattle.htoken.specs.declared.token.Start.{Start}
use Rattle.htoken.specs.declared.token.Start.TheVariants as start
use Rattle.htoken.specs.declared.token.Token.{Token}
use Rattle.htoken.specs.Standing.{start_kind}
use Rattle.htoken.specs.Token.{Tok, Event, Item, ItemToken, ItemError, HandedMeans, token_in}
use Rattle.htoken.specs.Tokens.{Tokens, IsRefused, AreFront, tokens_in}

-- how the text of an input is read: with these references, as a document or in a context, what becomes of bad bytes, and at most so
-- many bytes
pub record Manner : Type 0 where
  pub table : Entities
  pub start : Start
  pub bad : BadBytes
  pub limit : ℕ

-- a document loses a leading byte order mark
abbrev pub bom_of : Start → Bom
bom_of start.Document = Drop
bom_of (start.Context kind) = Keep

abbrev pub how_of : Manner → Policy
how_of m = record { bom = bom_of m.start; bad = m.bad; limit = m.limit }

-- what is read of the bytes, whatever follows them and as a whole input, and the characters of that
abbrev pub settled_in : Manner → List ℕ → List Read
settled_in m bytes = settled (how_of m) bytes

abbrev pub reads_in : Manner → List ℕ → List Read
reads_in m bytes = decoded (how_of m) bytes

abbrev pub input_text : Manner → List ℕ → List Placed
input_text m bytes = map character_of (reads_in m bytes)

-- how many of the bytes are read
abbrev pub end_in : Manner → List ℕ → ℕ
end_in m bytes = read_len (how_of m) bytes

-- the tokens and the errors among what a sink was handed
abbrev pub tokens_handed : List Item → List Token
tokens_handed [] = []
tokens_handed (ItemToken handed ∷ items) = token_in handed ∷ tokens_handed items
tokens_handed (ItemError error ∷ items) = tokens_handed items

abbrev pub errors_handed : List Item → List ParseError
errors_handed [] = []
errors_handed (ItemToken handed ∷ items) = errors_handed items
errors_handed (ItemError error ∷ items) = error ∷ errors_handed items

-- The tokens among the items stand for these, in order: only tags came with a table, each with one of its numbers, and this table has all texts of that.
abbrev pub ItemsMean : Texts → List Item → List Tok → Type 0
ItemsMean names [] [] = Unit {0}
ItemsMean names (ItemToken handed ∷ items) (tok ∷ tokens) = HandedMeans names handed tok × ItemsMean names items tokens
ItemsMean names (ItemError error ∷ items) tokens = ItemsMean names items tokens
ItemsMean names [] (tok ∷ tokens) = ⊥
ItemsMean names (ItemToken handed ∷ items) [] = ⊥

-- A sink as it begins, and the table of names of the tokens.
pub record Began (S : Type 0) : Type 0 where
  pub names : Texts
  pub sink : S

-- The sink was handed items in order, up to the first that it refused. Their tokens stand for these under the table as it is now, and their
-- errors are these, in some order.
pub record WasHanded {S : Type 0} (gives : S → Item → Result (Unit {0}) Refusal → S → Type 0) (names : Texts) (began : Began S) (tokens : List Tok)
    (errors : List ParseError) (answer : Result (Unit {0}) Refusal) (now : S) : Type 0 where
  pub grows : Grows began.names names
  pub items : List Item
  pub hands : Hands gives began.sink items answer now
  pub items_mean : ItemsMean names items tokens
  pub errors_are : IsPermutation errors (errors_handed items)

module _ {S : Type 0} (gives : S → Item → Result (Unit {0}) Refusal → S → Type 0) (m : Manner) (began : Began S) (bytes : List ℕ) (names : Texts)
    (now : S) where
  -- The input is refused, where the sink was handed what comes before: or memory ran out, where it took a front of what the text gives.
  pub data IsRefusedFor : Refusal → Type 0 where
    -- the sink refuses what its text gives
    by_sink : (refusal : Refusal) (events : List Event) (errors : List ParseError) → WasHanded gives names began (tokens_in events) errors (Err refusal) now
        → AreFront m.table (start_kind m.start) (input_text m bytes) (end_in m bytes) events → IsRefusedFor refusal
    -- a start tag of its text is out of the profile
    by_tag : (name : RefusedName) (at : ℕ) (tokens : List Tok) (errors : List ParseError) → WasHanded gives names began tokens errors (Ok tt) now
        → IsRefused m.table (start_kind m.start) (input_text m bytes) (end_in m bytes) tokens name at → IsRefusedFor (OutOfProfile name at)
    -- the sink takes all of its text, but bytes follow that
    by_bytes : (refusal : Refusal) (tokens : List Tok) (errors handed : List ParseError) → WasHanded gives names began tokens handed (Ok tt) now
        → Tokens m.table (start_kind m.start) (input_text m bytes) (end_in m bytes) tokens errors → refusal_of (how_of m) bytes ≡ Some refusal
        → IsRefusedFor refusal
    by_memory : (events : List Event) (errors : List ParseError) → WasHanded gives names began (tokens_in events) errors (Ok tt) now
        → AreFront m.table (start_kind m.start) (input_text m bytes) (end_in m bytes) events → IsRefusedFor Memory

  -- The sink took all that the input gives.
  pub record IsTaken : Type 0 where
    pub tokens : List Tok
    pub errors : List ParseError
    pub read : Tokens m.table (start_kind m.start) (input_text m bytes) (length bytes) tokens errors
    pub handed : WasHanded gives names began tokens (input_errors (reads_in m bytes) ++ errors) (Ok tt) now
    pub whole : refusal_of (how_of m) bytes ≡ None

  -- What it gives: it is refused, or taken.
  abbrev pub Comes : Result (Unit {0}) Refusal → Type 0
  Comes (Ok done) = IsTaken
  Comes (Err refusal) = IsRefusedFor refusal
