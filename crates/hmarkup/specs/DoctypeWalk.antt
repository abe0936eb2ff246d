-- What a doctype walk has read.
use Rattle.std.specs.Prelude.{◌≡◌, ◌<◌, ℕ, Bool, drop, true, false, not, ◌==◌, ◌||◌, List, ◌∷◌, ◌++◌, Option, Some, None, is_some, String, string_bytes}
use Rattle.std.specs.Char.{is_ascii_uppercase}
use Rattle.names.specs.declared.error.ParseError.{ParseError}
use Rattle.names.specs.declared.error.ErrorCode.TheVariants.{InvalidCharacterSequenceAfterDoctypeName}
use Rattle.names.specs.declared.placed.Placed.{Placed}
use Rattle.names.specs.Placed.{lowered, spells_in_any_case, is_space, is_greater, is_quote, error}
use Rattle.hmarkup.specs.declared.keyword.Identifier.{Identifier}
use Rattle.hmarkup.specs.declared.keyword.Identifier.TheVariants.{Public, System}
use Rattle.hmarkup.specs.declared.keyword.Letters.{Letters}
use Rattle.hmarkup.specs.declared.doctype_state.DoctypeState.{DoctypeState}
use Rattle.hmarkup.specs.declared.doctype_state.DoctypeState.TheVariants as phase
use Rattle.hmarkup.specs.Doctype.{Found, keyword, DoctypeRelation, force, AfterSpace, IsSkipped, IsInside, AfterSystemIdentifier, AfterPublicIdentifier, Follows}
use Rattle.hmarkup.specs.Doctype.{AfterKeyword, FollowsKeyword, AfterName, IsDoctypeName, AfterOpening, IsDoctype}
use Rattle.hmarkup.specs.Walk.{BeginsMarkup}

-- a text in UTF-8, if there is one
abbrev pub optional_text : {A : Type 0} → Option (String A) → Option (List ℕ)
optional_text None = None
optional_text (Some text) = Some (string_bytes text)

-- a walk as contracts see it
pub record Reading : Type 0 where
  pub phase : DoctypeState
  pub found : Found

-- the letters of the keyword that are still to come
abbrev pub letters_left : Letters → List ℕ
letters_left letters = drop letters.read (keyword letters.which)

-- After letters of a keyword, the first of which is at `first`: the other letters, or a skipped rest.
pub data IsInKeyword (letters : Letters) (first : ℕ) (known : Found) (end : ℕ) (rest text : List Placed) (found : Found)
    (errors : List ParseError) : Type 0 where
  whole : (word after : List Placed) → text ≡ word ++ after → lowered word ≡ letters_left letters
      → FollowsKeyword letters.which known end rest after found errors
      → IsInKeyword letters first known end rest text found errors
  fails : (later : List ParseError) → spells_in_any_case (letters_left letters) text ≡ false → IsSkipped (force known) end rest text found later
      → errors ≡ error InvalidCharacterSequenceAfterDoctypeName first ∷ later → IsInKeyword letters first known end rest text found errors

-- how a doctype goes on in each phase; `known` is what was found before
abbrev pub DoctypeGoesOn : DoctypeState → Found → DoctypeRelation
DoctypeGoesOn (phase.BeforeName spaced) known = AfterSpace (AfterOpening known) spaced
DoctypeGoesOn phase.Name known = IsDoctypeName known
DoctypeGoesOn phase.AfterName known = AfterSpace (λ spaced. AfterName known) false
DoctypeGoesOn (phase.Keyword letters first) known = IsInKeyword letters first known
DoctypeGoesOn (phase.AfterKeyword which spaced) known = AfterSpace (AfterKeyword which known) spaced
DoctypeGoesOn (phase.Quoted which mark) known = IsInside which mark (Follows which) known
DoctypeGoesOn (phase.AfterPublic spaced) known = AfterSpace (AfterPublicIdentifier known) spaced
DoctypeGoesOn phase.AfterSystem known = AfterSpace (λ spaced. AfterSystemIdentifier known) false
DoctypeGoesOn phase.Skipped known = IsSkipped known

abbrev pub identifier_of : Identifier → Found → Option (List ℕ)
identifier_of Public known = known.public
identifier_of System known = known.system

-- in a name or an identifier, that part is present; of a keyword a letter is still to come
abbrev pub FitsState : DoctypeState → Found → Type 0
FitsState phase.Name known = is_some known.name ≡ true
FitsState (phase.Keyword letters first) known = letters.read < 6
FitsState (phase.Quoted which mark) known = (is_quote mark ≡ true) × (is_some (identifier_of which known) ≡ true)
FitsState _ known = Unit {0}

-- a character that is only data in a phase: it is part of the name or of an identifier as it is, and no error
abbrev pub is_data : DoctypeState → ℕ → Bool
is_data phase.Name c = not ((is_space c || is_ascii_uppercase c) || (is_greater c || c == 0))
is_data (phase.Quoted which mark) c = not (c == mark || (is_greater c || c == 0))
is_data _ c = false

-- A doctype begins with this text, and its errors with these, and from there it goes on as the walk's phase says.
pub record GoesOnAfter (walk : Reading) (text : List Placed) (errors : List ParseError) (end : ℕ) (after rest span : List Placed) (found : Found)
    (all : List ParseError) : Type 0 where
  pub begins : BeginsMarkup text after rest span errors all
  pub goes_on : DoctypeGoesOn walk.phase walk.found end rest begins.more found begins.later

-- The walk has read this text after `<!DOCTYPE`, its doctype has not ended, and it has reported these errors: the text and
-- anything that goes on as the walk's phase says make a doctype, and no other doctype begins with the text.
pub record HasReadDoctype (walk : Reading) (text : List Placed) (errors : List ParseError) : Type 0 where
  pub fits : FitsState walk.phase walk.found
  pub goes_on : (end : ℕ) (rest more : List Placed) (found : Found) (later : List ParseError) → DoctypeGoesOn walk.phase walk.found end rest more found later
      → IsDoctype end rest (text ++ more) found (errors ++ later)
  pub no_other : (end : ℕ) (after rest span : List Placed) (found : Found) (all : List ParseError) → IsDoctype end rest span found all
      → span ++ rest ≡ text ++ after
      → GoesOnAfter walk text errors end after rest span found all
