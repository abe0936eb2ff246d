-- What a character does to a doctype walk. Only contracts of private functions cite this.
use Rattle.std.specs.Prelude.{ℕ, ◌+◌, nat_lt, get_or, Bool, true, false, ◌==◌, if◌then◌else◌, List, [], ◌∷◌, ◌++◌, Option, Some, None}
use Rattle.std.specs.Char.{to_ascii_lowercase}
use Rattle.names.specs.declared.error.ParseError.{ParseError}
use Rattle.names.specs.declared.error.ErrorCode.{ErrorCode}
use Rattle.names.specs.declared.error.ErrorCode.TheVariants.{EofInDoctype, InvalidCharacterSequenceAfterDoctypeName, MissingDoctypeName}
use Rattle.names.specs.declared.error.ErrorCode.TheVariants.{MissingWhitespaceBeforeDoctypeName, MissingWhitespaceBetweenDoctypePublicAndSystemIdentifiers}
use Rattle.names.specs.declared.error.ErrorCode.TheVariants.{UnexpectedCharacterAfterDoctypeSystemIdentifier}
use Rattle.names.specs.declared.placed.Placed.{Placed}
use Rattle.names.specs.Placed.{is_space, is_greater, is_quote, error, null_errors, text_bytes, name_bytes}
use Rattle.hmarkup.specs.declared.keyword.Identifier.{Identifier}
use Rattle.hmarkup.specs.declared.keyword.Identifier.TheVariants.{Public, System}
use Rattle.hmarkup.specs.declared.keyword.Letters.{Letters}
use Rattle.hmarkup.specs.declared.doctype_state.DoctypeState.{DoctypeState}
use Rattle.hmarkup.specs.declared.doctype_state.DoctypeState.TheVariants as phase
use Rattle.hmarkup.specs.declared.doctype_state.Keeps.{Keeps}
use Rattle.hmarkup.specs.declared.doctype_state.Keeps.TheVariants as keeps
use Rattle.hmarkup.specs.declared.doctype_state.Step.{Step}
use Rattle.hmarkup.specs.Doctype.{Found, keyword, with_name, identified, force, no_space_after_keyword, no_identifier, no_quote, abrupt_identifier}

-- keywords, letter for letter: each has six
abbrev pub identifier_begun : Identifier → Letters
identifier_begun which = record { which = which; read = 1 }

abbrev pub first_letter : ℕ → Option Letters
first_letter c = if to_ascii_lowercase c == 112 then Some (identifier_begun Public)
    else (if to_ascii_lowercase c == 115 then Some (identifier_begun System) else None)

abbrev pub next_letter : Letters → ℕ
next_letter letters = get_or (keyword letters.which) letters.read 0

abbrev pub letters_after : Letters → Option Letters
letters_after letters = if nat_lt letters.read 5 then Some (record { which = letters.which; read = letters.read + 1 }) else None

-- the forms of a step
abbrev pub goes_to : DoctypeState → Step
goes_to next = record { fault = None; keeps = keeps.Nothing; forces = false; next = Some next }

abbrev pub ends_doctype : Step
ends_doctype = record { fault = None; keeps = keeps.Nothing; forces = false; next = None }

abbrev pub refuses : ErrorCode → ℕ → Step
refuses code at = record { fault = Some (error code at); keeps = keeps.Nothing; forces = true; next = None }

abbrev pub skips : ErrorCode → ℕ → Bool → Step
skips code at forced = record { fault = Some (error code at); keeps = keeps.Nothing; forces = forced; next = Some phase.Skipped }

abbrev pub faulty : Keeps → Bool → ErrorCode → ℕ → DoctypeState → Step
faulty kept_found spaced code at next = record { fault = if spaced then None else Some (error code at); keeps = kept_found; forces = false; next = Some next }

-- The step of each phase, by the character's class.
abbrev pub before_name : Bool → Bool → Bool → ℕ → Step
before_name spaced space greater at =
    if space then goes_to (phase.BeforeName true)
    else (if greater then refuses MissingDoctypeName at
    else faulty keeps.Name spaced MissingWhitespaceBeforeDoctypeName at phase.Name)

abbrev pub in_name : Bool → Bool → Step
in_name space greater =
    if space then goes_to phase.AfterName
    else (if greater then ends_doctype
    else record { fault = None; keeps = keeps.Name; forces = false; next = Some phase.Name })

abbrev pub begins_keyword : Option Letters → ℕ → Step
begins_keyword (Some letters) at = goes_to (phase.Keyword letters at)
begins_keyword None at = skips InvalidCharacterSequenceAfterDoctypeName at true

abbrev pub after_name : Bool → Bool → Option Letters → ℕ → Step
after_name space greater letters at = if space then goes_to phase.AfterName else (if greater then ends_doctype else begins_keyword letters at)

abbrev pub goes_on_with : Identifier → Option Letters → ℕ → Step
goes_on_with which (Some letters) first = goes_to (phase.Keyword letters first)
goes_on_with which None first = goes_to (phase.AfterKeyword which false)

abbrev pub in_keyword : Letters → ℕ → Bool → Bool → Step
in_keyword letters first matches greater =
    if matches then goes_on_with letters.which (letters_after letters) first
    else (if greater then refuses InvalidCharacterSequenceAfterDoctypeName first
    else skips InvalidCharacterSequenceAfterDoctypeName first true)

abbrev pub after_keyword : Identifier → Bool → Bool → Bool → Bool → ℕ → ℕ → Step
after_keyword which spaced space greater quote ch at =
    if space then goes_to (phase.AfterKeyword which true)
    else (if greater then refuses (no_identifier which) at
    else (if quote then faulty (keeps.Quote which) spaced (no_space_after_keyword which) at (phase.Quoted which ch)
    else skips (no_quote which) at true))

abbrev pub follows : Identifier → DoctypeState
follows Public = phase.AfterPublic false
follows System = phase.AfterSystem

abbrev pub in_quotes : Identifier → ℕ → Bool → Bool → ℕ → Step
in_quotes which mark closes greater at =
    if closes then goes_to (follows which)
    else (if greater then refuses (abrupt_identifier which) at
    else record { fault = None; keeps = keeps.Inside which; forces = false; next = Some (phase.Quoted which mark) })

abbrev pub after_public : Bool → Bool → Bool → Bool → ℕ → ℕ → Step
after_public spaced space greater quote ch at =
    if space then goes_to (phase.AfterPublic true)
    else (if greater then ends_doctype
    else (if quote then faulty (keeps.Quote System) spaced MissingWhitespaceBetweenDoctypePublicAndSystemIdentifiers at (phase.Quoted System ch)
    else skips (no_quote System) at true))

abbrev pub after_system : Bool → Bool → ℕ → Step
after_system space greater at =
    if space then goes_to phase.AfterSystem
    else (if greater then ends_doctype
    else skips UnexpectedCharacterAfterDoctypeSystemIdentifier at false)

abbrev pub in_skipped : Bool → Step
in_skipped greater = if greater then ends_doctype else goes_to phase.Skipped

abbrev pub step : DoctypeState → Placed → Step
step (phase.BeforeName spaced) p = before_name spaced (is_space p.ch) (is_greater p.ch) p.at
step phase.Name p = in_name (is_space p.ch) (is_greater p.ch)
step phase.AfterName p = after_name (is_space p.ch) (is_greater p.ch) (first_letter p.ch) p.at
step (phase.Keyword letters first) p = in_keyword letters first (to_ascii_lowercase p.ch == next_letter letters) (is_greater p.ch)
step (phase.AfterKeyword which spaced) p = after_keyword which spaced (is_space p.ch) (is_greater p.ch) (is_quote p.ch) p.ch p.at
step (phase.Quoted which mark) p = in_quotes which mark (p.ch == mark) (is_greater p.ch) p.at
step (phase.AfterPublic spaced) p = after_public spaced (is_space p.ch) (is_greater p.ch) (is_quote p.ch) p.ch p.at
step phase.AfterSystem p = after_system (is_space p.ch) (is_greater p.ch) p.at
step phase.Skipped p = in_skipped (is_greater p.ch)

-- the contents after the character
abbrev pub kept_found : Keeps → Placed → Found → Found
kept_found keeps.Nothing p known = known
kept_found keeps.Name p known = with_name (name_bytes (p ∷ [])) known
kept_found (keeps.Quote which) p known = identified which [] known
kept_found (keeps.Inside which) p known = identified which (text_bytes (p ∷ [])) known

abbrev pub found_by : Step → Placed → Found → Found
found_by step p known = if step.forces then force (kept_found step.keeps p known) else kept_found step.keeps p known

-- the contents after characters that are only data in a phase
abbrev pub with_run : DoctypeState → List ℕ → Found → Found
with_run phase.Name bytes known = with_name bytes known
with_run (phase.Quoted which mark) bytes known = identified which bytes known
with_run _ bytes known = known

-- the errors of the character
abbrev pub fault_errors : Option ParseError → List ParseError
fault_errors None = []
fault_errors (Some fault) = fault ∷ []

abbrev pub step_errors : Step → Placed → List ParseError
step_errors step p = fault_errors step.fault ++ null_errors (p ∷ [])

-- what the input's end does: its error, and the contents after it
abbrev pub end_fault : DoctypeState → ℕ → Option ParseError
end_fault (phase.Keyword letters first) end = Some (error InvalidCharacterSequenceAfterDoctypeName first)
end_fault phase.Skipped end = None
end_fault _ end = Some (error EofInDoctype end)

abbrev pub found_at_end : DoctypeState → Found → Found
found_at_end phase.Skipped known = known
found_at_end _ known = force known
