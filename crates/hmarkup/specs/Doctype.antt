-- Doctypes (HTML Standard, #doctype-state to #bogus-doctype-state): the text after `<!DOCTYPE`, its contents, and its errors in the order of the
-- text. Each relation describes the text from some point on; `known` is what was found before that point.
use Rattle.std.specs.Prelude.{◌≡◌, ℕ, Bool, true, false, not, ◌||◌, ◌==◌, List, [], ◌∷◌, ◌++◌, codes, Option, Some, None}
use Rattle.names.specs.declared.error.ParseError.{ParseError}
use Rattle.names.specs.declared.error.ErrorCode.{ErrorCode}
use Rattle.names.specs.declared.error.ErrorCode.TheVariants.{AbruptDoctypePublicIdentifier, AbruptDoctypeSystemIdentifier, EofInDoctype}
use Rattle.names.specs.declared.error.ErrorCode.TheVariants.{InvalidCharacterSequenceAfterDoctypeName, MissingDoctypeName, MissingDoctypePublicIdentifier}
use Rattle.names.specs.declared.error.ErrorCode.TheVariants.{MissingDoctypeSystemIdentifier, MissingQuoteBeforeDoctypePublicIdentifier}
use Rattle.names.specs.declared.error.ErrorCode.TheVariants.{MissingQuoteBeforeDoctypeSystemIdentifier, MissingWhitespaceAfterDoctypePublicKeyword}
use Rattle.names.specs.declared.error.ErrorCode.TheVariants.{MissingWhitespaceAfterDoctypeSystemKeyword, MissingWhitespaceBeforeDoctypeName}
use Rattle.names.specs.declared.error.ErrorCode.TheVariants.{MissingWhitespaceBetweenDoctypePublicAndSystemIdentifiers}
use Rattle.names.specs.declared.error.ErrorCode.TheVariants.{UnexpectedCharacterAfterDoctypeSystemIdentifier}
use Rattle.names.specs.declared.placed.Placed.{Placed}
use Rattle.names.specs.Placed.{characters, lowered, place, begins, is_empty, spells_in_any_case, all, RunsTo, is_space, is_greater, is_quote}
use Rattle.names.specs.Placed.{is_greater_or_end, error, error_if, null_errors, text_bytes, name_bytes}
use Rattle.hmarkup.specs.declared.keyword.Identifier.{Identifier}
use Rattle.hmarkup.specs.declared.keyword.Identifier.TheVariants.{Public, System}

-- the contents of a doctype: its name and identifiers, each missing or present (even if empty), and whether it forces quirks mode
pub record Found : Type 0 where
  pub name : Option (List ℕ)
  pub public : Option (List ℕ)
  pub system : Option (List ℕ)
  pub forced : Bool

abbrev pub nothing : Found
nothing = record { name = None; public = None; system = None; forced = false }

-- A relation between the input's end, the rest after a text, the text, the contents of the whole doctype, and the text's errors.
abbrev pub DoctypeRelation : Type 1
DoctypeRelation = ℕ → List Placed → List Placed → Found → List ParseError → Type 0

-- bytes appended to those that are there
abbrev pub lengthened : Option (List ℕ) → List ℕ → List ℕ
lengthened None bytes = bytes
lengthened (Some before) bytes = before ++ bytes

abbrev pub with_name : List ℕ → Found → Found
with_name bytes known = record { name = Some (lengthened known.name bytes); public = known.public; system = known.system; forced = known.forced }

abbrev pub identified : Identifier → List ℕ → Found → Found
identified Public bytes known = record { name = known.name; public = Some (lengthened known.public bytes); system = known.system; forced = known.forced }
identified System bytes known = record { name = known.name; public = known.public; system = Some (lengthened known.system bytes); forced = known.forced }

abbrev pub force : Found → Found
force known = record { name = known.name; public = known.public; system = known.system; forced = true }

-- the two identifiers: their keywords, and the errors that name them
abbrev pub keyword : Identifier → List ℕ
keyword Public = codes "public"
keyword System = codes "system"

abbrev pub no_space_after_keyword : Identifier → ErrorCode
no_space_after_keyword Public = MissingWhitespaceAfterDoctypePublicKeyword
no_space_after_keyword System = MissingWhitespaceAfterDoctypeSystemKeyword

abbrev pub no_identifier : Identifier → ErrorCode
no_identifier Public = MissingDoctypePublicIdentifier
no_identifier System = MissingDoctypeSystemIdentifier

abbrev pub no_quote : Identifier → ErrorCode
no_quote Public = MissingQuoteBeforeDoctypePublicIdentifier
no_quote System = MissingQuoteBeforeDoctypeSystemIdentifier

abbrev pub abrupt_identifier : Identifier → ErrorCode
abrupt_identifier Public = AbruptDoctypePublicIdentifier
abrupt_identifier System = AbruptDoctypeSystemIdentifier

-- White space, and then `Then`, which is given whether there was any.
pub record AfterSpace (Then : Bool → DoctypeRelation) (spaced : Bool) (end : ℕ) (rest text : List Placed) (found : Found) (errors : List ParseError)
    : Type 0 where
  pub space : List Placed
  pub after : List Placed
  pub text_is : text ≡ space ++ after
  pub spaces : all is_space space ≡ true
  pub then : Then (spaced || not (is_empty space)) end rest after found errors

-- The doctype ends, by `>` or by the end of input, which forces quirks mode.
pub data IsEnd (known : Found) (end : ℕ) (rest text : List Placed) (found : Found) (errors : List ParseError) : Type 0 where
  closed : characters text ≡ codes ">" → found ≡ known → errors ≡ [] → IsEnd known end rest text found errors
  cut_off : rest ≡ [] → text ≡ [] → found ≡ force known → errors ≡ error EofInDoctype end ∷ [] → IsEnd known end rest text found errors

-- A skipped rest: everything up to `>` or the end (the bogus DOCTYPE state, #bogus-doctype-state).
pub record IsSkipped (known : Found) (end : ℕ) (rest text : List Placed) (found : Found) (errors : List ParseError) : Type 0 where
  pub skipped : List Placed
  pub close : List Placed
  pub text_is : text ≡ skipped ++ close
  pub without : all (λ c. not (is_greater c)) skipped ≡ true
  pub closes : is_greater_or_end close rest ≡ true
  pub found_is : found ≡ known
  pub errors_are : errors ≡ null_errors skipped

-- The rest is skipped because it fails the test and begins with neither white space nor `>`; the error is at its first character.
pub record Skips (test : List Placed → Bool) (fault : ErrorCode) (known : Found) (end : ℕ) (rest text : List Placed) (found : Found)
    (errors : List ParseError) : Type 0 where
  pub later : List ParseError
  pub first : begins (λ c. not (is_space c || is_greater c)) text ≡ true
  pub fails : test text ≡ false
  pub skips : IsSkipped known end rest text found later
  pub errors_are : errors ≡ error fault (place end text) ∷ later

-- The inside of an identifier, after its opening quote. It ends at the same quote, or at `>` or the end of input, which force
-- quirks mode (#doctype-public-identifier-(double-quoted)-state, #doctype-public-identifier-(single-quoted)-state,
-- #doctype-system-identifier-(double-quoted)-state, #doctype-system-identifier-(single-quoted)-state).
pub data IsInside (which : Identifier) (mark : ℕ) (After : Found → DoctypeRelation) (known : Found) (end : ℕ) (rest text : List Placed) (found : Found)
    (errors : List ParseError) : Type 0 where
  quoted : (inside close after : List Placed) (later : List ParseError) → text ≡ inside ++ (close ++ after)
      → all (λ c. not (c == mark || is_greater c)) inside ≡ true → characters close ≡ mark ∷ []
      → After (identified which (text_bytes inside) known) end rest after found later → errors ≡ null_errors inside ++ later
      → IsInside which mark After known end rest text found errors
  abrupt : (inside close : List Placed) → text ≡ inside ++ close → all (λ c. not (c == mark || is_greater c)) inside ≡ true → characters close ≡ codes ">"
      → found ≡ force (identified which (text_bytes inside) known)
      → errors ≡ null_errors inside ++ error (abrupt_identifier which) (place end close) ∷ [] → IsInside which mark After known end rest text found errors
  unclosed : rest ≡ [] → all (λ c. not (c == mark || is_greater c)) text ≡ true
      → found ≡ force (identified which (text_bytes text) known) → errors ≡ null_errors text ++ error EofInDoctype end ∷ []
      → IsInside which mark After known end rest text found errors

-- An identifier in quotes and what follows it, with an error if no white space precedes it. From its opening quote on it is present.
pub record IsIdentifier (which : Identifier) (at_once : ErrorCode) (After : Found → DoctypeRelation) (known : Found) (spaced : Bool) (end : ℕ)
    (rest text : List Placed) (found : Found) (errors : List ParseError) : Type 0 where
  pub quote : Placed
  pub more : List Placed
  pub later : List ParseError
  pub text_is : text ≡ quote ∷ more
  pub is_mark : is_quote quote.ch ≡ true
  pub inside : IsInside which quote.ch After (identified which [] known) end rest more found later
  pub errors_are : errors ≡ error_if (not spaced) at_once quote.at ++ later

-- what follows the system identifier and white space (#after-doctype-system-identifier-state)
pub data AfterSystemIdentifier (known : Found) (end : ℕ) (rest text : List Placed) (found : Found) (errors : List ParseError) : Type 0 where
  system_ends : IsEnd known end rest text found errors → AfterSystemIdentifier known end rest text found errors
  system_skips : Skips (λ text. false) UnexpectedCharacterAfterDoctypeSystemIdentifier known end rest text found errors
      → AfterSystemIdentifier known end rest text found errors

abbrev pub FollowsSystem : Found → DoctypeRelation
FollowsSystem known = AfterSpace (λ spaced. AfterSystemIdentifier known) false

-- what follows the public identifier and white space (#after-doctype-public-identifier-state,
-- #between-doctype-public-and-system-identifiers-state)
pub data AfterPublicIdentifier (known : Found) (spaced : Bool) (end : ℕ) (rest text : List Placed) (found : Found) (errors : List ParseError) : Type 0 where
  public_ends : IsEnd known end rest text found errors → AfterPublicIdentifier known spaced end rest text found errors
  public_skips : Skips (begins is_quote) (no_quote System) (force known) end rest text found errors
      → AfterPublicIdentifier known spaced end rest text found errors
  second : IsIdentifier System MissingWhitespaceBetweenDoctypePublicAndSystemIdentifiers FollowsSystem known spaced end rest text found errors
      → AfterPublicIdentifier known spaced end rest text found errors

abbrev pub FollowsPublic : Found → DoctypeRelation
FollowsPublic known = AfterSpace (AfterPublicIdentifier known) false

abbrev pub Follows : Identifier → Found → DoctypeRelation
Follows Public = FollowsPublic
Follows System = FollowsSystem

-- what follows PUBLIC or SYSTEM and white space (#after-doctype-public-keyword-state, #before-doctype-public-identifier-state,
-- #after-doctype-system-keyword-state, #before-doctype-system-identifier-state)
pub data AfterKeyword (which : Identifier) (known : Found) (spaced : Bool) (end : ℕ) (rest text : List Placed) (found : Found)
    (errors : List ParseError) : Type 0 where
  identifier : IsIdentifier which (no_space_after_keyword which) (Follows which) known spaced end rest text found errors
      → AfterKeyword which known spaced end rest text found errors
  missing : characters text ≡ codes ">" → found ≡ force known → errors ≡ error (no_identifier which) (place end text) ∷ []
      → AfterKeyword which known spaced end rest text found errors
  keyword_skips : Skips (begins is_quote) (no_quote which) (force known) end rest text found errors → AfterKeyword which known spaced end rest text found errors
  keyword_cut_off : rest ≡ [] → text ≡ [] → found ≡ force known → errors ≡ error EofInDoctype end ∷ []
      → AfterKeyword which known spaced end rest text found errors

abbrev pub FollowsKeyword : Identifier → Found → DoctypeRelation
FollowsKeyword which known = AfterSpace (AfterKeyword which known) false

abbrev pub is_keyword : List Placed → Bool
is_keyword text = spells_in_any_case (keyword Public) text || spells_in_any_case (keyword System) text

-- what follows the name and white space (#after-doctype-name-state)
pub data AfterName (known : Found) (end : ℕ) (rest text : List Placed) (found : Found) (errors : List ParseError) : Type 0 where
  name_ends : IsEnd known end rest text found errors → AfterName known end rest text found errors
  name_skips : Skips is_keyword InvalidCharacterSequenceAfterDoctypeName (force known) end rest text found errors → AfterName known end rest text found errors
  names_identifier : (which : Identifier) (word after : List Placed) → text ≡ word ++ after → lowered word ≡ keyword which
      → FollowsKeyword which known end rest after found errors → AfterName known end rest text found errors

abbrev pub FollowsName : Found → DoctypeRelation
FollowsName known = AfterSpace (λ spaced. AfterName known) false

-- A name, up to white space, `>` or the end, and what follows it (#doctype-name-state).
pub record IsDoctypeName (known : Found) (end : ℕ) (rest text : List Placed) (found : Found) (errors : List ParseError) : Type 0 where
  pub name : List Placed
  pub after : List Placed
  pub later : List ParseError
  pub text_is : text ≡ name ++ after
  pub runs : RunsTo (λ c. is_space c || is_greater c) name (after ++ rest)
  pub follows : FollowsName (with_name (name_bytes name) known) end rest after found later
  pub errors_are : errors ≡ null_errors name ++ later

-- what follows `<!DOCTYPE` and white space (#doctype-state, #before-doctype-name-state)
pub data AfterOpening (known : Found) (spaced : Bool) (end : ℕ) (rest text : List Placed) (found : Found) (errors : List ParseError) : Type 0 where
  begins_name : (later : List ParseError) → begins (λ c. not (is_space c || is_greater c)) text ≡ true → IsDoctypeName known end rest text found later
      → errors ≡ error_if (not spaced) MissingWhitespaceBeforeDoctypeName (place end text) ++ later → AfterOpening known spaced end rest text found errors
  nameless : characters text ≡ codes ">" → found ≡ force known → errors ≡ error MissingDoctypeName (place end text) ∷ []
      → AfterOpening known spaced end rest text found errors
  unfinished : rest ≡ [] → text ≡ [] → found ≡ force known → errors ≡ error EofInDoctype end ∷ [] → AfterOpening known spaced end rest text found errors

-- The text after `<!DOCTYPE` is a doctype; `rest` follows it, and the input ends at `end`.
abbrev pub IsDoctype : ℕ → List Placed → List Placed → Found → List ParseError → Type 0
IsDoctype = AfterSpace (AfterOpening nothing) false
