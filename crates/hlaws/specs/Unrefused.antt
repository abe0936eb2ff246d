-- Laws of the fronts of an input that no run refuses.
use Rattle.std.specs.Prelude.{◌≡◌, ℕ, Bool, false, List, [], ◌∷◌, ◌++◌, map, Some, Ok}
use Rattle.names.specs.declared.error.ParseError.{ParseError}
use Rattle.names.specs.declared.raw.RefusedName.{RefusedName}
use Rattle.names.specs.declared.refusal.Refusal.{Refusal}
use Rattle.names.specs.declared.refusal.Refusal.TheVariants.{OutOfProfile}
use Rattle.names.specs.Sets.{refused_name}
use Rattle.names.specs.Tags.{tag_named}
use Rattle.htext.specs.declared.BadBytes.{BadBytes}
use Rattle.charref.specs.Reference.{Entities}
use Rattle.htoken.specs.Token.{Tok, Span, Start}
use Rattle.htoken.specs.Tokens.{tokens_of, has_refused}
use Rattle.hadopt.specs.Naming.{texts}
use Rattle.hadopt.specs.Site.{Outcome, Goes, Refused}
use Rattle.hmodes.specs.State.{State}
use Rattle.hmodes.specs.Step.{Steps}
use Rattle.hparse.specs.Answer.{Answers, of_document}
use Rattle.hparse.specs.Into.{as_document}
use Rattle.hparse.specs.Parse.{ParseOptions, ParseCase, Parse, Parses, first_state, manner}
use Rattle.hparse.specs.Reader.{IsRefusedFrom}
use Rattle.hparse.specs.Taken.{token_placed}
use Rattle.hparse.specs.Unrefused.{AreSettledIn, IsUnrefusedText, IsUnrefused}

-- No run refuses a front of what is accepted, as a document's tokens or as a tree.
abbrev pub FrontsOfAnswered : Type 0
FrontsOfAnswered = (table : Entities) (bad : BadBytes) (limit : ℕ) (bytes more : List ℕ) (answer : List Tok × List ParseError)
    → Answers table (of_document bad limit) (bytes ++ more) (Ok answer) → IsUnrefusedText (as_document table bad limit) bytes

abbrev pub FrontsOfParsed : Type 0
FrontsOfParsed = (opts : ParseOptions) (parse_case : ParseCase) (bytes more : List ℕ) (parse : Parse)
    → Parses opts parse_case (bytes ++ more) (Ok parse) → IsUnrefused opts parse_case bytes

-- Settled spans, none out of the profile, lead to this.
abbrev pub SettledLead : ParseOptions → ParseCase → List Span → Outcome (State (List ℕ)) → Type 0
SettledLead opts parse_case spans outcome = (has_refused (tokens_of spans) ≡ false)
    × Steps texts (map token_placed (tokens_of spans)) (first_state opts parse_case) outcome

-- What the rules refuse of settled spans is refused whatever follows, and so is a settled start tag that the profile leaves out.
abbrev pub RulesRefuse : Type 0
RulesRefuse = (opts : ParseOptions) (parse_case : ParseCase) (bytes : List ℕ) (spans : List Span) (refusal : Refusal)
    → AreSettledIn (manner opts parse_case) bytes spans → SettledLead opts parse_case spans (Refused refusal)
    → IsRefusedFrom (Parses opts parse_case) bytes refusal

abbrev pub ProfileRefuses : Type 0
ProfileRefuses = (opts : ParseOptions) (parse_case : ParseCase) (bytes : List ℕ) (spans : List Span) (span : Span) (written : List ℕ)
    (attrs : List (List ℕ × List ℕ)) (closing : Bool) (at : ℕ) (name : RefusedName) (state : State (List ℕ))
    → AreSettledIn (manner opts parse_case) bytes (spans ++ span ∷ []) → SettledLead opts parse_case spans (Goes state)
    → span.tokens ≡ Start written attrs closing at ∷ [] → refused_name (tag_named written) ≡ Some name
    → IsRefusedFrom (Parses opts parse_case) bytes (OutOfProfile name at)
