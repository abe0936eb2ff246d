-- The fronts of an input that no run refuses. What follows a front may decide what its last characters are; the spans at the front of its
-- text that are settled are there whatever follows, and these are refused or not.
use Rattle.std.specs.Prelude.{◌≡◌, ℕ, false, List, map}
use Rattle.names.specs.declared.placed.Placed.{Placed}
use Rattle.htext.specs.Decoding.{IsUndecided}
use Rattle.htext.specs.Text.{character_of}
use Rattle.htoken.specs.Standing.{start_kind}
use Rattle.htoken.specs.Token.{Span}
use Rattle.htoken.specs.Tokens.{tokens_of, has_refused}
use Rattle.htoken.specs.Settled.{AreSettled}
use Rattle.hadopt.specs.Naming.{texts}
use Rattle.hadopt.specs.Site.{Goes}
use Rattle.hmodes.specs.State.{State}
use Rattle.hmodes.specs.Step.{Steps}
use Rattle.hparse.specs.Input.{Manner, how_of, settled_in}
use Rattle.hparse.specs.Parse.{ParseCase, ParseOptions, first_state, manner}
use Rattle.hparse.specs.Taken.{token_placed}

-- the text that is read of the bytes whatever follows them
abbrev pub settled_text : Manner → List ℕ → List Placed
settled_text m bytes = map character_of (settled_in m bytes)

-- The settled spans of an input that begins with these bytes.
abbrev pub AreSettledIn : Manner → List ℕ → List Span → Type 0
AreSettledIn m bytes = AreSettled m.table (start_kind m.start) (settled_text m bytes)

-- No run over the text refuses these bytes: what follows them decides whether bytes are refused, and no settled start tag is one that
-- the profile leaves out.
pub record IsUnrefusedText (m : Manner) (bytes : List ℕ) : Type 0 where
  pub undecided : IsUndecided (how_of m) bytes
  pub in_profile : (spans : List Span) → AreSettledIn m bytes spans → has_refused (tokens_of spans) ≡ false

-- No parse refuses them: and the rules take the tokens of the settled spans.
pub record IsUnrefused (opts : ParseOptions) (parse_case : ParseCase) (bytes : List ℕ) : Type 0 where
  pub text : IsUnrefusedText (manner opts parse_case) bytes
  pub steps : (spans : List Span) → AreSettledIn (manner opts parse_case) bytes spans
      → (state : State (List ℕ)) × Steps texts (map token_placed (tokens_of spans)) (first_state opts parse_case) (Goes state)
