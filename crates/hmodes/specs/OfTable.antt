-- The names in a tree are of the table that its tokens' names are of.
use Rattle.std.specs.Prelude.{ℕ, List, [], ◌∷◌}
use Rattle.hmarkup.specs.Quirks.{QuirkLine}
use Rattle.hnodes.specs.Named.{AttributesAreOf, AreOf}
use Rattle.names.specs.Names.{Texts, AreNames, IsOf}
use Rattle.hadopt.specs.Naming.{numbers}
use Rattle.hadopt.specs.Site.{Goes, trees}
use Rattle.hmodes.specs.Beginning.{Limits, document_begins, fragment_begins}
use Rattle.hmodes.specs.State.{Token, start, end, PlacedToken, State}
use Rattle.hmodes.specs.Step.{Steps}

abbrev pub TokenIsOf : Texts → Token ℕ → Type 0
TokenIsOf names (start name attrs closing) = IsOf names name × AttributesAreOf names attrs
TokenIsOf names (end name) = IsOf names name
TokenIsOf names _ = Unit {0}

abbrev pub TokensAreOf : Texts → List (PlacedToken ℕ) → Type 0
TokensAreOf names [] = Unit {0}
TokensAreOf names (t ∷ ts) = TokenIsOf names t.token × TokensAreOf names ts

pub record NamesAreOfTheTable : Type 0 where
  pub document : (names : Texts) (quirks : List QuirkLine) (limits : Limits) (ts : List (PlacedToken ℕ)) (s : State ℕ) → AreNames names → TokensAreOf names ts
      → Steps numbers ts (document_begins quirks limits) (Goes s) → AreOf names (trees s.site)
  pub fragment : (names : Texts) (context : ℕ) (limits : Limits) (ts : List (PlacedToken ℕ)) (s : State ℕ) → AreNames names → IsOf names context
      → TokensAreOf names ts
      → Steps numbers ts (fragment_begins numbers context limits) (Goes s) → AreOf names (trees s.site)
