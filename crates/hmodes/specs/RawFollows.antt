-- A start tag whose content is raw text leads to the mode "text": so the kind of text that follows depends on its name alone.
use Rattle.std.specs.Prelude.{◌≡◌, ◌≢◌, ◌⊎◌, ℕ, Bool, true, false, List}
use Rattle.hnodes.specs.Forest.{Attribute}
use Rattle.hopen.specs.Stack.{current}
use Rattle.names.specs.Sets.{raw_kind}
use Rattle.names.specs.declared.raw.RawKind.{RawKind}
use Rattle.names.specs.declared.raw.RawKind.TheVariants.{Rcdata, Rawtext, Script}
use Rattle.names.specs.declared.refusal.Refusal.{Refusal}
use Rattle.names.specs.declared.refusal.Refusal.TheVariants.{TooManyNodes, TooDeep}
use Rattle.hadopt.specs.Naming.{Naming}
use Rattle.hadopt.specs.Site.{Outcome, Goes, SiteOf, stack}
use Rattle.hadopt.specs.Site as site
use Rattle.hmodes.specs.declared.mode.Mode.TheVariants.{Text}
use Rattle.hmodes.specs.Perform.{perform, with_foster, inserted_here}
use Rattle.hmodes.specs.Rules.{rule_of}
use Rattle.hmodes.specs.State.{Token, start, State, Done, Again, kind_of}
use Rattle.hmodes.specs.Reached.{Reached}
use Rattle.hmodes.specs.Step.{Rule, Step, step_begun}
use Rattle.hmodes.specs.Words.{Do, ◌▸◌, fostered, insert}

-- the kinds that an end tag ends; a plaintext has none, and is in the body
abbrev pub is_ended : RawKind → Bool
is_ended Rcdata = true
is_ended Rawtext = true
is_ended Script = true
is_ended _ = false

-- one node, or one open element, more than the limit
abbrev pub IsLimit : Refusal → Type 0
IsLimit r = (at : ℕ) × ((r ≡ TooManyNodes at) ⊎ (r ≡ TooDeep at))

-- A program that begins in the one state reaches the other, and inserts the token's element there.
pub data Inserts {N : Type 0} (n : Naming N) (at : ℕ) (t : Token N) : Do → State N → State N → Type 0 where
  at_once : {s : State N} → Inserts n at t insert s s
  in_first : {p q : Do} {s v : State N} → Inserts n at t p s v → Inserts n at t (p ▸ q) s v
  in_second : {p q : Do} {s u v : State N} → perform n at t p s ≡ Done u → Inserts n at t q u v → Inserts n at t (p ▸ q) s v
  in_fostered : {p : Do} {s v : State N} → Inserts n at t p (with_foster true s) v → Inserts n at t (fostered p) s v

-- the rules that the token goes by do so too
pub data RulesInsert {N : Type 0} (n : Naming N) (at : ℕ) (t : Token N) : State N → State N → Type 0 where
  by_rule : {s v : State N} → Inserts n at t (rule_of s.control.mode (kind_of n t)) s v → RulesInsert n at t s v
  by_next : {s u v : State N} → Rule n at t s ≡ Again t u → RulesInsert n at t u v → RulesInsert n at t s v

module _ {N : Type 0} (n : Naming N) (at : ℕ) (name : N) (attrs : List (Attribute N)) (closing : Bool) (s : State N) where
  -- The element was inserted where the rules get to it from s, at the end of what was done with the nodes, and is the current node;
  -- the mode is "text".
  pub record IsInText (s' : State N) : Type 0 where
    pub before : State N
    pub way : RulesInsert n at (start name attrs closing) s before
    pub after : SiteOf N
    pub insertion : inserted_here n at name attrs before.site ≡ Goes after
    pub nodes_are : s'.site.nodes ≡ after.nodes
    pub current_is : current (stack s'.site) ≡ current (stack after)
    pub mode_is : s'.control.mode ≡ Text

  -- the same, or a limit was reached
  abbrev pub ComesToText : Outcome (State N) → Type 0
  ComesToText (Goes s') = IsInText s'
  ComesToText (site.Refused r) = IsLimit r

-- In each state that tokens lead to, outside of such a text, a start tag whose content is raw text has that come of it.
abbrev pub RawFollows : {N : Type 0} → Naming N → Type 0
RawFollows {N} n = (s : State N) → Reached n s → s.control.mode ≢ Text
    → (at : ℕ) (name : N) (attrs : List (Attribute N)) (closing : Bool) (o : Outcome (State N))
    → is_ended (raw_kind (n.tag name)) ≡ true → Step n at (start name attrs closing) s o → ComesToText n at name attrs closing (step_begun s) o
