-- What one more argument or command makes of a command line, and all of a list.
use Rattle.htmlp.proofs.Names.{◌≡◌, ◌<◌, ◌+◌, ◌∙◌, ℕ, List, ◌∷◌, length, drop, get_or, map, sym, ap, ap₂, refl, false, app_of, with_rule, Command, fields_of, choice_rule, named_reads, with_commands, with_rules, ◌≤◌, Bool, at_drop_more, at_drop_all, AddsArg, AddsSubcommand, App, Rule, rule_of, with_subcommand, Arg, Choice, CommandEntry, command_app}

pub one_more : (old new : Command) (arg : Arg) (app : App) (rule : Rule) → AddsArg old arg new → arg.global ≡ false → app_of old ≡ app → rule_of arg ≡ rule
    → app_of new ≡ with_rule app rule
one_more old new arg app rule adds local was is = adds.shape local ∙ ap₂ with_rule was is

pub stays_local : (old new : Command) (arg : Arg) → AddsArg old arg new → arg.global ≡ false → (fields_of old).has_globals ≡ false
    → (fields_of new).has_globals ≡ false
stays_local old new arg adds local none = adds.globals ∙ rw (local, none) refl

pub one_command_more : (old sub new : Command) (app its : App) → AddsSubcommand old sub new → (fields_of sub).has_globals ≡ false → app_of old ≡ app
    → app_of sub ≡ its → app_of new ≡ with_subcommand app its.top
one_command_more old sub new app its adds local was is = adds.shape local ∙ ap₂ with_subcommand was (ap (λ (a : App). a.top) is)

module _ {X : Type 0} (all_of : List X → App → App) (step : App → X → App)
    (begins : (x : X) (xs : List X) (app : App) → all_of (x ∷ xs) app ≡ all_of xs (step app x)) where
  next : (xs : List X) (i : ℕ) (d : X) (old new all : App) → i < length xs → new ≡ step old (get_or xs i d) → all_of (drop i xs) old ≡ all
      → all_of (drop (i + 1) xs) new ≡ all
  next xs i d old new all within made before =
      ap (all_of (drop (i + 1) xs)) made ∙ sym (begins (get_or xs i d) (drop (i + 1) xs) old) ∙ sym (at_drop_more (λ ys. all_of ys old) xs i d within) ∙ before

pub next_command : (entries : List CommandEntry) (i : ℕ) (d : CommandEntry) (old new all : App) → i < length entries
    → new ≡ with_subcommand old (command_app (named_reads (get_or entries i d))).top → with_commands (map named_reads (drop i entries)) old ≡ all
    → with_commands (map named_reads (drop (i + 1) entries)) new ≡ all
next_command = next (λ entries. with_commands (map named_reads entries)) (λ app entry. with_subcommand app (command_app (named_reads entry)).top)
    (λ entry entries app. refl)

pub next_choice : (required : Bool) (choices : List Choice) (i : ℕ) (d : Choice) (old new all : App) → i < length choices
    → new ≡ with_rule old (choice_rule required (get_or choices i d)) → with_rules (map (choice_rule required) (drop i choices)) old ≡ all
    → with_rules (map (choice_rule required) (drop (i + 1) choices)) new ≡ all
next_choice required =
    next (λ choices. with_rules (map (choice_rule required) choices)) (λ app choice. with_rule app (choice_rule required choice)) (λ choice choices app. refl)

pub all_commands : (entries : List CommandEntry) (i : ℕ) (app all : App) → length entries ≤ i → with_commands (map named_reads (drop i entries)) app ≡ all
    → app ≡ all
all_commands entries i app all past is = sym (at_drop_all (λ left. with_commands (map named_reads left) app) entries i past) ∙ is

pub all_choices : (required : Bool) (choices : List Choice) (i : ℕ) (app all : App) → length choices ≤ i
    → with_rules (map (choice_rule required) (drop i choices)) app ≡ all → app ≡ all
all_choices required choices i app all past is = sym (at_drop_all (λ left. with_rules (map (choice_rule required) left) app) choices i past) ∙ is
