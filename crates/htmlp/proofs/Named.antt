-- What the words say, where they are read.
use Rattle.htmlp.proofs.Names.{◌≡◌, ◌⊎◌, ◌∙◌, inl, inr, ap, ap₂, sym, subst, codes, Option, option_map, ℕ, List, Ok, Err, false, Bor, Text, Fault, IsRefusalOf, Numeric, range_of, Line, SaysLine, task_of, option_value, FindsQuirks, rules, le_refl, Entities, QuirkLine, BadContext, MAX_INPUT, AreLimits, Bounds, AllowsContext, IsLimitFault, Limit, Nodes, Open, IsInRange, World, FindsTable, FirstFault, no_table, no_quirks, no_limits, no_context, TellsOptions, CommandOptions, limits_of}

abbrev name_of : Option (Bor (List ℕ)) → Option Text
name_of = option_map (λ s. s.now)

abbrev told_with : Line → Entities → List QuirkLine → Bounds → CommandOptions
told_with line table quirks limits = record {
  task = line.command.task;
  context = name_of line.command.context;
  escaping = line.command.escaping;
  piece = line.command.piece;
  settings = record { table = table; quirks = quirks; bad = line.bad_bytes; input = limits.input; limits = limits.tree; places = false };
}

abbrev limits_from : ℕ → ℕ → Bounds
limits_from nodes depth = record { input = MAX_INPUT; tree = record { nodes = nodes; depth = depth } }

-- limits that are refused, by the first that is out of its range
pub limit_fault : {nodes depth : ℕ} {bad : Numeric} → (AreLimits (limits_from nodes depth) → ⊥)
    → ((IsInRange (range_of Nodes) nodes → ⊥) × (bad ≡ Nodes)) ⊎ (IsInRange (range_of Nodes) nodes × (bad ≡ Open))
    → IsLimitFault (limits_from nodes depth).tree (Limit bad)
limit_fault none (inl (out, is)) = inl (out, ap Limit is)
limit_fault none (inr (within, is)) = inr (
  within,
  (λ depth_within.
      none (record { most_input = le_refl _; some_nodes = within.0; most_nodes = within.1; some_depth = depth_within.0; most_depth = depth_within.1 })),
  ap Limit is,
)

module _ {R F : Type 0} (world : World R F) (surroundings : R) (words : List Text) (line : Line)
    (says : SaysLine (task_of words) (option_value words) line) where
  abbrev IsTable : Entities → Type 0
  IsTable table = FindsTable world surroundings (name_of line.entities) (Ok table)

  abbrev IsQuirks : List QuirkLine → Type 0
  IsQuirks quirks = FindsQuirks world surroundings (name_of line.quirks) (Ok quirks)

  table_found : (table : Entities) → IsTable table → FindsTable world surroundings (option_value words (codes "entities")) (Ok table)
  table_found table is = subst (λ name. FindsTable world surroundings name (Ok table)) says.entities_is is

  quirks_found : (quirks : List QuirkLine) → IsQuirks quirks → FindsQuirks world surroundings (option_value words (codes "quirks")) (Ok quirks)
  quirks_found quirks is = subst (λ name. FindsQuirks world surroundings name (Ok quirks)) says.quirks_is is

  limits_are : limits_from line.nodes line.open ≡ limits_of words
  limits_are = ap₂ limits_from says.nodes_is says.open_is

  limits_found : AreLimits (limits_from line.nodes line.open) → AreLimits (limits_of words)
  limits_found are = subst AreLimits limits_are are

  limits_said : AreLimits (limits_of words) → AreLimits (limits_from line.nodes line.open)
  limits_said are = subst AreLimits (sym limits_are) are

  pub table_missing : {why : Fault} → FindsTable world surroundings (name_of line.entities) (Err why) → FirstFault world surroundings words why
  table_missing {why} is = no_table (subst (λ name. FindsTable world surroundings name (Err why)) says.entities_is is)

  pub quirks_missing : (table : Entities) {why : Fault} → IsTable table → FindsQuirks world surroundings (name_of line.quirks) (Err why)
      → FirstFault world surroundings words why
  quirks_missing table {why} found is =
      no_quirks table (table_found table found) (subst (λ name. FindsQuirks world surroundings name (Err why)) says.quirks_is is)

  pub limits_refused : (table : Entities) (quirks : List QuirkLine) {why : Fault} → IsTable table → IsQuirks quirks
      → (AreLimits (limits_from line.nodes line.open) → ⊥) → IsLimitFault (limits_from line.nodes line.open).tree why → FirstFault world surroundings words why
  limits_refused table quirks {why} found listed none is = no_limits table quirks (table_found table found) (quirks_found quirks listed)
      (λ are. none (limits_said are)) (subst (λ (b : Bounds). IsLimitFault b.tree why) limits_are is)

  pub context_refused : (table : Entities) (quirks : List QuirkLine) {why : Fault} → IsTable table → IsQuirks quirks
      → AreLimits (limits_from line.nodes line.open) → (AllowsContext (name_of line.command.context) → ⊥)
      → IsRefusalOf (name_of line.command.context) BadContext why → FirstFault world surroundings words why
  context_refused table quirks {why} found listed are none is =
      no_context table quirks (table_found table found) (quirks_found quirks listed) (limits_found are)
      (λ allows. none (subst AllowsContext (sym says.context_is) allows)) (subst (λ name. IsRefusalOf name BadContext why) says.context_is is)

  pub tells : (table : Entities) (quirks : List QuirkLine) {limits : Bounds} → IsTable table → IsQuirks quirks → AreLimits (limits_from line.nodes line.open)
      → AllowsContext (name_of line.command.context) → limits ≡ limits_from line.nodes line.open
      → TellsOptions world surroundings words (told_with line table quirks limits)
  tells table quirks found listed are allows is = let its_table = table_found table found in let its_quirks = quirks_found quirks listed in
      let within = limits_found are in
      let input = ap (λ (b : Bounds). b.input) (is ∙ limits_are) in
      let tree = ap (λ (b : Bounds). b.tree) (is ∙ limits_are) in
      search rules
