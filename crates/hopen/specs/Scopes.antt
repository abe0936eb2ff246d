-- What is sought among the open nodes, and what stops the search.
use Rattle.std.specs.Prelude.{Bool}
use Rattle.hopen.specs.Stack.{OpenNode}
use Rattle.hopen.specs.declared.scope.Scope.{Scope}
use Rattle.hopen.specs.declared.scope.Scope.TheVariants as scope
use Rattle.hopen.specs.declared.scope.Group.{Group}
use Rattle.hopen.specs.declared.scope.Group.TheVariants as group
use Rattle.names.specs.declared.tag.Tag.{Tag}
use Rattle.names.specs.Sets.{stops_scope, stops_list_item_scope, stops_button_scope, stops_table_scope, is_heading, is_table_section, is_cell}
pub use Rattle.names.specs.Sets.{stops_item, tells_mode}

-- whether a name stops the search in a scope (#the-stack-of-open-elements)
abbrev pub stops_in : Scope → Tag → Bool
stops_in scope.Default t = stops_scope t
stops_in scope.ListItem t = stops_list_item_scope t
stops_in scope.Button t = stops_button_scope t
stops_in scope.Table t = stops_table_scope t

-- whether a name is of a group
abbrev pub is_of_group : Group → Tag → Bool
is_of_group group.Heading t = is_heading t
is_of_group group.TableSection t = is_table_section t
is_of_group group.Cell t = is_cell t
is_of_group group.TellsMode t = tells_mode t

module _ {N : Type 0} where
  -- whether an open node stops the search in a scope
  abbrev pub stops_in_scope : (N → Tag) → Scope → OpenNode N → Bool
  stops_in_scope tag scope x = stops_in scope (tag x.name)

  -- whether an open node has this name
  abbrev pub is_named : (N → N → Bool) → N → OpenNode N → Bool
  is_named same name x = same x.name name

  -- whether the name of an open node is of a group
  abbrev pub is_of : (N → Tag) → Group → OpenNode N → Bool
  is_of tag group x = is_of_group group (tag x.name)
