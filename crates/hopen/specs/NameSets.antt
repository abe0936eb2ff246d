-- Sets of known names.
use Rattle.std.specs.Prelude.{ℕ, Bool}
use Rattle.hopen.specs.Stack.{OpenNode}
use Rattle.hopen.specs.Scopes.{stops_in, stops_item, is_of_group}
use Rattle.hopen.specs.declared.name_sets.NameSet.{NameSet}
use Rattle.hopen.specs.declared.name_sets.NameSet.TheVariants as name_set
use Rattle.hopen.specs.declared.name_sets.SetNodes.{SetNodes}
use Rattle.hopen.specs.declared.scope.Scope.TheVariants as scope
use Rattle.hopen.specs.declared.scope.Group.TheVariants as group
use Rattle.names.specs.declared.tag.Tag.{Tag}
use Rattle.names.specs.Sets.{is_special}
use Rattle.names.specs.Tags.{tag_of}

-- whether a name is in a set
abbrev pub is_in_set : NameSet → Tag → Bool
is_in_set (name_set.Stops scope) t = stops_in scope t
is_in_set name_set.Special t = is_special t
is_in_set name_set.StopsItem t = stops_item t
is_in_set (name_set.Group group) t = is_of_group group t

-- whether the name with a number is in a set
abbrev pub holds : NameSet → ℕ → Bool
holds set n = is_in_set set (tag_of n)

-- whether the name of an open node is in a set
abbrev pub is_in : NameSet → OpenNode ℕ → Bool
is_in set x = holds set x.name

-- the node that is kept for a set
abbrev pub set_node : NameSet → SetNodes → ℕ
set_node (name_set.Stops scope.Default) p = p.scope
set_node (name_set.Stops scope.ListItem) p = p.list_item_scope
set_node (name_set.Stops scope.Button) p = p.button_scope
set_node (name_set.Stops scope.Table) p = p.table_scope
set_node name_set.Special p = p.special
set_node name_set.StopsItem p = p.item_stop
set_node (name_set.Group group.Heading) p = p.heading
set_node (name_set.Group group.TableSection) p = p.table_section
set_node (name_set.Group group.Cell) p = p.cell
set_node (name_set.Group group.TellsMode) p = p.tells_mode
