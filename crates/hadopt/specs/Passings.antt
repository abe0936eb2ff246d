-- What is popped up to the first open node that does not pass.
use Rattle.std.specs.Prelude.{ℕ, Bool, false, not, ◌&&◌, Option, Some, None, nat_eq}
use Rattle.hopen.specs.Stack.{OpenNode}
use Rattle.hopen.specs.Scopes.{is_named}
use Rattle.names.specs.Sets.{has_implied_end}
use Rattle.names.specs.Tags.{tag_of}
use Rattle.hadopt.specs.declared.popping.Passing.{Passing}
use Rattle.hadopt.specs.declared.popping.Passing.TheVariants as passing
use Rattle.hadopt.specs.Closes.{is_table_context, is_body_context, is_row_context}

-- whether a node has the name that is kept, if one is
abbrev pub is_excepted : Option ℕ → OpenNode ℕ → Bool
is_excepted None x = false
is_excepted (Some name) x = is_named nat_eq name x

-- whether a node is popped
abbrev pub passes : Passing → OpenNode ℕ → Bool
passes (passing.Implied kept) x = has_implied_end (tag_of x.name) && not (is_excepted kept x)
passes passing.Table x = not (is_table_context (tag_of x.name))
passes passing.Body x = not (is_body_context (tag_of x.name))
passes passing.Row x = not (is_row_context (tag_of x.name))
