-- What this crate promises of its pages, in words of its own over those of `hnodes`.
use Rattle.std.specs.Prelude.{ℕ, ◌≢◌, ◌+◌, [], length}
use Rattle.names.specs.Tags.{tag_of, number_of}
use Rattle.names.specs.declared.tag.Tag.{Tag}
use Rattle.names.specs.declared.tag.Tag.TheVariants as tag
use Rattle.hnodes.specs.Edits.{Nodes, graft_last, make}
use Rattle.hnodes.specs.Elements.{elements_among}
use Rattle.hnodes.specs.Forest.{What, element, Forest, none, tree, children_of}
use Rattle.hnodes.specs.Passed.{order}

-- a node that is no script
abbrev pub IsNoScript : What ℕ → Type 0
IsNoScript (element name attributes) = tag_of name ≢ tag.Script
IsNoScript other = Unit {0}

-- no node of a forest is one
abbrev pub HasNoScript : Forest ℕ → Type 0
HasNoScript none = Unit {0}
HasNoScript (tree number what children rest) = IsNoScript what × (HasNoScript children × HasNoScript rest)

-- a page with an element of this name more, without attributes, at the end of a node
abbrev pub with_element : Tag → ℕ → Nodes ℕ → Nodes ℕ
with_element name parent page =
    record page { made = page.made + 1; trees = graft_last page.made parent (make (element (number_of name) []) page).trees }

-- how many elements are inside a node
abbrev pub elements_inside : ℕ → Forest ℕ → ℕ
elements_inside node f = length (elements_among (order (children_of node f)) f)
