-- What is in the root of a page, with the texts of its table of names.
use Rattle.std.specs.Prelude.{ℕ, List, Option}
use Rattle.std.specs.Option.{option_map}
use Rattle.names.specs.Names.{text_of}
use Rattle.hnodes.specs.Forest.{Forest, children_of}
use Rattle.hnodes.specs.Mapped.{mapped}
use Rattle.hnodes.specs.Spots.{node_name}
use Rattle.hparse.specs.declared.parsed.Parsed.{Parsed}

abbrev pub page_trees : Parsed → Forest (List ℕ)
page_trees page = mapped (text_of page.names) (children_of page.root page.tree.trees)

-- the name of the root, if it is an element
abbrev pub page_name : Parsed → Option (List ℕ)
page_name page = option_map (text_of page.names) (node_name page.root page.tree.trees)
