-- A tree as rows of numbers, as the words of its nodes, and as rows of where they came from.
use Rattle.std.specs.Prelude.{if◌then◌else◌, ℕ, List, [], ◌∷◌, ◌++◌, flat_map, map, slice_get, Option, None, Some}
use Rattle.std.specs.Option.{option_map_or}
use Rattle.hnodes.specs.Forest.{Attribute, What, document, doctype, element, comment, text, Forest, none, tree}
use Rattle.hnodes.specs.Passed.{order}
use Rattle.hnodes.specs.Mapped.{mapped_what}
use Rattle.hnodes.specs.Spots.{first_or, parent_of, first_child_of, kind_in, node_kind, next_of}
use Rattle.hnodes.specs.declared.node.NodeKind.{NodeKind}
use Rattle.hnodes.specs.declared.node.NodeKind.TheVariants as kind
use Rattle.hparse.specs.Origins.{implied}
use Rattle.hparse.specs.declared.origins.Origin.{Origin}
use Rattle.html_c.specs.declared.answer.NodeRow.{NodeRow}
use Rattle.html_c.specs.declared.answer.OriginRow.{OriginRow}

-- a word with what ends it
abbrev pub ended_word : List ℕ → List ℕ
ended_word word = word ++ 255 ∷ []

-- an attribute: its name and its value
abbrev pub ended_attribute : Attribute (List ℕ) → List ℕ
ended_attribute a = ended_word a.0 ++ ended_word a.1

-- a node: the name of an element and its attributes, the name and the identifiers of a doctype, the data of a comment, the characters of a text
abbrev pub words_in : What (List ℕ) → List ℕ
words_in document = []
words_in (doctype name public_id system_id) = ended_word name ++ (ended_word public_id ++ ended_word system_id)
words_in (element name attrs) = ended_word name ++ flat_map ended_attribute attrs
words_in (comment t) = ended_word t
words_in (text t) = ended_word t

-- the same with what ends them
abbrev pub node_words : What (List ℕ) → List ℕ
node_words w = words_in w ++ 254 ∷ []

abbrev pub words_at : (ℕ → List ℕ) → Option (What ℕ) → List ℕ
words_at texts None = []
words_at texts (Some w) = words_in (mapped_what texts w)

abbrev pub node_words_at : (ℕ → List ℕ) → Option (What ℕ) → List ℕ
node_words_at texts w = words_at texts w ++ 254 ∷ []

abbrev pub kind_number : NodeKind → ℕ
kind_number kind.Document = 0
kind_number kind.Doctype = 1
kind_number kind.Element = 2
kind_number kind.Comment = 3
kind_number kind.Text = 4

-- a link to a node, or to none
abbrev pub link_to : Option ℕ → ℕ
link_to None = 4294967295
link_to (Some n) = n

-- the row of a node where it is
abbrev pub row_at : {N : Type 0} → ℕ → Forest N → NodeRow
row_at n f = record {
  number = n;
  kind = option_map_or kind_number (node_kind n f) 0;
  parent = link_to (parent_of n f);
  first_child = link_to (first_child_of n f);
  next = link_to (next_of n f);
}

abbrev pub tree_row : {N : Type 0} → ℕ → Option ℕ → What N → (children rest : Forest N) → NodeRow
tree_row n parent w children rest = record {
  number = n;
  kind = kind_number (kind_in w);
  parent = link_to parent;
  first_child = link_to (first_or children None);
  next = link_to (first_or rest None);
}

-- the rows and the words of trees below a node, in tree order
abbrev pub rows_of : {N : Type 0} → (parent : ℕ) → Forest N → List NodeRow
rows_of parent none = []
rows_of parent (tree n w children rest) = tree_row n (Some parent) w children rest ∷ (rows_of n children ++ rows_of parent rest)

abbrev pub words_of : Forest (List ℕ) → List ℕ
words_of none = []
words_of (tree n w children rest) = node_words w ++ (words_of children ++ words_of rest)

-- how a node came to be: the byte, whether the token there is its own, and the element that it was made again of
abbrev pub origin_row : Origin → OriginRow
origin_row origin = record { at = origin.at; in_source = if origin.in_source then 1 else 0; again_of = link_to origin.again_of }

-- the row of a node by a list of how the nodes came to be, which has each at its number (no node is past it)
abbrev pub origin_at : List Origin → ℕ → OriginRow
origin_at list n = option_map_or origin_row (slice_get list n) (origin_row (implied 0))

-- those of trees, in tree order
abbrev pub origins_of : {N : Type 0} → List Origin → Forest N → List OriginRow
origins_of list f = map (origin_at list) (order f)
