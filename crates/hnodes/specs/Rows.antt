-- What a vector of nodes says of each number, over the store of its texts and attributes.
use Rattle.std.specs.Prelude.{◌≡◌, ℕ, suc, zero, ◌<◌, List, [], ◌∷◌, Option, Some, None, map, string_bytes}
use Rattle.std.specs.List.{All}
use Rattle.std.specs.Rc.{rc_value}
use Rattle.hnodes.specs.Forest.{What, document, doctype, element, comment, text, Attribute}
use Rattle.hnodes.specs.Links.{Row, Look, at_row}
use Rattle.hnodes.specs.Store.{attributes_in_run, run_in, AreStored, IsText}
use Rattle.names.specs.declared.attr.Attr.{Attr}
use Rattle.hnodes.specs.declared.node.DocumentType.{DocumentType as DoctypeOf}
use Rattle.hnodes.specs.declared.node.Given.{Given}
use Rattle.hnodes.specs.declared.node.Given.TheVariants as given
use Rattle.hnodes.specs.declared.node.Node.{Node}
use Rattle.hnodes.specs.declared.node.NodeData.{NodeData}
use Rattle.hnodes.specs.declared.node.NodeData.TheVariants as content
use Rattle.hnodes.specs.declared.store.Store.{Store}

abbrev pub attribute_of : Attr → Attribute ℕ
attribute_of a = (a.name, a.value)

abbrev pub doctype_texts : DoctypeOf → List ℕ × List ℕ × List ℕ
doctype_texts d = (string_bytes d.name, string_bytes d.public_id, string_bytes d.system_id)

-- what a new node is to be
abbrev pub given_is : Given → What ℕ
given_is (given.Doctype d) = doctype (string_bytes d.name) (string_bytes d.public_id) (string_bytes d.system_id)
given_is (given.Element name attrs) = element name (map attribute_of attrs.now.items)
given_is (given.Sharing name attrs) = element name attrs
given_is (given.Copied name attrs) = element name attrs.now
given_is (given.Comment t) = comment (string_bytes t)
given_is (given.Text t) = text t.now

abbrev pub content_is : Store → NodeData → What ℕ
content_is s content.Document = document
content_is s (content.Doctype d) = doctype (string_bytes d.value.name) (string_bytes d.value.public_id) (string_bytes d.value.system_id)
content_is s (content.Element name r) = element name (attributes_in_run r s)
content_is s (content.Wide name attrs) = element name attrs.value
content_is s (content.Shared name list) = element name (rc_value list)
content_is s (content.Comment r) = comment (run_in r s.texts)
content_is s (content.LongComment t) = comment (string_bytes t.value)
content_is s (content.Text r) = text (run_in r s.texts)
content_is s (content.Long t) = text (string_bytes t.value)

-- a run of a node lies in the store; that of a text or a comment is a text
abbrev pub IsKept : Store → NodeData → Type 0
IsKept s (content.Element name r) = AreStored r s
IsKept s (content.Comment r) = IsText r s.texts
IsKept s (content.Text r) = IsText r s.texts
IsKept s c = Unit {0}

abbrev pub Holds : Store → NodeData → What ℕ → Type 0
Holds s c w = IsKept s c × (content_is s c ≡ w)

abbrev pub contents_of : List Node → List NodeData
contents_of xs = map (λ x. x.content) xs

abbrev pub AreKept : Store → List Node → Type 0
AreKept s xs = All (IsKept s) (contents_of xs)

abbrev pub row_of : Store → Node → Row ℕ
row_of s n = record { what = content_is s n.content; parent = n.parent; first = n.first; last = n.last; previous = n.previous; next = n.next }

-- what a vector says of a number
abbrev pub look_in : Store → List Node → ℕ → Option (Row ℕ)
look_in s [] n = None
look_in s (x ∷ xs) zero = Some (row_of s x)
look_in s (x ∷ xs) (suc n) = look_in s xs n

-- nodes hold what they held, and over every store all is seen as a change of what was seen
pub record IsSeenAs (g : Look ℕ → Look ℕ) (old new : List Node) : Type 0 where
  pub contents : contents_of new ≡ contents_of old
  pub rows : (s : Store) (n : ℕ) → look_in s new n ≡ g (look_in s old) n

-- the row of one node is changed, and nothing else
abbrev pub IsChanged : ℕ → (Row ℕ → Row ℕ) → (old new : List Node) → Type 0
IsChanged k f old new = IsSeenAs (at_row k f) old new

-- a link is to one of this many nodes, or there is none
abbrev pub IsWithin : ℕ → Option ℕ → Type 0
IsWithin count link = (k : ℕ) → link ≡ Some k → k < count

-- the parent and the siblings of a node are among this many
abbrev pub IsAmong : ℕ → Node → Type 0
IsAmong count x = IsWithin count x.parent × IsWithin count x.previous × IsWithin count x.next
