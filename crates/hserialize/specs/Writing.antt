-- What a visit of a walk writes. Names are numbers, and texts are theirs.
use Rattle.std.specs.Prelude.{ℕ, Bool, false, eqb, List, [], ◌++◌, Option, Some, None, codes, map, option_and_then, if◌then◌else◌}
use Rattle.std.specs.Option.{option_map, option_map_or}
use Rattle.names.specs.Names.{text_of}
use Rattle.names.specs.Sets.{is_void, raw_kind}
use Rattle.names.specs.Tags.{tag_of}
use Rattle.hnodes.specs.Forest.{What, document, doctype, element, comment, text, Forest, children_of, tree_at}
use Rattle.hnodes.specs.Mapped.{mapped, mapped_attribute}
use Rattle.hnodes.specs.Spots.{parent_of, node_name, what_of}
use Rattle.hserialize.specs.Escaping.{escaped}
use Rattle.hserialize.specs.Written.{has_no_references, start_tag_text, end_tag_text, written, written_among}
use Rattle.hserialize.specs.declared.escaping.Escaping.{Escaping}
use Rattle.hserialize.specs.declared.escaping.Setting.TheVariants.{Text}
use Rattle.hserialize.specs.declared.serializer.Listing.{Listing}
use Rattle.hserialize.specs.declared.walk.Visit.{Visit}
use Rattle.hserialize.specs.declared.walk.Visit.TheVariants.{Enter, Leave}

-- whether the texts in an element of this name, or in no element, are written as they are
abbrev pub holds_raw : Option ℕ → Bool
holds_raw None = false
holds_raw (Some name) = has_no_references (raw_kind (tag_of name))

-- the name of what a node is in
abbrev pub name_around : ℕ → Forest ℕ → Option ℕ
name_around n f = option_and_then (λ p. node_name p f) (parent_of n f)

-- where the children of node root are written as a list of their own, whose texts are written as they are or not, and in the nodes
-- inside each by its name: the same in a node, and next to one
module _ (root : ℕ) (raw : Bool) where
  abbrev pub raw_in : ℕ → Forest ℕ → Bool
  raw_in n f = if eqb n root then raw else holds_raw (node_name n f)

  abbrev pub stands_raw : ℕ → Forest ℕ → Bool
  stands_raw n f = option_map_or (λ p. raw_in p f) (parent_of n f) false

module _ (texts : ℕ → List ℕ) where
  -- where a node ends
  abbrev pub closing_tag : What ℕ → List ℕ
  closing_tag (element name attrs) = if is_void (tag_of name) then [] else end_tag_text (texts name)
  closing_tag _ = []

  abbrev pub closing_of : Option (What ℕ) → List ℕ
  closing_of None = []
  closing_of (Some w) = closing_tag w

module _ (escaping : Escaping) (texts : ℕ → List ℕ) where
  -- and where it begins
  abbrev pub opening : (raw : Bool) → What ℕ → List ℕ
  opening raw document = []
  opening raw (doctype name public_id system_id) = codes "<!DOCTYPE " ++ name ++ codes ">"
  opening raw (element name attrs) = start_tag_text escaping (texts name) (map (mapped_attribute texts) attrs)
  opening raw (comment t) = codes "<!--" ++ t ++ codes "-->"
  opening raw (text t) = if raw then t else escaped escaping Text t

  abbrev pub opening_of : (raw : Bool) → Option (What ℕ) → List ℕ
  opening_of raw None = []
  opening_of raw (Some w) = opening raw w

  abbrev pub visit_text : (root : ℕ) (raw : Bool) → Forest ℕ → Visit → List ℕ
  visit_text root raw f (Enter n) = opening_of (stands_raw root raw n f) (what_of n f)
  visit_text root raw f (Leave n) = closing_of texts (what_of n f)

-- where a node begins in a list that is written, and where it ends
abbrev pub opening_in : Listing → ℕ → List ℕ
opening_in l n = opening_of l.escaping (text_of l.names.now) (stands_raw l.root l.raw n l.tree.now.trees) (what_of n l.tree.now.trees)

abbrev pub closing_in : Listing → ℕ → List ℕ
closing_in l n = closing_of (text_of l.names.now) (what_of n l.tree.now.trees)

-- the list, and the node that it is in with its own tags
abbrev pub listed : Listing → List ℕ
listed l = written_among l.escaping l.raw (mapped (text_of l.names.now) (children_of l.root l.tree.now.trees))

abbrev pub outer_text : Listing → List ℕ
outer_text l =
    written l.escaping (option_map (text_of l.names.now) (name_around l.root l.tree.now.trees)) (mapped (text_of l.names.now) (tree_at l.root l.tree.now.trees))
