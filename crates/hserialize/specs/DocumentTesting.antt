-- What is tested of a plain document, node by node. Names are numbers, and texts are theirs.
use Rattle.std.specs.Prelude.{◌≡◌, ℕ, Bool, true, false, not, ◌&&◌, List, codes, bytes_eq, Option, Some, None, map, if◌then◌else◌}
use Rattle.std.specs.Option.{is_none}
use Rattle.names.specs.Tags.{tag_of}
use Rattle.hnodes.specs.Forest.{What, doctype, element, comment, text, Forest, none, tree, children_of}
use Rattle.hnodes.specs.Mapped.{mapped, mapped_attribute}
use Rattle.hnodes.specs.Spots.{Spot, spot_of, first_child_of, next_of, what_of}
use Rattle.hserialize.specs.ContentTable.{row, texts_in}
use Rattle.hserialize.specs.Plain.{are_plain_attributes, is_plain_comment, is_plain_text}
use Rattle.hserialize.specs.PlainDocument.{are_metadata, comments_then, doctype_then, element_then, ends_document, html_on, is_leaf, is_metadata}
use Rattle.hserialize.specs.Testing.{is_text_at}
use Rattle.hserialize.specs.Words.{is_empty_text}
use Rattle.hserialize.specs.declared.content.Texts.{Texts}
use Rattle.hserialize.specs.declared.content.Texts.TheVariants as texts

-- a node with what is inside it, and the siblings after it
abbrev pub tree_in : ℕ → Option (Spot ℕ) → Forest ℕ
tree_in n None = none
tree_in n (Some s) = tree n s.what s.children s.after

abbrev pub trees_from : Option ℕ → Forest ℕ → Forest ℕ
trees_from None f = none
trees_from (Some n) f = tree_in n (spot_of n f)

-- what comes after the comments and texts that a list begins with
abbrev pub past_leaves : Texts → Forest (List ℕ) → Forest (List ℕ)
past_leaves allowed none = none
past_leaves allowed (tree n w kids rest) = if is_leaf allowed w kids rest then past_leaves allowed rest else tree n w kids rest

-- comments and texts alone are between two siblings
abbrev pub ArePassed : Texts → (from to : Option ℕ) → Forest ℕ → Type 0
ArePassed allowed from to f = (spelling : ℕ → List ℕ) → past_leaves allowed (mapped spelling (trees_from from f)) ≡ mapped spelling (trees_from to f)

-- no doctype but a plain one is
abbrev pub IsDoctypePassed : (from to : Option ℕ) → Forest ℕ → Type 0
IsDoctypePassed from to f = (spelling : ℕ → List ℕ)
    → doctype_then (comments_then html_on) (mapped spelling (trees_from from f)) ≡ comments_then html_on (mapped spelling (trees_from to f))

abbrev pub is_plain_doctype_what : Option (What ℕ) → (childless : Bool) → Bool
is_plain_doctype_what (Some (doctype name public_id system_id)) childless =
    bytes_eq name (codes "html") && is_empty_text public_id && is_empty_text system_id && childless
is_plain_doctype_what _ childless = false

abbrev pub is_plain_doctype_at : ℕ → Forest ℕ → Bool
is_plain_doctype_at n f = is_plain_doctype_what (what_of n f) (is_none (first_child_of n f))

-- a comment, or a text before this sibling
abbrev pub is_leaf_what : Texts → Option (What ℕ) → (childless before_text : Bool) → Bool
is_leaf_what allowed (Some (comment t)) childless before_text = is_plain_comment t && childless
is_leaf_what allowed (Some (text t)) childless before_text = is_plain_text allowed t && childless && not before_text
is_leaf_what allowed _ childless before_text = false

abbrev pub is_leaf_at : Texts → ℕ → Forest ℕ → Bool
is_leaf_at allowed n f = is_leaf_what allowed (what_of n f) (is_none (first_child_of n f)) (is_text_at (next_of n f) f)

-- a text without siblings after it
abbrev pub is_last_text : Texts → Option (What ℕ) → (childless last : Bool) → Bool
is_last_text allowed (Some (text t)) childless last = is_plain_text allowed t && childless && last
is_last_text allowed _ childless last = false

-- one such text at most, from this node on
abbrev pub is_text_alone : Texts → Option ℕ → Forest ℕ → Bool
is_text_alone allowed None f = true
is_text_alone allowed (Some n) f = is_last_text allowed (what_of n f) (is_none (first_child_of n f)) (is_none (next_of n f))

module _ (spelling : ℕ → List ℕ) where
  abbrev pub is_metadata_what : ℕ → Forest ℕ → Option (What ℕ) → Bool
  is_metadata_what n f (Some (element name attrs)) =
      is_metadata (tag_of name) && are_plain_attributes (map (mapped_attribute spelling) attrs)
      && is_text_alone (texts_in (row (tag_of name)).1) (first_child_of n f) f
  is_metadata_what n f _ = is_leaf_at texts.WhiteSpace n f

  -- a child of head
  abbrev pub is_metadata_at : ℕ → Forest ℕ → Bool
  is_metadata_at n f = is_metadata_what n f (what_of n f)

  -- an element of this name with plain attributes
  abbrev pub is_named_what : List ℕ → Option (What ℕ) → Bool
  is_named_what x (Some (element name attrs)) = bytes_eq (spelling name) x && are_plain_attributes (map (mapped_attribute spelling) attrs)
  is_named_what x _ = false

  -- whether node n is such an element that comments alone follow
  abbrev pub IsLastAt : List ℕ → (n : ℕ) → Forest ℕ → Bool → Type 0
  IsLastAt x n f last = (children : Forest (List ℕ) → Bool)
      → element_then x children (comments_then ends_document) (mapped spelling (trees_from (Some n) f)) ≡ (last && children (mapped spelling (children_of n f)))

  -- whether it is the head of a plain document
  abbrev pub IsHeadAt : (n : ℕ) → Forest ℕ → Bool → Type 0
  IsHeadAt n f head = (next : Forest (List ℕ) → Bool)
      → element_then (codes "head") are_metadata next (mapped spelling (trees_from (Some n) f)) ≡ (head && next (mapped spelling (trees_from (next_of n f) f)))
