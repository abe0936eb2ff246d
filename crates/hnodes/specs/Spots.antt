-- Where a node is, and what can be asked of it.
use Rattle.std.specs.Prelude.{ℕ, Bool, eqb, List, [], ◌∷◌, Option, Some, None, if◌then◌else◌, option_and_then}
use Rattle.std.specs.Option.{option_map}
use Rattle.hnodes.specs.Forest.{Attribute, What, document, doctype, element, comment, text, Forest, none, tree}
use Rattle.hnodes.specs.declared.node.NodeKind.{NodeKind}
use Rattle.hnodes.specs.declared.node.NodeKind.TheVariants as kind

-- the place of a node: its parent, the sibling before it, what it is, its children, and the siblings after it
pub record Spot (N : Type 0) : Type 0 where
  pub parent : Option ℕ
  pub before : Option ℕ
  pub what : What N
  pub children : Forest N
  pub after : Forest N

-- the first of two answers
abbrev pub either_of : {A : Type 0} → Option A → Option A → Option A
either_of None y = y
either_of (Some a) y = Some a

module _ {N : Type 0} where
  -- the number of the first root; without trees, what comes after them
  abbrev pub first_or : Forest N → Option ℕ → Option ℕ
  first_or none after = after
  first_or (tree b w kids rest) after = Some b

  -- the number of the last root; without trees, what comes before them
  abbrev pub last_or : Option ℕ → Forest N → Option ℕ
  last_or before none = before
  last_or before (tree b w kids rest) = last_or (Some b) rest

  -- node n's place among siblings, below a parent and after one of them
  abbrev pub spot_below : ℕ → (parent before : Option ℕ) → Forest N → Option (Spot N)
  spot_below n p x none = None
  spot_below n p x (tree b w kids rest) =
      if eqb b n then Some (record { parent = p; before = x; what = w; children = kids; after = rest })
      else either_of (spot_below n (Some b) None kids) (spot_below n p (Some b) rest)

  -- node n's place; the root of a tree has no siblings
  abbrev pub spot_of : ℕ → Forest N → Option (Spot N)
  spot_of n none = None
  spot_of n (tree b w kids rest) = either_of (spot_below n None None (tree b w kids none)) (spot_of n rest)

  -- the nodes around node n
  abbrev pub parent_of : ℕ → Forest N → Option ℕ
  parent_of n f = option_and_then (λ s. s.parent) (spot_of n f)

  abbrev pub first_child_of : ℕ → Forest N → Option ℕ
  first_child_of n f = option_and_then (λ s. first_or s.children None) (spot_of n f)

  abbrev pub last_child_of : ℕ → Forest N → Option ℕ
  last_child_of n f = option_and_then (λ s. last_or None s.children) (spot_of n f)

  abbrev pub next_of : ℕ → Forest N → Option ℕ
  next_of n f = option_and_then (λ s. first_or s.after None) (spot_of n f)

  abbrev pub previous_of : ℕ → Forest N → Option ℕ
  previous_of n f = option_and_then (λ s. s.before) (spot_of n f)

  -- what node n is
  abbrev pub what_of : ℕ → Forest N → Option (What N)
  what_of n f = option_map (λ s. s.what) (spot_of n f)

  abbrev pub kind_in : What N → NodeKind
  kind_in document = kind.Document
  kind_in (doctype n p s) = kind.Doctype
  kind_in (element x attrs) = kind.Element
  kind_in (comment t) = kind.Comment
  kind_in (text t) = kind.Text

  abbrev pub name_in : What N → Option N
  name_in (element x attrs) = Some x
  name_in w = None

  abbrev pub attributes_in : What N → Option (List (Attribute N))
  attributes_in (element x attrs) = Some attrs
  attributes_in w = None

  -- the characters of a text, and the data of a comment
  abbrev pub text_in : What N → Option (List ℕ)
  text_in (text t) = Some t
  text_in (comment t) = Some t
  text_in w = None

  abbrev pub doctype_in : What N → Option (List ℕ × List ℕ × List ℕ)
  doctype_in (doctype n p s) = Some (n, p, s)
  doctype_in w = None

  abbrev pub node_kind : ℕ → Forest N → Option NodeKind
  node_kind n f = option_map kind_in (what_of n f)

  abbrev pub node_name : ℕ → Forest N → Option N
  node_name n f = option_and_then name_in (what_of n f)

  abbrev pub attributes_of : ℕ → Forest N → Option (List (Attribute N))
  attributes_of n f = option_and_then attributes_in (what_of n f)

  abbrev pub text_of_node : ℕ → Forest N → Option (List ℕ)
  text_of_node n f = option_and_then text_in (what_of n f)

  abbrev pub doctype_of : ℕ → Forest N → Option (List ℕ × List ℕ × List ℕ)
  doctype_of n f = option_and_then doctype_in (what_of n f)

  -- the value of an attribute whose name passes a test, the first where there are more
  abbrev pub value_in : (N → Bool) → List (Attribute N) → Option (List ℕ)
  value_in is [] = None
  value_in is (a ∷ attrs) = if is a.0 then Some a.1 else value_in is attrs

  abbrev pub value_of : (N → Bool) → ℕ → Forest N → Option (List ℕ)
  value_of is n f = option_and_then (value_in is) (attributes_of n f)
