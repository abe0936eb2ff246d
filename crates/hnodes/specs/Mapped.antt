-- The same forest under other names, as a number of a name and its text.
use Rattle.std.specs.Prelude.{◌≡◌, ℕ, map}
use Rattle.std.specs.Option.{option_map}
use Rattle.hnodes.specs.Forest.{Attribute, What, document, doctype, element, comment, text, Forest, none, tree}
use Rattle.hnodes.specs.Spots.{Spot, parent_of, first_child_of, last_child_of, next_of, previous_of, node_kind, node_name, attributes_of, text_of_node, doctype_of}
use Rattle.hnodes.specs.Edits.{Nodes, graft_last, graft_before, move_all, add_attribute, make, add_char}
use Rattle.hnodes.specs.declared.node.Place.{Place}

module _ {N M : Type 0} where
  abbrev pub mapped_attribute : (N → M) → Attribute N → Attribute M
  mapped_attribute g a = (g a.0, a.1)

  abbrev pub mapped_what : (N → M) → What N → What M
  mapped_what g document = document
  mapped_what g (doctype n p s) = doctype n p s
  mapped_what g (element x attrs) = element (g x) (map (mapped_attribute g) attrs)
  mapped_what g (comment t) = comment t
  mapped_what g (text t) = text t

  abbrev pub mapped : (N → M) → Forest N → Forest M
  mapped g none = none
  mapped g (tree b w kids rest) = tree b (mapped_what g w) (mapped g kids) (mapped g rest)

  abbrev pub mapped_nodes : (N → M) → Nodes N → Nodes M
  mapped_nodes g t = record { limit = t.limit; made = t.made; trees = mapped g t.trees }

  abbrev pub mapped_spot : (N → M) → Spot N → Spot M
  mapped_spot g s = record { parent = s.parent; before = s.before; what = mapped_what g s.what; children = mapped g s.children; after = mapped g s.after }

  -- To edit and then map the names is to map them and then edit.
  pub record EditsKnowNoNames (g : N → M) : Type 0 where
    pub make : (w : What N) (t : Nodes N) → mapped_nodes g (make w t) ≡ make (mapped_what g w) (mapped_nodes g t)
    pub append : (n p : ℕ) (f : Forest N) → mapped g (graft_last n p f) ≡ graft_last n p (mapped g f)
    pub insert_before : (n s : ℕ) (f : Forest N) → mapped g (graft_before n s f) ≡ graft_before n s (mapped g f)
    pub move_children : (m p : ℕ) (f : Forest N) → mapped g (move_all m p f) ≡ move_all m p (mapped g f)
    pub add_attr : (n : ℕ) (a : Attribute N) (f : Forest N) → mapped g (add_attribute n a f) ≡ add_attribute n (mapped_attribute g a) (mapped g f)
    pub put_char : (c : ℕ) (place : Place) (t : Nodes N) → mapped_nodes g (add_char c place t) ≡ add_char c place (mapped_nodes g t)

  -- What is asked after it was mapped is what was asked before, mapped.
  pub record QuestionsKnowNoNames (g : N → M) : Type 0 where
    pub parent : (n : ℕ) (f : Forest N) → parent_of n (mapped g f) ≡ parent_of n f
    pub first_child : (n : ℕ) (f : Forest N) → first_child_of n (mapped g f) ≡ first_child_of n f
    pub last_child : (n : ℕ) (f : Forest N) → last_child_of n (mapped g f) ≡ last_child_of n f
    pub next : (n : ℕ) (f : Forest N) → next_of n (mapped g f) ≡ next_of n f
    pub previous : (n : ℕ) (f : Forest N) → previous_of n (mapped g f) ≡ previous_of n f
    pub kind : (n : ℕ) (f : Forest N) → node_kind n (mapped g f) ≡ node_kind n f
    pub name : (n : ℕ) (f : Forest N) → node_name n (mapped g f) ≡ option_map g (node_name n f)
    pub attrs : (n : ℕ) (f : Forest N) → attributes_of n (mapped g f) ≡ option_map (map (mapped_attribute g)) (attributes_of n f)
    pub text : (n : ℕ) (f : Forest N) → text_of_node n (mapped g f) ≡ text_of_node n f
    pub doctype : (n : ℕ) (f : Forest N) → doctype_of n (mapped g f) ≡ doctype_of n f
