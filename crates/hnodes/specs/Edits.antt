-- The edits of a forest. A node never loses its number, and numbers count the nodes that were made.
use Rattle.std.specs.Prelude.{◌≡◌, ℕ, ◌+◌, ◌<◌, ◌≤◌, ltb, if◌then◌else◌, List, [], ◌∷◌, ◌++◌, Option, Some, None, option_and_then, IsSome}
use Rattle.std.specs.Char.{encode_utf8}
use Rattle.hnodes.specs.Forest.{Attribute, What, document, element, text, Forest, none, tree, times, join, tree_at, cut, children_of, change_children}
use Rattle.hnodes.specs.Forest.{change_what, put_before}
use Rattle.hnodes.specs.Spots.{parent_of, last_child_of, previous_of, what_of}
use Rattle.hnodes.specs.declared.node.Place.{Place}
use Rattle.hnodes.specs.declared.node.Place.TheVariants.{LastIn, Before}

-- the nodes of a parse: how many there may be, how many were made, the document's tree and then the loose ones by their numbers
pub record Nodes (N : Type 0) : Type 0 where
  pub limit : ℕ
  pub made : ℕ
  pub trees : Forest N

-- the node that names a place
abbrev pub place_node : Place → ℕ
place_node (LastIn p) = p
place_node (Before s) = s

-- nodes that are counted: each number below the count is there once, and no other; the document's tree comes first
pub record AreCounted {N : Type 0} (made : ℕ) (f : Forest N) : Type 0 where
  pub once : (n : ℕ) → times n f ≡ (if ltb n made then 1 else 0)
  pub begins : (kids : Forest N) × (rest : Forest N) × (f ≡ tree 0 document kids rest)

-- what the nodes of a tree always are
pub record AreNodes {N : Type 0} (t : Nodes N) : Type 0 where
  pub counted : AreCounted t.made t.trees
  pub fits : t.made ≤ t.limit

module _ {N : Type 0} where
  -- node n, cut from where it is, becomes the last child of p
  abbrev pub graft_last : (n p : ℕ) → Forest N → Forest N
  graft_last n p f = change_children p (λ kids. join kids (tree_at n f)) (cut n f)

  -- node n, cut from where it is, comes right before node s
  abbrev pub graft_before : (n s : ℕ) → Forest N → Forest N
  graft_before n s f = put_before s (tree_at n f) (cut n f)

  -- the same at a place
  abbrev pub graft : ℕ → Place → Forest N → Forest N
  graft n (LastIn p) f = graft_last n p f
  graft n (Before s) f = graft_before n s f

  -- the children of m become the last children of p, in their order
  abbrev pub move_all : (m p : ℕ) → Forest N → Forest N
  move_all m p f =
      change_children p (λ kids. join kids (children_of m f)) (change_children m (λ _. none) f)

  -- an element gets one attribute more
  abbrev pub with_attribute : Attribute N → What N → What N
  with_attribute a (element n attrs) = element n (attrs ++ a ∷ [])
  with_attribute a w = w

  abbrev pub add_attribute : ℕ → Attribute N → Forest N → Forest N
  add_attribute n a = change_what n (with_attribute a)

  -- a text goes on with these bytes
  abbrev pub with_text : List ℕ → What N → What N
  with_text more (text t) = text (t ++ more)
  with_text more w = w

  -- a text gets one character more
  abbrev pub with_char : ℕ → What N → What N
  with_char c = with_text (encode_utf8 c)

  -- the node right before a place
  abbrev pub before_place : Place → Forest N → Option ℕ
  before_place (LastIn p) f = last_child_of p f
  before_place (Before s) f = previous_of s f

  -- a node where it is a text
  abbrev pub if_text : ℕ → Option (What N) → Option ℕ
  if_text n (Some (text t)) = Some n
  if_text n w = None

  -- the text right before a place
  abbrev pub text_before : Place → Forest N → Option ℕ
  text_before place f = option_and_then (λ n. if_text n (what_of n f)) (before_place place f)

  -- a place below a node that was made
  abbrev pub IsPlace : Place → Nodes N → Type 0
  IsPlace (LastIn p) t = p < t.made
  IsPlace (Before s) t = (s < t.made) × IsSome (parent_of s t.trees)

  -- a new node, loose
  abbrev pub make : What N → Nodes N → Nodes N
  make w t = record t { made = t.made + 1; trees = join t.trees (tree t.made w none none) }

  -- Insert a character (#creating-and-inserting-nodes): where a text is right before the place, it gets the character; else a new text is made
  -- of it and is put at the place.
  abbrev pub char_into : ℕ → Place → Option ℕ → Nodes N → Nodes N
  char_into c place (Some n) t = record t { trees = change_what n (with_char c) t.trees }
  char_into c place None t =
      record t { made = t.made + 1; trees = graft t.made place (join t.trees (tree t.made (text (encode_utf8 c)) none none)) }

  abbrev pub add_char : ℕ → Place → Nodes N → Nodes N
  add_char c place t = char_into c place (text_before place t.trees) t

  -- characters, one after another at the same place
  abbrev pub add_chars : List ℕ → Place → Nodes N → Nodes N
  add_chars [] place t = t
  add_chars (c ∷ cs) place t = add_chars cs place (add_char c place t)
