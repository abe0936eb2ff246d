-- Forests: the tree of a document, and the trees that are loose. Names are of any kind: texts in the rules of HTML, and numbers
-- in a vector of nodes.
use Rattle.std.specs.Prelude.{◌≡◌, ℕ, ◌+◌, eqb, List, [], ◌∷◌, if◌then◌else◌}

-- an attribute: its name and its value
abbrev pub Attribute : Type 0 → Type 0
Attribute N = N × List ℕ

-- what a node is; a doctype has its name, its public and its system identifier, and each text is its bytes in UTF-8
pub data What (N : Type 0) : Type 0 where
  document : What N
  doctype : (name public_id system_id : List ℕ) → What N
  element : N → List (Attribute N) → What N
  comment : List ℕ → What N
  text : List ℕ → What N

-- no tree, or a tree and those that follow it: the number of its root, what that is, and its subtrees
pub data Forest (N : Type 0) : Type 0 where
  none : Forest N
  tree : (number : ℕ) → What N → (children rest : Forest N) → Forest N

module _ {N : Type 0} where
  -- the numbers of the roots
  abbrev pub roots : Forest N → List ℕ
  roots none = []
  roots (tree b w kids rest) = b ∷ roots rest

  -- how many nodes there are
  abbrev pub size : Forest N → ℕ
  size none = 0
  size (tree b w kids rest) = 1 + (size kids + size rest)

  -- how many nodes are numbered n
  abbrev pub times : ℕ → Forest N → ℕ
  times n none = 0
  times n (tree b w kids rest) = (if eqb b n then 1 else 0) + (times n kids + times n rest)

  -- the trees of two forests, one after another
  abbrev pub join : Forest N → Forest N → Forest N
  join none g = g
  join (tree b w kids rest) g = tree b w kids (join rest g)

  -- the tree of node n, wherever it is
  abbrev pub tree_at : ℕ → Forest N → Forest N
  tree_at n none = none
  tree_at n (tree b w kids rest) =
      if eqb b n then tree b w kids none else join (tree_at n kids) (tree_at n rest)

  -- the children of node n
  abbrev pub children_of : ℕ → Forest N → Forest N
  children_of n none = none
  children_of n (tree b w kids rest) = if eqb b n then kids else join (children_of n kids) (children_of n rest)

  -- the forest without the tree of node n
  abbrev pub cut : ℕ → Forest N → Forest N
  cut n none = none
  cut n (tree b w kids rest) = if eqb b n then rest else tree b w (cut n kids) (cut n rest)

  -- the children of node n become f of them
  abbrev pub change_children : ℕ → (Forest N → Forest N) → Forest N → Forest N
  change_children n f none = none
  change_children n f (tree b w kids rest) =
      if eqb b n then tree b w (f kids) rest
      else tree b w (change_children n f kids) (change_children n f rest)

  -- what node n is becomes f of it
  abbrev pub change_what : ℕ → (What N → What N) → Forest N → Forest N
  change_what n f none = none
  change_what n f (tree b w kids rest) = tree b (if eqb b n then f w else w) (change_what n f kids) (change_what n f rest)

  -- these trees come right before node n
  abbrev pub put_before : ℕ → Forest N → Forest N → Forest N
  put_before n t none = none
  put_before n t (tree b w kids rest) =
      if eqb b n then join t (tree b w kids rest)
      else tree b w (put_before n t kids) (put_before n t rest)

  -- node n is neither node top nor inside it
  abbrev pub IsOutside : (n top : ℕ) → Forest N → Type 0
  IsOutside n top f = times n (tree_at top f) ≡ 0
