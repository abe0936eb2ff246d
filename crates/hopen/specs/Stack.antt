-- The stack of open elements (#the-stack-of-open-elements) as a list, the current node first: a node that the Standard calls above another is after
-- it. Names are of any kind: texts in the rules of HTML, and numbers in the code.
use Rattle.std.specs.Prelude.{ℕ, Bool, false, not, ◌&&◌, ◌||◌, ◌==◌, List, [], ◌∷◌, Option, Some, None, if◌then◌else◌}
use Rattle.std.specs.List.{list_any}
use Rattle.std.specs.Option.{option_or}
use Rattle.hnodes.specs.Nearest.{before, after}
use Rattle.names.specs.declared.tag.Tag.{Tag}
use Rattle.names.specs.Sets.{is_special}

-- an open node: its number and its name
pub record OpenNode (N : Type 0) : Type 0 where
  pub node : ℕ
  pub name : N

-- the open nodes, and how many there may be
pub record OpenNodes (N : Type 0) : Type 0 where
  pub limit : ℕ
  pub stack : List (OpenNode N)

module _ {N : Type 0} where
  -- whether it is this node
  abbrev pub is_node : ℕ → OpenNode N → Bool
  is_node n x = x.node == n

  -- whether a node is open
  abbrev pub is_open : ℕ → List (OpenNode N) → Bool
  is_open n stack = list_any (is_node n) stack

  -- the current node
  abbrev pub current : List (OpenNode N) → Option (OpenNode N)
  current [] = None
  current (x ∷ up) = Some x

  -- the open nodes above a node, the nearest first: what is left when nodes are popped up to and with that one
  abbrev pub above : ℕ → List (OpenNode N) → List (OpenNode N)
  above n stack = after (is_node n) stack

  -- the open nodes below a node, the current one first
  abbrev pub below : ℕ → List (OpenNode N) → List (OpenNode N)
  below n stack = before (is_node n) stack

  -- Whether an element is in a scope (#has-an-element-in-the-specific-scope): going up from the current node, one that is sought comes
  -- before any stop that is not sought.
  abbrev pub in_scope : (stops sought : OpenNode N → Bool) → List (OpenNode N) → Bool
  in_scope stops sought [] = false
  in_scope stops sought (x ∷ up) = sought x || (not (stops x) && in_scope stops sought up)

  -- the topmost of the nodes that are special
  abbrev pub topmost_special : (N → Tag) → List (OpenNode N) → Option (OpenNode N)
  topmost_special tag [] = None
  topmost_special tag (x ∷ up) = option_or (topmost_special tag up) (if is_special (tag x.name) then Some x else None)

  -- the furthest block of a formatting element: the topmost special node below it (#parsing-main-inbody)
  abbrev pub furthest_block : (N → Tag) → ℕ → List (OpenNode N) → Option (OpenNode N)
  furthest_block tag n stack = topmost_special tag (below n stack)
