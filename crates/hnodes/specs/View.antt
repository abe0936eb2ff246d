-- The nodes that a vector stands for.
use Rattle.std.specs.Prelude.{◌≡◌, ℕ, ◌<◌, ◌≤◌, List, Option, Some, None, IfSome, length}
use Rattle.hnodes.specs.Forest.{Forest, document}
use Rattle.hnodes.specs.Edits.{AreNodes, Nodes}
use Rattle.hnodes.specs.Links.{RowsStandIn, standing, whole}
use Rattle.hnodes.specs.Rows.{content_is, look_in, AreKept, IsKept}
use Rattle.hnodes.specs.Spots.{first_child_of, last_child_of, next_of, parent_of, previous_of, what_of}
use Rattle.hnodes.specs.declared.node.Node.{Node}
use Rattle.hnodes.specs.declared.store.Store.{Store}
use Rattle.hnodes.specs.declared.tree.Tree.TheInside.{Inside}

abbrev pub nodes_in : Store → List Node → (limit : ℕ) → Nodes ℕ
nodes_in s xs limit = record { limit = limit; made = length xs; trees = whole (length xs) (look_in s xs) }

abbrev pub inside_nodes : Inside → Nodes ℕ
inside_nodes t = nodes_in t.store t.nodes.items t.limit

-- the store has what the nodes keep there, a forest is there, the first node is the document, and there are no more nodes than may be
pub record AreTree (s : Store) (xs : List Node) (limit : ℕ) : Type 0 where
  pub kept : AreKept s xs
  pub forest : (f : Forest ℕ) × RowsStandIn (length xs) (look_in s xs) f
  pub begun : standing (look_in s xs 0) ≡ Some (document, None)
  pub fits : length xs ≤ limit

abbrev pub IsTree : Inside → Type 0
IsTree t = AreTree t.store t.nodes.items t.limit

-- a link is to a node that was made, and is what is asked of the nodes
pub record IsLink (made : ℕ) (link asked : Option ℕ) : Type 0 where
  pub is : link ≡ asked
  pub within : IfSome link (λ n. n < made)

-- node n of these nodes is this one, which keeps what it holds in the store
pub record HasNode (n : ℕ) (s : Store) (x : Node) (t : Nodes ℕ) : Type 0 where
  pub nodes : AreNodes t
  pub kept : IsKept s x.content
  pub what : Some (content_is s x.content) ≡ what_of n t.trees
  pub parent : IsLink t.made x.parent (parent_of n t.trees)
  pub first : IsLink t.made x.first (first_child_of n t.trees)
  pub last : IsLink t.made x.last (last_child_of n t.trees)
  pub previous : IsLink t.made x.previous (previous_of n t.trees)
  pub next : IsLink t.made x.next (next_of n t.trees)
