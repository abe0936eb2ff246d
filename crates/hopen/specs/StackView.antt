-- The open nodes that a vector stands for: its last one is the current node.
use Rattle.std.specs.Prelude.{ℕ, ◌≤◌, length}
use Rattle.hopen.specs.Stack.{OpenNodes}
use Rattle.hopen.specs.Kept.{stack_of, Rests}
use Rattle.hopen.specs.declared.stack.OpenStack.TheInside.{Inside}

abbrev pub open_nodes_of : Inside → OpenNodes ℕ
open_nodes_of s = record { limit = s.limit; stack = stack_of s.items.items }

-- no more nodes are open than may be, and what is kept of them is right
pub record IsStanding (s : Inside) : Type 0 where
  pub within : length (stack_of s.items.items) ≤ s.limit
  pub rests : Rests s.last s.items.items
