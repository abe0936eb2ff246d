use Rattle.hserialize.proofs.Names.{ℕ, ◌<◌, ◌≤◌, what_of, attribute_count}
use Rattle.hserialize.proofs.lines.most_attributes.Given as goal

-- no node so far has more
abbrev pub invariant-loop-index : goal.invariant-loop-index
invariant-loop-index l = (n : ℕ) → n < l.index → attribute_count (what_of n l.tree.trees) ≤ l.most
