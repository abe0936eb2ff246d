use Rattle.hserialize.proofs.Names.{◌≡◌, ℕ, ◌<◌, List, length, mapped, IfSome, roots, past_leaves, trees_from}
use Rattle.hserialize.proofs.plain_document.past_leaves.Given as goal

abbrev pub invariant-loop-next : goal.invariant-loop-next
invariant-loop-next l = record {
  within : IfSome l.next (λ n. n < l.tree.made);
  same : (spelling : ℕ → List ℕ)
      → past_leaves l.allowed (mapped spelling (trees_from l.fn.from l.tree.trees)) ≡ past_leaves l.allowed (mapped spelling (trees_from l.next l.tree.trees));
}

abbrev pub decreases-loop-next : goal.decreases-loop-next
decreases-loop-next l = length (roots (trees_from l.next l.tree.trees))
