use Rattle.hnodes.proofs.Names.{All-cons, All-nil, nat_tests, ◌≡◌, ℕ, ltb, cond, refl, arith, tree, none, document, times, [], IsKept, Document}
use Rattle.hnodes.proofs.tree.Tree.new.Goals as goal

once_alone : (n : ℕ) → times {N = ℕ} n (tree 0 document none none) ≡ cond (ltb n 1) 1 0
once_alone n = grind (arith, nat_tests)

pub invariant_of-result : goal.invariant_of-result
invariant_of-result c = rw (c.in_ok-push.ensures.items, c.new-nodes.ensures.items, c.loose.ensures) (record {
  kept = All-cons (IsKept c.new.result) Document [] tt (All-nil (IsKept c.new.result));
  forest = (tree 0 document none none, record { rows = (refl, tt, tt); loose_ones = refl; all = refl; once = once_alone });
  begun = refl;
  fits = omega (arith, c.requires);
})
