use Rattle.hnodes.proofs.Names.{◌≡◌, subst, rules, names_of, IsPermutation, ltb, always_returns_same, IsNonDecreasingBy-from_sort, arith, common_steps}
use Rattle.hnodes.proofs.Indexed.{differ-is, rising}
use Rattle.hnodes.proofs.attributes.differ.Goals as goal

pub returns : goal.returns
returns c = let sorted = c.sort_unstable.new.self.items in let all : c.loop-name.names.items ≡ names_of c.args.attrs = search rules in
    differ-is c.args.attrs sorted c.is_sorted_by.result (subst (λ xs. IsPermutation xs sorted) all c.sort_unstable.ensures.permutation)
    (IsNonDecreasingBy-from_sort (λ n. n) sorted c.sort_unstable.ensures.sorted) (rw (← c.deref.ensures.value)
    (rising c.deref.result.now c.is_sorted_by.result (c.is_sorted_by.ensures.cases ltb (always_returns_same _ _ _ (λ a r q k. search rules)))))

pub loop-name-preserved : goal.loop-name-preserved
loop-name-preserved c = grind (arith, common_steps)
