use Rattle.hserialize.proofs.Names.{◌≡◌, ◌∙◌, ◌++◌, [], ap, append-nil, in_order, map, mapped_attribute, pair_of, rules, sym, text_of, arith, common_steps}
use Rattle.hserialize.proofs.Ordered.{ordered}
use Rattle.hserialize.proofs.sorted.in_order.Goals as goal

pub returns-clause-pairs : goal.returns-clause-pairs
returns-clause-pairs c = let none : c.loop-name.name-iterator ≡ [] = search rules in let here = c.loop-name.invariant.2 in
    ordered _ _ here.numbered c.sort_unstable.ensures.permutation c.sort_unstable.ensures.sorted ∙ ap in_order
    (sym (append-nil _) ∙ ap (λ l. map pair_of c.loop-name.entries.items ++ map (mapped_attribute (text_of c.args.names.now)) l) (sym none) ∙ here.same)

pub loop-name-preserved : goal.loop-name-preserved
loop-name-preserved c = grind (arith, common_steps)
