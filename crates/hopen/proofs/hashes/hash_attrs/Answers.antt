use Rattle.hopen.proofs.Names.{eqb, map, ◌∙◌, ap, take_all, attribute_of, distinct, hash_of, dedup_is, arith, common_steps}
use Rattle.hopen.proofs.ByHash.{sorted-distinct}
use Rattle.hopen.proofs.hashes.hash_attrs.Goals as goal

pub returns : goal.returns
returns c = dedup_is eqb c.sort_unstable.new.self.items c.dedup.new.self.items c.dedup.ensures.filtered
    ∙ sorted-distinct c.loop-attr.hashes.items c.sort_unstable.new.self.items c.sort_unstable.ensures.permutation c.sort_unstable.ensures.sorted
    ∙ ap distinct c.loop-attr.invariant
    ∙ ap (λ xs. distinct (map (hash_of c.args.keys) (map attribute_of xs))) (take_all c.loop-attr.attr-index c.args.attrs.now c.loop-attr-test.false)

pub loop-attr-preserved : goal.loop-attr-preserved
loop-attr-preserved c = grind (arith, common_steps)
