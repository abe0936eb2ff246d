use Rattle.hserialize.proofs.Names.{◌∙◌, ◌∷◌, ap, arith, Enter}
use Rattle.hserialize.proofs.Output.{passed_on}
use Rattle.hserialize.proofs.Printed.{begun_putting, put_more, put_failed}
use Rattle.hserialize.proofs.lines.put_nodes.Goals as goal

pub loop-visit-init : goal.loop-visit-init
loop-visit-init g c = record {
  putting = begun_putting c.args.names.now c.args.tree.now.made c.args.tree.now.trees c.args.root _ _ _ c.new-visit-items.ensures.nodes.counted c.requires.made
      c.into_iter-visit-iterator.ensures.into_iter_gives c.new-visit-items.ensures.visits c.new-visit-items.ensures.few;
  room = omega arith;
}

pub loop-visit-preserved-in-Enter : goal.loop-visit-preserved-in-Enter
loop-visit-preserved-in-Enter g c = record {
  putting = put_more c.args.names.now c.args.tree.now.trees c.args.root c.loop-visit.depth _ _ (Enter c.in-Enter.node) c.loop-visit.visit-iterator _
      (c.in-Some.ensures.steps ∙ ap (λ v. v ∷ c.next.new.self) c.in-Enter.is) c.loop-visit.invariant.putting _ _ (omega arith)
      c.in_ok-put_node-in-Enter.ensures.text;
  room = let before = c.loop-visit.invariant.room in let after = c.in_ok-put_node-in-Enter.ensures.room in omega (arith, before, after);
}

pub returns-in_err-put_node-in-Enter : goal.returns-in_err-put_node-in-Enter
returns-in_err-put_node-in-Enter g c = passed_on _ _ _ _ c.from_residual.ensures.1
    (put_failed c.args.names.now c.args.tree.now.trees c.args.root c.loop-visit.depth _ _ (Enter c.in-Enter.node) c.loop-visit.visit-iterator _
    (c.in-Some.ensures.steps ∙ ap (λ v. v ∷ c.next.new.self) c.in-Enter.is) c.loop-visit.invariant.putting _ c.in_err-put_node-in-Enter.ensures.text)

pub loop-visit-preserved : goal.loop-visit-preserved
loop-visit-preserved g c = grind arith
