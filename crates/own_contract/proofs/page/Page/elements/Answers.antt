use Rattle.std.proofs.Common.{◌≡◌, ℕ, ◌<◌, true, false, length, sym, ◌∙◌, ap, subst, arith}
use Rattle.std.specs.Option.{is_some}
use Rattle.std.proofs.lemmas.List.Elements.{All-rest}
use Rattle.hnodes.specs.Edits.{Nodes}
use Rattle.hnodes.specs.Elements.{is_element}
use Rattle.own_contract.proofs.Counting.{one_more, none_more}
use Rattle.own_contract.proofs.page.Page.elements.Goals as goal

pub overflow_add-count : goal.overflow_add-count
overflow_add-count c = omega
    (arith, c.if-prove.false, c.made.ensures.number, ap (λ (t : Nodes ℕ). t.made) c.self.view_is, c.loop-node.invariant.few, ap length c.in-Some.ensures.steps)

pub loop-node-preserved-then-is_some : goal.loop-node-preserved-then-is_some
loop-node-preserved-then-is_some c = record {
  within =
      All-rest (λ n. n < c.args.self.now.made) c.in-Some.node c.next.new.self c.loop-node.node-iterator c.in-Some.ensures.steps c.loop-node.invariant.within;
  counted = one_more (is_element c.args.self.now.trees) c.in-Some.node c.next.new.self c.loop-node.node-iterator c.loop-node.count _ c.in-Some.ensures.steps
      c.loop-node.invariant.counted (subst (λ (t : Nodes ℕ). is_element t.trees c.in-Some.node ≡ true) c.self.view_is
      (ap is_some (sym c.name.ensures) ∙ sym c.is_some.ensures ∙ c.if-is_some.true));
  few = omega (arith, c.loop-node.invariant.few, ap length c.in-Some.ensures.steps);
}

pub loop-node-preserved : goal.loop-node-preserved
loop-node-preserved c = record {
  within =
      All-rest (λ n. n < c.args.self.now.made) c.in-Some.node c.next.new.self c.loop-node.node-iterator c.in-Some.ensures.steps c.loop-node.invariant.within;
  counted = none_more (is_element c.args.self.now.trees) c.in-Some.node c.next.new.self c.loop-node.node-iterator c.loop-node.count _ c.in-Some.ensures.steps
      c.loop-node.invariant.counted (subst (λ (t : Nodes ℕ). is_element t.trees c.in-Some.node ≡ false) c.self.view_is
      (ap is_some (sym c.name.ensures) ∙ sym c.is_some.ensures ∙ c.if-is_some.false));
  few = omega (arith, c.loop-node.invariant.few, ap length c.in-Some.ensures.steps);
}
