use Rattle.hnodes.proofs.Names.{◌≡◌, ◌<◌, [], ◌++◌, string_bytes, sym, ◌∙◌, ap, unwrap_or, append_assoc, flat_map, All-same, All-rest}
use Rattle.hnodes.proofs.Siblings.{text_at, texts-order}
use Rattle.hnodes.proofs.tree.Tree.text_content.Goals as goal

pub loop-node-init : goal.loop-node-init
loop-node-init c = record {
  within = All-same (λ n. n < c.args.self.now.made) _ _ c.into_iter-node-iterator.ensures.into_iter_gives c.descendants-node-items.ensures.within;
  same = rw (c.new-all.ensures.bytes, c.into_iter-node-iterator.ensures.into_iter_gives, c.descendants-node-items.ensures.order)
      (sym (texts-order c.descendants-node-items.ensures.nodes.counted c.args.at c.requires));
}

pub loop-node-preserved : goal.loop-node-preserved
loop-node-preserved c = let f = text_at c.args.self.now.trees in
    let own : c.own_text.result.now ≡ f c.in-Some.node = ap (λ o. unwrap_or o []) c.own_text.ensures in
    record {
      within = All-rest (λ n. n < c.args.self.now.made) c.in-Some.node c.next.new.self c.loop-node.node-iterator c.in-Some.ensures.steps
          c.loop-node.invariant.within;
      same = rw (c.in_ok-push_str.ensures.bytes, append_assoc (string_bytes c.loop-node.all) c.own_text.result.now (flat_map f c.next.new.self), own)
          (ap (λ ns. string_bytes c.loop-node.all ++ flat_map f ns) (sym c.in-Some.ensures.steps) ∙ c.loop-node.invariant.same);
    }
