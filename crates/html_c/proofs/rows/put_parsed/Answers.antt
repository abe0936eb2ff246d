use Rattle.html_c.proofs.Names.{PutsAt, arith, common_steps, refl, rules, subst}
use Rattle.html_c.proofs.Listing.{all_listed}
use Rattle.html_c.proofs.Puts.{both}
use Rattle.html_c.proofs.rows.put_parsed.Goals as goal

pub loop-node-preserved : goal.loop-node-preserved
loop-node-preserved c = record {
  rows = both c.loop-node.invariant.rows c.put_one-row_end.ensures (grind (arith, common_steps));
  words = both c.loop-node.invariant.words (both c.put_words-word_end.ensures c.put_one-word_end.ensures refl) (grind (arith, common_steps));
  nodes = grind (arith, common_steps);
}

pub returns-clause-rows : goal.returns-clause-rows
returns-clause-rows c = let parsed = c.args.parsed.now in let loop = c.loop-node in
    subst (λ its. PutsAt 0 its c.args.rows.now loop.rows loop.row_end) (all_listed parsed.names parsed.tree.made parsed.tree.trees parsed.root loop.yielded
    loop.node-iterator c.descendants-node-items.ensures.nodes.counted (search rules) loop.invariant.nodes c.in-None.ensures.steps.0).0 loop.invariant.rows

pub returns-clause-words : goal.returns-clause-words
returns-clause-words c = let parsed = c.args.parsed.now in let loop = c.loop-node in
    subst (λ its. PutsAt 0 its c.args.words.now loop.words loop.word_end) (all_listed parsed.names parsed.tree.made parsed.tree.trees parsed.root loop.yielded
    loop.node-iterator c.descendants-node-items.ensures.nodes.counted (search rules) loop.invariant.nodes c.in-None.ensures.steps.0).1 loop.invariant.words
