use Rattle.hserialize.proofs.Names.{◌∙◌, ap, subst, text_of, mapped, children_of, node_name, written_among, WritesText}
use Rattle.hserialize.proofs.Wrote.{own-written}
use Rattle.hserialize.proofs.serializer.serialize.Goals as goal

pub returns-clause-text : goal.returns-clause-text
returns-clause-text g c = let g1 = mapped (text_of c.args.names.now) (children_of c.args.node c.args.tree.now.trees) in
    subst (λ text. WritesText g.W.Target.written g.W.Target.failed text c.args.target.now c.write.new.target c.write.result)
    (ap (λ raw. written_among c.args.escaping raw g1) c.holds_raw.ensures
    ∙ own-written c.args.escaping c.args.names.now g1 (node_name c.args.node c.args.tree.now.trees) c.are_names.ensures.names) c.write.ensures.text
