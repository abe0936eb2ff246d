use Rattle.hserialize.proofs.Names.{◌∙◌, ap, subst, text_of, mapped, children_of, written_among, WritesText, raw_kind, has_no_references}
use Rattle.hserialize.proofs.serializer.serialize_in.Goals as goal

pub returns-clause-text : goal.returns-clause-text
returns-clause-text g c = subst (λ raw. WritesText g.W.Target.written g.W.Target.failed
    (written_among c.args.escaping raw (mapped (text_of c.args.names.now) (children_of c.args.node c.args.tree.now.trees))) c.args.target.now c.write.new.target
    c.write.result) (c.is_raw.ensures ∙ ap (λ t. has_no_references (raw_kind t)) c.named.ensures) c.write.ensures.text
