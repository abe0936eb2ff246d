use Rattle.hopen.proofs.Names.{◌≡◌, ◌+◌, suc, refl, ◌∙◌, ap, cond, arith, get_or, get_or_default, is_in_set}
use Rattle.hopen.proofs.kept.slot_below.Goals as goal

pub returns : goal.returns
returns c = λ items n kept.
    let names = c.args.last.now.names.items in let nodes = c.args.last.now.nodes.items in
    let next : c.index-3.result + 1 ≡ suc c.args.opened.node = omega (arith, c.index-3.ensures) in
    record {
      opened = refl;
      same_name =
          c.index-same_name.ensures ∙ get_or_default names c.index.result c.index-same_name.result.now 0 (omega (arith, c.index.ensures, c.requires.room.0))
          ∙ ap (λ k. get_or names k 0) c.index.ensures;
      same_node =
          c.index-same_node.ensures ∙ get_or_default nodes c.index-2.result c.index-same_node.result.now 0 (omega (arith, c.index-2.ensures, c.requires.room.1))
          ∙ ap (λ k. get_or nodes k 0) c.index-2.ensures;
      sets = λ set. c.with.ensures set ∙ (λ t. cond (is_in_set set (c.tag-tag.ensures t)) (next t) (kept set t));
      kind = c.of.ensures.kind c.args.opened.name c.tag-tag.ensures c.args.opened.node;
    }
