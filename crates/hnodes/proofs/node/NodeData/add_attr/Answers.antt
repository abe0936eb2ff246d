use Rattle.hnodes.proofs.Names.{[], ◌∷◌, ◌++◌, sym, ◌∙◌, ap, element, attribute_of, content_is, with_attribute}
use Rattle.hnodes.proofs.node.NodeData.add_attr.Goals as goal

pub returns-in_ok-self-in-Element-clause-ok : goal.returns-in_ok-self-in-Element-clause-ok
returns-in_ok-self-in-Element-clause-ok c = let own = c.in_ok-self-in-Element.ensures c.args.store.now in (
  own.0,
  own.1 ∙ ap (element c.in-Element.name) (c.in_ok-with-in-Element.ensures ∙ ap (λ xs. xs ++ attribute_of c.args.attr ∷ []) c.attrs.ensures)
      ∙ ap (λ d. with_attribute (attribute_of c.args.attr) (content_is c.args.store.now d)) (sym c.in-Element.is),
)

pub returns-in_ok-self-in-Shared-clause-ok : goal.returns-in_ok-self-in-Shared-clause-ok
returns-in_ok-self-in-Shared-clause-ok c = let own = c.in_ok-self-in-Shared.ensures c.args.store.now in (
  own.0,
  own.1 ∙ ap (element c.in-Shared.name)
      (c.in_ok-with-in-Shared.ensures ∙ ap (λ xs. xs ++ attribute_of c.args.attr ∷ []) (c.attrs-in-Shared.ensures ∙ c.deref.ensures))
      ∙ ap (λ d. with_attribute (attribute_of c.args.attr) (content_is c.args.store.now d)) (sym c.in-Shared.is),
)
