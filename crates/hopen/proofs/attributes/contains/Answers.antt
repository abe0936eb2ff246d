use Rattle.hopen.proofs.Names.{rules, tests, ◌∙◌, sym, refl, nat_eq, YieldsList-from_slice, attribute_of, same_attribute, any-map, any_from_yields_List}
use Rattle.hopen.proofs.attributes.contains.Goals as goal

pub returns : goal.returns
returns c =
    any_from_yields_List (λ y. same_attribute nat_eq (attribute_of c.args.attr.now) (attribute_of y)) _ _ _ c.any.ensures.ran
    (YieldsList-from_slice c.args.attrs.now cc) (λ x b q k. search (rules, tests))
    ∙ sym (any-map attribute_of (λ y. same_attribute nat_eq (attribute_of c.args.attr.now) (attribute_of y))
    (same_attribute nat_eq (attribute_of c.args.attr.now)) (λ _. refl) c.args.attrs.now)
