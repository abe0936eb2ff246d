use Rattle.hopen.proofs.Names.{rules, tests, ◌∙◌, sym, nat_eq, map, list_any, YieldsList-from_slice, list_all-map, attribute_of, same_attribute, all_from_yields_List}
use Rattle.hopen.proofs.attributes.are_found.Goals as goal

pub returns : goal.returns
returns c =
    all_from_yields_List (λ y. list_any (same_attribute nat_eq (attribute_of y)) (map attribute_of c.args.others.now)) _ _ _ c.all.ensures.ran
    (YieldsList-from_slice c.args.attrs.now cc) (λ x b q k. search (rules, tests))
    ∙ sym (list_all-map (λ a. list_any (same_attribute nat_eq a) (map attribute_of c.args.others.now)) attribute_of c.args.attrs.now)
