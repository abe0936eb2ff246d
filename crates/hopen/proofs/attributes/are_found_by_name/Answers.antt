use Rattle.hopen.proofs.Names.{◌≡◌, Bool, false, List, map, nat_eq, rules, sym, ◌∙◌, ap, arith, list_all, list_any, list_all-map, attribute_of, Attr, are_among, same_attribute, take_all, list_all_at, common_steps}
use Rattle.hopen.proofs.attributes.are_found_by_name.Goals as goal

-- whether an attribute is in the other list
abbrev there : List Attr → Attr → Bool
there others x = list_any (same_attribute nat_eq (attribute_of x)) (map attribute_of others)

seen : (xs others : List Attr) → list_all (there others) xs ≡ are_among nat_eq (map attribute_of xs) (map attribute_of others)
seen xs others = sym (list_all-map (λ a. list_any (same_attribute nat_eq a) (map attribute_of others)) attribute_of xs)

pub returns-then-not-contains_by_name : goal.returns-then-not-contains_by_name
returns-then-not-contains_by_name c = let missing : c.contains_by_name.result ≡ false = search rules in
    sym (list_all_at (there c.args.others.now) c.args.attrs.now c.loop-attr.attr-index c.attr-item.result (omega arith)
    (ap (there c.args.others.now) (sym c.attr-item.is) ∙ sym c.contains_by_name.ensures ∙ missing)) ∙ seen c.args.attrs.now c.args.others.now

pub returns : goal.returns
returns c = sym c.loop-attr.invariant ∙ ap (list_all (there c.args.others.now)) (take_all c.loop-attr.attr-index c.args.attrs.now (omega arith))
    ∙ seen c.args.attrs.now c.args.others.now

pub loop-attr-preserved : goal.loop-attr-preserved
loop-attr-preserved c = grind (arith, common_steps)
