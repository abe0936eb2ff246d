use Rattle.hopen.proofs.Names.{◌≡◌, true, map, nat_eq, take, list_all, list_any, attribute_of, same_attribute}
use Rattle.hopen.proofs.attributes.are_found_by_name.Given as goal

abbrev pub invariant-loop-attr : goal.invariant-loop-attr
invariant-loop-attr l = list_all (λ x. list_any (same_attribute nat_eq (attribute_of x)) (map attribute_of l.others)) (take l.attr-index l.attrs) ≡ true
