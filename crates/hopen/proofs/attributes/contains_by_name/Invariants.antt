use Rattle.hopen.proofs.Names.{◌≡◌, suc, nat_eq, ◌-◌, ◌<◌, ◌≤◌, length, take, get_or, list_any, attribute_of, Attr, same_attribute}
use Rattle.hopen.proofs.attributes.contains_by_name.Given as goal

-- after the ordinal the attribute is nowhere
abbrev pub invariant-loop-ordinal : goal.invariant-loop-ordinal
invariant-loop-ordinal l = let sought = λ (y : Attr). same_attribute nat_eq (attribute_of l.attr) (attribute_of y) in
    record {
      within : l.ordinal ≤ length l.attrs;
      there : 0 < l.ordinal → get_or l.names (l.ordinal - 1) 0 ≡ suc (suc l.attr.name);
      same : list_any sought (take l.ordinal l.attrs) ≡ list_any sought l.attrs;
    }

abbrev pub decreases-loop-ordinal : goal.decreases-loop-ordinal
decreases-loop-ordinal l = l.ordinal
