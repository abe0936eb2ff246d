use Rattle.hadopt.proofs.Names.{ap, sym, nat_eq, reverse, Some, ◌∙◌, option_map, open_of, is_named}
use Rattle.hadopt.proofs.Putting.{each-found, each-got, each-reverse, within}
use Rattle.hadopt.proofs.site.Site.foster_place.Goals as goal

pub beside-requires : goal.beside-requires
beside-requires c = let named = is_named nat_eq c.number.result in let found = sym (ap (option_map open_of) c.in-Some.is) ∙ c.nearest.ensures in
    rw (← c.self.view_is) ((each-found _ named c.self.inside.stack.stack (Some c.in-Some.table) found c.self.invariant).1)

pub last_in-requires : goal.last_in-requires
last_in-requires c = rw (← c.self.view_is) (within c.self.inside.tree.made c.from_top.result
    (each-got _ (reverse c.self.inside.stack.stack) 0 c.from_top.result c.from_top.ensures (each-reverse _ c.self.inside.stack.stack c.self.invariant)))
