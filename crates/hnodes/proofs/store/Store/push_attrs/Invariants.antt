use Rattle.hnodes.proofs.Names.{map, take, attribute_of, Adds, IsGrown}
use Rattle.hnodes.proofs.store.Store.push_attrs.Given as goal

abbrev pub invariant-loop-attr : goal.invariant-loop-attr
invariant-loop-attr l = Adds (map attribute_of (take l.attr-index l.attrs)) l.fn.self l.self × IsGrown l.fn.self l.self
