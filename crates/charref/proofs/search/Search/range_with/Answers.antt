use Rattle.charref.proofs.Names.{◌∷◌, subst, IsSortedTable}
use Rattle.charref.proofs.Searching.{range_first, range_narrowed}
use Rattle.charref.proofs.search.Search.range_with.Goals as goal

pub returns-then-self-eq1-clause-range : goal.returns-then-self-eq1-clause-range
returns-then-self-eq1-clause-range c = range_first c.args.table.now c.args.self.now c.args.byte _ _ c.if-self-eq1.true (c.starting.ensures c.args.table.now
    (subst IsSortedTable c.table.view_is c.table.invariant.0.sorted) (rw (c.deref.ensures.value, ← c.table.view_is) c.table.invariant.1))

pub returns-clause-range : goal.returns-clause-range
returns-clause-range c = λ bytes read. range_narrowed c.args.table.now c.args.self.now (38 ∷ bytes) c.args.byte c.first_from-low.result c.first_from-high.result
    (subst IsSortedTable c.table.view_is c.table.invariant.0.sorted) read c.first_from-low.ensures.after c.first_from-high.ensures.after
    c.first_from-high.ensures.before (rw (c.table.view_is, c.from-code.ensures) at c.first_from-low.ensures.parted)
    (rw (c.table.view_is, c.from-code.ensures) at c.first_from-high.ensures.parted)
