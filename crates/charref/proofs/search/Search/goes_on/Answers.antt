use Rattle.charref.proofs.Names.{arith, ◌-◌, length, ap, subst, nat_tests, IsSortedTable}
use Rattle.charref.proofs.Searching.{last_longer, last_over, none_over}
use Rattle.charref.proofs.search.Search.goes_on.Goals as goal

pub returns-then-self-clause-open : goal.returns-then-self-clause-open
returns-then-self-clause-open c = λ bytes read is. last_longer c.args.table.now c.args.self.now bytes c.key.ensures.0 read
    (omega (arith, ap length c.key.ensures.2)) (rw c.table.view_is at c.key.ensures.1) (grind (arith, nat_tests, is, ap length c.key.ensures.2))

pub returns-then-self-clause-over : goal.returns-then-self-clause-over
returns-then-self-clause-over c =
    λ bytes read is. last_over c.args.table.now c.args.self.now bytes c.key.ensures.0 (subst IsSortedTable c.table.view_is c.table.invariant.0.sorted) read
    (omega (arith, ap length c.key.ensures.2)) (rw c.table.view_is at c.key.ensures.1) (grind (arith, nat_tests, is, ap length c.key.ensures.2))

pub returns-else-self-clause-over : goal.returns-else-self-clause-over
returns-else-self-clause-over c = λ bytes read is. none_over c.args.table.now c.args.self.now bytes read (omega arith)
