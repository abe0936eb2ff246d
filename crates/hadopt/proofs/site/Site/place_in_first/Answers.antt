use Rattle.hadopt.proofs.Names.{[], comment, reverse, rules, numbers}
use Rattle.hadopt.proofs.Putting.{each-got, each-reverse, within}
use Rattle.hadopt.proofs.Inserting.{stands-where, first-fits}
use Rattle.hadopt.proofs.site.Site.place_in_first.Goals as goal

pub returns-clause-place : goal.returns-clause-place
returns-clause-place c = search rules

pub returns-clause-stands : goal.returns-clause-stands
returns-clause-stands c = λ k. rw (returns-clause-place c) (stands-where numbers c.args.self.now k _ (λ h. first-fits numbers (comment []) c.args.self.now h))

pub last_in-requires : goal.last_in-requires
last_in-requires c = rw (← c.self.view_is) (within c.self.inside.tree.made c.from_top.result
    (each-got _ (reverse c.self.inside.stack.stack) 0 c.from_top.result c.from_top.ensures (each-reverse _ c.self.inside.stack.stack c.self.invariant)))
