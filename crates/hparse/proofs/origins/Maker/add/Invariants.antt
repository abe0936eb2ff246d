use Rattle.hparse.proofs.Names.{◌≡◌, ◌-◌, length, numbers, with_made}
use Rattle.hparse.proofs.origins.Maker.add.Given as goal

-- what is left to add is added to what was
abbrev pub invariant-loop-node : goal.invariant-loop-node
invariant-loop-node l =
    with_made numbers l.self.at l.self.first l.self.own l.tree l.list.items ≡ with_made numbers l.self.at l.self.first l.self.own l.tree l.initial.list.items

abbrev pub decreases-loop-node : goal.decreases-loop-node
decreases-loop-node l = l.tree.made - length l.list.items
