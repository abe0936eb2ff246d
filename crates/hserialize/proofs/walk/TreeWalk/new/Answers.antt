use Rattle.hserialize.proofs.Names.{arith, ℕ, ◌<◌, ◌≤◌, length, length-append, Forest, none, tree, children_of, AreCounted, visits, Reach, ◌*◌, size, inside-few}
use Rattle.hserialize.proofs.Seen.{made-visits}
use Rattle.hserialize.proofs.walk.TreeWalk.new.Goals as goal

visits-long : (reach : Reach) (f : Forest ℕ) → length (visits reach f) ≤ 2 * size f
visits-long reach none = omega arith
visits-long reach (tree b w kids rest) = grind (arith, length-append, visits-long reach kids, visits-long reach rest)

-- a walk inside a node is not long
walk-long : (made : ℕ) (f : Forest ℕ) → AreCounted made f → (q : ℕ) → q < made → (reach : Reach) → length (visits reach (children_of q f)) ≤ 2 * made
walk-long made f counted q h reach = omega (arith, visits-long reach (children_of q f), inside-few made f counted q h)

pub returns-clause-within : goal.returns-clause-within
returns-clause-within c = rw c.first_visit.ensures.visits
    (made-visits c.args.tree.now.made c.args.tree.now.trees c.args.root c.args.reach c.first_visit.ensures.nodes.counted c.requires)

pub returns-clause-few : goal.returns-clause-few
returns-clause-few c = rw c.first_visit.ensures.visits
    (let long = walk-long c.args.tree.now.made c.args.tree.now.trees c.first_visit.ensures.nodes.counted c.args.root c.requires c.args.reach in
    omega (arith, long))
