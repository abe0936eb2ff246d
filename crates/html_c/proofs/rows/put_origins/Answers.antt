use Rattle.html_c.proofs.Names.{PutsAt, arith, children_of, common_steps, subst}
use Rattle.html_c.proofs.Listing.{all_told}
use Rattle.html_c.proofs.Puts.{both}
use Rattle.html_c.proofs.rows.put_origins.Goals as goal

pub loop-node-preserved : goal.loop-node-preserved
loop-node-preserved c = record
    { rows = both c.loop-node.invariant.rows c.put_one-at.ensures (grind (arith, common_steps)); nodes = grind (arith, common_steps) }

pub returns-in-None : goal.returns-in-None
returns-in-None c = let parsed = c.args.parsed.now in let loop = c.loop-node in let list = c.in-Some.list.items in
    let all = all_told list (children_of parsed.root parsed.tree.trees) loop.yielded loop.node-iterator loop.invariant.nodes c.in-None.ensures.steps.0 in
    let put = subst (λ its. PutsAt 0 its c.args.room.now loop.room loop.at) all loop.invariant.rows in
    let fits = rw c.in-Some.is at (c.requires c.if-fits.true) in
    rw (c.if-fits.true, c.in-Some.is) (put.fits (omega (arith, fits))).1
