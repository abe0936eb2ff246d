use Rattle.hmodes.proofs.tree_construction.TreeConstruction.end_in_body.Goals as goal

pub returns-in-Body : goal.returns-in-Body
returns-in-Body c = rw c.in-Body.is (c.end_body.ensures _)
