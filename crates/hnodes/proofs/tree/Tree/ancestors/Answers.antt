use Rattle.hnodes.proofs.Names.{ap, sym, List, ℕ, drop}
use Rattle.hnodes.proofs.WaysUp.{way-step}
use Rattle.hnodes.proofs.tree.Tree.ancestors.Goals as goal

pub returns : goal.returns
returns c = rw c.parent.ensures.parent
    (sym (ap (λ (xs : List ℕ). drop 1 xs) (way-step c.args.self.now.made c.args.self.now.trees c.parent.ensures.nodes.counted c.args.node c.requires)))
