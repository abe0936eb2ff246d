use Rattle.html_c.proofs.Names.{sym, ◌∙◌, children_of}
use Rattle.html_c.proofs.Listing.{as_many}
use Rattle.html_c.proofs.page.Page.origin_count.Goals as goal

pub returns-in-Some : goal.returns-in-Some
returns-in-Some c = let tree = c.args.self.now.tree in let root = tree.parsed.root in
    rw c.in-Some.is (tree.nodes_are ∙ sym (as_many c.in-Some.field-0.items root (children_of root tree.parsed.tree.trees)))
