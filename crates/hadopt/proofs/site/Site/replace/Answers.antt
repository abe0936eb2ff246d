use Rattle.hadopt.proofs.Names.{◌<◌, ap, arith, ℕ, SiteOf, is_node, open_of}
use Rattle.hadopt.proofs.Lists.{each-change}
use Rattle.hadopt.proofs.Putting.{made-after}
use Rattle.hadopt.proofs.site.Site.replace.Goals as goal

pub invariant_of-self : goal.invariant_of-self
invariant_of-self c =
    let low : c.args.by.node < c.self.inside.tree.made = omega (arith, ap (λ (s : SiteOf ℕ). s.nodes.made) c.self.view_is, c.requires.node_in) in
    made-after c.replace.result c.self.inside.tree.made _ c.self.inside.stack c.replace.new.self c.replace.ensures.ok c.replace.ensures.err
    (each-change _ (is_node c.args.replaced) (open_of c.args.by) c.self.inside.stack.stack (c.requires.begun, low) c.self.invariant) c.self.invariant
