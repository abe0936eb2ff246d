use Rattle.hadopt.proofs.Names.{ap, arith, ℕ, SiteOf, is_node, open_of}
use Rattle.hadopt.proofs.Lists.{each-among, each-put, among-without}
use Rattle.hadopt.proofs.Putting.{made-after}
use Rattle.hadopt.proofs.site.Site.exchange.Goals as goal

pub invariant_of-self : goal.invariant_of-self
invariant_of-self c =
    let less = each-among _ _ _ (among-without (is_node c.args.leaving) c.self.inside.stack.stack) c.self.invariant in
    made-after c.exchange.result c.self.inside.tree.made _ c.self.inside.stack c.exchange.new.self c.exchange.ensures.ok c.exchange.ensures.err
    (each-put _ (is_node c.args.above) (open_of c.args.new) _
    (c.requires.begun, omega (arith, ap (λ (s : SiteOf ℕ). s.nodes.made) c.self.view_is, c.requires.node_in)) less) c.self.invariant
