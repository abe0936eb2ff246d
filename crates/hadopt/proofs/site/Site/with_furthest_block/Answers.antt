use Rattle.hadopt.proofs.Names.{◌≡◌, ◌∙◌, ap, ℕ, option_map, open_of, above, current, SiteOf, arith, common_steps}
use Rattle.hadopt.proofs.site.Site.with_furthest_block.Goals as goal

pub after_inner_loop-requires : goal.after_inner_loop-requires
after_inner_loop-requires c =
    let e : option_map open_of c.above-common_ancestor.result ≡ current (above c.args.formatting_element.node c.args.self.now.open_nodes.stack) =
    c.above-common_ancestor.ensures ∙ ap (λ (s : SiteOf ℕ). current (above c.args.formatting_element.node s.open_nodes.stack)) c.self.view_is in
    rw (e) (c.requires.stands.after c.args.at _ c.in_ok-last_node.ensures.done)

pub returns-clause-done : goal.returns-clause-done
returns-clause-done c = grind (arith, common_steps)
