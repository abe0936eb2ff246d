use Rattle.hadopt.proofs.Names.{SiteOf, ◌≡◌, ◌∙◌, ap, sym, subst, ℕ, error_unless, TreeInBody, Goes, Ended, with_items, without_entry}
use Rattle.hadopt.proofs.Keeps.{unblocked-turn}
use Rattle.hadopt.proofs.site.Site.without_furthest_block.Goals as goal

pub returns-clause-done : goal.returns-clause-done
returns-clause-done c f =
    let told = subst (λ v. Goes (error_unless v TreeInBody c.args.at c.args.self.now) ≡ Goes c.error_unless.new.self) c.is_current-found.ensures
    c.in_ok-error_unless.ensures.done in
    rw (unblocked-turn c.args.at (record f { node = c.args.node }) c.args.self.now c.error_unless.new.self c.requires.in_scope told c.requires.no_block)
    (ap (λ s. Goes (Ended s))
    (ap (λ (s : SiteOf ℕ). with_items (without_entry c.args.node s.items) s) (sym c.pop_to_node.ensures) ∙ sym c.remove_entry.ensures.site))
