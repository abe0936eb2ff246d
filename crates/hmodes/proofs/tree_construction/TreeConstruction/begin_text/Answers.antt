use Rattle.hmodes.proofs.Vocabulary.{◌∙◌, ℕ, ap, sym, subst, Gives, Outcome, SiteOf, before_text}
use Rattle.hmodes.proofs.Begins.{before-other}
use Rattle.hmodes.proofs.tree_construction.TreeConstruction.begin_text.Goals as goal

pub returns-in_default-clause-gives : goal.returns-in_default-clause-gives
returns-in_default-clause-gives c = subst (λ (o : Outcome (SiteOf ℕ)). Gives c.reconstruct.result c.reconstruct.new.self o)
    (sym (ap (λ s. before_text c.args.at s.control.mode s.site) (sym c.self.view_is) ∙ before-other c.args.at _ _ c.in_default.not-Text))
    c.reconstruct.ensures.done
