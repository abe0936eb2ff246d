use Rattle.hmodes.proofs.Vocabulary.{ℕ, subst, AreNodes, Place, Gives, put_each, Outcome, SiteOf, state_of, arith, common_steps}
use Rattle.hmodes.proofs.Begins.{begun-gives}
use Rattle.hmodes.proofs.TextRun.{with_references_put}
use Rattle.hmodes.proofs.tree_construction.TreeConstruction.put_run.Goals as goal

pub returns-clause-gives : goal.returns-clause-gives
returns-clause-gives c = λ text with_references.
    let site = c.begin_text.new.self.site in
    let same = with_references_put text c.args.run.now c.args.at c.place_in_current-place.result site with_references
    (subst AreNodes c.tree.ensures c.are_nodes.ensures.nodes) c.place_in_current-place.ensures.within in
    begun-gives c.args.at text (state_of c.args.self.now) site c.put_text.result c.put_text.new.self c.in_ok-begin_text.ensures.gives
    (subst (λ (p : Place). Gives c.put_text.result c.put_text.new.self (put_each text p site)) c.place_in_current-place.ensures.place
    (subst (λ (o : Outcome (SiteOf ℕ)). Gives c.put_text.result c.put_text.new.self o) same c.put_text.ensures.done))

pub returns-clause-rest : goal.returns-clause-rest
returns-clause-rest c = grind (arith, common_steps)
