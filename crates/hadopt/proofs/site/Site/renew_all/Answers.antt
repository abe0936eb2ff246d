use Rattle.hadopt.proofs.Names.{◌∙◌, ap, sym, numbers, reconstructed, arith, elements}
use Rattle.hadopt.proofs.Inserting.{done-kept, reconstructed-kept, renewed-none}
use Rattle.hadopt.proofs.site.Site.renew_all.Goals as goal

pub returns-clause-kept : goal.returns-clause-kept
returns-clause-kept c = λ k. done-kept numbers _ _ (ap (reconstructed numbers c.args.at) (sym c.count_back-back.ensures.same) ∙ c.loop-back.invariant
    ∙ renewed-none c.args.at c.loop-back.back c.loop-back.self c.loop-back-test.false) (reconstructed-kept numbers c.args.at c.args.self.now k)

pub returns-in_err-renew-clause-done : goal.returns-in_err-renew-clause-done
returns-in_err-renew-clause-done c = grind (arith, elements)
