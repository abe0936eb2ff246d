use Rattle.hadopt.proofs.Names.{sym, ap, ◌∙◌, Goes, arith, common_steps}
use Rattle.hadopt.proofs.site.Site.adopt.Goals as goal

pub returns-then-is_unlisted-clause-done : goal.returns-then-is_unlisted-clause-done
returns-then-is_unlisted-clause-done c = rw (sym (c.is_unlisted.ensures c.args.at) ∙ c.if-is_unlisted.true) (ap Goes (sym c.pop.ensures.site))

pub returns-clause-done : goal.returns-clause-done
returns-clause-done c = rw (sym (c.is_unlisted.ensures c.args.at) ∙ c.if-is_unlisted.false) c.outer_loop.ensures.done

pub returns-then-is_unlisted-clause-kept : goal.returns-then-is_unlisted-clause-kept
returns-then-is_unlisted-clause-kept c = grind (arith, common_steps)
