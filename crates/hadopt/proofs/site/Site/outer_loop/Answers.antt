use Rattle.hadopt.proofs.Names.{◌≡◌, suc, ◌-◌, ◌∙◌, ap, refl, arith, numbers, outer_loop}
use Rattle.hadopt.proofs.site.Site.outer_loop.Goals as goal

pub returns-in-Ended-clause-kept : goal.returns-in-Ended-clause-kept
returns-in-Ended-clause-kept c = c.in_ok-outer_turn.ensures.kept

pub loop-left-preserved : goal.loop-left-preserved
loop-left-preserved c = let l = c.loop-left in let next : l.left ≡ suc (l.left - 1) = omega arith in let done = c.in_ok-outer_turn.ensures.done in
    record {
      kept = c.in_ok-outer_turn.ensures.kept;
      few = omega (arith, l.invariant.few, c.in_ok-outer_turn.ensures.few);
      rest = l.invariant.rest ∙ ap (λ n. outer_loop numbers c.args.at n c.args.subject l.self) next ∙ rw (done, c.in_default.is) refl;
    }
