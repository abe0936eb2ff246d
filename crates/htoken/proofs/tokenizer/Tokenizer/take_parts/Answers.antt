use Rattle.htoken.proofs.Names.{arith, subst, take_all, chars-nil, grows_not, grows_on, IsCut, cut_more, err_is, IsUtf8-nil, rules, common_steps}
use Rattle.htoken.proofs.Fronts.{takes_nothing, cut_more_taken, cut_more_refused, taken_kept}
use Rattle.htoken.proofs.tokenizer.Tokenizer.take_parts.Goals as goal

pub loop-count-init : goal.loop-count-init
loop-count-init g c = record {
  takes = λ table start before text taken grows h. rw chars-nil (takes_nothing (taken_kept c.args.names.now grows h));
  cut = record { within = omega arith; front = IsUtf8-nil; back = (search rules) };
  grows = grows_not _;
}

pub loop-count-preserved : goal.loop-count-preserved
loop-count-preserved g c = let so = c.loop-count.invariant in
    record {
      takes = λ table start before text taken grows h.
          cut_more_taken _ _ _ _ c.args.run.now.at so.cut _ c.loop-count.names _ c.take_part.ensures.grows _ c.loop-count.sink c.loop-count.self
          c.after.result.text.now c.after.result.at c.after.ensures.text c.after.ensures.at c.in_ok-more.more c.in_ok-more.ensures.few.1 _ _
          (so.takes table start before text taken grows h) (λ fed events. c.in_ok-more.ensures.takes table start c.loop-count.names fed events (grows_not _));
      cut = cut_more c.loop-count.count c.in_ok-more.more c.args.run.now.text.now so.cut
          (subst (IsCut c.in_ok-more.more) c.after.ensures.text c.in_ok-more.ensures.few.1);
      grows = grows_on _ _ _ so.grows c.take_part.ensures.grows;
    }

pub returns-in_err-more-clause-takes : goal.returns-in_err-more-clause-takes
returns-in_err-more-clause-takes g c = let so = c.loop-count.invariant in
    rw (err_is c.from_residual.result _ c.from_residual.ensures.1)
    (λ table start before text taken grows h. cut_more_refused _ _ _ _ c.args.run.now.at so.cut _ c.loop-count.names _ c.take_part.ensures.grows _
    c.loop-count.sink c.loop-count.self c.after.result.text.now c.after.result.at c.after.ensures.text c.after.ensures.at c.in_err-more.field-0.0 _ _
    (so.takes table start before text taken grows h) (λ fed events. c.in_err-more.ensures.takes table start c.loop-count.names fed events (grows_not _)))

pub returns-clause-takes : goal.returns-clause-takes
returns-clause-takes g c = λ table start before text taken grows h.
    rw (← (take_all c.loop-count.count c.args.run.now.text.now (omega arith))) (c.loop-count.invariant.takes table start before text taken grows h)

pub returns-in_err-more-clause-grows : goal.returns-in_err-more-clause-grows
returns-in_err-more-clause-grows g c = grind (arith, common_steps)

pub take_part-requires : goal.take_part-requires
take_part-requires g c = grind (arith, common_steps)
