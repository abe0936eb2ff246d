use Rattle.htoken.proofs.Names.{subst, arith, grows_not, IsCut, cut_more, err_is, common_steps}
use Rattle.htoken.proofs.Fronts.{cut_more_taken, cut_more_refused}
use Rattle.htoken.proofs.tokenizer.Tokenizer.text_and_tag.Goals as goal

pub returns-in_err-count-clause-takes : goal.returns-in_err-count-clause-takes
returns-in_err-count-clause-takes g c = rw (err_is c.from_residual.result _ c.from_residual.ensures.1) (c.in_err-count.ensures.takes c.args.names.now)

pub returns-clause-takes : goal.returns-clause-takes
returns-clause-takes g c = λ table start before text taken grows h. cut_more_taken _ _ _ _ c.args.run.now.at c.in_ok-count.ensures.few.1 _ c.args.names.now _
    c.take_tag_open.ensures.grows _ c.part_of_text.new.sink c.part_of_text.new.self c.after.result.text.now c.after.result.at c.after.ensures.text
    c.after.ensures.at c.in_ok-more.more c.in_ok-more.ensures.cut _ _ (c.in_ok-count.ensures.takes c.args.names.now table start before text taken grows h)
    (λ fed events. c.in_ok-more.ensures.takes table start c.args.names.now fed events (grows_not _))

pub returns-in_err-more-clause-takes : goal.returns-in_err-more-clause-takes
returns-in_err-more-clause-takes g c = rw (err_is c.from_residual-in_err-more.result _ c.from_residual-in_err-more.ensures.1)
    (λ table start before text taken grows h. cut_more_refused _ _ _ _ c.args.run.now.at c.in_ok-count.ensures.few.1 _ c.args.names.now _
    c.take_tag_open.ensures.grows _ c.part_of_text.new.sink c.part_of_text.new.self c.after.result.text.now c.after.result.at c.after.ensures.text
    c.after.ensures.at c.in_err-more.field-0.0 _ _ (c.in_ok-count.ensures.takes c.args.names.now table start before text taken grows h)
    (λ fed events. c.in_err-more.ensures.takes table start c.args.names.now fed events (grows_not _)))

pub returns-then-count-run-clause-takes : goal.returns-then-count-run-clause-takes
returns-then-count-run-clause-takes g c = c.in_ok-count.ensures.takes c.args.names.now

pub returns-clause-few : goal.returns-clause-few
returns-clause-few g c = let again = subst (IsCut c.in_ok-more.more) c.after.ensures.text c.in_ok-more.ensures.cut in
    (omega (arith, c.in_ok-count.ensures.few.0), cut_more c.in_ok-count.count c.in_ok-more.more c.args.run.now.text.now c.in_ok-count.ensures.few.1 again)

pub take_tag_open-requires-clause-some : goal.take_tag_open-requires-clause-some
take_tag_open-requires-clause-some g c = grind (arith, common_steps)

pub returns-in_err-count-clause-grows : goal.returns-in_err-count-clause-grows
returns-in_err-count-clause-grows g c = grind (arith, common_steps)
