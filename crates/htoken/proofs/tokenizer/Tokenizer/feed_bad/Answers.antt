use Rattle.htoken.proofs.Names.{◌+◌, ◌-◌, ◌≡◌, ◌<◌, List, false, arith, rules, ◌∙◌, sym, subst, ap, Err, Placed, grows_not, grows_on, is_script, replacement_run, gives_item, Takes, err_is, common_steps}
use Rattle.htoken.specs.declared.state.State.TheVariants as state
use Rattle.htoken.proofs.Fronts.{takes_nothing, part_taken, refused_any, refused_longer, IsCalm, taken_kept, taken_now, bad_taken, replaced_more}
use Rattle.htoken.proofs.tokenizer.Tokenizer.feed_bad.Goals as goal

pub loop-fed-init : goal.loop-fed-init
loop-fed-init g c = record
    { few = omega arith; takes = λ table start before text taken grows h. takes_nothing (taken_kept c.args.names.now grows h); grows = grows_not _ }

pub loop-fed-preserved : goal.loop-fed-preserved
loop-fed-preserved g c = let fed = c.loop-fed.fed in
    record {
      few = omega (arith, c.loop-fed-test.true);
      takes = λ table start before text taken grows h.
          part_taken _ _ _ _ (replacement_run c.args.at fed) _ c.loop-fed.names _ c.feed_char.ensures.grows _ c.loop-fed.sink c.loop-fed.self
          (replacement_run (c.args.at + fed) 1) _ (replaced_more fed 1 c.args.at) _ _ _ (c.loop-fed.invariant.takes table start before text taken grows h)
          (λ text events has. c.in_ok-feed_char.ensures.takes table start c.loop-fed.names text events (grows_not _) has);
      grows = grows_on _ _ _ c.loop-fed.invariant.grows c.feed_char.ensures.grows;
    }

pub returns-in_err-feed_char-clause-takes : goal.returns-in_err-feed_char-clause-takes
returns-in_err-feed_char-clause-takes g c = let gives = gives_item g.S.ErrorSink.gives g.S.TokenSink.gives_token in let fed = c.loop-fed.fed in
    let left = c.args.count - (fed + 1) in
    let all : (fed + 1) + left ≡ c.args.count = omega (arith, c.loop-fed-test.true) in
    rw (err_is c.from_residual.result _ c.from_residual.ensures.1) (λ table start before text taken grows h. subst (λ (ps : List Placed).
    Takes gives table start text ps taken c.feed_char.new.names c.args.sink.now (Err c.in_err-feed_char.field-0.0) c.feed_char.new.sink c.feed_char.new.self)
    (sym (replaced_more (fed + 1) left c.args.at) ∙ ap (replacement_run c.args.at) all) (refused_longer (replacement_run (c.args.at + (fed + 1)) left)
    (part_taken gives table start text (replacement_run c.args.at fed) taken c.loop-fed.names c.feed_char.new.names c.feed_char.ensures.grows c.args.sink.now
    c.loop-fed.sink c.loop-fed.self (replacement_run (c.args.at + fed) 1) (replacement_run c.args.at (fed + 1)) (replaced_more fed 1 c.args.at)
    (Err c.in_err-feed_char.field-0.0) c.feed_char.new.sink c.feed_char.new.self (c.loop-fed.invariant.takes table start before text taken grows h)
    (λ text events has. c.in_err-feed_char.ensures.takes table start c.loop-fed.names text events (grows_not _) has))))

pub returns-then-count-eq0-clause-takes : goal.returns-then-count-eq0-clause-takes
returns-then-count-eq0-clause-takes g c = λ table start before text taken grows h.
    let same : c.loop-fed.fed ≡ c.args.count = omega (arith, c.loop-fed-test.false) in
    rw (← same) (c.loop-fed.invariant.takes table start before text taken grows h)

pub returns-in_default-answer-clause-takes : goal.returns-in_default-answer-clause-takes
returns-in_default-answer-clause-takes g c = λ table start before text taken grows h.
    let may : (0 < c.args.count) × (c.args.self.now.state ≡ state.Text) × (is_script c.args.self.now.kind ≡ false) = search rules in
    let here = taken_now c.args.names.now (subst IsCalm (sym may.1) tt) grows h in
    bad_taken g.S.ErrorSink.gives g.S.TokenSink.gives_token _ _ _ _ _ c.args.self.now here may.1 may.2 _ _ may.0 (omega (arith, c.requires.within)) _ _ _
    c.take_bad-answer.ensures

pub returns-in-Err-clause-takes : goal.returns-in-Err-clause-takes
returns-in-Err-clause-takes g c = λ table start before text taken grows h.
    let may : (0 < c.args.count) × (c.args.self.now.state ≡ state.Text) × (is_script c.args.self.now.kind ≡ false) = search rules in
    let here = taken_now c.args.names.now (subst IsCalm (sym may.1) tt) grows h in
    refused_any (bad_taken g.S.ErrorSink.gives g.S.TokenSink.gives_token table start c.args.names.now text taken c.args.self.now here may.1 may.2 _ _ may.0
    (omega (arith, c.requires.within)) _ _ _ c.in-Err.ensures)

pub returns-in_err-feed_char-clause-grows : goal.returns-in_err-feed_char-clause-grows
returns-in_err-feed_char-clause-grows g c = grind (arith, common_steps)

pub returns-in-Err-clause-again : goal.returns-in-Err-clause-again
returns-in-Err-clause-again g c = λ refusal e. absurd (c.in_default.not-Some refusal e)

pub returns-in_default-answer-clause-again : goal.returns-in_default-answer-clause-again
returns-in_default-answer-clause-again g c = λ refusal e. absurd (c.in_default.not-Some refusal e)

pub returns-in-Err-clause-grows : goal.returns-in-Err-clause-grows
returns-in-Err-clause-grows g c = grows_not _

pub returns-in_default-answer-clause-grows : goal.returns-in_default-answer-clause-grows
returns-in_default-answer-clause-grows g c = grows_not _

pub returns-in_default-answer-clause-refused : goal.returns-in_default-answer-clause-refused
returns-in_default-answer-clause-refused g c = rw c.in_default-answer.is tt
