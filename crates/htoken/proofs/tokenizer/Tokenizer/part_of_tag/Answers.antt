use Rattle.htoken.proofs.Names.{Err, ◌++◌, ◌∙◌, [], List, refl, sym, ap, subst, take, chars, placed, Placed, grows_on, after_last, err_is, arith, common_steps}
use Rattle.htoken.proofs.Fronts.{part_refused, placed_same, IsCalm, taken_now, tag_finishes, tag_goes_on, tag_read, tag_stopped}
use Rattle.htoken.proofs.tokenizer.Tokenizer.part_of_tag.Goals as goal

pub returns-in_err-count-clause-takes : goal.returns-in_err-count-clause-takes
returns-in_err-count-clause-takes g c = rw (err_is c.from_residual.result _ c.from_residual.ensures.1) (λ table start before text taken grows h.
    let k = taken_now c.args.names.now (subst IsCalm (sym c.requires.tag) tt) grows h in
    tag_stopped g.S.ErrorSink.gives g.S.TokenSink.gives_token _ c.take_run.ensures.grows k c.requires.tag _ _ _ _
    (c.in_err-count.ensures.takes _ (tag_read g.S.ErrorSink.gives g.S.TokenSink.gives_token c.take_run.new.names c.take_run.ensures.grows k c.requires.tag [])))

pub returns-clause-takes : goal.returns-clause-takes
returns-clause-takes g c = λ table start before text taken grows h.
    let run = c.args.run.now.text.now in let count = c.in_ok-count.count in let k = taken_now c.args.names.now (subst IsCalm (sym c.requires.tag) tt) grows h in
    let t = record c.args.self.now { next = c.end-self.result; tag = c.take_run.new.self; raised = record { errors = c.take_run.new.errors } } in
    let next = c.end-self.ensures text ∙ ap (λ (ps : List Placed). after_last (text ++ ps)) (placed_same c.front.ensures.text c.front.ensures.at) in
    tag_goes_on g.S.ErrorSink.gives g.S.TokenSink.gives_token _ c.take_run.ensures.grows k c.requires.tag _ t
    (record { kind_is = refl; last_is = refl; at_is = refl; stays = (refl, refl, next) }) refl c.in_ok-count.ensures.kind (rw c.if-ended.false at
    (c.in_ok-count.ensures.takes _ (tag_read g.S.ErrorSink.gives g.S.TokenSink.gives_token c.take_run.new.names c.take_run.ensures.grows k c.requires.tag [])))
    _

pub returns-then-ended-clause-takes : goal.returns-then-ended-clause-takes
returns-then-ended-clause-takes g c = λ table start before text taken grows h.
    let run = c.args.run.now.text.now in let count = c.in_ok-count.count in let k = taken_now c.args.names.now (subst IsCalm (sym c.requires.tag) tt) grows h in
    let t = record c.args.self.now { next = c.end-self.result; tag = c.take_run.new.self; raised = record { errors = c.take_run.new.errors } } in
    tag_finishes g.S.ErrorSink.gives g.S.TokenSink.gives_token _ (grows_on _ _ _ c.take_run.ensures.grows c.end_tag.ensures.grows) k c.requires.tag _ t
    (record {
      kind_is = refl;
      last_is = refl;
      at_is = refl;
      stays = (refl, refl, c.end-self.ensures text ∙ ap (λ (ps : List Placed). after_last (text ++ ps)) (placed_same c.front.ensures.text c.front.ensures.at));
    }) c.in_ok-count.ensures.kind c.take_run.new.names c.end_tag.ensures.grows (rw c.if-ended.true at
    (c.in_ok-count.ensures.takes _ (tag_read g.S.ErrorSink.gives g.S.TokenSink.gives_token c.take_run.new.names c.take_run.ensures.grows k c.requires.tag [])))
    _ _ _ _ c.in_ok-end_tag.ensures.tag

pub returns-in_err-end_tag-clause-takes : goal.returns-in_err-end_tag-clause-takes
returns-in_err-end_tag-clause-takes g c =
    λ table start before text taken grows h.
    let run = c.args.run.now.text.now in let count = c.in_ok-count.count in let k = taken_now c.args.names.now (subst IsCalm (sym c.requires.tag) tt) grows h in
    let t = record c.args.self.now { next = c.end-self.result; tag = c.take_run.new.self; raised = record { errors = c.take_run.new.errors } } in
    let next = c.end-self.ensures text ∙ ap (λ (ps : List Placed). after_last (text ++ ps)) (placed_same c.front.ensures.text c.front.ensures.at) in
    part_refused _ c.args.run.now.at (err_is c.from_residual-in_err-end_tag.result _ c.from_residual-in_err-end_tag.ensures.1)
    c.in_ok-count.ensures.cut (tag_finishes g.S.ErrorSink.gives g.S.TokenSink.gives_token c.end_tag.new.names
    (grows_on _ _ _ c.take_run.ensures.grows c.end_tag.ensures.grows) k c.requires.tag (placed c.args.run.now.at (chars (take count run))) t
    (record { kind_is = refl; last_is = refl; at_is = refl; stays = (refl, refl, next) })
    c.in_ok-count.ensures.kind c.take_run.new.names c.end_tag.ensures.grows (rw c.if-ended.true at
    (c.in_ok-count.ensures.takes _ (tag_read g.S.ErrorSink.gives g.S.TokenSink.gives_token c.take_run.new.names c.take_run.ensures.grows k c.requires.tag [])))
    c.end_tag.new.self c.args.sink.now c.end_tag.new.sink (Err c.in_err-end_tag.field-0.0) c.in_err-end_tag.ensures.tag)

pub returns-then-ended-clause-grows : goal.returns-then-ended-clause-grows
returns-then-ended-clause-grows g c = grind (arith, common_steps)

pub returns-in_err-end_tag-clause-grows : goal.returns-in_err-end_tag-clause-grows
returns-in_err-end_tag-clause-grows g c = grind (arith, common_steps)

pub returns-clause-few : goal.returns-clause-few
returns-clause-few g c = grind (arith, common_steps)

pub returns-then-ended-clause-few : goal.returns-then-ended-clause-few
returns-then-ended-clause-few g c = grind (arith, common_steps)
