use Rattle.htoken.proofs.Names.{List, refl, sym, ap, ◌∙◌, subst, Err, arith, list_all, chars, placed, Placed, is_only_data, gives_item, err_is, Takes, rules, common_steps}
use Rattle.htoken.proofs.Fronts.{cut_refused, placed_same, IsCalm, stands_over, comment_here, comment_stopped, comment_goes_on, data_front}
use Rattle.htoken.proofs.tokenizer.Tokenizer.part_of_comment.Goals as goal

pub front-front-requires : goal.front-front-requires
front-front-requires g c = (data_front c.args.run.now.text.now _ (search rules) c.count_data-count.ensures.counted).0

pub take_run-requires : goal.take_run-requires
take_run-requires g c =
    ap (list_all is_only_data) c.front-front.ensures.text ∙ (data_front c.args.run.now.text.now _ (search rules) c.count_data-count.ensures.counted).1

pub returns-clause-takes : goal.returns-clause-takes
returns-clause-takes g c = λ table start before text taken grows h.
    let gives = (gives_item g.S.ErrorSink.gives g.S.TokenSink.gives_token) in let fed = placed c.front-front.result.at (chars c.front-front.result.text.now) in
    let k = stands_over c.args.names.now fed (subst IsCalm (sym c.requires.comment) tt) grows h in
    let i = comment_here gives k c.requires.comment in
    let new = record c.args.self.now { next = c.end-self.result; comment = c.take_run.new.self; raised = c.take_run.new.errors } in
    rw (← (placed_same c.front-front.ensures.text c.front-front.ensures.at))
    (comment_goes_on gives k c.requires.comment new _ (record { kind_is = refl; last_is = refl; at_is = refl; stays = (refl, refl, c.end-self.ensures text) })
    refl (c.in_ok-take_run.ensures i.0 i.1.body i.1.own i.1.has_read))

pub returns-in_err-take_run-clause-takes : goal.returns-in_err-take_run-clause-takes
returns-in_err-take_run-clause-takes g c = rw (err_is c.from_residual.result _ c.from_residual.ensures.1) (λ table start before text taken grows h.
    let gives = (gives_item g.S.ErrorSink.gives g.S.TokenSink.gives_token) in
    let fed = placed c.front-front.result.at (chars c.front-front.result.text.now) in
    let k = stands_over c.args.names.now fed (subst IsCalm (sym c.requires.comment) tt) grows h in
    let i = comment_here gives k c.requires.comment in
    cut_refused c.args.run.now.at (data_front c.args.run.now.text.now _ (search rules) c.count_data-count.ensures.counted).0
    (subst (λ (ps : List Placed).
    Takes gives table start text ps taken c.args.names.now c.args.sink.now (Err c.in_err-take_run.field-0.0) c.args.sink.now c.args.self.now)
    (placed_same c.front-front.ensures.text c.front-front.ensures.at)
    (comment_stopped gives k c.requires.comment _ (record c.args.self.now { comment = c.take_run.new.self; raised = c.take_run.new.errors }) _ _
    (c.in_err-take_run.ensures i.0 i.1.body i.1.own i.1.has_read))))

pub returns-clause-few : goal.returns-clause-few
returns-clause-few g c = (omega (arith, c.if-count-eq0.false), (data_front c.args.run.now.text.now _ (search rules) c.count_data-count.ensures.counted).0)

pub returns-in_err-take_run-clause-grows : goal.returns-in_err-take_run-clause-grows
returns-in_err-take_run-clause-grows g c = grind (arith, common_steps)
