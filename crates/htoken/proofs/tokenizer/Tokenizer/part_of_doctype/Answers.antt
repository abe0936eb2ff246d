use Rattle.htoken.proofs.Names.{refl, sym, ap, ◌∙◌, subst, arith, list_all, chars, placed, is_data, gives_item, err_is, rules, cut_at, common_steps}
use Rattle.htoken.proofs.Fronts.{placed_same, IsCalm, stands_over, doctype_goes_on, front_passes}
use Rattle.htoken.proofs.Going.{held_in, ran_out_of}
use Rattle.htoken.specs.declared.state.State.TheVariants as state
use Rattle.htoken.proofs.tokenizer.Tokenizer.part_of_doctype.Goals as goal

pub front-front-requires : goal.front-front-requires
front-front-requires g c = cut_at _ c.args.run.now.text.now (search rules) c.floor_char_boundary-count.ensures.boundary

pub take_run-requires : goal.take_run-requires
take_run-requires g c = let test = is_data c.args.self.now.doctype.phase in
    ap (list_all test) c.front-front.ensures.text ∙ front_passes test c.floor_char_boundary-count.result c.args.run.now.text.now
    (omega (arith, c.floor_char_boundary-count.ensures.bound, c.data_run.ensures.counted))

pub returns-clause-takes : goal.returns-clause-takes
returns-clause-takes g c = λ table start before text taken grows h.
    let gives = (gives_item g.S.ErrorSink.gives g.S.TokenSink.gives_token) in let fed = placed c.front-front.result.at (chars c.front-front.result.text.now) in
    let k = stands_over c.args.names.now fed (subst IsCalm (sym c.requires.doctype) tt) grows h in
    let i = held_in k state.Doctype c.requires.doctype in
    let new = record c.args.self.now { next = c.end-self.result; doctype = c.take_run.new.self } in
    rw (← (placed_same c.front-front.ensures.text c.front-front.ensures.at))
    (doctype_goes_on gives k c.requires.doctype new _ (record { kind_is = refl; last_is = refl; at_is = refl; stays = (refl, refl, c.end-self.ensures text) })
    refl refl (c.in_ok-take_run.ensures c.front-front.result.at i.body i.own i.has_read))

pub returns-in_err-take_run-clause-takes : goal.returns-in_err-take_run-clause-takes
returns-in_err-take_run-clause-takes g c = rw (err_is c.from_residual.result _ c.from_residual.ensures.1) (λ table start before text taken grows h.
    let fed = placed c.args.run.now.at (chars c.args.run.now.text.now) in
    let k = stands_over c.args.names.now fed (subst IsCalm (sym c.requires.doctype) tt) grows h in
    ran_out_of k refl)

pub returns-clause-few : goal.returns-clause-few
returns-clause-few g c = (omega (arith, c.if-count-eq0.false), cut_at _ c.args.run.now.text.now (search rules) c.floor_char_boundary-count.ensures.boundary)

pub returns-in_err-take_run-clause-grows : goal.returns-in_err-take_run-clause-grows
returns-in_err-take_run-clause-grows g c = grind (arith, common_steps)
