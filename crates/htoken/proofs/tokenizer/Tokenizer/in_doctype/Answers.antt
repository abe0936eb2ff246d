use Rattle.htoken.proofs.Names.{[], ◌∷◌, refl, gives_item, Placed, Takes, err_is}
use Rattle.htoken.specs.declared.state.State.TheVariants as state
use Rattle.htoken.proofs.InMarkup.{markup_stopped, markup_goes_on, markup_ends, doctype_ends}
use Rattle.htoken.proofs.Going.{held_in, kind_in, ran_out_of}
use Rattle.htoken.proofs.tokenizer.Tokenizer.in_doctype.Goals as goal

pub returns-in_err-take_char : goal.returns-in_err-take_char
returns-in_err-take_char g c = rw (err_is c.from_residual.result _ c.from_residual.ensures.1) (λ table start names text taken h.
    let i = held_in h state.Doctype c.requires in
    markup_stopped g.S.ErrorSink.gives g.S.TokenSink.gives_token (λ here text value at errors. (refl, refl, refl)) h (kind_in h state.Doctype c.requires) i _
    c.take_char.new.self _ c.take_char.new.errors _ _ (c.in_err-take_char.ensures i.body i.own i.has_read))

pub returns-then-branch : goal.returns-then-branch
returns-then-branch g c = λ table start names text taken h.
    let i = held_in h state.Doctype c.requires in let next : Placed = c.args.p in
    doctype_ends (λ answer s.
    Takes (gives_item g.S.ErrorSink.gives g.S.TokenSink.gives_token) table start text (next ∷ []) taken names c.args.sink.now answer s c.end_doctype.new.self) _
    c.end_doctype.new.self _ _ (ran_out_of h) (markup_ends g.S.ErrorSink.gives g.S.TokenSink.gives_token (λ here text value at errors. (refl, refl, refl)) h
    (kind_in h state.Doctype c.requires) i (record c.args.self.now { doctype = c.take_char.new.self; raised = c.take_char.new.errors }) _ c.take_char.new.self _
    _ _ _ (record { kind_is = refl; last_is = refl; at_is = refl; stays = (refl, refl, refl) })
    (rw c.if-branch.true at (c.in_ok-take_char.ensures i.body i.own i.has_read))) c.end_doctype.ensures

pub returns-else-branch : goal.returns-else-branch
returns-else-branch g c = λ table start names text taken h.
    let i = held_in h state.Doctype c.requires in
    markup_goes_on g.S.ErrorSink.gives g.S.TokenSink.gives_token (λ here text value at errors. (refl, refl, refl)) h (kind_in h state.Doctype c.requires) i _
    c.take_char.new.self _ _ _ c.requires (record { kind_is = refl; last_is = refl; at_is = refl; stays = (refl, refl, refl) })
    (kind_in h state.Doctype c.requires) (λ x. x) (rw c.if-branch.false at (c.in_ok-take_char.ensures i.body i.own i.has_read))
