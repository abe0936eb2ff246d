use Rattle.htoken.proofs.Names.{rules, sym, ◌∙◌, ap, Err, Refusal, gives_item, err_is}
use Rattle.htoken.proofs.Going.{ran_out_of}
use Rattle.htoken.proofs.InData.{opened_by, nothing_opens, comment_opens, doctype_opens, cdata_opens, declaration_opens, declaration_follows}
use Rattle.htoken.proofs.tokenizer.Tokenizer.markup_declaration_open.Goals as goal

pub returns-in-Nothing : goal.returns-in-Nothing
returns-in-Nothing g c = λ table start names text taken h. nothing_opens _ h c.requires.0 c.requires.1 (record c.args.self.now { held = c.push.new.self })
    c.in_ok-push.ensures.items (sym c.is_plain.ensures ∙ c.if-not-is_plain.false) _ c.deref.ensures.value _ c.in-Nothing.ensures

pub returns-in-Comment : goal.returns-in-Comment
returns-in-Comment g c = λ table start names text taken h. comment_opens _ h c.requires.0 c.requires.1 (record c.args.self.now { held = c.push.new.self })
    c.in_ok-push.ensures.items (sym c.is_plain.ensures ∙ c.if-not-is_plain.false) _ c.deref.ensures.value _ _ c.comment.ensures c.in-Comment.ensures

pub returns-in-Doctype : goal.returns-in-Doctype
returns-in-Doctype g c = λ table start names text taken h. doctype_opens _ h c.requires.0 c.requires.1 (record c.args.self.now { held = c.push.new.self })
    c.in_ok-push.ensures.items (sym c.is_plain.ensures ∙ c.if-not-is_plain.false) _ c.deref.ensures.value _ _ c.new.ensures c.in-Doctype.ensures

pub returns-in-Cdata : goal.returns-in-Cdata
returns-in-Cdata g c = λ table start names text taken h. cdata_opens _ h c.requires.0 c.requires.1 (record c.args.self.now { held = c.push.new.self })
    c.in_ok-push.ensures.items (sym c.is_plain.ensures ∙ c.if-not-is_plain.false) _ c.deref.ensures.value _ _ _ c.begin_held-in-Cdata.ensures c.in-Cdata.ensures

pub returns-in-Bogus : goal.returns-in-Bogus
returns-in-Bogus g c = λ table start names text taken h. declaration_opens _ h c.requires.0 c.requires.1 (record c.args.self.now { held = c.push.new.self })
    c.in_ok-push.ensures.items (sym c.is_plain.ensures ∙ c.if-not-is_plain.false) _ c.deref.ensures.value _ _ _ c.begin_held-in-Bogus.ensures c.in-Bogus.ensures

pub returns-then-not-is_plain : goal.returns-then-not-is_plain
returns-then-not-is_plain g c = λ table start names text taken h.
    let here = opened_by (gives_item g.S.ErrorSink.gives g.S.TokenSink.gives_token) h c.requires.0 c.requires.1 in
    c.in_comment.ensures table start names text taken (declaration_follows (gives_item g.S.ErrorSink.gives g.S.TokenSink.gives_token) h c.requires.0
    c.requires.1 _ (c.in_ok-begin_held.ensures.1 here.plain) (sym c.is_plain.ensures ∙ c.if-not-is_plain.true))

pub returns-in_err-begin_held : goal.returns-in_err-begin_held
returns-in_err-begin_held g c = rw (err_is c.from_residual.result _ c.from_residual.ensures.1)
    (λ table start names text taken h. ran_out_of h (ap (λ (x : Refusal). Err x) c.in_err-begin_held.ensures))

pub returns-in_err-push : goal.returns-in_err-push
returns-in_err-push g c = λ table start names text taken h. ran_out_of h (search rules)
