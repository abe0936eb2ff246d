use Rattle.htoken.proofs.Names.{false, refl, rules, kept_none, kept_all, ◌++◌, ◌∙◌, subst, sym, [], ◌∷◌, gives_item, Reads}
use Rattle.htoken.proofs.Going.{ran_out_of}
use Rattle.htoken.proofs.InReference.{taken_by_walk, found_with, reference_goes_on}
use Rattle.htoken.proofs.tokenizer.Tokenizer.in_reference.Goals as goal

pub returns-in-Some : goal.returns-in-Some
returns-in-Some g c = λ table start names text taken h.
    let same = c.in-Some.ensures.ended refl in
    c.end_reference.ensures table start names text taken (found_with table _ _ c.args.p _ same (c.in-Some.ensures.taken table) c.in-Some.ensures.number)
    (subst (λ w. Reads table start (record c.args.self.now { reference = w }) names text (c.args.p ∷ []) taken) (sym same) h)

pub returns-in-None : goal.returns-in-None
returns-in-None g c =
    λ table start names text taken h. reference_goes_on _ h c.requires _ (record c.args.self.now { held = c.clear.new.self }) _ (c.clear.ensures.items
    ∙ sym (kept_none c.take.new.self.state (c.args.self.now.held.items ++ c.args.p ∷ []) (sym c.is_number.ensures ∙ c.if-is_number.true)))
    c.in-None.ensures.number
    (c.in-None.ensures.taken table false _ c.args.p (taken_by_walk (gives_item g.S.ErrorSink.gives g.S.TokenSink.gives_token) h c.requires) refl)

pub returns-in_ok-push-in-None-2 : goal.returns-in_ok-push-in-None-2
returns-in_ok-push-in-None-2 g c = λ table start names text taken h.
    reference_goes_on _ h c.requires _ (record c.args.self.now { held = c.push.new.self }) _ (c.in_ok-push-in-None-2.ensures.items
    ∙ sym (kept_all c.take.new.self.state (c.args.self.now.held.items ++ c.args.p ∷ []) (sym c.is_number.ensures ∙ c.if-is_number.false)))
    c.in-None-2.ensures.number
    (c.in-None-2.ensures.taken table false _ c.args.p (taken_by_walk (gives_item g.S.ErrorSink.gives g.S.TokenSink.gives_token) h c.requires) refl)

pub returns-in_err-push-in-None-2 : goal.returns-in_err-push-in-None-2
returns-in_err-push-in-None-2 g c = λ table start names text taken h. ran_out_of h (search rules)
