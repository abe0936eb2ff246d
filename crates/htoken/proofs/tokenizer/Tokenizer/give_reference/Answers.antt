use Rattle.htoken.proofs.Names.{◌≡◌, ◌∙◌, ◌+◌, ◌-◌, ℕ, ap, subst, take, drop, length, take_all, length-drop, arith, rules, Hands, run_tokens, gives_item, err_is, drop_min, min}
use Rattle.htoken.proofs.Handing.{HandsEvents-append, run_given, first_refused}
use Rattle.htoken.proofs.tokenizer.Tokenizer.give_reference.Goals as goal

pub returns-in_err-give_piece : goal.returns-in_err-give_piece
returns-in_err-give_piece g c =
    rw (err_is c.from_residual.result _ c.from_residual.ensures.1) (λ names. first_refused g.S.ErrorSink.gives g.S.TokenSink.gives_token names _ _ _
    (drop (length c.args.self.now.held.items + c.args.more - c.args.found.now.left) c.args.self.now.held.items) _ (c.in_err-give_piece.ensures names))

pub returns : goal.returns
returns g c = λ names.
    let held = c.args.self.now.held.items in let count : ℕ = length held + c.args.more - c.args.found.now.left in let all = c.deref.result.now in
    let k_is : c.min.result ≡ min count (length held) = search rules in
    let is : take (length all - c.min.result) (drop c.min.result all) ≡ drop count held = take_all _ _ (omega (arith, length-drop c.min.result all))
    ∙ ap (drop c.min.result) c.deref.ensures.value ∙ ap (λ n. drop n held) k_is ∙ drop_min count held in
    HandsEvents-append (gives_item g.S.ErrorSink.gives g.S.TokenSink.gives_token) names _ _ _ _ _ _ (c.in_ok-give_piece.ensures names)
    (run_given g.S.ErrorSink.gives g.S.TokenSink.gives_token names _ _ (drop count held) _
    (subst (λ x. Hands g.S.TokenSink.gives_token c.give_piece.new.sink (run_tokens x) c.give_all.result c.give_all.new.sink) is c.give_all.ensures))
