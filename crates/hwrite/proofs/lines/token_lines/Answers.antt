use Rattle.hwrite.proofs.Vocabulary.{◌≡◌, ◌∙◌, List, ℕ, sym, subst, ap, drop_all, map, Token, TokensMean, drafted, lines_of, tok_of, token_lines, Vec}
use Rattle.hwrite.proofs.Drafting.{next_drafted, tokens_are}
use Rattle.hwrite.proofs.lines.token_lines.Goals as goal

pub loop-token-preserved : goal.loop-token-preserved
loop-token-preserved c = next_drafted c.args.run.now.names c.loop-token.draft c.push.new.self c.deref-token-items.result.now c.loop-token.token-index
    c.token-item.result c.loop-token-test.true c.token-item.is c.in_ok-push.ensures ∙ c.loop-token.invariant

pub returns-clause-lines : goal.returns-clause-lines
returns-clause-lines c = λ tokens means.
    let names = c.args.run.now.names in let items : List Token = c.deref-token-items.result.now in
    let means' = subst (λ (ts : List Token). TokensMean names ts tokens) (sym c.deref-token-items.ensures.value) means in
    let all = subst (λ (ts : List Token). drafted c.loop-token.draft (lines_of (map (tok_of names) ts)) ≡ token_lines (map (tok_of names) items))
    (drop_all c.loop-token.token-index items c.loop-token-test.false) c.loop-token.invariant in
    ap (λ (v : Vec ℕ). v.items) c.into_bytes.ensures.value ∙ c.in_ok-text.ensures ∙ all ∙ ap token_lines (tokens_are names items tokens means')
