use Rattle.hwrite.proofs.Vocabulary.{◌≡◌, ℕ, List, true, rules, sym, ◌∙◌, subst, list_all, is_unescaped, arith, common_steps}
use Rattle.hwrite.proofs.Escapes.{escaped-unescaped}
use Rattle.hwrite.proofs.words.push_escaped_text.Goals as goal

pub returns-then-are_unescaped : goal.returns-then-are_unescaped
returns-then-are_unescaped c =
    let all = subst (λ (bytes : List ℕ). list_all is_unescaped bytes ≡ true) c.as_bytes.ensures.value (sym c.are_unescaped.ensures ∙ c.if-are_unescaped.true) in
    let same = escaped-unescaped c.args.source.now all in
    rw same (search rules)

pub loop-ch-preserved : goal.loop-ch-preserved
loop-ch-preserved c = grind (arith, common_steps)

pub returns : goal.returns
returns c = grind (arith, common_steps)
