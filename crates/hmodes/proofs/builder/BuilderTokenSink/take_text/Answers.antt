use Rattle.hmodes.proofs.Vocabulary.{◌≡◌, ◌==◌, ℕ, None, sym, subst, ◌∙◌, refl, character, char_rule, numbers, perform, state_of, takes_char, State, StateGives, Building, BuilderStands, TakesTokenAt}
use Rattle.hmodes.proofs.OneChar.{taken_by_rule}
use Rattle.hmodes.proofs.TextRun.{begun_is, left_is, stands_by_token, test_parts}
use Rattle.hmodes.proofs.builder.BuilderTokenSink.take_text.Goals as goal

pub returns : goal.returns
returns c = let b : Building = c.args.self.now in let answer = c.put_one-answer.result in
    let parts = test_parts (c.args.ch == 0) b.refused (takes_char b.state) (sym c.puts_char.ensures ∙ c.if-not-puts_char.false) in
    subst (λ (o : Building). TakesTokenAt c.args.at (character c.args.ch) b answer o)
    (sym (left_is b _ (state_of c.put_one-answer.new.self) _ c.keep.new.refused answer c.self.view_is refl c.keep.ensures))
    (taken_by_rule b parts.1 parts.2 c.args.at c.args.ch parts.0 answer (state_of c.put_one-answer.new.self) (subst
    (λ (s : State ℕ). StateGives answer (state_of c.put_one-answer.new.self) (perform numbers c.args.at (character c.args.ch) (char_rule s.control.mode) s))
    (begun_is b _ (state_of c.begin.new.self) c.self.view_is c.begin.ensures) c.put_one-answer.ensures))

pub invariant_of-self : goal.invariant_of-self
invariant_of-self c = λ none.
    let b : Building = c.args.self.now in let answer = c.put_one-answer.result in
    let parts = test_parts (c.args.ch == 0) b.refused (takes_char b.state) (sym c.puts_char.ensures ∙ c.if-not-puts_char.false) in
    let stands = subst (λ (o : Building). o.refused ≡ None → BuilderStands o.root o.state) c.self.view_is c.self.invariant in
    stands_by_token c.args.at (character c.args.ch) b _ answer stands parts.1 (sym c.keep.ensures ∙ none) (returns c)
