use Rattle.hmodes.proofs.Vocabulary.{◌≡◌, ◌==◌, ℕ, None, ap, sym, subst, ◌∙◌, chars, length, placed, Gives, Hands, run_tokens, SiteOf, put_all, state_of, with_site, State, Building, BuilderStands, TakesToken, has_characters, puts_each}
use Rattle.hmodes.proofs.TextRun.{begun_is, is_with_references, left_is, run_taken, stands_by_run, test_parts}
use Rattle.hmodes.proofs.builder.Builder.put_run.Goals as goal

pub returns : goal.returns
returns c = λ text with_references.
    let b : Building = c.args.self.now in let answer = c.put_run-answer.result in let x : SiteOf ℕ = c.put_run-answer.new.self.site in
    let parts = test_parts (length c.args.run.now == 0) b.refused (puts_each b.state) c.requires.puts in
    let begun = begun_is b _ (state_of c.begin.new.self) c.self.view_is c.begin.ensures in
    subst (λ (o : Building). Hands TakesToken b (run_tokens text) answer o) (sym (left_is b _ (state_of c.put_run-answer.new.self) _ c.keep.new.refused answer
    c.self.view_is (c.put_run-answer.ensures.rest ∙ ap (with_site x) begun) c.keep.ensures))
    (run_taken b parts.1 parts.2 c.args.at c.args.run.now text with_references (has_characters c.args.run.now c.utf8.run (sym parts.0)) c.requires.some answer x
    (subst (λ (s : State ℕ). Gives answer x (put_all c.args.at text s)) begun (c.put_run-answer.ensures.gives text with_references)))

pub invariant_of-self : goal.invariant_of-self
invariant_of-self c = λ none.
    let b : Building = c.args.self.now in let parts = test_parts (length c.args.run.now == 0) b.refused (puts_each b.state) c.requires.puts in
    let stands = subst (λ (o : Building). o.refused ≡ None → BuilderStands o.root o.state) c.self.view_is c.self.invariant in
    let text = placed c.args.at (chars c.args.run.now) in
    stands_by_run (run_tokens text) b _ c.put_run-answer.result stands parts.1 (sym c.keep.ensures ∙ none)
    (returns c text (is_with_references c.args.at c.args.run.now))
