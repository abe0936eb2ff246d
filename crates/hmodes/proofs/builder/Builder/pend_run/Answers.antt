use Rattle.hmodes.proofs.Vocabulary.{◌≡◌, ◌==◌, ℕ, None, refl, sym, subst, ◌∙◌, chars, length, placed, Hands, run_tokens, state_of, State, Building, BuilderStands, TakesToken, has_characters, pends_each, OnOk}
use Rattle.hmodes.proofs.Pending.{pended, run_pended}
use Rattle.hmodes.proofs.TextRun.{begun_is, left_is, stands_by_run, test_parts}
use Rattle.hmodes.proofs.builder.Builder.pend_run.Goals as goal

pub returns : goal.returns
returns c = let b : Building = c.args.self.now in let answer = c.pend_run-answer.result in let text = placed c.args.at (chars c.args.run.now) in
    let parts = test_parts (length c.args.run.now == 0) b.refused (pends_each b.state) c.requires.pends in
    subst (λ (o : Building). Hands TakesToken b (run_tokens text) answer o)
    (sym (left_is b _ (state_of c.pend_run-answer.new.self) _ c.keep.new.refused answer c.self.view_is refl c.keep.ensures))
    (run_pended b parts.1 parts.2 c.args.at (chars c.args.run.now) (has_characters c.args.run.now c.utf8.run (sym parts.0)) c.requires.some answer
    (state_of c.pend_run-answer.new.self) (subst (λ (s : State ℕ). OnOk answer (state_of c.pend_run-answer.new.self ≡ pended text s))
    (begun_is b _ (state_of c.begin.new.self) c.self.view_is c.begin.ensures) c.pend_run-answer.ensures.pending) c.pend_run-answer.ensures.memory)

pub invariant_of-self : goal.invariant_of-self
invariant_of-self c = λ none.
    let b : Building = c.args.self.now in let parts = test_parts (length c.args.run.now == 0) b.refused (pends_each b.state) c.requires.pends in
    let stands = subst (λ (o : Building). o.refused ≡ None → BuilderStands o.root o.state) c.self.view_is c.self.invariant in
    stands_by_run (run_tokens (placed c.args.at (chars c.args.run.now))) b _ c.pend_run-answer.result stands parts.1 (sym c.keep.ensures ∙ none) (returns c)
