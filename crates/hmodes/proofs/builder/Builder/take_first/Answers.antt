use Rattle.hmodes.proofs.Vocabulary.{◌≡◌, ◌∙◌, ℕ, List, length, ap, sym, subst, refl, Ok, chars, err_from_is_err_and, chars-nil, placed, Hands, run_tokens, TakesToken, nil_from_length, arith, common_steps}
use Rattle.hmodes.proofs.TextRun.{first_refused, is_with_references, rest_clean, rest_is, rest_taken, some_clean}
use Rattle.hmodes.proofs.builder.Builder.take_first.Goals as goal

pub returns-in_default : goal.returns-in_default
returns-in_default c = let none : length c.args.run.now ≡ 0 = ap length (sym c.chars-chars.ensures.rest) ∙ c.in_default.ensures.steps.0.0 in
    subst (λ (l : List ℕ). Hands TakesToken c.args.self.now (run_tokens (placed c.args.at l)) (Ok tt) c.args.self.now)
    (sym (ap chars (nil_from_length c.args.run.now none) ∙ chars-nil)) (refl, refl)

pub returns-in_err-take_text : goal.returns-in_err-take_text
returns-in_err-take_text c = let e = err_from_is_err_and c.from_residual.result c.from_residual.ensures.1 in
    rw (e.1, e.2) (first_refused c.args.self.now c.take_text.new.self c.args.at c.args.run.now _ c.in-Some.ch c.utf8.run
    (sym c.chars-chars.ensures.rest ∙ c.in-Some.ensures.steps.0) c.in_err-take_text.field-0.0 c.in_err-take_text.ensures)

pub put_run-requires-clause-some : goal.put_run-requires-clause-some
put_run-requires-clause-some c = some_clean (chars c.as_str-rest.result.now) (rest_clean c.args.run.now c.as_str-rest.result.now c.in-Some.ch c.utf8.run
    (rest_is _ c.chars-chars.ensures.rest c.in-Some.ensures.steps.0 c.as_str-rest.ensures) c.requires.clean)

pub pend_run-requires-clause-some : goal.pend_run-requires-clause-some
pend_run-requires-clause-some c = some_clean (chars c.as_str-rest.result.now) (rest_clean c.args.run.now c.as_str-rest.result.now c.in-Some.ch c.utf8.run
    (rest_is _ c.chars-chars.ensures.rest c.in-Some.ensures.steps.0 c.as_str-rest.ensures) c.requires.clean)

pub returns-then-puts_run : goal.returns-then-puts_run
returns-then-puts_run c = rest_taken c.args.self.now c.take_text.new.self c.args.at c.args.run.now c.as_str-rest.result.now c.in-Some.ch c.utf8.run
    (rest_is _ c.chars-chars.ensures.rest c.in-Some.ensures.steps.0 c.as_str-rest.ensures) c.rest_place-next.result c.rest_place-next.ensures
    c.in_ok-take_text.ensures c.put_run.result c.put_run.new.self (c.put_run.ensures
    (placed c.rest_place-next.result (chars c.as_str-rest.result.now)) (is_with_references c.rest_place-next.result c.as_str-rest.result.now))

pub returns-then-pends_run : goal.returns-then-pends_run
returns-then-pends_run c = rest_taken c.args.self.now c.take_text.new.self c.args.at c.args.run.now c.as_str-rest.result.now c.in-Some.ch c.utf8.run
    (rest_is _ c.chars-chars.ensures.rest c.in-Some.ensures.steps.0 c.as_str-rest.ensures) c.rest_place-next.result c.rest_place-next.ensures
    c.in_ok-take_text.ensures c.pend_run.result c.pend_run.new.self c.pend_run.ensures

pub returns : goal.returns
returns c = rest_taken c.args.self.now c.take_text.new.self c.args.at c.args.run.now c.as_str-rest.result.now c.in-Some.ch c.utf8.run
    (rest_is _ c.chars-chars.ensures.rest c.in-Some.ensures.steps.0 c.as_str-rest.ensures) c.rest_place-next.result c.rest_place-next.ensures
    c.in_ok-take_text.ensures c.take_run_by_one.result c.take_run_by_one.new.self c.take_run_by_one.ensures

pub take_run_by_one-requires : goal.take_run_by_one-requires
take_run_by_one-requires c = grind (arith, common_steps)
