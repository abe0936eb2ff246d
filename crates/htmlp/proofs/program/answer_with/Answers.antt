use Rattle.htmlp.proofs.Names.{List, ℕ, refl, sym, ap, ◌∙◌, option_map, Bor, words_without, file_answered, file_missing, words_with_file, words_without_file}
use Rattle.htmlp.proofs.Named.{limits_refused, context_refused, tells}
use Rattle.htmlp.proofs.Outcomes.{passed_on}
use Rattle.htmlp.proofs.program.answer_with.Goals as goal

pub returns-in_err-limits : goal.returns-in_err-limits
returns-in_err-limits g c = λ words says found listed. words_without _
    (limits_refused _ _ _ _ says _ _ found listed c.in_err-limits.ensures.0 c.in_err-limits.ensures.1) (passed_on c.from_residual.ensures.1) refl refl

pub returns-in-Err : goal.returns-in-Err
returns-in-Err g c = λ words says found listed.
    words_without _ (context_refused _ _ _ _ says _ _ found listed c.in_ok-limits.ensures.0 c.in-Err.ensures.1 (c.in-Err.ensures.0, refl)) refl refl refl

pub returns-in-Some-open : goal.returns-in-Some-open
returns-in-Some-open g c = λ words says found listed.
    words_with_file _ c.in-Some.name.now (tells _ _ _ _ says _ _ found listed c.in_ok-limits.ensures.0 c.in-Ok.ensures c.in_ok-limits.ensures.1)
    (sym says.file_is ∙ ap (option_map (λ (s : Bor (List ℕ)). s.now)) c.in-Some.is)
    (file_answered c.in-Some-open.file _ c.in-Some-open.ensures.opened c.answer_input.ensures) refl

pub returns-in-None-open : goal.returns-in-None-open
returns-in-None-open g c = λ words says found listed.
    words_with_file _ c.in-Some.name.now (tells _ _ _ _ says _ _ found listed c.in_ok-limits.ensures.0 c.in-Ok.ensures c.in_ok-limits.ensures.1)
    (sym says.file_is ∙ ap (option_map (λ (s : Bor (List ℕ)). s.now)) c.in-Some.is) (file_missing (c.in-None-open.ensures.not_opened refl) (refl, refl) refl)
    refl

pub returns-in-None : goal.returns-in-None
returns-in-None g c =
    λ words says found listed. words_without_file _ (tells _ _ _ _ says _ _ found listed c.in_ok-limits.ensures.0 c.in-Ok.ensures c.in_ok-limits.ensures.1)
    (sym says.file_is ∙ ap (option_map (λ (s : Bor (List ℕ)). s.now)) c.in-None.is) c.answer_input-in-None.ensures
