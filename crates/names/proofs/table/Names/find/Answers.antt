use Rattle.names.proofs.Vocabulary.{◌+◌, length, known, ap, sym, ◌∙◌, bytes_eq, option_map, position, Texts, keys, arith, common_steps}
use Rattle.names.proofs.Places.{place_of_known, place_of_other}
use Rattle.names.proofs.table.Names.find.Goals as goal

pub returns-in-Some-clause-place : goal.returns-in-Some-clause-place
returns-in-Some-clause-place c = sym (place_of_known (keys c.self.inside.others) c.args.text.now c.in-Some.index c.in-Some.ensures)
    ∙ ap (λ (names : Texts). position (bytes_eq c.args.text.now) names) c.self.view_is

pub returns-in_err-index-clause-place : goal.returns-in_err-index-clause-place
returns-in_err-index-clause-place c = c.from_residual.ensures ∙ ap (option_map (λ n. length known + n)) (sym c.in_err-index.was ∙ c.get_index_of.ensures.index)
    ∙ sym (place_of_other (keys c.self.inside.others) c.args.text.now c.in_default.ensures)
    ∙ ap (λ (names : Texts). position (bytes_eq c.args.text.now) names) c.self.view_is

pub returns-clause-place : goal.returns-clause-place
returns-clause-place c = ap (option_map (λ n. length known + n)) (sym c.in_ok-index.was ∙ c.get_index_of.ensures.index)
    ∙ sym (place_of_other (keys c.self.inside.others) c.args.text.now c.in_default.ensures)
    ∙ ap (λ (names : Texts). position (bytes_eq c.args.text.now) names) c.self.view_is

pub overflow_add-index : goal.overflow_add-index
overflow_add-index c = grind (arith, common_steps)

pub overflow_cast-index : goal.overflow_cast-index
overflow_cast-index c = grind (arith, common_steps)
