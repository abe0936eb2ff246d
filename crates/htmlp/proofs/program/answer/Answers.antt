use Rattle.htmlp.proofs.Names.{map, refl, string_bytes, sym, ◌∙◌, line_missing, words_without, line_for_version, line_answered, words_refused, arith, common_steps}
use Rattle.htmlp.proofs.Named.{table_missing, quirks_missing}
use Rattle.htmlp.proofs.Outcomes.{passed_on}
use Rattle.htmlp.proofs.program.answer.Goals as goal

pub returns-in_err-keys : goal.returns-in_err-keys
returns-in_err-keys g c = λ has. line_missing _ c.in_err-keys.ensures (passed_on c.from_residual.ensures.1) refl refl

pub returns-then-asks_version : goal.returns-then-asks_version
returns-then-asks_version g c =
    λ has. line_for_version (map string_bytes c.args.words.now) has (sym c.asks_version.ensures ∙ c.if-asks_version.true) c.write_version.ensures refl

pub returns-in_err-line : goal.returns-in_err-line
returns-in_err-line g c = λ has. line_answered (map string_bytes c.args.words.now) has (sym c.asks_version.ensures ∙ c.if-asks_version.false)
    (words_refused _ (passed_on c.from_residual-in_err-line.ensures.1) c.in_err-line.ensures.fault c.in_err-line.ensures.memory refl refl)

pub returns-in_err-table : goal.returns-in_err-table
returns-in_err-table g c = λ has. line_answered _ has (sym c.asks_version.ensures ∙ c.if-asks_version.false)
    (words_without _ (table_missing _ _ _ _ c.in_ok-line.ensures.says c.in_err-table.ensures) (passed_on c.from_residual-in_err-table.ensures.1) refl refl)

pub returns-in_err-quirks : goal.returns-in_err-quirks
returns-in_err-quirks g c = λ has. line_answered _ has (sym c.asks_version.ensures ∙ c.if-asks_version.false)
    (words_without _ (quirks_missing _ _ _ _ c.in_ok-line.ensures.says _ c.in_ok-table.ensures c.in_err-quirks.ensures)
    (passed_on c.from_residual-in_err-quirks.ensures.1) refl refl)

pub returns : goal.returns
returns g c = λ has. line_answered _ has (sym c.asks_version.ensures ∙ c.if-asks_version.false)
    (c.answer_with-outcome.ensures _ c.in_ok-line.ensures.says c.in_ok-table.ensures c.in_ok-quirks.ensures)

pub answer_with-outcome-requires : goal.answer_with-outcome-requires
answer_with-outcome-requires g c = grind (arith, common_steps)
