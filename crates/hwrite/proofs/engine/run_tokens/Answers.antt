use Rattle.hwrite.proofs.Vocabulary.{List, ℕ, err_from_is_err_and, string_bytes, subst, Answers, of_document, IsUnrefusedText, as_document, tokens_text, Prints, WritesText}
use Rattle.hwrite.proofs.DraftRead.{lines_lost, lines_read, lines_refused}
use Rattle.hwrite.proofs.Written.{not_read, comes_to_text}
use Rattle.hwrite.proofs.engine.run_tokens.Goals as goal

pub returns-in_err-text-in-Ok-clause-runs : goal.returns-in_err-text-in-Ok-clause-runs
returns-in_err-text-in-Ok-clause-runs g c = let options = c.args.options.now in let e = err_from_is_err_and c.from_residual.result c.from_residual.ensures.1 in
    rw (e.1, e.2)
    (not_read g.W.Target.written g.W.Target.failed g.S.Source.left g.S.Source.failed _ _ _ c.args.piece c.args.source.now c.read_into-draft.new.source
    (λ bytes why its. its) c.args.target.now c.in_err-text-in-Ok.field-0.0 (lines_lost g.S.Source.left g.S.Source.failed options.table.now options.bad_bytes
    options.limits.input c.new.result c.new.ensures c.args.piece c.args.source.now c.read_into-draft.new.source c.read_into-draft.result.0
    c.read_into-draft.result.1 c.in-Ok.names c.in-Ok.is c.in_err-text-in-Ok.field-0.0 c.in_err-text-in-Ok.ensures c.read_into-draft.ensures))

pub returns-in_ok-text-in-Ok-clause-runs : goal.returns-in_ok-text-in-Ok-clause-runs
returns-in_ok-text-in-Ok-clause-runs g c = let options = c.args.options.now in
    comes_to_text g.W.Target.written g.W.Target.failed g.S.Source.left g.S.Source.failed
    (Prints (Answers options.table.now (of_document options.bad_bytes options.limits.input)) tokens_text) _
    (IsUnrefusedText (as_document options.table.now options.bad_bytes options.limits.input)) c.args.piece c.args.source.now c.read_into-draft.new.source
    c.args.target.now c.write_text.new.target (string_bytes c.in_ok-text-in-Ok.text) (string_bytes c.in_ok-text-in-Ok.text) c.write_text.result
    (lines_read g.S.Source.left g.S.Source.failed options.table.now options.bad_bytes options.limits.input c.new.result c.new.ensures c.args.piece
    c.args.source.now c.read_into-draft.new.source c.read_into-draft.result.0 c.read_into-draft.result.1 c.in-Ok.names c.in-Ok.is
    (string_bytes c.in_ok-text-in-Ok.text) c.in_ok-text-in-Ok.ensures c.read_into-draft.ensures) (λ bytes its. its)
    (subst (λ (text : List ℕ). WritesText g.W.Target.written g.W.Target.failed text c.args.target.now c.write_text.new.target c.write_text.result)
    c.as_bytes.ensures.value c.write_text.ensures.text)

pub returns-in-Err-clause-runs : goal.returns-in-Err-clause-runs
returns-in-Err-clause-runs g c = let options = c.args.options.now in
    not_read g.W.Target.written g.W.Target.failed g.S.Source.left g.S.Source.failed _ _ _ c.args.piece c.args.source.now c.read_into-draft.new.source
    (λ bytes why its. its) c.args.target.now c.in-Err.refusal (lines_refused g.S.Source.left g.S.Source.failed options.table.now options.bad_bytes
    options.limits.input c.new.result c.new.ensures c.args.piece c.args.source.now c.read_into-draft.new.source c.read_into-draft.result.0
    c.read_into-draft.result.1 c.in-Err.refusal c.in-Err.is c.read_into-draft.ensures)
