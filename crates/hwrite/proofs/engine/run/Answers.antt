use Rattle.hwrite.proofs.Vocabulary.{[], err_from_is_err_and, case_in, options_of, own_context, not_printed, ran}
use Rattle.hwrite.proofs.Tasks.{as_parsed, as_tokens, parsed_printed}
use Rattle.hwrite.proofs.Written.{comes_to_text, not_begun, not_read}
use Rattle.hwrite.proofs.engine.run.Goals as goal

pub returns-in-Tokens-clause-runs : goal.returns-in-Tokens-clause-runs
returns-in-Tokens-clause-runs g c = as_tokens g.S.Source.left g.S.Source.failed g.W.Target.written g.W.Target.failed (own_context c.args.command.context)
    (options_of c.args.options.now) c.args.command.piece _ _ _ _ _ c.args.command.escaping c.args.command.task c.in-Tokens.is c.run_tokens.ensures.runs

pub returns-in_err-parser-clause-runs : goal.returns-in_err-parser-clause-runs
returns-in_err-parser-clause-runs g c = let e = err_from_is_err_and c.from_residual.result c.from_residual.ensures.1 in
    as_parsed g.S.Source.left g.S.Source.failed g.W.Target.written g.W.Target.failed (own_context c.args.command.context) (options_of c.args.options.now)
    c.args.command.piece _ _ _ _ _ c.args.command.escaping c.args.command.task c.in_default.not-Tokens
    (rw (e.1, e.2) (not_begun g.S.Source.left g.S.Source.failed g.W.Target.written g.W.Target.failed (own_context c.args.command.context) _ _
    c.args.command.piece c.args.source.now c.args.target.now (options_of c.args.options.now) c.in_err-parser.field-0.0 c.in_err-parser.ensures))

pub returns-in_err-parsed-clause-runs : goal.returns-in_err-parsed-clause-runs
returns-in_err-parsed-clause-runs g c = let opts = options_of c.args.options.now in let context = own_context c.args.command.context in
    let e = err_from_is_err_and c.from_residual-in_err-parsed.result c.from_residual-in_err-parsed.ensures.1 in
    as_parsed g.S.Source.left g.S.Source.failed g.W.Target.written g.W.Target.failed context opts c.args.command.piece _ _ _ _ _ c.args.command.escaping
    c.args.command.task c.in_default.not-Tokens (ran c.in_ok-parser.ensures.0 (rw (e.1, e.2) (not_read g.W.Target.written g.W.Target.failed g.S.Source.left
    g.S.Source.failed _ _ _ c.args.command.piece c.args.source.now c.parse_reader.new.source (λ bytes why its. not_printed why its) c.args.target.now
    c.in_err-parsed.field-0.0 (c.in_err-parsed.ensures.reads opts (case_in context) [] c.in_ok-parser.ensures.1))))

pub returns-clause-runs : goal.returns-clause-runs
returns-clause-runs g c = let opts = options_of c.args.options.now in let context = own_context c.args.command.context in
    as_parsed g.S.Source.left g.S.Source.failed g.W.Target.written g.W.Target.failed context opts c.args.command.piece _ _ _ _ _ c.args.command.escaping
    c.args.command.task c.in_default.not-Tokens (ran c.in_ok-parser.ensures.0 (comes_to_text g.W.Target.written g.W.Target.failed g.S.Source.left
    g.S.Source.failed _ _ _ c.args.command.piece c.args.source.now c.parse_reader.new.source c.args.target.now c.print_parsed-answer.new.target
    c.in_ok-parsed.parsed _ c.print_parsed-answer.result (c.in_ok-parsed.ensures.reads opts (case_in context) [] c.in_ok-parser.ensures.1)
    (λ bytes its. parsed_printed c.args.command.escaping c.args.command.task opts context bytes c.in_ok-parsed.parsed its) c.print_parsed-answer.ensures.text))
