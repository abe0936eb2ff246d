-- What the values of the options say, or the first that is no number in its range.
use Rattle.htmlp.proofs.Names.{◌∙◌, sym, ap, inl, inr, rules, escaping_of}
use Rattle.htmlp.proofs.Outcomes.{fails}
use Rattle.htmlp.proofs.line.said.Goals as goal

pub returns-in_err-piece-clause-says : goal.returns-in_err-piece-clause-says
returns-in_err-piece-clause-says c = fails _ _ _ _ c.from_residual.ensures.1 (inl (inl c.in_err-piece.ensures.says))

pub returns-in_err-nodes-clause-says : goal.returns-in_err-nodes-clause-says
returns-in_err-nodes-clause-says c =
    fails _ _ _ _ c.from_residual-in_err-nodes.ensures.1 (inl (inr (c.in_ok-piece.ensures.says.0, inl c.in_err-nodes.ensures.says)))

pub returns-in_err-open-clause-says : goal.returns-in_err-open-clause-says
returns-in_err-open-clause-says c = fails _ _ _ _ c.from_residual-in_err-open.ensures.1
    (inl (inr (c.in_ok-piece.ensures.says.0, inr (c.in_ok-nodes.ensures.says.0, inl c.in_err-open.ensures.says))))

pub returns-in_err-escape-clause-says : goal.returns-in_err-escape-clause-says
returns-in_err-escape-clause-says c = fails _ _ _ _ c.from_residual-in_err-escape.ensures.1
    (inl (inr (c.in_ok-piece.ensures.says.0, inr (c.in_ok-nodes.ensures.says.0, inr (c.in_ok-open.ensures.says.0, inl c.in_err-escape.ensures.says)))))

pub returns-in_err-bad_bytes-clause-says : goal.returns-in_err-bad_bytes-clause-says
returns-in_err-bad_bytes-clause-says c = let (none, why) = c.in_err-bad_bytes.ensures in
    fails _ _ _ _ c.from_residual-in_err-bad_bytes.ensures.1
    (inr ((c.in_ok-piece.ensures.says.0, (c.in_ok-nodes.ensures.says.0, (c.in_ok-open.ensures.says.0, (c.in_ok-escape.ensures.says.0, tt)))), none, why))

pub returns-clause-says : goal.returns-clause-says
returns-clause-says c = let task = sym c.named.ensures ∙ c.unwrap-task.ensures in
    let how = c.escaping_of.ensures ∙ ap escaping_of c.in_ok-escape.ensures.says.1 in
    let piece = c.in_ok-piece.ensures.says in let nodes = c.in_ok-nodes.ensures.says in let open_now = c.in_ok-open.ensures.says in
    let escape = c.in_ok-escape.ensures.says in
    search rules

pub returns-clause-in_range : goal.returns-clause-in_range
returns-clause-in_range c = c.in_ok-piece.ensures.in_range
