use Rattle.htoken.proofs.OneSpan.{one_span, one_data_span}
use Rattle.htoken.proofs.cuts.one_span.Goals as goal

pub returns-clause-in_data : goal.returns-clause-in_data
returns-clause-in_data c = one_data_span

pub returns-clause-in_any : goal.returns-clause-in_any
returns-clause-in_any c = one_span
