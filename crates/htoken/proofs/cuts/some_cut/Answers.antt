use Rattle.htoken.proofs.SomeCut.{some_span, some_cut}
use Rattle.htoken.proofs.cuts.some_cut.Goals as goal

pub returns-clause-span : goal.returns-clause-span
returns-clause-span c = some_span

pub returns-clause-cut : goal.returns-clause-cut
returns-clause-cut c = some_cut
