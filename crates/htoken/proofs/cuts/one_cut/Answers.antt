use Rattle.htoken.proofs.OneCut.{one_whole_cut, one_list_of_tokens}
use Rattle.htoken.proofs.cuts.one_cut.Goals as goal

pub returns-clause-spans : goal.returns-clause-spans
returns-clause-spans c = one_whole_cut

pub returns-clause-tokens : goal.returns-clause-tokens
returns-clause-tokens c = one_list_of_tokens
