use Rattle.htoken.proofs.OneCut.{no_tokens_of_refused, one_refusal}
use Rattle.htoken.proofs.cuts.one_refusal.Goals as goal

pub returns-clause-either : goal.returns-clause-either
returns-clause-either c = no_tokens_of_refused

pub returns-clause-refusal : goal.returns-clause-refusal
returns-clause-refusal c = one_refusal
