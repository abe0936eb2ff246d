use Rattle.hparse.proofs.Names.{rules, code_rank, answers_always}
use Rattle.hparse.proofs.collect.sort_errors.Goals as goal

pub returns-clause-sorted : goal.returns-clause-sorted
returns-clause-sorted c = c.in_ok-sort_by_key.ensures.sorted (λ e. (e.at, code_rank e.code)) (answers_always _ _ _ (λ f a r g h. search rules))

pub returns-clause-permutation : goal.returns-clause-permutation
returns-clause-permutation c = search rules
