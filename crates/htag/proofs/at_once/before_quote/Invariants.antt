use Rattle.htag.proofs.Vocabulary.{◌≡◌, ◌+◌, not, eqb, drop, prefix_len}
use Rattle.htag.proofs.at_once.before_quote.Given as goal

abbrev pub invariant-loop-index : goal.invariant-loop-index
invariant-loop-index l = prefix_len (λ byte. not (eqb byte l.mark)) l.run ≡ l.index + prefix_len (λ byte. not (eqb byte l.mark)) (drop l.index l.run)
