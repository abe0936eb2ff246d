use Rattle.htag.proofs.Vocabulary.{ℕ, ◌<◌, length, sym, ap, ◌∙◌, subst, slice_index}
use Rattle.htag.proofs.AtOnce.{quote_first}
use Rattle.htag.proofs.at_once.value_end.Goals as goal

pub returns-then-run-plain-clause-counted : goal.returns-then-run-plain-clause-counted
returns-then-run-plain-clause-counted c = let run = c.args.run.now in
    c.requires.counted ∙ quote_first c.args.mark run (subst (λ (k : ℕ). k < length run) c.requires.counted c.if-plain-run.true)
    (ap (slice_index run) (sym c.requires.counted) ∙ c.if-run-plain.true)
