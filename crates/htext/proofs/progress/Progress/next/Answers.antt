use Rattle.htext.proofs.Names.{rules, sym, ◌∙◌}
use Rattle.htext.proofs.Stopping.{nothing_waits, text_next}
use Rattle.htext.proofs.progress.Progress.next.Goals as goal
use Rattle.htext.proofs.progress.Progress.next.Goals.{in-Ok-empty, in-Err}

pub returns-in-Ok : goal.returns-in-Ok
returns-in-Ok c = sym (text_next _ c.args.rest.now _ _ c.in-Ok.ensures.cases.1 (λ e. c.in-Ok.not-empty (c.in-Ok.ensures.cases.0 ∙ e)))

pub returns-in-Refuse-None : goal.returns-in-Refuse-None
returns-in-Refuse-None c = elim c.match-from_utf8.branch [
  | in-Ok-empty w ↦ let cases = rw w.in-Ok-empty.is at c.from_utf8.ensures.cases in nothing_waits _ _ _ _ (sym cases.0 ∙ w.in-Ok-empty.is-empty)
  | in-Err w ↦ search rules
]

pub returns-in-Replace-None : goal.returns-in-Replace-None
returns-in-Replace-None c = elim c.match-from_utf8.branch [
  | in-Ok-empty w ↦ let cases = rw w.in-Ok-empty.is at c.from_utf8.ensures.cases in nothing_waits _ _ _ _ (sym cases.0 ∙ w.in-Ok-empty.is-empty)
  | in-Err w ↦ search rules
]
