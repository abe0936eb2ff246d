use Rattle.hmarkup.proofs.Lines.{no_word_none}
use Rattle.hmarkup.proofs.quirks.read_line.Goals as goal

pub returns-in_err-kind : goal.returns-in_err-kind
returns-in_err-kind c =
    rw c.from_residual-in_err-kind.ensures (no_word_none c.args.line.now c.in_ok-word.word.now c.in_ok-word.text.now c.in_ok-word.ensures c.in_err-kind.ensures)
