use Rattle.htag.proofs.Vocabulary.{sym, ◌∙◌}
use Rattle.htag.proofs.AtOnce.{name_is}
use Rattle.htag.proofs.at_once.tag_name.Goals as goal

pub returns-then-is_ascii_lowercase : goal.returns-then-is_ascii_lowercase
returns-then-is_ascii_lowercase c = λ some. name_is c.args.run.now c.word_run-length.result c.word_run-length.ensures.counted c.word_run-length.ensures.few
    (sym c.is_ascii_lowercase.ensures.value ∙ c.if-is_ascii_lowercase.true) some
