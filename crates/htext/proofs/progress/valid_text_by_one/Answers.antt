use Rattle.htext.proofs.Names.{sym, ◌∙◌, arith, utf8_valid_len-IsUtf8, take_all}
use Rattle.htext.proofs.progress.valid_text_by_one.Goals as goal

pub returns-in-Ok : goal.returns-in-Ok
returns-in-Ok c = c.in-Ok.ensures.cases.0 ∙ sym (rw (utf8_valid_len-IsUtf8 _ c.in-Ok.ensures.cases.1) (take_all _ _ (omega arith)))
