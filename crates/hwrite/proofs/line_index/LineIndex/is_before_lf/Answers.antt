use Rattle.hwrite.proofs.Vocabulary.{◌≡◌, ◌+◌, ◌<◌, ◌==◌, ◌∙◌, ap, arith, get_or, length, kind_at}
use Rattle.hwrite.proofs.line_index.LineIndex.is_before_lf.Goals as goal

pub returns-then-self-index-gt1 : goal.returns-then-self-index-gt1
returns-then-self-index-gt1 c = λ bytes has.
    let next = c.args.index + 1 in let inside : next < length bytes = omega (arith, has.length_is) in
    let kind = ap (λ kinds. kind_at kinds next) c.deref.ensures.value ∙ has.kinds next inside in
    let turned : next ≡ 1 + c.args.index = omega arith in
    (c.byte_at.ensures (get_or bytes next 0) kind).feeds ∙ ap (λ at. get_or bytes at 0 == 10) turned
