use Rattle.charref.proofs.Names.{arith, ◌∙◌, ap, nat_tests, is_digit_of}
use Rattle.charref.proofs.Numbers.{number_closed, number_open}
use Rattle.charref.proofs.walking.after_digits.Goals as goal

pub returns-in-None-clause-next : goal.returns-in-None-clause-next
returns-in-None-clause-next c = λ table in_value text p held is after.
    rw c.number.ensures (number_closed table in_value c.args.base c.args.value text after p held (is ∙ c.if-ch-eq59.true))

pub returns-in-None-2-clause-next : goal.returns-in-None-2-clause-next
returns-in-None-2-clause-next c = λ table in_value text p held is after. rw c.number-in-None-2.ensures (number_open table in_value c.args.base c.args.value
    text after p held (ap (is_digit_of c.args.base) is ∙ c.in-None-2.ensures) (let no = c.if-ch-eq59.false in grind (arith, nat_tests)))
