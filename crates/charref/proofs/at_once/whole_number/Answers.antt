use Rattle.charref.proofs.Names.{arith, nat_tests, refl, Decimal, Hexadecimal, HasSign}
use Rattle.charref.proofs.WholeNumbers.{no_digit_yet, one_digit_more, number_settles, x_taken}
use Rattle.charref.proofs.at_once.whole_number.Goals as goal
use Rattle.charref.proofs.at_once.whole_number.Goals.{in-120, in_default, in_default-2}

pub loop-count-init : goal.loop-count-init
loop-count-init c = elim c.if-bytes-lt2.branch [
  | in-120 w ↦ let sign : HasSign Hexadecimal c.args.bytes.now 2 = x_taken c.args.bytes.now c.requires w.in-120.len_at_least (grind (arith, w.in-120)) in
      rw w.base-is (sign, no_digit_yet Hexadecimal c.args.bytes.now 2 sign)
  | in_default w ↦ rw w.base-is (c.requires, no_digit_yet Decimal c.args.bytes.now 1 c.requires)
  | in_default-2 w ↦ rw w.base-is (c.requires, no_digit_yet Decimal c.args.bytes.now 1 c.requires)
]

pub loop-count-preserved : goal.loop-count-preserved
loop-count-preserved c = (
  c.loop-count.invariant.0,
  one_digit_more _ c.args.bytes.now _ c.loop-count.count c.loop-count.value c.from-ch.result c.in-Some.digit c.more-value.result c.loop-count.invariant.0
      c.loop-count.invariant.1 c.loop-count-test.true c.from-ch.ensures c.in-Some.ensures.0 c.in-Some.ensures.1 c.in-Some.ensures.2 c.more-value.ensures,
)

pub returns : goal.returns
returns c = λ some table.
    let l = c.loop-count in let digits = l.invariant.1 in
    number_settles _ c.args.bytes.now _ l.count l.value _ digits (let after = digits.after in let no = c.if-count-start.false in grind (arith, nat_tests))
    (let no = c.if-count-bytes.false in grind (arith, nat_tests, digits.few)) (let no = c.if-bytes-count-ne59.false in grind (arith, nat_tests)) refl table
