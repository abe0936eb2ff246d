use Rattle.charref.proofs.Names.{arith, nat_tests}
use Rattle.charref.proofs.Begins.{order_by_byte, order_by_size}
use Rattle.charref.proofs.key.is_key_before.Goals as goal
use Rattle.charref.proofs.key.is_key_before.Goals.{else-same-size-via-then-same-size+else-same-other_size, else-same-size-via-else-same-size}

pub returns-then-same-other_size : goal.returns-then-same-other_size
returns-then-same-other_size c =
    order_by_byte c.args.size c.args.other_size c.args.bytes.now c.args.others.now (omega (arith, c.requires.longer, c.if-others-ge-AT_ONCE.true))
    c.if-others-ge-AT_ONCE.true (grind (arith, nat_tests, c.if-differ-ne0.true)) c.if-same-size.true c.if-same-other_size.true

pub returns-then-differ-ne0 : goal.returns-then-differ-ne0
returns-then-differ-ne0 c =
    order_by_size c.args.size c.args.other_size c.args.bytes.now c.args.others.now (omega (arith, c.requires.longer, c.if-others-ge-AT_ONCE.true))
    c.if-others-ge-AT_ONCE.true (grind (arith, nat_tests, c.if-differ-ne0.true)) (elim c.else-same-size.branch [
      | else-same-size-via-then-same-size+else-same-other_size w ↦ omega (arith, w.if-same-other_size.false)
      | else-same-size-via-else-same-size w ↦ omega (arith, w.if-same-size.false)
    ])
