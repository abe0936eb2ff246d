use Rattle.charref.proofs.Names.{arith, ◌≡◌, ◌∙◌, sym, radix}
use Rattle.charref.proofs.Numbers.{at, below_128, is_one, is_none}
use Rattle.charref.proofs.number.Base.digit.Goals as goal

pub returns-then-digit-radix : goal.returns-then-digit-radix
returns-then-digit-radix c = let ch = c.args.ch in let base = c.args.self in let is : c.from-digit.result ≡ at ch = c.from-digit.ensures in
    let one = is_one base ch (below_128 ch (sym c.if-not-is_ascii.ensures)) (omega (arith, is, c.if-digit-radix.true, c.radix.ensures)) in
    (one.0, is ∙ one.1, omega (arith, is, one.2))

pub returns-else-digit-radix : goal.returns-else-digit-radix
returns-else-digit-radix c = let ch = c.args.ch in let is : c.from-digit.result ≡ at ch = c.from-digit.ensures in
    is_none c.args.self ch (below_128 ch (sym c.if-not-is_ascii.ensures)) (omega (arith, is, c.if-digit-radix.false, c.radix.ensures))
