use Rattle.hparse.proofs.Names.{arith, elements}
use Rattle.hparse.proofs.parsed.Parsed.origin.Goals as goal

pub returns : goal.returns
returns c = grind (arith, elements)

pub returns-in_err-get : goal.returns-in_err-get
returns-in_err-get c = grind (arith, elements)
