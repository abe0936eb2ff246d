use Rattle.hserialize.proofs.Names.{arith}
use Rattle.hserialize.proofs.PlainNames.{plain-to}
use Rattle.hserialize.proofs.plain_names.PlainNames.are_plain.Goals as goal

pub returns-then-end-self : goal.returns-then-end-self
returns-then-end-self c = let names = c.args.self.now in
    plain-to names.table.now names.end c.args.attrs names.plain (omega (arith, c.requires, c.if-end-self.true))
