use Rattle.hserialize.proofs.Names.{arith, common_steps}
use Rattle.hserialize.proofs.PlainNames.{plain-are}
use Rattle.hserialize.proofs.plain_names.PlainNames.are_plain_attributes.Goals as goal

pub returns-then-not-are_plain : goal.returns-then-not-are_plain
returns-then-not-are_plain c = grind (arith, plain-are c.args.self.now.table.now c.args.attrs c.are_names.ensures.names)

pub returns-then-attrs_clean : goal.returns-then-attrs_clean
returns-then-attrs_clean c = grind (arith, plain-are c.args.self.now.table.now c.args.attrs c.are_names.ensures.names)

pub returns-else-attrs_clean : goal.returns-else-attrs_clean
returns-else-attrs_clean c = grind (arith, plain-are c.args.self.now.table.now c.args.attrs c.are_names.ensures.names)

pub returns-then-len-eq0 : goal.returns-then-len-eq0
returns-then-len-eq0 c = grind (arith, common_steps)
