use Rattle.htoken.proofs.Names.{sym, arith, common_steps}
use Rattle.htoken.proofs.Declaring.{too_short}
use Rattle.htoken.proofs.markup_declaration_open.spells.Goals as goal

pub returns-then-text-word : goal.returns-then-text-word
returns-then-text-word c = sym (too_short c.args.any_case c.args.word.now c.args.text.now c.if-text-word.true)

pub returns-then-not-is_read_as : goal.returns-then-not-is_read_as
returns-then-not-is_read_as c = grind (arith, common_steps)

pub loop-index-preserved : goal.loop-index-preserved
loop-index-preserved c = grind (arith, common_steps)
