use Rattle.hwrite.proofs.Vocabulary.{arith, common_steps}
use Rattle.hwrite.proofs.words.push_line.Goals as goal

pub returns-in-Char : goal.returns-in-Char
returns-in-Char c = absurd (c.requires _ _ c.in-Char.is)

pub returns-in_ok-push_attributes-in-Start : goal.returns-in_ok-push_attributes-in-Start
returns-in_ok-push_attributes-in-Start c = grind (arith, common_steps)
