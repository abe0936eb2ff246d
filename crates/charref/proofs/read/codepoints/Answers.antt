use Rattle.charref.proofs.Names.{arith, common_steps}
use Rattle.charref.proofs.read.codepoints.Goals as goal

pub returns-in_err-codepoint-in-len2-2-clause-few : goal.returns-in_err-codepoint-in-len2-2-clause-few
returns-in_err-codepoint-in-len2-2-clause-few c = grind (arith, common_steps)

pub returns-in_err-codepoint-in-len2-clause-few : goal.returns-in_err-codepoint-in-len2-clause-few
returns-in_err-codepoint-in-len2-clause-few c = grind (arith, common_steps)

pub returns-in_err-codepoint-in-len1-clause-few : goal.returns-in_err-codepoint-in-len1-clause-few
returns-in_err-codepoint-in-len1-clause-few c = grind (arith, common_steps)

pub returns-in_ok-codepoint-in-len2-2-clause-value : goal.returns-in_ok-codepoint-in-len2-2-clause-value
returns-in_ok-codepoint-in-len2-2-clause-value c = grind (arith, common_steps)

pub returns-in_err-codepoint-in-len2-2-clause-value : goal.returns-in_err-codepoint-in-len2-2-clause-value
returns-in_err-codepoint-in-len2-2-clause-value c = grind (arith, common_steps)
