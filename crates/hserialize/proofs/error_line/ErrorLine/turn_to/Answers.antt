use Rattle.hserialize.proofs.Names.{sym, ◌∙◌, rules, the_type}
use denote.Enum.Bare.{differs_false}
use Rattle.hserialize.proofs.error_line.ErrorLine.turn_to.Goals as goal

pub returns-else-ne-clause-code : goal.returns-else-ne-clause-code
returns-else-ne-clause-code c = differs_false the_type (search rules) _ _ (sym c.ne.ensures ∙ c.if-ne.false)
