use Rattle.htext.proofs.Texts.{characters_among-items, errors_among-items}
use Rattle.htext.proofs.laws.items_are_characters_and_errors.Goals as goal

pub returns-clause-characters : goal.returns-clause-characters
returns-clause-characters c = characters_among-items

pub returns-clause-errors : goal.returns-clause-errors
returns-clause-errors c = errors_among-items
