use Rattle.html_c.proofs.Names.{refl, rules, arith, common_steps}
use Rattle.html_c.proofs.Puts.{both}
use Rattle.html_c.proofs.rows.put_words.Goals as goal

pub returns-in-Doctype : goal.returns-in-Doctype
returns-in-Doctype c = both c.put_word-public_id.ensures (both c.put_word-system_id.ensures c.put_word.ensures refl) (search rules)

pub returns-in-Element : goal.returns-in-Element
returns-in-Element c = both c.put_word-end.ensures c.put_attributes.ensures (search rules)

pub returns-in-Document : goal.returns-in-Document
returns-in-Document c = grind (arith, common_steps)
