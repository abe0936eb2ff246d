use Rattle.html_c.proofs.Names.{rules}
use Rattle.html_c.proofs.Puts.{both}
use Rattle.html_c.proofs.rows.put_word.Goals as goal

pub returns : goal.returns
returns c = both c.put_at-end.ensures c.put_one.ensures (search rules)
