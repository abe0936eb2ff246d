use Rattle.html_c.proofs.Tables.{same_told}
use Rattle.html_c.proofs.laws.a_flat_form_says_the_same.Goals as goal

pub returns : goal.returns
returns c = same_told c.one_flat_table.ensures
