use Rattle.html_c.proofs.Names.{Flat}
use Rattle.html_c.proofs.Tables.{table_is}
use Rattle.html_c.proofs.given.flat_table.Goals as goal

pub returns : goal.returns
returns c = table_is Flat c.requires (c.as_flat-form.ensures.readable, c.in_ok-table.ensures.ok)
