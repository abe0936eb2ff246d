use Rattle.htmlp.proofs.Names.{core, ReadsTable}
use Rattle.htmlp.proofs.Lists.{list_read, list_refused}
use Rattle.htmlp.proofs.program.table.Goals as goal

pub returns-in-Ok : goal.returns-in-Ok
returns-in-Ok g c =
    list_read g.R.Surroundings.world core ReadsTable c.args.surroundings.now c.in-Some.is c.deref.ensures c.in_ok-text-in-Some.ensures.text _ c.in-Ok.ensures.ok

pub returns : goal.returns
returns g c = list_refused g.R.Surroundings.world core ReadsTable c.args.surroundings.now c.in-Some.is c.deref.ensures c.in_ok-text-in-Some.ensures.text _
    c.in-Err.ensures.err
