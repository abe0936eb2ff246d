use Rattle.charref.proofs.Names.{refl, sym, Ok, core}
use Rattle.charref.proofs.Core.{core_readable}
use Rattle.charref.proofs.Forms.{refuses_parsed}
use Rattle.charref.proofs.table.Table.core.Goals as goal

pub returns-clause-err : goal.returns-clause-err
returns-clause-err c = refuses_parsed (Ok core) core c.in_ok-from_slice.field-0.items c.of_flat.result refl core_readable (sym c.in_ok-from_slice.ensures.items)
    c.of_flat.ensures.err
