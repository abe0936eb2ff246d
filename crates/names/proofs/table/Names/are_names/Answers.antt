use Rattle.names.proofs.TableLemmas.{are_names}
use Rattle.names.proofs.table.Names.are_names.Goals as goal

pub returns-clause-names : goal.returns-clause-names
returns-clause-names c = rw (← c.self.view_is) (are_names _ c.self.invariant.0)
