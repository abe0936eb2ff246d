use Rattle.charref.proofs.Names.{sym, arith, nat_tests}
use Rattle.charref.proofs.Begins.{first_differs}
use Rattle.charref.proofs.key.begin_at_once.Goals as goal

pub returns-else-differ-eq0 : goal.returns-else-differ-eq0
returns-else-differ-eq0 c = sym (first_differs c.args.count c.args.bytes.now c.args.name.now c.requires.few c.requires.bytes c.requires.name
    (grind (arith, nat_tests, c.if-differ-eq0.false)))
