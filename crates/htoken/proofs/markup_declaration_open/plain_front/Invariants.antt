use Rattle.htoken.proofs.Names.{◌≡◌, true, take, all, is_plain_in_bogus}
use Rattle.htoken.proofs.markup_declaration_open.plain_front.Given as goal

abbrev pub invariant-loop-index : goal.invariant-loop-index
invariant-loop-index l = all is_plain_in_bogus (take l.index l.text) ≡ true
