use Rattle.charref.proofs.Names.{◌∷◌, take, SearchHasRead}
use Rattle.charref.proofs.search.search_for.Given as goal

abbrev pub invariant-loop-byte : goal.invariant-loop-byte
invariant-loop-byte l = SearchHasRead l.search l.table (38 ∷ take l.byte-index l.name)
