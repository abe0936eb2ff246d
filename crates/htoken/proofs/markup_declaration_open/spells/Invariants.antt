use Rattle.htoken.proofs.Names.{◌≡◌, drop, spells_as}
use Rattle.htoken.proofs.markup_declaration_open.spells.Given as goal

abbrev pub invariant-loop-index : goal.invariant-loop-index
invariant-loop-index l = spells_as l.any_case l.word l.text ≡ spells_as l.any_case (drop l.index l.word) (drop l.index l.text)
