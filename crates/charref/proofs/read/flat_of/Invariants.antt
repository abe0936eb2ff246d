use Rattle.charref.proofs.Names.{◌≡◌, Entities, flat_of}
use Rattle.charref.proofs.Members.{HasReadMembers}
use Rattle.charref.proofs.read.flat_of.Given as goal

abbrev pub invariant-loop-key : goal.invariant-loop-key
invariant-loop-key l = (table : Entities) × HasReadMembers l.members.entries l.key-iterator table × (l.flat.items ≡ flat_of table)
