use Rattle.htmlp.proofs.Names.{Ok, take, WritesAll}
use Rattle.htmlp.proofs.AllParts.{all_parts}
use Rattle.htmlp.proofs.parts.write_parts.Given as goal

-- the parts so far were written
abbrev pub invariant-loop-part : goal.invariant-loop-part
invariant-loop-part g l = WritesAll (g.W.Target.written l.initial.target) (g.W.Target.failed l.initial.target) (g.W.Target.written l.target)
    (g.W.Target.failed l.target) (all_parts (take l.part-index l.parts)) (Ok tt)
