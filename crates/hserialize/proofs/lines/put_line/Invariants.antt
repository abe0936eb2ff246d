use Rattle.hserialize.proofs.Names.{◌-◌, ◌++◌, repeat, codes, indented, written_so_far}
use Rattle.hserialize.proofs.Output.{HasLeft, all_parts}
use Rattle.hserialize.proofs.lines.put_line.Given as goal

-- the spaces that are left, the words and the end
abbrev pub invariant-loop-level : goal.invariant-loop-level
invariant-loop-level g l = HasLeft (written_so_far g.W.Target.written g.W.Target.failed l.fn.out) (written_so_far g.W.Target.written g.W.Target.failed l.out)
    (indented l.depth (all_parts l.parts)) (repeat (l.depth - l.level) (codes "  ") ++ (all_parts l.parts ++ codes "\n"))
