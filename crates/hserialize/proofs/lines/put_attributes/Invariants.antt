use Rattle.hserialize.proofs.Names.{drop, map, flat_map, pair_of, attribute_line, written_so_far}
use Rattle.hserialize.proofs.Output.{HasLeft}
use Rattle.hserialize.proofs.lines.put_attributes.Given as goal

-- the lines that are left
abbrev pub invariant-loop-entry : goal.invariant-loop-entry
invariant-loop-entry g l =
    HasLeft (written_so_far g.W.Target.written g.W.Target.failed l.initial.out) (written_so_far g.W.Target.written g.W.Target.failed l.out)
    (flat_map (attribute_line l.depth) (map pair_of l.entries)) (flat_map (attribute_line l.depth) (map pair_of (drop l.entry-index l.entries)))
