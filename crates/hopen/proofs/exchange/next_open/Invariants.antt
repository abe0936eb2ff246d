use Rattle.hopen.proofs.Names.{◌<◌, ◌-◌, length, map, opened_by, slot_names, AreHoles}
use Rattle.hopen.proofs.exchange.next_open.Given as goal

abbrev pub invariant-loop-next : goal.invariant-loop-next
invariant-loop-next l = record
    { order : l.index < l.next; within : l.next < length l.items; holes : AreHoles l.index l.next (slot_names (map opened_by l.items)) }

abbrev pub decreases-loop-next : goal.decreases-loop-next
decreases-loop-next l = length l.items - l.next
