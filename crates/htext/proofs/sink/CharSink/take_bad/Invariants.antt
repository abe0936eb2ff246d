use Rattle.htext.proofs.Names.{◌+◌, ◌-◌, ◌≤◌, Continues, items, bad_each}
use Rattle.htext.proofs.sink.CharSink.take_bad.Given as goal

-- To take the rest of the parts is to take all of them.
abbrev pub invariant-loop-taken : goal.invariant-loop-taken
invariant-loop-taken g l = record {
  few : l.taken ≤ l.count;
  takes : Continues g.Self.CharSink.gives l.fn.self (items (bad_each l.fn.at l.fn.count)) l.self (items (bad_each (l.fn.at + l.taken) (l.fn.count - l.taken)));
}

abbrev pub decreases-loop-taken : goal.decreases-loop-taken
decreases-loop-taken g l = l.count - l.taken
