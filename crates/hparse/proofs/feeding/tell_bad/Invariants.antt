use Rattle.hparse.proofs.Names.{◌+◌, ◌-◌, ◌≤◌, Continues, bad_each, input_errors}
use Rattle.hparse.proofs.feeding.tell_bad.Given as goal

-- To take the rest of the errors is to take all of them.
abbrev pub invariant-loop-told : goal.invariant-loop-told
invariant-loop-told g l = record {
  few : l.told ≤ l.count;
  tells : Continues g.S.ErrorSink.gives l.fn.sink (input_errors (bad_each l.fn.at l.fn.count)) l.sink
      (input_errors (bad_each (l.fn.at + l.told) (l.fn.count - l.told)));
}

abbrev pub decreases-loop-told : goal.decreases-loop-told
decreases-loop-told g l = l.count - l.told
