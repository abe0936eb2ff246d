use Rattle.htoken.proofs.Names.{◌+◌, ◌-◌, ◌≤◌, Continues, run_tokens, replacement_run}
use Rattle.htoken.proofs.sink.TokenSink.take_bad_by_one.Given as goal

-- To take the rest of the characters is to take all of them.
abbrev pub invariant-loop-taken : goal.invariant-loop-taken
invariant-loop-taken g l = record {
  few : l.taken ≤ l.count;
  takes : Continues g.Self.TokenSink.gives_token l.fn.self (run_tokens (replacement_run l.fn.at l.fn.count)) l.self
      (run_tokens (replacement_run (l.fn.at + l.taken) (l.fn.count - l.taken)));
}

abbrev pub decreases-loop-taken : goal.decreases-loop-taken
decreases-loop-taken g l = l.count - l.taken
