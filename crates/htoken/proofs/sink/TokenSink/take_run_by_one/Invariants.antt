use Rattle.htoken.proofs.Names.{◌+◌, chars, IsUtf8, placed, Continues, run_tokens}
use Rattle.htoken.proofs.sink.TokenSink.take_run_by_one.Given as goal

-- To take the rest of the run is to take all of it.
abbrev pub invariant-loop-index : goal.invariant-loop-index
invariant-loop-index g l = record {
  takes : Continues g.Self.TokenSink.gives_token l.fn.self (run_tokens (placed l.fn.at (chars l.run))) l.self
      (run_tokens (placed (l.fn.at + l.index-iterator.at) (chars l.index-iterator.rest.now)));
  utf8 : IsUtf8 l.index-iterator.rest.now;
}
