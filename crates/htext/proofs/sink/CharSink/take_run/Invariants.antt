use Rattle.htext.proofs.Names.{◌+◌, chars, IsUtf8, Continues, run_items}
use Rattle.htext.proofs.sink.CharSink.take_run.Given as goal

-- To take the rest of the run is to take all of it.
abbrev pub invariant-loop-index : goal.invariant-loop-index
invariant-loop-index g l = record {
  takes : Continues g.Self.CharSink.gives l.fn.self (run_items l.fn.at (chars l.run)) l.self
      (run_items (l.fn.at + l.index-iterator.at) (chars l.index-iterator.rest.now));
  utf8 : IsUtf8 l.index-iterator.rest.now;
}
