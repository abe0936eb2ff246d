use Rattle.htext.proofs.Names.{take, Ok, ReadsOn}
use Rattle.htext.proofs.decoder.Decoder.read_on.Given as goal

-- The first bytes were read, one by one.
abbrev pub invariant-loop-index : goal.invariant-loop-index
invariant-loop-index g l = ReadsOn g.S.CharSink.gives l.fn.self (take l.index l.bytes) l.fn.sink (Ok tt) l.self l.sink
