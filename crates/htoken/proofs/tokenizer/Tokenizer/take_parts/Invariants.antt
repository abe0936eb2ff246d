use Rattle.htoken.proofs.Names.{◌-◌, List, length, take, Ok, chars, Placed, RawKind, Texts, Grows, placed, IsCut, Entities, Event, gives_item, HasTaken, Takes}
use Rattle.htoken.proofs.tokenizer.Tokenizer.take_parts.Given as goal

-- This many bytes of the run have been taken.
abbrev pub invariant-loop-count : goal.invariant-loop-count
invariant-loop-count g l = record {
  takes : (table : Entities) (start : RawKind) (before : Texts) (text : List Placed) (taken : List Event) → Grows before l.fn.names
      → HasTaken table start l.fn.self before text taken → Takes (gives_item g.S.ErrorSink.gives g.S.TokenSink.gives_token) table start text
      (placed l.fn.run.at (chars (take l.count l.run.text.now))) taken l.names l.fn.sink (Ok tt) l.sink l.self;
  cut : IsCut l.count l.run.text.now;
  grows : Grows l.fn.names l.names;
}

abbrev pub decreases-loop-count : goal.decreases-loop-count
decreases-loop-count g l = length l.run.text.now - l.count
