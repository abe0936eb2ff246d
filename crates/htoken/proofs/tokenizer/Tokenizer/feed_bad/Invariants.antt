use Rattle.htoken.proofs.Names.{◌-◌, ◌≤◌, List, Ok, Placed, RawKind, Texts, Grows, Entities, replacement_run, Event, gives_item, HasTaken, Takes}
use Rattle.htoken.proofs.tokenizer.Tokenizer.feed_bad.Given as goal

-- This many of them have been taken.
abbrev pub invariant-loop-fed : goal.invariant-loop-fed
invariant-loop-fed g l = record {
  few : l.fed ≤ l.count;
  takes : (table : Entities) (start : RawKind) (before : Texts) (text : List Placed) (taken : List Event) → Grows before l.fn.names
      → HasTaken table start l.fn.self before text taken → Takes (gives_item g.S.ErrorSink.gives g.S.TokenSink.gives_token) table start text
      (replacement_run l.fn.at l.fed) taken l.names l.fn.sink (Ok tt) l.sink l.self;
  grows : Grows l.fn.names l.names;
}

abbrev pub decreases-loop-fed : goal.decreases-loop-fed
decreases-loop-fed g l = l.count - l.fed
