use Rattle.htext.proofs.Names.{◌≡◌, ◌+◌, length, map, chars, IsUtf8, placed, Continues, Whole, normalized, ends_in_return, items}
use Rattle.htext.proofs.progress.Progress.hand_text.Given as goal

-- The sink is given the rest as it was given all, and the rest is after a CR as all does.
abbrev pub invariant-loop-ch : goal.invariant-loop-ch
invariant-loop-ch g l = record {
  handed : Continues g.S.CharSink.gives l.fn.sink
      (items (normalized l.fn.self.bom l.fn.self.after_return (map Whole (placed l.fn.self.read (chars l.fn.text))))) l.sink
      (items (normalized l.fn.self.bom l.after_return (map Whole (placed l.place (chars l.rest)))));
  reached : l.place + length l.rest ≡ l.fn.self.read + length l.fn.text;
  utf8 : IsUtf8 l.rest;
  ends : ends_in_return l.after_return (map Whole (placed l.place (chars l.rest)))
      ≡ ends_in_return l.fn.self.after_return (map Whole (placed l.fn.self.read (chars l.fn.text)));
}

abbrev pub decreases-loop-ch : goal.decreases-loop-ch
decreases-loop-ch g l = length l.rest
