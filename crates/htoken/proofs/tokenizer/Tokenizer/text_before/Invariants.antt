use Rattle.htoken.proofs.Names.{◌≡◌, ◌<◌, ◌-◌, length, false, slice_index, is_text_byte, TellsText}
use Rattle.htoken.proofs.tokenizer.Tokenizer.text_before.Given as goal

-- This many bytes are text, whose errors have been handed over.
abbrev pub invariant-loop-count : goal.invariant-loop-count
invariant-loop-count g l = record {
  so : TellsText g.S.ErrorSink.gives l.self.table.now l.self.kind l.run.text.now l.run.at l.count l.fn.sink l.sink;
  ends : l.count < length l.run.text.now → is_text_byte (slice_index l.run.text.now l.count) ≡ false;
}

abbrev pub decreases-loop-count : goal.decreases-loop-count
decreases-loop-count g l = length l.run.text.now - l.count
