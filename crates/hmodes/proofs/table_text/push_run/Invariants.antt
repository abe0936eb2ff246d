use Rattle.hmodes.proofs.Vocabulary.{◌≡◌, ◌+◌, ◌++◌, chars, IsUtf8, placed}
use Rattle.hmodes.proofs.table_text.push_run.Given as goal

abbrev pub invariant-loop-index : goal.invariant-loop-index
invariant-loop-index l = record {
  same : l.pending.items ++ placed (l.fn.at + l.index-iterator.at) (chars l.index-iterator.rest.now) ≡ l.fn.pending.items ++ placed l.fn.at (chars l.run);
  utf8 : IsUtf8 l.index-iterator.rest.now;
}
