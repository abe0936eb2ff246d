use Rattle.hwrite.proofs.Vocabulary.{◌≡◌, ◌+◌, ◌++◌, List, ℕ, take, vec_len, IndexHasRead}
use Rattle.hwrite.proofs.line_index.LineIndex.feed.Given as goal

-- the bytes so far have been read, and no memory was needed
abbrev pub invariant-loop-byte : goal.invariant-loop-byte
invariant-loop-byte l = record {
  read : (bytes : List ℕ) → IndexHasRead l.initial.self bytes → IndexHasRead l.self (bytes ++ take l.byte-index l.piece);
  length : l.self.length ≡ l.initial.self.length + l.byte-index;
  kinds : vec_len l.self.kinds ≡ vec_len l.initial.self.kinds;
  marks : vec_len l.self.marks ≡ vec_len l.initial.self.marks;
}
