use Rattle.hmodes.proofs.Vocabulary.{◌≡◌, characters, take, encode_utf8_all, string_bytes}
use Rattle.hmodes.proofs.table_text.write.Given as goal

abbrev pub invariant-loop-c : goal.invariant-loop-c
invariant-loop-c l = string_bytes l.text ≡ encode_utf8_all (characters (take l.c-index l.pending))
