use Rattle.hwrite.proofs.Vocabulary.{◌≡◌, ◌++◌, string_bytes, quote_escaped}
use Rattle.hwrite.proofs.words.push_escaped_text.Given as goal

-- what is written and what is still to come make up the whole text
abbrev pub invariant-loop-ch : goal.invariant-loop-ch
invariant-loop-ch l = string_bytes l.text ++ quote_escaped l.ch-iterator.rest.now ≡ string_bytes l.initial.text ++ quote_escaped l.source
