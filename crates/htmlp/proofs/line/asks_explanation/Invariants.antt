use Rattle.htmlp.proofs.Names.{◌≡◌, drop, map, string_bytes, asks_explanation}
use Rattle.htmlp.proofs.line.asks_explanation.Given as goal

-- the words that are left ask for it as all do
abbrev pub invariant-loop-word : goal.invariant-loop-word
invariant-loop-word l = asks_explanation (map string_bytes (drop l.word-index l.words)) ≡ asks_explanation (map string_bytes l.words)
