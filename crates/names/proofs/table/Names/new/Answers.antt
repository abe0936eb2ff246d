use Rattle.names.proofs.Vocabulary.{ap, ◌∙◌, ◌++◌, List, String, map, string_bytes, append-nil, known, Global, keys_of}
use Rattle.names.proofs.TableLemmas.{are_names, no_others}
use Rattle.names.proofs.table.Names.new.Goals as goal

pub invariant_of-result : goal.invariant_of-result
invariant_of-result c = (no_others _ (ap keys_of c.with_hasher.ensures.empty) c.with_hasher.ensures.unique, c.with_hasher.ensures.hasher)

pub returns : goal.returns
returns c = record {
  known = ap (λ (entries : List (String Global × Unit {0})). known ++ map string_bytes (keys_of entries)) c.with_hasher.ensures.empty ∙ append-nil known;
  names = are_names _ (no_others _ (ap keys_of c.with_hasher.ensures.empty) c.with_hasher.ensures.unique);
}
