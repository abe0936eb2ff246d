use Rattle.hmodes.proofs.OfTable.{document-of, fragment-of}
use Rattle.hmodes.proofs.laws.names_are_of_the_table.Goals as goal

pub returns : goal.returns
returns c = record {
  document = λ names quirks limits ts s h of run. document-of names h quirks limits ts s of run;
  fragment = λ names context limits ts s h within of run. fragment-of names h context limits ts s within of run;
}
