use Rattle.names.proofs.Vocabulary.{List, ℕ, Option, [], ◌∙◌, ap, Bor, unwrap_or, unwrap_or-slice_get}
use Rattle.names.proofs.TextTables.{text-or}
use Rattle.names.proofs.table.Names.text.Goals as goal

pub returns-clause-text : goal.returns-clause-text
returns-clause-text c = ap (λ (t : Bor (List ℕ)). t.now) c.unwrap_or.ensures ∙ text-or c.get.result _
    ∙ ap (λ (t : Option (List ℕ)). unwrap_or t []) c.get.ensures.text ∙ unwrap_or-slice_get c.args.self.now c.args.id []
