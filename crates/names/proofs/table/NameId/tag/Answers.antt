use Rattle.names.proofs.Vocabulary.{◌∙◌, ap, arith, unwrap_or, tag_of, Other}
use Rattle.names.proofs.table.NameId.tag.Goals as goal

pub returns : goal.returns
returns c = c.unwrap_or.ensures ∙ ap (λ o. unwrap_or o Other) c.copied.ensures ∙ c.get.ensures.lookup.4 (omega arith) Other ∙ ap tag_of c.index.ensures
