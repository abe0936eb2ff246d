use Rattle.hwrite.proofs.Vocabulary.{◌∙◌, ap, arith, get_or, refl, with_items_is, kind_at}
use Rattle.hwrite.proofs.Indexing.{read_on}
use Rattle.hwrite.proofs.line_index.LineIndex.read.Goals as goal

pub returns-clause-read : goal.returns-clause-read
returns-clause-read c = λ bytes was.
    let old = c.args.self.now in let kinds = with_items_is old.kinds c.set_kind.new.kinds (c.set_kind.auto.kinds ∙ c.deref_mut-2.ensures.len) in
    let marks = with_items_is old.marks c.set_mark.new.marks (c.set_mark.auto.marks ∙ c.deref_mut.ensures.len) in
    read_on old _ bytes c.args.byte was refl (omega arith) (ap (λ items. kind_at items old.length) kinds ∙ c.set_kind.ensures.here ∙ c.kind_of.ensures)
    (λ k earlier. ap (λ items. kind_at items k) kinds ∙ c.set_kind.ensures.before k earlier ∙ ap (λ items. kind_at items k) c.deref_mut-2.ensures.value)
    (λ k here. ap (λ items. get_or items k (1, 1)) marks ∙ c.set_mark.ensures.here k here)
    (λ k other. ap (λ items. get_or items k (1, 1)) marks ∙ c.set_mark.ensures.others k other ∙ ap (λ items. get_or items k (1, 1)) c.deref_mut.ensures.value)
    refl c.next_place-self.ensures.line c.next_place-self.ensures.column
