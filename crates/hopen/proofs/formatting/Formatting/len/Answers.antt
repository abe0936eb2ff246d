use Rattle.hopen.proofs.Names.{◌∙◌, ap, sym, not, filter, length, is_gone, rules, tests, count_from_yields_List, YieldsList-from_filter, YieldsList-from_slice}
use Rattle.hopen.proofs.Holes.{length-live}
use Rattle.hopen.proofs.formatting.Formatting.len.Goals as goal

pub returns : goal.returns
returns c = count_from_yields_List _ c.count.result c.count.ensures.ran
    (YieldsList-from_filter _ (λ x. not (is_gone x)) (YieldsList-from_slice c.deref.result.now cc) c.filter-entries.ensures.closure (λ x b q k.
    search (rules, tests))) ∙ ap (λ xs. length (filter (λ x. not (is_gone x)) xs)) c.deref.ensures.value
    ∙ sym (length-live c.self.inside.slots.items.items c.self.inside.slots.listed.stored) ∙ ap length c.self.view_is
