use Rattle.htag.proofs.Vocabulary.{ℕ, List, refl, ap, ◌∙◌, Some, slice_get, walked_attribute, Attr, MatchResult-from_both}
use Rattle.htag.proofs.walk.TagWalk.end_attribute.Goals as goal

pub returns-clause-ended : goal.returns-clause-ended
returns-clause-ended c = MatchResult-from_both c.keep.result _ _ (c.keep.ensures.keeps c.args.names.now c.intern.new.self (walked_attribute c.args.self.now)
    c.in_ok-name.ensures.grows c.in_ok-name.ensures.names (ap (slice_get c.intern.new.self) (ap (λ (a : Attr). a.name) c.in_ok-attr.ensures)
    ∙ c.in_ok-name.ensures.number ∙ ap (λ (x : List ℕ). Some x) c.deref.ensures) (ap (λ (a : Attr). a.value) c.in_ok-attr.ensures ∙ c.deref-2.ensures) refl)
    c.keep.ensures.memory
