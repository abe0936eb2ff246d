use Rattle.hparse.proofs.Names.{◌≡◌, subst, sym, ◌∙◌, append-nil, grows_not, characters_among, start_kind, gives_item, HoldsItems}
use Rattle.hparse.proofs.Held.{ends_text}
use Rattle.hparse.proofs.feeding.Feeding.finish.Goals as goal

pub returns : goal.returns
returns g c = λ m began items given.
    let gives = gives_item g.S.ErrorSink.gives g.S.TokenSink.gives_token in let h = subst (λ s. HoldsItems gives m began s items) (sym c.self.view_is) given in
    let fed : h.fed ≡ items = sym (append-nil h.fed) ∙ h.items_are in
    rw (← fed) (ends_text _ h.was_fed c.finish.ensures.grows c.args.end c.finish.result
    (c.finish.ensures.finishes m.table (start_kind m.start) _ (characters_among h.fed) h.was_fed.taken (grows_not _) h.was_fed.has_taken))
