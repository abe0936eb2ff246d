use Rattle.hparse.proofs.Names.{List, ℕ, Ok, subst, sym, refl, chars, Hands, grows_not, characters_among, run_items, start_kind, gives_item, Proceeds, has_characters, no_characters}
use Rattle.hparse.proofs.Held.{run_taken}
use Rattle.hparse.proofs.feeding.FeedingCharSink.take_run.Goals as goal

pub returns-then-is_empty : goal.returns-then-is_empty
returns-then-is_empty g c =
    subst (λ (l : List ℕ).
    Hands (Proceeds (gives_item g.S.ErrorSink.gives g.S.TokenSink.gives_token)) c.args.self.now (run_items c.args.at l) (Ok tt) c.args.self.now)
    (sym (no_characters c.args.run.now c.if-is_empty.ensures)) (refl, refl)

pub returns : goal.returns
returns g c = rw (← c.self.view_is) (run_taken (gives_item g.S.ErrorSink.gives g.S.TokenSink.gives_token) _ _ _ refl refl c.args.at (chars c.args.run.now)
    (has_characters c.args.run.now c.utf8.run c.if-is_empty.ensures) c.feed_run-answer.ensures.grows c.is_err-self-inside.ensures.value
    (λ m began before h. c.feed_run-answer.ensures.takes m.table (start_kind m.start) _ (characters_among before) h.taken (grows_not _) h.has_taken))
