use Rattle.hparse.proofs.Names.{[], ◌∷◌, refl, grows_not, Character, characters_among, start_kind, gives_item}
use Rattle.hparse.proofs.Held.{holds_characters, proceeds}
use Rattle.hparse.proofs.feeding.FeedingCharSink.take_char.Goals as goal

pub returns : goal.returns
returns g c = let gives = gives_item g.S.ErrorSink.gives g.S.TokenSink.gives_token in let item = Character (record { ch = c.args.ch; at = c.args.at }) in
    rw (← c.self.view_is) (proceeds gives _ _ refl item c.feed_char-answer.result
    (λ m began fed h. holds_characters _ h c.feed_char-answer.ensures.grows (item ∷ []) refl refl c.feed_char-answer.result c.is_err-self-inside.ensures.value
    (c.feed_char-answer.ensures.takes m.table (start_kind m.start) _ (characters_among fed) h.taken (grows_not _) h.has_taken)))
