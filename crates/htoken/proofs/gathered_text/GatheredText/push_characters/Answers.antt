use Rattle.htoken.proofs.Names.{◌≡◌, ◌++◌, sym, subst, append-nil, characters_of, encode_utf8, encode_utf8_all}
use Rattle.std.specs.Prelude.{OnOk}
use Rattle.htoken.proofs.gathered_text.GatheredText.push_characters.Goals as goal

pub returns-in-One-clause-text : goal.returns-in-One-clause-text
returns-in-One-clause-text c = subst (λ characters. OnOk c.push.result (c.push.new.self ≡ c.args.self.now ++ encode_utf8_all (characters_of characters)))
    (sym c.in-One.is) (rw (append-nil (encode_utf8 c.in-One.only)) c.push.ensures.text)
