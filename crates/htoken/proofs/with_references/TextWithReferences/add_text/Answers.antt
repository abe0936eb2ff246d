use Rattle.htoken.proofs.Names.{[], sym, ap, ◌∙◌, append-nil, prefix_len, prefix_len_stops, is_text_byte, text_front}
use Rattle.htoken.proofs.InText.{front_text}
use Rattle.htoken.proofs.WithReferences.{text_adds}
use Rattle.htoken.proofs.with_references.TextWithReferences.add_text.Goals as goal

pub push_front-requires : goal.push_front-requires
push_front-requires c = let is = c.text_run-count.ensures ∙ ap (prefix_len is_text_byte) c.as_bytes.ensures.value in
    rw is (text_front c.args.run.now c.utf8.run c.requires.clean).0

pub returns-clause-adds : goal.returns-clause-adds
returns-clause-adds c = λ table kind at.
    let is = c.text_run-count.ensures ∙ ap (prefix_len is_text_byte) c.as_bytes.ensures.value in
    text_adds table kind c.args.run.now at c.requires.clean c.args.self.now _ _ [] (front_text table kind c.args.run.now at c.utf8.run c.requires.clean _ is)
    (sym (append-nil _)) c.in_ok-push_front.ensures.text c.in_ok-push_front.ensures.utf8

pub returns-clause-ends : goal.returns-clause-ends
returns-clause-ends c = λ l.
    let is = c.text_run-count.ensures ∙ ap (prefix_len is_text_byte) c.as_bytes.ensures.value in
    rw is (prefix_len_stops is_text_byte c.args.run.now 0 (rw (← is) l))
