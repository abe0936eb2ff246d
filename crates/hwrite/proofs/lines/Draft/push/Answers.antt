use Rattle.hwrite.proofs.Vocabulary.{string_bytes, on_ok_weaker, line_of, draft_table, tok_of}
use Rattle.hwrite.proofs.Drafting.{is_words, words_drafted}
use Rattle.hwrite.proofs.lines.Draft.push.Goals as goal

pub returns : goal.returns
returns c = let names = draft_table c.args.names in
    on_ok_weaker c.push_line.result (words_drafted c.args.self.now c.end_characters.new.self (string_bytes c.push_line.new.text)
    (line_of (tok_of names c.args.token.now)) (is_words names c.args.token.now c.in_default.not-Char) c.in_ok-end_characters.ensures) c.push_line.ensures
