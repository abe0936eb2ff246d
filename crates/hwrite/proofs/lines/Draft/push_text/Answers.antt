use Rattle.hwrite.proofs.Vocabulary.{string_bytes, on_ok_weaker}
use Rattle.hwrite.proofs.Drafting.{character_drafted}
use Rattle.hwrite.proofs.lines.Draft.push_text.Goals as goal

pub returns : goal.returns
returns c = on_ok_weaker c.push_escaped.result
    (character_drafted c.args.self.now c.begin_characters.new.self (string_bytes c.push_escaped.new.text) c.args.ch c.args.at c.in_ok-begin_characters.ensures)
    c.push_escaped.ensures
