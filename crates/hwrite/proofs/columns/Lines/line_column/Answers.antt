use Rattle.hwrite.proofs.Vocabulary.{◌<◌, ◌/◌, arith, length, common_steps}
use Rattle.hwrite.proofs.Marks.{at_mark}
use Rattle.hwrite.proofs.columns.Lines.line_column.Goals as goal

pub place_after-requires-clause-from : goal.place_after-requires-clause-from
place_after-requires-clause-from c = let lines = c.args.self.now in
    let inside : c.min-end.result / 256 < length lines.marks.items = grind (arith, common_steps, c.min-end.ensures, lines.whole) in
    at_mark lines.text.now lines.marks.items _ c.index.result.now lines.marked inside c.index.ensures
