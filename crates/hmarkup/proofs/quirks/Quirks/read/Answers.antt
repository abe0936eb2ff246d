use Rattle.hmarkup.proofs.Names.{[], ◌∷◌, ◌++◌, arith, append_assoc, nat_tests, lines}
use Rattle.hmarkup.proofs.Lines.{are_more, at_bad_line, at_end}
use Rattle.hmarkup.proofs.quirks.Quirks.read.Goals as goal

pub loop-rest-preserved : goal.loop-rest-preserved
loop-rest-preserved c = record {
  text = c.first_line.ensures.is_text;
  before = c.loop-rest.invariant.before ++ c.first_line.result.0.now ∷ [];
  lines_are = cc (append_assoc c.loop-rest.invariant.before (c.first_line.result.0.now ∷ []) (lines c.first_line.result.1.now));
  read = rw (c.in_ok-push.ensures.items, c.in_ok-text.ensures.ok)
      (are_more c.loop-rest.invariant.before c.first_line.result.0.now c.loop-rest.lines.items _ c.loop-rest.invariant.read c.in-Some.ensures);
}

pub returns-in_default : goal.returns-in_default
returns-in_default c = at_bad_line c.args.text.now c.loop-rest.rest.now _ c.first_line.result.1.now c.loop-rest.invariant.before c.loop-rest.lines.items
    c.len.result c.loop-rest.invariant.lines_are c.loop-rest.invariant.read c.first_line.ensures.first c.in_default.ensures (omega arith)

pub returns : goal.returns
returns c = at_end c.args.text.now c.loop-rest.rest.now c.loop-rest.invariant.before _ c.loop-rest.invariant.lines_are c.loop-rest.invariant.read
    (grind (arith, nat_tests))
