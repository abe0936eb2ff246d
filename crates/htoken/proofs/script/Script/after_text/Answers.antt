use Rattle.htoken.proofs.Names.{ap, ◌∙◌, refl, IsUtf8-past_char, chars-nil, chars, nil_from_length}
use Rattle.htoken.proofs.Scripting.{follow_char}
use Rattle.htoken.proofs.script.Script.after_text.Goals as goal

pub loop-ch-preserved : goal.loop-ch-preserved
loop-ch-preserved c = let so = c.loop-ch.invariant in let is = c.in-Some.ensures.steps.0 in
    record {
      follows = λ new h. so.follows new (follow_char _ _ c.in-Some.ch c.loop-ch.script c.after-script.result new so.utf8 is c.after-script.ensures h);
      utf8 = IsUtf8-past_char _ _ c.in-Some.ch so.utf8 is;
    }

pub returns : goal.returns
returns c = let none = c.in-None.ensures.steps.0.0 in
    c.loop-ch.invariant.follows c.loop-ch.script (λ at. rw (ap chars (nil_from_length _ none) ∙ chars-nil) refl)
