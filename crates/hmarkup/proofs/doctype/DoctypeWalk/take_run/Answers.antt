use Rattle.hmarkup.proofs.Names.{◌++◌, subst, sym, ap, ◌∙◌, Result, Ok, Err, chars, placed, Found, Reading, HasReadDoctype, OnOk}
use Rattle.hmarkup.proofs.Reading.{after_run, run_in_doctype}
use Rattle.hmarkup.proofs.doctype.DoctypeWalk.take_run.Goals as goal

on_ok : {T E P Q : Type 0} (r : Result T E) → (P → Q) → OnOk r P → OnOk r Q
on_ok (Ok value) f h = f h
on_ok (Err error) f h = tt

pub returns : goal.returns
returns c = λ at text raised h. on_ok c.take_run.result (λ is. subst (λ (w : Reading). HasReadDoctype w (text ++ placed at (chars c.args.run.now)) raised)
    (ap (λ (w : Reading). after_run w c.args.run.now) (sym c.self.view_is) ∙ ap (λ (x : Found). record { phase = c.self.inside.phase; found = x }) (sym is))
    (run_in_doctype c.args.run.now c.utf8.run c.args.self.now c.requires at text raised h)) c.take_run.ensures
