use Rattle.htmlp.proofs.Names.{Err, false, map, refl, string_bytes, subst, sym, line_missing, with_words, without_words}
use Rattle.htmlp.proofs.program.run_program.Goals as goal

pub returns-in-Ok : goal.returns-in-Ok
returns-in-Ok g c = record {
  outcome = c.answer-outcome.result;
  answered = c.answer-outcome.ensures
      (subst (λ words. g.R.Surroundings.world.has_words c.args.surroundings.now (map string_bytes words)) (sym c.deref.ensures.value) c.in-Ok.ensures);
  explains = c.explains.result;
  explains_is = with_words _
      (subst (λ words. g.R.Surroundings.world.has_words c.args.surroundings.now (map string_bytes words)) (sym c.deref-in-Ok.ensures.value) c.in-Ok.ensures)
      c.explains.ensures;
  told = c.ending.ensures.text;
  status_is = c.ending.ensures.status;
}

pub returns-in-Err : goal.returns-in-Err
returns-in-Err g c = record {
  outcome = Err c.in-Err.fault;
  answered = line_missing c.in-Err.fault c.in-Err.ensures refl refl refl;
  explains = false;
  explains_is = without_words c.in-Err.fault c.in-Err.ensures refl refl;
  told = c.ending-in-Err.ensures.text;
  status_is = c.ending-in-Err.ensures.status;
}
