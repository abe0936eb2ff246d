use Rattle.hwrite.proofs.Vocabulary.{◌<◌, ◌/◌, ◌%◌, arith, get_or, length, get_or-set_other, get_or-set_same, inl, inr, refl, cases_eq}
use Rattle.hwrite.proofs.KindLemmas.{written_before, written_here}
use Rattle.hwrite.proofs.line_index.set_kind.Goals as goal

pub returns-clause-here : goal.returns-clause-here
returns-clause-here c = let inside : c.args.at / 4 < length c.args.kinds.now = omega arith in
    rw get_or-set_same (written_here (get_or c.args.kinds.now (c.args.at / 4) 0) c.args.kind (c.args.at % 4) (omega arith) (omega arith))

pub returns-clause-before : goal.returns-clause-before
returns-clause-before c = λ k earlier. elim (cases_eq (k / 4) (c.args.at / 4)) [
  | inl same ↦ let inside : c.args.at / 4 < length c.args.kinds.now = omega arith in
      rw (same, get_or-set_same)
      (written_before (get_or c.args.kinds.now (c.args.at / 4) 0) c.args.kind (c.args.at % 4) (k % 4) (omega arith) (omega arith) (omega arith))
  | inr other ↦ rw get_or-set_other refl
]
