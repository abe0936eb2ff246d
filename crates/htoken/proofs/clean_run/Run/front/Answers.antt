use Rattle.htoken.proofs.Names.{ℕ, List, ap, ◌∙◌, chars, list_all, is_clean, clean_rest, front_of, IsCharBoundary-from_drop}
use Rattle.htoken.proofs.clean_run.Run.front.Goals as goal

pub range-requires-clause-end_boundary : goal.range-requires-clause-end_boundary
range-requires-clause-end_boundary c = IsCharBoundary-from_drop c.args.self.now.text.now c.args.count c.requires.within c.requires.back

pub invariant_of-result-clause-clean : goal.invariant_of-result-clause-clean
invariant_of-result-clause-clean c = ap (λ (x : List ℕ). list_all is_clean (chars x)) (c.range.ensures.value ∙ front_of c.args.count c.args.self.now.text.now)
    ∙ (clean_rest c.args.count c.args.self.now.text.now c.requires c.args.self.now.clean).0
